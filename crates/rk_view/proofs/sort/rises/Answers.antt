use Rattle.std.proofs.Common.{◌≡◌, List, subst, rules, of_calls}
use Rattle.std.proofs.lemmas.Fn.{always_returns_same}
use Rattle.std.specs.List.{IsAllAdjacentAnswer}
use Rattle.rk_bytes.specs.declared.model.key.Record.{Record}
use Rattle.rk_view.proofs.SortLemmas.{before, strictly_sorted}
use Rattle.rk_view.proofs.sort.rises.Goals as goal

pub returns : goal.returns
returns c is =
    let xs : List Record = c.args.records.now in
    strictly_sorted xs (subst (λ r. IsAllAdjacentAnswer (λ x y b. b ≡ before x y) xs r) is (c.is_sorted_by.ensures.cases before (always_returns_same _ _ _ (λ a r f k. search (rules, of_calls)))))
