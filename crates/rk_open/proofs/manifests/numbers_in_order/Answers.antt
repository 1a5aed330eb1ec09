use Rattle.std.proofs.Common.{ap, ◌∙◌}
use Rattle.std.proofs.lemmas.List.Sorted.{IsNonDecreasingBy-from_sort}
use Rattle.rk_bytes.specs.Model.Opening.{in_order}
use Rattle.rk_open.proofs.OrderLemmas.{sorted_in_order}
use Rattle.rk_open.proofs.manifests.numbers_in_order.Goals as goal

pub returns : goal.returns
returns c =
    let numbers = c.sort.new.self.items in
    sorted_in_order (λ number. number) c.in_ok-numbers.numbers.items numbers (IsNonDecreasingBy-from_sort (λ number. number) numbers c.in_ok-sort.ensures.sorted) c.sort.ensures.stable
    ∙ ap (in_order (λ number. number)) c.in_ok-numbers.ensures
