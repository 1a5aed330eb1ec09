use Rattle.std.proofs.Common.{◌≡◌, ◌∙◌, subst, sym, rules, of_calls, List, length, ◌≤◌}
use Rattle.std.specs.Prelude.{nat_lt, true, false}
use Rattle.std.specs.List.Sorted.{IsPartitionPoint}
use Rattle.std.proofs.lemmas.Fn.{always_returns_same}
use Rattle.rk_bytes.specs.declared.model.view.FamilyLine.{FamilyLine}
use Rattle.rk_view.specs.Kept.{with_family, AreRising}
use Rattle.rk_view.proofs.FamilyLemmas.{ids_part, put_line, rising-with}
use Rattle.rk_view.proofs.family.insert.Goals as goal

here : (c : goal.In_ok-insert) → c.insert.new.self.items ≡ with_family c.args.line c.args.families.now.items
here c =
    let lines : List FamilyLine = c.args.families.now.items in
    let same : c.as_slice.result.now ≡ lines = c.as_slice.ensures.value in
    let found = c.partition_point-place.ensures.partitioned (λ other. nat_lt other.id c.args.line.id) (always_returns_same _ _ _ (λ a r f k. search (rules, of_calls))) (ids_part c.args.line.id c.as_slice.result.now (subst AreRising (sym same) c.requires.rising)) in
    let point : IsPartitionPoint (λ (y : FamilyLine). nat_lt y.id c.args.line.id ≡ true) (λ y. nat_lt y.id c.args.line.id ≡ false) lines c.partition_point-place.result = subst (λ ls. IsPartitionPoint (λ (y : FamilyLine). nat_lt y.id c.args.line.id ≡ true) (λ y. nat_lt y.id c.args.line.id ≡ false) ls c.partition_point-place.result) same found in
    let bound : c.partition_point-place.result ≤ length lines = subst (λ ls. c.partition_point-place.result ≤ length ls) same c.partition_point-place.ensures.bound in
    c.in_ok-insert.ensures.items ∙ put_line c.args.line lines c.partition_point-place.result bound c.requires.new point.0 point.1

pub returns-clause-rising : goal.returns-clause-rising
returns-clause-rising c = subst AreRising (sym (here c)) (rising-with c.args.line c.args.families.now.items c.requires.rising c.requires.new)

pub returns-clause-ok : goal.returns-clause-ok
returns-clause-ok c = here c
