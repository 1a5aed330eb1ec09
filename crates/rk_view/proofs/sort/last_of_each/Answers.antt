use Rattle.std.proofs.Common.{◌≡◌, ◌∙◌, List, sym, ap, subst, rules, of_calls, reverse}
use Rattle.std.proofs.lemmas.Fn.{always_returns_same, dedup_same}
use Rattle.std.proofs.lemmas.List.Sorted.{ranks_by, IsPermutation-reverse, IsPermutation-trans}
use Rattle.std.specs.Prelude.{filter}
use Rattle.std.specs.List.{dedup}
use Rattle.std.specs.List.Sorted.{IsPermutation, IsStrictlySortedBy, ties}
use Rattle.rk_bytes.specs.declared.model.key.Record.{Record}
use Rattle.rk_bytes.specs.Model.Records.{last_records, slot_of, slot_cmp-total}
use Rattle.rk_view.specs.Maps.{IsRun}
use Rattle.rk_view.proofs.SortLemmas.{before, by_slot, of_one_slot, sorted_run, sorted_map, risen_run, risen_map}
use Rattle.rk_view.proofs.sort.last_of_each.Goals as goal

module _ (c : goal.After-dedup_by) where
  abbrev xs : List Record
  xs = c.args.records.items

  abbrev near : List Record
  near = c.in_ok-sorted.sorted.items

  abbrev ys : List Record
  ys = c.sort_by.new.self.items

  kept : c.dedup_by.new.self.items ≡ dedup of_one_slot ys
  kept = dedup_same _ of_one_slot _ (λ x y b f' x' y' k. search (rules, of_calls)) ys c.dedup_by.new.self.items c.dedup_by.ensures.filtered

  moved : IsPermutation (reverse xs) ys
  moved =
      IsPermutation-trans (reverse xs) near ys (subst (λ rs. IsPermutation rs near) c.turned.ensures c.in_ok-sorted.ensures.permutation)
      c.in_ok-sort_by.ensures.permutation

  stable : (r : Record) → filter (ties before r) ys ≡ filter (ties before r) (reverse xs)
  stable r =
      c.in_ok-sort_by.ensures.stable before (ranks_by slot_cmp-total slot_of) (always_returns_same _ _ _ (λ a r f k. search (rules, of_calls))) r
      ∙ c.in_ok-sorted.ensures.stable r ∙ ap (filter (ties before r)) c.turned.ensures

  run : IsRun (dedup of_one_slot ys)
  run =
      sorted_run xs ys c.requires moved (IsPermutation-reverse xs)
      (c.in_ok-sort_by.ensures.sorted before (ranks_by slot_cmp-total slot_of) (always_returns_same _ _ _ (λ a r f k. search (rules, of_calls))))

pub returns-clause-run : goal.returns-clause-run
returns-clause-run c = subst IsRun (sym (kept c)) (run c)

pub returns-clause-map : goal.returns-clause-map
returns-clause-map c = ap last_records (kept c) ∙ sorted_map (xs c) (ys c) (run c) (stable c)

module _ (c : goal.Then-rises) where
  abbrev found : List Record
  found = c.in_ok-sorted.sorted.items

  found_run : IsRun found
  found_run =
      risen_run c.args.records.items found c.requires (subst (λ rs. IsPermutation rs found) c.turned.ensures c.in_ok-sorted.ensures.permutation) (IsPermutation-reverse c.args.records.items)
      (subst (IsStrictlySortedBy by_slot) c.as_slice.ensures.value (c.rises.ensures c.if-rises.true))

pub returns-then-rises-clause-run : goal.returns-then-rises-clause-run
returns-then-rises-clause-run c = found_run c

pub returns-then-rises-clause-map : goal.returns-then-rises-clause-map
returns-then-rises-clause-map c = risen_map c.args.records.items (found c) (found_run c) (λ r. c.in_ok-sorted.ensures.stable r ∙ ap (filter (ties before r)) c.turned.ensures)
