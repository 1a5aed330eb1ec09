use Rattle.std.proofs.Common.{◌≡◌, ◌+◌, ◌<◌, ◌++◌, ◌∷◌, [], length, ap, sym, subst, arith, List}
use Rattle.std.specs.Prelude.{Option, Some}
use Rattle.rk_bytes.specs.declared.model.key.Record.{Record}
use Rattle.rk_view.specs.Merged.{first_taken, left_of}
use Rattle.rk_view.proofs.MergeLemmas.{Merging, first_step, first_none, fewer_left, merging-step, merging-end}
use Rattle.rk_view.proofs.merge.merge.Goals as goal

abbrev Taken : Type 0
Taken = Option Record × List Record × List Record

module _ (c : goal.After-push_reserved) where
  abbrev a : List Record
  a = left_of c.loop-least.old

  abbrev b : List Record
  b = left_of c.loop-least.young

  one : (first_taken a b).0 ≡ Some c.in-Some.least
  one = sym (ap (λ (p : Taken). p.0) c.in-Some.ensures.taken)

  fewer : length (left_of c.pop_least.new.older) + length (left_of c.pop_least.new.younger) < length a + length b
  fewer = subst (λ (p : Taken). length p.1 + length p.2 < length a + length b) (sym c.in-Some.ensures.taken) (fewer_left a b c.in-Some.least one)

pub loop-least-preserved : goal.loop-least-preserved
loop-least-preserved c =
    let m : Merging c.args.older c.args.younger (a c) (b c) c.loop-least.merged.items = c.loop-least.invariant.kept in
    let r : Record = c.in-Some.least in
    let step = first_step (a c) (b c) r m.older_run m.younger_run (one c) in
    let taken = merging-step c.args.older c.args.younger (a c) (b c) r (first_taken (a c) (b c)).1 (first_taken (a c) (b c)).2 step c.loop-least.merged.items m in
    let left : Merging c.args.older c.args.younger (left_of c.pop_least.new.older) (left_of c.pop_least.new.younger) (c.loop-least.merged.items ++ r ∷ []) =
    subst (λ (p : Taken). Merging c.args.older c.args.younger p.1 p.2 (c.loop-least.merged.items ++ r ∷ [])) (sym c.in-Some.ensures.taken) taken in
    record {
      old = c.in-Some.ensures.older;
      young = c.in-Some.ensures.younger;
      kept = subst (λ rs. Merging c.args.older c.args.younger (left_of c.pop_least.new.older) (left_of c.pop_least.new.younger) rs) (sym c.push_reserved.ensures.items) left;
      room = let low = fewer c in omega (arith, c.push_reserved.ensures.len, c.push_reserved.ensures.capacity, c.loop-least.invariant.room);
    }

pub returns-clause-map : goal.returns-clause-map
returns-clause-map c =
    let first : List Record = left_of c.loop-least.old in
    let second : List Record = left_of c.loop-least.young in
    let merged : List Record = c.loop-least.merged.items in
    let none = first_none first second (sym (ap (λ (p : Taken). p.0) c.in_default.ensures.taken)) in
    let m : Merging c.args.older c.args.younger first second merged = c.loop-least.invariant.kept in
    merging-end c.args.older c.args.younger merged (subst (λ xs. Merging c.args.older c.args.younger xs [] merged) none.0 (subst (λ xs. Merging c.args.older c.args.younger first xs merged) none.1 m))
