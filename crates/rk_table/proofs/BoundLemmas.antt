-- The bounds of a table's keys over its range deletions.
use Rattle.std.proofs.Common.{◌≡◌, ℕ, ◌+◌, ◌<◌, ◌≤◌, Bool, true, false, cond, List, ◌∷◌, ◌++◌, length, get_or, map, fold, drop, Option, Some, None, sym, ◌∙◌, subst, arith, drop-cons, length-append, add-one}
use Rattle.std.specs.Prelude.{IfSome}
use Rattle.std.specs.List.{reduce}
use Rattle.std.specs.Ordering.{is_gt, is_lt}
use Rattle.rk_bytes.specs.declared.model.block.RangeDel.{RangeDel}
use Rattle.rk_bytes.specs.declared.model.key.Kind.{Kind}
use Rattle.rk_bytes.specs.Model.Numbers.{fixed_of}
use Rattle.rk_bytes.specs.Model.InternalKey.{internal_key, packed_of, key_cmp}
use Rattle.rk_bytes.specs.Model.TableStatus.{start_key, end_key, lesser, greater}
use Rattle.rk_bytes.proofs.Callers.FixedNumbers.{length-fixed_of}
use Rattle.rk_table.specs.Stages.{listed}
use Rattle.rk_table.specs.Data.{lesser_of, greater_of}

pub long_key : (user : List ℕ) (sequence : ℕ) (kind : Kind) → 8 ≤ length (internal_key user sequence kind)
unfolding internal_key
long_key user sequence kind = omega (arith, length-append user (fixed_of 8 (packed_of sequence kind)), length-fixed_of 8 (packed_of sequence kind))

-- What the keys come to, where some of the range deletions were looked at: this key is known, and these
-- are left.
pub record Reducing (f : List ℕ → List ℕ → List ℕ) (key_at : RangeDel → List ℕ) (first : Option (List ℕ)) (ranges : List RangeDel) (known : Option (List ℕ)) (i : ℕ) : Type 0 where
  pub long : IfSome known (λ key. 8 ≤ length key)
  pub same : reduce f (listed known ++ map key_at (drop i ranges)) ≡ reduce f (listed first ++ map key_at ranges)

either_long : (test : Bool) (a b : List ℕ) → 8 ≤ length a → 8 ≤ length b → 8 ≤ length (cond test a b)
either_long true a b p q = p
either_long false a b p q = q

next_drop : (ranges : List RangeDel) (i : ℕ) (range : RangeDel) → i < length ranges → range ≡ get_or ranges i range → drop i ranges ≡ range ∷ drop (i + 1) ranges
next_drop ranges i range within is = drop-cons ranges i range within ∙ (λ j. sym is j ∷ drop (sym (add-one i) j) ranges)

pub lesser_next : (first known : Option (List ℕ)) (ranges : List RangeDel) (i : ℕ) (range : RangeDel) (key : List ℕ) → i < length ranges → range ≡ get_or ranges i range → key ≡ start_key range → Reducing lesser start_key first ranges known i → Reducing lesser start_key first ranges (Some (lesser_of known key)) (i + 1)
lesser_next first None ranges i range key within is made so_far = record {
  long = subst (λ key. 8 ≤ length key) (sym made) (long_key range.start range.sequence _);
  same = (λ j. Some (fold lesser (made j) (map start_key (drop (i + 1) ranges)))) ∙ (λ j. reduce lesser (map start_key (sym (next_drop ranges i range within is) j))) ∙ so_far.same;
}
lesser_next first (Some known) ranges i range key within is made so_far = record {
  long = either_long (is_gt (key_cmp known key)) key known (subst (λ key. 8 ≤ length key) (sym made) (long_key range.start range.sequence _)) so_far.long;
  same = (λ j. Some (fold lesser (lesser known (made j)) (map start_key (drop (i + 1) ranges)))) ∙ (λ j. reduce lesser (known ∷ map start_key (sym (next_drop ranges i range within is) j))) ∙ so_far.same;
}

pub greater_next : (first known : Option (List ℕ)) (ranges : List RangeDel) (i : ℕ) (range : RangeDel) (key : List ℕ) → i < length ranges → range ≡ get_or ranges i range → key ≡ end_key range → Reducing greater end_key first ranges known i → Reducing greater end_key first ranges (Some (greater_of known key)) (i + 1)
greater_next first None ranges i range key within is made so_far = record {
  long = subst (λ key. 8 ≤ length key) (sym made) (long_key range.end _ _);
  same = (λ j. Some (fold greater (made j) (map end_key (drop (i + 1) ranges)))) ∙ (λ j. reduce greater (map end_key (sym (next_drop ranges i range within is) j))) ∙ so_far.same;
}
greater_next first (Some known) ranges i range key within is made so_far = record {
  long = either_long (is_lt (key_cmp known key)) key known (subst (λ key. 8 ≤ length key) (sym made) (long_key range.end _ _)) so_far.long;
  same = (λ j. Some (fold greater (greater known (made j)) (map end_key (drop (i + 1) ranges)))) ∙ (λ j. reduce greater (known ∷ map end_key (sym (next_drop ranges i range within is) j))) ∙ so_far.same;
}
