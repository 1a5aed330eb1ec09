-- The order of slots, and what comes after a place in it.
use Rattle.std.proofs.Common.{◌≡◌, ℕ, true, false, List, refl, sym, ap, ◌∙◌}
use Rattle.std.specs.declared.cmp.Ordering.{Ordering}
use Rattle.std.specs.declared.cmp.Ordering.TheVariants.{Less, Equal, Greater}
use Rattle.std.specs.Ordering.{ordering_then, nat_cmp, is_lt, is_gt}
use Rattle.std.specs.Cmp.{IsTotalOrder, on_total, back_total, then_total, nat_cmp_total, alike_right}
use Rattle.std.specs.Cmp.Lexicographic.{slice_cmp, nat_list_cmp_total}
use Rattle.std.specs.FinMap.{IsAntisymmetric, nat_cmp-IsAntisymmetric, slice_cmp-IsAntisymmetric}
use Rattle.rk_bytes.specs.declared.model.key.Record.{Record}
use Rattle.rk_bytes.specs.Model.InternalKey.{packed_of}
use Rattle.rk_bytes.specs.Model.Records.{slot_cmp, slot_of, end_of}
use Rattle.rk_view.specs.Places.{is_after}

pub both_equal : (r s : Ordering) → ordering_then r s ≡ Equal → (r ≡ Equal) × (s ≡ Equal)
both_equal Less s e = cc
both_equal Equal s e = (refl, e)
both_equal Greater s e = cc

pub same_text : IsAntisymmetric (slice_cmp nat_cmp)
same_text = slice_cmp-IsAntisymmetric nat_cmp-IsAntisymmetric

-- slots that compare alike are one
pub slot_cmp-only_equal : IsAntisymmetric slot_cmp
unfolding slot_cmp
slot_cmp-only_equal p q e =
    let a = both_equal (nat_cmp p.family q.family) _ e in
    let b = both_equal (slice_cmp nat_cmp p.user q.user) _ a.1 in
    let c = both_equal (nat_cmp q.packed p.packed) _ b.1 in
    let family = nat_cmp-IsAntisymmetric p.family q.family a.0 in
    let user = same_text p.user q.user b.0 in
    let number = sym (nat_cmp-IsAntisymmetric q.packed p.packed c.0) in
    let end = same_text p.end q.end c.1 in
    λ i. record { family = family i; user = user i; packed = number i; end = end i }

-- a slot without its end
pub record Head : Type 0 where
  pub family : ℕ
  pub user : List ℕ
  pub packed : ℕ

abbrev pub head_of : Record → Head
head_of r = record { family = r.family; user = r.key; packed = packed_of r.sequence r.kind }

abbrev pub head_cmp : Head → Head → Ordering
head_cmp a b = ordering_then (nat_cmp a.family b.family) (ordering_then (slice_cmp nat_cmp a.user b.user) (nat_cmp b.packed a.packed))

pub head_cmp-total : IsTotalOrder head_cmp
head_cmp-total =
    then_total (on_total (λ (p : Head). p.family) nat_cmp_total)
    (then_total (on_total (λ (p : Head). p.user) nat_list_cmp_total) (back_total (on_total (λ (p : Head). p.packed) nat_cmp_total)))

-- the place, as the head of a slot
abbrev pub place_of : ℕ → List ℕ → ℕ → Head
place_of family user below = record { family = family; user = user; packed = below }

pub then_assoc : (a b c : Ordering) → ordering_then a (ordering_then b c) ≡ ordering_then (ordering_then a b) c
then_assoc Less b c = refl
then_assoc Equal b c = refl
then_assoc Greater b c = refl

-- slots are ordered by their heads first
pub slots_by_head : (r s : Record) → slot_cmp (slot_of r) (slot_of s) ≡ ordering_then (head_cmp (head_of r) (head_of s)) (slice_cmp nat_cmp (end_of r.kind r.value) (end_of s.kind s.value))
unfolding slot_cmp
slots_by_head r s =
    let family = nat_cmp r.family s.family in
    let user = slice_cmp nat_cmp r.key s.key in
    let number = nat_cmp (packed_of s.sequence s.kind) (packed_of r.sequence r.kind) in
    let end = slice_cmp nat_cmp (end_of r.kind r.value) (end_of s.kind s.value) in
    ap (ordering_then family) (then_assoc user number end) ∙ then_assoc family (ordering_then user number) end

pub upto_head : (o e : Ordering) → is_gt (ordering_then o e) ≡ false → is_gt o ≡ false
upto_head Less e h = refl
upto_head Equal e h = refl
upto_head Greater e h = h

-- a slot that isn't above another has no greater head
pub heads_upto : (r s : Record) → is_gt (slot_cmp (slot_of r) (slot_of s)) ≡ false → is_gt (head_cmp (head_of r) (head_of s)) ≡ false
heads_upto r s h = upto_head (head_cmp (head_of r) (head_of s)) _ (ap is_gt (sym (slots_by_head r s)) ∙ h)

pub lt_upto : {K : Type 0} {R : K → K → Ordering} → IsTotalOrder R → (x y z : K) (o : Ordering) → R y z ≡ o → R x y ≡ Less → is_gt o ≡ false → is_lt (R x z) ≡ true
lt_upto t x y z Less p less h = ap is_lt (t.trans x y z less p)
lt_upto t x y z Equal p less h = ap is_lt (sym (alike_right t y z x p) ∙ less)
lt_upto t x y z Greater p less h = cc

pub is_lt-Less : (o : Ordering) → is_lt o ≡ true → o ≡ Less
is_lt-Less Less e = refl
is_lt-Less Equal e = cc
is_lt-Less Greater e = cc

-- What comes after a place does so with all that follows it.
pub after_rises : (family : ℕ) (user : List ℕ) (below : ℕ) (r s : Record) → is_gt (slot_cmp (slot_of r) (slot_of s)) ≡ false → is_after family user below r ≡ true → is_after family user below s ≡ true
after_rises family user below r s upto after =
    lt_upto head_cmp-total (place_of family user below) (head_of r) (head_of s) _ refl (is_lt-Less _ after) (heads_upto r s upto)
