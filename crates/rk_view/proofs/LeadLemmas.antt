-- A stable sort by a number that the slot determines leaves the records of each slot in their order.
use Rattle.std.proofs.Common.{◌≡◌, ◌∙◌, ℕ, Bool, true, false, cond, not, List, [], ◌∷◌, refl, sym, ap, subst}
use Rattle.std.specs.Prelude.{◌&&◌, filter}
use Rattle.std.specs.List.Sorted.{IsStableByKey, ties}
use Rattle.std.specs.Cmp.{nat_cmp_total, tied_itself}
use Rattle.std.specs.Ordering.{nat_cmp, is_lt}
use Rattle.rk_bytes.specs.declared.model.key.Record.{Record}
use Rattle.rk_bytes.specs.Model.Records.{Slot, slot_of}
use Rattle.rk_view.proofs.SlotOrder.{slot_cmp-only_equal}
use Rattle.rk_view.proofs.FirstLemmas.{equal}
use Rattle.rk_view.proofs.SortLemmas.{before, tied}

-- what passes a test is the same with and without what fails a wider one
filter_wider : {X : Type 0} (p q : X → Bool) → ((x : X) → p x ≡ true → q x ≡ true) → (xs : List X) → filter p (filter q xs) ≡ filter p xs
filter_wider p q wider [] = refl
filter_wider {X} p q wider (x ∷ xs) = by (filter_wider p q wider xs) (p x) (q x) refl refl
  where
    by : filter p (filter q xs) ≡ filter p xs → (b c : Bool) → p x ≡ b → q x ≡ c → filter p (cond c (x ∷ filter q xs) (filter q xs)) ≡ cond b (x ∷ filter p xs) (filter p xs)
    by rest true true e f = ap (λ b. cond b (x ∷ filter p (filter q xs)) (filter p (filter q xs))) e ∙ ap (λ ys. x ∷ ys) rest
    by rest true false e f = let g : q x ≡ true = wider x e in cc
    by rest false true e f = ap (λ b. cond b (x ∷ filter p (filter q xs)) (filter p (filter q xs))) e ∙ rest
    by rest false false e f = rest

-- the order of a number of each record
abbrev pub lower : (Record → ℕ) → Record → Record → Bool
lower number r s = is_lt (nat_cmp (number r) (number s))

alike : (n : ℕ) → (not (is_lt (nat_cmp n n)) && not (is_lt (nat_cmp n n))) ≡ true
alike n = ap (λ o. not (is_lt o) && not (is_lt o)) (tied_itself nat_cmp_total n)

tied_number : (number : Slot → ℕ) (r s : Record) → ties before r s ≡ true → ties (lower (λ x. number (slot_of x))) r s ≡ true
tied_number number r s e =
    let one : slot_of r ≡ slot_of s = slot_cmp-only_equal (slot_of r) (slot_of s) (equal _ (sym (tied r s) ∙ e)) in
    subst (λ q. (not (is_lt (nat_cmp (number (slot_of r)) (number q))) && not (is_lt (nat_cmp (number q) (number (slot_of r))))) ≡ true) one (alike (number (slot_of r)))

pub slots_stay : (number : Slot → ℕ) (xs ys : List Record) → IsStableByKey (λ x. number (slot_of x)) nat_cmp xs ys → (r : Record) → filter (ties before r) ys ≡ filter (ties before r) xs
slots_stay number xs ys stable r =
    let p = ties before r in
    let q = ties (lower (λ x. number (slot_of x))) r in
    sym (filter_wider p q (tied_number number r) ys) ∙ ap (filter p) (stable r) ∙ filter_wider p q (tied_number number r) xs
