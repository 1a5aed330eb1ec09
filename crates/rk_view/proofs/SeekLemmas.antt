-- How many records of a run come before a slot.
use Rattle.std.proofs.Common.{◌≡◌, ℕ, ◌+◌, ◌<◌, ◌≤◌, Bool, true, false, not, List, length, get_or, refl, sym, ap, ◌∙◌, arith}
use Rattle.std.proofs.lemmas.List.{get_or_read}
use Rattle.std.specs.List.{AllWithin}
use Rattle.std.specs.declared.cmp.Ordering.{Ordering}
use Rattle.std.specs.declared.cmp.Ordering.TheVariants.{Less, Equal, Greater}
use Rattle.std.specs.Ordering.{is_lt, is_gt}
use Rattle.rk_bytes.specs.declared.model.key.Record.{Record}
use Rattle.rk_bytes.specs.Model.Records.{Slot, slot_cmp, slot_cmp-total, slot_of}
use Rattle.rk_view.specs.Places.{is_from}
use Rattle.rk_view.proofs.SlotOrder.{slot_cmp-only_equal, is_lt-Less}
use Rattle.rk_view.proofs.RunLemmas.{Rises, upto_at}

-- A test that a record passes where one before it does.
abbrev pub IsUpward : (Record → Bool) → Type 0
IsUpward p = (r s : Record) → is_gt (slot_cmp (slot_of r) (slot_of s)) ≡ false → p r ≡ true → p s ≡ true

pub upto_less : (r s q : Slot) (o : Ordering) → slot_cmp r s ≡ o → is_gt o ≡ false → slot_cmp s q ≡ Less → slot_cmp r q ≡ Less
upto_less r s q Less e upto less = slot_cmp-total.trans r s q e less
upto_less r s q Equal e upto less = ap (λ t. slot_cmp t q) (slot_cmp-only_equal r s e) ∙ less
upto_less r s q Greater e upto less = cc

-- what comes before a slot does so with all that stands before it
before_less : (q : Slot) (r s : Record) → is_gt (slot_cmp (slot_of r) (slot_of s)) ≡ false → is_lt (slot_cmp (slot_of s) q) ≡ true → is_lt (slot_cmp (slot_of r) q) ≡ true
before_less q r s upto less = ap is_lt (upto_less (slot_of r) (slot_of s) q _ refl upto (is_lt-Less _ less))

other_way : (a b : Bool) → (a ≡ true → b ≡ true) → not b ≡ true → not a ≡ true
other_way false b h e = refl
other_way true true h e = cc
other_way true false h e = absurd (let no : false ≡ true = h refl in cc)

pub from_upward : (q : Slot) → IsUpward (is_from q)
from_upward q r s upto from = other_way (is_lt (slot_cmp (slot_of s) q)) (is_lt (slot_cmp (slot_of r) q)) (before_less q r s upto) from

-- what an upward test says of one record of a run, it says of those on one side
module _ (p : Record → Bool) (up : IsUpward p) (run : List Record) (rises : Rises run) where
  pub later_pass : (i j : ℕ) (d : Record) → i ≤ j → j < length run → p (get_or run i d) ≡ true → p (get_or run j d) ≡ true
  later_pass i j d before inside passes = up (get_or run i d) (get_or run j d) (upto_at run rises i j d before inside) passes

  pub earlier_fail : (i j : ℕ) (d : Record) → i ≤ j → j < length run → p (get_or run j d) ≡ false → p (get_or run i d) ≡ false
  earlier_fail i j d before inside fails = by (p (get_or run i d)) refl
    where
      by : (b : Bool) → p (get_or run i d) ≡ b → b ≡ false
      by false e = refl
      by true e = let both : true ≡ false = sym (later_pass i j d before inside e) ∙ fails in cc

  pub before_all : (k n : ℕ) (r : Record) → k < length run → r ≡ get_or run k r → p r ≡ false → n ≤ k + 1 → AllWithin (λ y. p y ≡ false) run 0 n
  before_all k n r inside is fails upto i d low high = earlier_fail i k d (omega arith) inside (ap p (sym (get_or_read run k r inside is d)) ∙ fails)

  pub after_all : (k n : ℕ) (r : Record) → k < length run → r ≡ get_or run k r → p r ≡ true → k ≤ n → AllWithin (λ y. p y ≡ true) run n (length run)
  after_all k n r inside is passes from i d low high = later_pass k i d (omega arith) high (ap p (sym (get_or_read run k r inside is d)) ∙ passes)
