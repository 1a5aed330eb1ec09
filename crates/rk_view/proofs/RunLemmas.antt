-- Searches in a run.
use Rattle.std.proofs.Common.{◌≡◌, ℕ, zero, suc, ◌<◌, ◌≤◌, Bool, true, false, not, cond, T, List, [], ◌∷◌, length, map, refl, sym, ap, ◌∙◌, arith, get_or}
use Rattle.std.proofs.lemmas.Option.{slice_get_past, slice_get_read}
use Rattle.std.specs.Borrow.{Bor}
use Rattle.std.specs.Option.{option_copied}
use Rattle.std.specs.Prelude.{MatchOption, Option, Some, None, ◌&&◌, find, slice_get}
use Rattle.std.specs.List.{AllWithin, HoldsAt}
use Rattle.std.specs.List.Sorted.{IsPartitionedBy}
use Rattle.std.specs.declared.cmp.Ordering.{Ordering}
use Rattle.std.specs.declared.cmp.Ordering.TheVariants.{Less, Equal, Greater}
use Rattle.std.specs.Ordering.{is_lt, is_gt, is_eq, ordering_reverse}
use Rattle.std.specs.Cmp.{tied_itself}
use Rattle.std.specs.FinMap.Entries.{find as find_in, is_sorted, below_all}
use Rattle.rk_bytes.specs.declared.model.key.Record.{Record}
use Rattle.rk_bytes.specs.Model.Records.{Slot, slot_cmp, slot_cmp-total, slot_of, entry_of}
use Rattle.rk_view.specs.Places.{is_after}
use Rattle.rk_view.proofs.SlotOrder.{after_rises}

pub both_true : (a b : Bool) → T (a && b) → T a × T b
both_true true b t = (tt, t)
both_true false b t = absurd t

pub lt-Less : (o : Ordering) → T (is_lt o) → o ≡ Less
lt-Less Less t = refl
lt-Less Equal t = absurd t
lt-Less Greater t = absurd t

-- the slots of the records rise
abbrev pub Rises : List Record → Type 0
Rises run = T (is_sorted slot_cmp (map entry_of run))

pub below_at : (q : Slot) (run : List Record) → T (below_all slot_cmp q (map entry_of run)) → (j : ℕ) (d : Record) → j < length run → slot_cmp q (slot_of (get_or run j d)) ≡ Less
below_at q [] below j d inside = absurd (omega arith)
below_at q (r ∷ run) below zero d inside = lt-Less _ (both_true _ _ below).0
below_at q (r ∷ run) below (suc j) d inside = below_at q run (both_true (is_lt (slot_cmp q (slot_of r))) _ below).1 j d (omega arith)

-- of two records of a run the later one has the greater slot
pub rises_at : (run : List Record) → Rises run → (i j : ℕ) (d : Record) → i < j → j < length run → slot_cmp (slot_of (get_or run i d)) (slot_of (get_or run j d)) ≡ Less
rises_at [] rises i j d before inside = absurd (omega arith)
rises_at (r ∷ run) rises zero zero d before inside = absurd (omega arith)
rises_at (r ∷ run) rises zero (suc j) d before inside = below_at (slot_of r) run (both_true _ _ rises).0 j d (omega arith)
rises_at (r ∷ run) rises (suc i) zero d before inside = absurd (omega arith)
rises_at (r ∷ run) rises (suc i) (suc j) d before inside =
    rises_at run (both_true (below_all slot_cmp (slot_of r) (map entry_of run)) _ rises).1 i j d (omega arith) (omega arith)

-- the same of a record and itself or a later one
pub upto_at : (run : List Record) → Rises run → (i j : ℕ) (d : Record) → i ≤ j → j < length run → is_gt (slot_cmp (slot_of (get_or run i d)) (slot_of (get_or run j d))) ≡ false
upto_at [] rises i j d before inside = absurd (omega arith)
upto_at (r ∷ run) rises zero zero d before inside = ap is_gt (tied_itself slot_cmp-total (slot_of r))
upto_at (r ∷ run) rises zero (suc j) d before inside = ap is_gt (below_at (slot_of r) run (both_true _ _ rises).0 j d (omega arith))
upto_at (r ∷ run) rises (suc i) zero d before inside = absurd (omega arith)
upto_at (r ∷ run) rises (suc i) (suc j) d before inside =
    upto_at run (both_true (below_all slot_cmp (slot_of r) (map entry_of run)) _ rises).1 i j d (omega arith) (omega arith)

pub turned : (b : Bool) → not b ≡ true → b ≡ false
turned true e = cc
turned false e = refl

pub turned_back : (b : Bool) → not b ≡ false → b ≡ true
turned_back true e = refl
turned_back false e = cc

pub back : (a b : Bool) → (a ≡ true → b ≡ true) → not b ≡ true → not a ≡ true
back false b h e = refl
back true true h e = cc
back true false h e = absurd (let wrong : false ≡ true = h refl in cc)

-- what isn't after a place stands before what is
pub after_parts : (family : ℕ) (user : List ℕ) (below : ℕ) (run : List Record) → Rises run → IsPartitionedBy (λ r. not (is_after family user below r)) run
after_parts family user below run rises i j d before inside later =
    back (is_after family user below (get_or run i d)) (is_after family user below (get_or run j d))
    (after_rises family user below (get_or run i d) (get_or run j d) (upto_at run rises i j d before inside)) later

-- the first element that passes a test, where those before it don't and it does
pub found_at : {A : Type 0} (p : A → Bool) (xs : List A) (i : ℕ) → i ≤ length xs → AllWithin (λ y. not (p y) ≡ true) xs 0 i → AllWithin (λ y. not (p y) ≡ false) xs i (length xs) → slice_get xs i ≡ find p xs
found_at p [] i inside before after = refl
found_at p (x ∷ xs) zero inside before after = sym (ap (λ b. cond b (Some x) (find p xs)) (turned_back (p x) (after 0 x (omega arith) (omega arith))))
found_at p (x ∷ xs) (suc i) inside before after =
    found_at p xs i (omega arith) (λ k d low high. before (suc k) d (omega arith) (omega arith)) (λ k d low high. after (suc k) d (omega arith) (omega arith))
    ∙ sym (ap (λ b. cond b (Some x) (find p xs)) (turned (p x) (before 0 x (omega arith) (omega arith))))

pub turned_order : (a b : Slot) (o : Ordering) → slot_cmp a b ≡ o → slot_cmp b a ≡ ordering_reverse o
turned_order a b o e = slot_cmp-total.antisymm b a ∙ ap ordering_reverse e

-- no record of the list has the slot
pub unheld : (q : Slot) (run : List Record) → ((k : ℕ) (d : Record) → k < length run → is_eq (slot_cmp q (slot_of (get_or run k d))) ≡ false) → find_in slot_cmp q (map entry_of run) ≡ None
unheld q [] none = refl
unheld q (r ∷ run) none =
    ap (λ b. cond b (Some r) (find_in slot_cmp q (map entry_of run))) (none 0 r (omega arith)) ∙ unheld q run (λ k d inside. none (suc k) d (omega arith))

-- what a look-up by index lends
pub lent_at : (o : Option (Bor Record)) (run : List Record) (i : ℕ) → MatchOption o (length run ≤ i) (λ x. (i < length run) × HoldsAt (λ y. x.now ≡ y) run i) → option_copied o ≡ slice_get run i
lent_at None run i past = sym (slice_get_past run i past)
lent_at (Some x) run i within = sym (slice_get_read run (length run) i x.now refl within.0 (within.1 x.now))
