-- The restart offsets are right just where one walk over the entries passes them all.
use Rattle.std.specs.Prelude.{nat_lt, ◌==◌, ◌&&◌, ◌||◌, bytes_eq}
use Rattle.std.specs.List.{list_all}
use Rattle.std.proofs.Common.{◌≡◌, ℕ, suc, ◌+◌, ◌<◌, ◌≤◌, Bool, true, false, cond, List, [], ◌∷◌, ◌++◌, length, take, refl, sym, ap, ◌∙◌, arith}
use Rattle.std.proofs.Math.Bool.{and_assoc}
use Rattle.std.proofs.Math.Dec.{eqb-suc-zero}
use Rattle.std.proofs.lemmas.Bool.{lt-ltb, ltb-true, eqb-true, ne_eqb, and_parts, and_right}
use Rattle.rk_bytes.specs.Model.BlockEntries.{Entry, rises, is_restart, right_restarts}
use Rattle.rk_block.specs.Restarts.{starts_at_zero, offsets_after, are_met}
use Rattle.rk_block.specs.Read.{AreBetween}
pub use Rattle.rk_block.specs.Walked.{offsets_left}

-- and after one entry more
pub offsets_left-push : {V : Type 0} (entries : List (Entry V)) (entry : Entry V) (offsets : List ℕ) → offsets_left (entries ++ entry ∷ []) offsets ≡ offsets_after entry.place entry.shared (offsets_left entries offsets)
offsets_left-push [] entry offsets = refl
offsets_left-push (first ∷ entries) entry offsets = offsets_left-push entries entry (offsets_after first.place first.shared offsets)

-- no offset is left of none
offsets_left-none : {V : Type 0} (entries : List (Entry V)) → offsets_left entries [] ≡ []
offsets_left-none [] = refl
offsets_left-none (entry ∷ entries) = offsets_left-none entries

pub AreBetween-ordered : {V : Type 0} (start end : ℕ) (entries : List (Entry V)) → AreBetween start end entries → start ≤ end
AreBetween-ordered start end [] between = between
AreBetween-ordered start end (entry ∷ entries) between = let more = AreBetween-ordered (entry.place + 1) end entries between.1 in omega (arith, more, between.0)

-- one entry more
pub AreBetween-push : {V : Type 0} (start place end : ℕ) (entries : List (Entry V)) (entry : Entry V) → AreBetween start place entries → entry.place ≡ place → place < end → AreBetween start end (entries ++ entry ∷ [])
AreBetween-push start place end [] entry between is below = (omega arith, omega arith)
AreBetween-push start place end (first ∷ entries) entry between is below = (between.0, AreBetween-push (first.place + 1) place end entries entry between.1 is below)

-- the test of one entry
abbrev is_at : {V : Type 0} → Entry V → ℕ → Bool
is_at entry offset = entry.place == offset && entry.shared == 0

-- a restart isn't before the first entry
restart-from : {V : Type 0} (start end : ℕ) (entries : List (Entry V)) (offset : ℕ) → AreBetween start end entries → is_restart entries offset ≡ true → start ≤ offset
restart-from start end [] offset between is = absurd cc
restart-from start end (entry ∷ entries) offset between is = by (is_at entry offset) refl is (restart-from (entry.place + 1) end entries offset between.1)
  where
    by : (told : Bool) → is_at entry offset ≡ told → (told || is_restart entries offset) ≡ true → (is_restart entries offset ≡ true → entry.place + 1 ≤ offset) → start ≤ offset
    by true told found later = let same = eqb-true entry.place offset (and_parts (entry.place == offset) (entry.shared == 0) told).0 in omega (arith, between.0, same)
    by false told found later = omega (arith, between.0, later found)

-- above an entry's place, that entry is no restart
all-above : {V : Type 0} (entry : Entry V) (entries : List (Entry V)) (place : ℕ) (offsets : List ℕ) → entry.place ≤ place → rises (place ∷ offsets) ≡ true → list_all (is_restart (entry ∷ entries)) offsets ≡ list_all (is_restart entries) offsets
all-above entry entries place [] above rise = refl
all-above entry entries place (offset ∷ offsets) above rise =
    let parts = and_parts (nat_lt place offset) (rises (offset ∷ offsets)) rise in
    let lower : place < offset = ltb-true place offset parts.0 in
    let other : entry.place ≡ offset → ⊥ = λ same. omega arith in
    let not_here : is_at entry offset ≡ false = ap (λ test. test && entry.shared == 0) (ne_eqb entry.place offset other) in
    ap (λ test. (test || is_restart entries offset) && list_all (is_restart (entry ∷ entries)) offsets) not_here
    ∙ ap (λ test. is_restart entries offset && test) (all-above entry entries offset offsets (omega arith) parts.1)

rises-rest : (place : ℕ) (offsets : List ℕ) → rises (place ∷ offsets) ≡ true → rises offsets ≡ true
rises-rest place [] rise = refl
rises-rest place (offset ∷ offsets) rise = (and_parts (nat_lt place offset) (rises (offset ∷ offsets)) rise).1

-- after a restart at the first offset
met : {V : Type 0} (entry : Entry V) (entries : List (Entry V)) (end : ℕ) (offset : ℕ) (offsets : List ℕ) → AreBetween (entry.place + 1) end entries → entry.place ≡ offset
    → (rises (offset ∷ offsets) && list_all (is_restart (entry ∷ entries)) offsets) ≡ (rises offsets && list_all (is_restart entries) offsets)
met entry entries end offset [] between is = refl
met entry entries end offset (next ∷ offsets) between is = by (rises (offset ∷ next ∷ offsets)) refl
  where
    not_rising : (rises (offset ∷ next ∷ offsets) ≡ false) → (told : Bool) → is_restart entries next ≡ told → (rises (next ∷ offsets) && (told && list_all (is_restart entries) offsets)) ≡ false
    not_rising falls true told =
        let later = restart-from (entry.place + 1) end entries next between told in
        let above : nat_lt offset next ≡ true = lt-ltb offset next (omega (arith, later, is)) in
        let falls' : rises (next ∷ offsets) ≡ false = sym (ap (λ test. test && rises (next ∷ offsets)) above) ∙ falls in
        ap (λ test. test && list_all (is_restart entries) offsets) falls'
    not_rising falls false told = and_right (rises (next ∷ offsets)) false refl

    by : (told : Bool) → rises (offset ∷ next ∷ offsets) ≡ told → (told && list_all (is_restart (entry ∷ entries)) (next ∷ offsets)) ≡ (rises (next ∷ offsets) && list_all (is_restart entries) (next ∷ offsets))
    by true told =
        all-above entry entries offset (next ∷ offsets) (omega (arith, is)) told
        ∙ ap (λ test. test && list_all (is_restart entries) (next ∷ offsets)) (sym (rises-rest offset (next ∷ offsets) told))
    by false told = sym (not_rising told (is_restart entries next) refl)

-- after an entry that isn't a restart at the first offset
unmet : {V : Type 0} (entry : Entry V) (entries : List (Entry V)) (end : ℕ) (offset : ℕ) (offsets : List ℕ) → AreBetween (entry.place + 1) end entries
    → (rises (offset ∷ offsets) && (is_restart entries offset && list_all (is_restart (entry ∷ entries)) offsets)) ≡ (rises (offset ∷ offsets) && (is_restart entries offset && list_all (is_restart entries) offsets))
unmet entry entries end offset offsets between = by (rises (offset ∷ offsets)) (is_restart entries offset) refl refl
  where
    by : (rise found : Bool) → rises (offset ∷ offsets) ≡ rise → is_restart entries offset ≡ found
        → (rise && (found && list_all (is_restart (entry ∷ entries)) offsets)) ≡ (rise && (found && list_all (is_restart entries) offsets))
    by false found told is = refl
    by true false told is = refl
    by true true told is = let later = restart-from (entry.place + 1) end entries offset between is in all-above entry entries offset offsets (omega (arith, later)) told

-- the offsets rise and are restarts just where none is left
all_met : {V : Type 0} (start end : ℕ) (entries : List (Entry V)) → AreBetween start end entries → (offsets : List ℕ) → (rises offsets && list_all (is_restart entries) offsets) ≡ (length (offsets_left entries offsets) == 0)
all_met start end [] between [] = refl
all_met start end [] between (offset ∷ offsets) = and_right (rises (offset ∷ offsets)) false refl ∙ sym (eqb-suc-zero (length offsets))
all_met start end (entry ∷ entries) between [] = sym (ap (λ left. length left == 0) (offsets_left-none entries))
all_met start end (entry ∷ entries) between (offset ∷ offsets) = by (is_at entry offset) refl (all_met (entry.place + 1) end entries between.1)
  where
    by : (told : Bool) → is_at entry offset ≡ told → ((offsets : List ℕ) → (rises offsets && list_all (is_restart entries) offsets) ≡ (length (offsets_left entries offsets) == 0))
        → (rises (offset ∷ offsets) && ((told || is_restart entries offset) && list_all (is_restart (entry ∷ entries)) offsets)) ≡ (length (offsets_left entries (cond told offsets (offset ∷ offsets))) == 0)
    by true told later = let same = eqb-true entry.place offset (and_parts (entry.place == offset) (entry.shared == 0) told).0 in met entry entries end offset offsets between.1 same ∙ later offsets
    by false told later = unmet entry entries end offset offsets between.1 ∙ later (offset ∷ offsets)

-- there is an entry
abbrev pub has_entries : {V : Type 0} → List (Entry V) → Bool
has_entries [] = false
has_entries (entry ∷ entries) = true

first_is : (offsets : List ℕ) → bytes_eq (take 1 offsets) (0 ∷ []) ≡ starts_at_zero offsets
first_is [] = refl
first_is (offset ∷ offsets) = and_true (offset == 0)
  where
    and_true : (test : Bool) → (test && true) ≡ test
    and_true true = refl
    and_true false = refl

-- the only offset is 0
only_zero : (offsets : List ℕ) → bytes_eq offsets (0 ∷ []) ≡ (starts_at_zero offsets && (length offsets == 1))
only_zero [] = refl
only_zero (offset ∷ []) = refl
only_zero (offset ∷ next ∷ offsets) = ap (λ test. offset == 0 && test) (sym (ne_eqb (suc (suc (length offsets))) 1 (λ same. omega arith)))

-- what a walk finds is what the definition says
pub right_restarts-walk : {V : Type 0} (start end : ℕ) (entries : List (Entry V)) (offsets : List ℕ) → AreBetween start end entries
    → right_restarts entries offsets ≡ are_met (has_entries entries) (record { from_zero = starts_at_zero offsets; left = offsets_left entries offsets })
right_restarts-walk start end [] offsets between = only_zero offsets
right_restarts-walk start end (entry ∷ entries) offsets between =
    and_assoc (bytes_eq (take 1 offsets) (0 ∷ [])) (rises offsets) (list_all (is_restart (entry ∷ entries)) offsets)
    ∙ (λ i. first_is offsets i && all_met start end (entry ∷ entries) between offsets i)
