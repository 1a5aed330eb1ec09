-- A walk over the entries of a block.
use Rattle.std.specs.Prelude.{nat_le, ◌==◌, not}
use Rattle.std.proofs.Common.{◌≡◌, ℕ, zero, suc, ◌+◌, ◌-◌, ◌<◌, ◌≤◌, Bool, List, [], ◌∷◌, ◌++◌, length, take, drop, Some, None, Result, Ok, Err, refl, sym, ap, ◌∙◌, subst, arith, append_assoc, length-drop}
use Rattle.std.proofs.Math.Dec.{eqb-suc-zero}
use Rattle.std.proofs.lemmas.Bool.{le-leb, lt-leb, cond-true, cond-false}
use Rattle.std.proofs.lemmas.List.{append-nil, drop-drop, length-append, length-take-le}
use Rattle.rk_bytes.specs.declared.model.number.NumFault.{NumFault}
use Rattle.rk_bytes.specs.declared.model.block.BlockFault.{BlockFault}
use Rattle.rk_bytes.specs.declared.model.block.BlockFault.TheVariants.{BadEntry}
use Rattle.rk_bytes.specs.Model.Numbers.{Read, ◌>>=◌}
use Rattle.rk_bytes.specs.Model.BlockEntries.{Entry, with_fault, entry_at, next_entry, no_entry, entries_after, right_restarts}
use Rattle.rk_block.specs.declared.entry.RawEntry.{RawEntry}
use Rattle.rk_block.specs.Parts.{entries_in, restarts_in}
use Rattle.rk_block.specs.Restarts.{RestartsSeen, starts_at_zero, restarts_of, restarts_after, are_met}
use Rattle.rk_block.specs.Raw.{entry_of, entry_read, read_or_none, entry_or_none}
use Rattle.rk_block.specs.Read.{AreBetween, last_of}
use Rattle.rk_block.specs.Walked.{IsWalked}
use Rattle.rk_bytes.proofs.Callers.Readings.{both_steps, first_step}
use Rattle.rk_block.proofs.StepLemmas.{first_fault}
use Rattle.rk_block.proofs.Callers.RestartLemmas.{offsets_left-push, AreBetween-ordered, AreBetween-push, has_entries, right_restarts-walk}

-- what reads is read
some_read : {A : Type 0} (r : Read A) (one : A × List ℕ) → Some one ≡ read_or_none r → r ≡ Ok one
some_read (Ok other) one e = cc
some_read (Err why) one e = absurd cc

-- what doesn't read is a fault
none_read : {A F : Type 0} (r : Read A) (fault : F) → None ≡ read_or_none r → with_fault (λ why. fault) r ≡ Err fault
none_read (Ok one) fault e = absurd cc
none_read (Err why) fault e = refl

-- the place of what is left
pub place_left : (part : List ℕ) (place : ℕ) → place ≤ length part → length part - length (drop place part) ≡ place
place_left part place within = omega (arith, length-drop place part)

-- the entry where a part is left, after another
pub entry_here : (part : List ℕ) (place : ℕ) (before : Entry (List ℕ)) (one : Entry (List ℕ) × List ℕ) → place ≤ length part → Some one ≡ entry_or_none place before.key (drop place part) → next_entry (length part) before (drop place part) ≡ Ok one
entry_here part place before one within e =
    ap (λ place'. with_fault (λ fault. BadEntry place') (entry_at place' before.key (drop place part))) (place_left part place within)
    ∙ ap (with_fault (λ fault. BadEntry place)) (some_read (entry_at place before.key (drop place part)) one e)

no_entry_here : (part : List ℕ) (place : ℕ) (before : Entry (List ℕ)) → place ≤ length part → None ≡ entry_or_none place before.key (drop place part) → next_entry (length part) before (drop place part) ≡ Err (BadEntry place)
no_entry_here part place before within e =
    ap (λ place'. with_fault (λ fault. BadEntry place') (entry_at place' before.key (drop place part))) (place_left part place within)
    ∙ none_read (entry_at place before.key (drop place part)) (BadEntry place) e

-- one entry, and those after it
pub entries_after-more : (next : Entry (List ℕ) → List ℕ → Result (Entry (List ℕ) × List ℕ) BlockFault) (room : ℕ) (before : Entry (List ℕ)) (bytes : List ℕ) (one : Entry (List ℕ) × List ℕ) → 0 < length bytes → next before bytes ≡ Ok one
    → entries_after next (suc room) before bytes ≡ (entries_after next room one.0 one.1 >>= λ entries. Ok (one.0 ∷ entries))
unfolding entries_after
entries_after-more next room before [] one some e = absurd (omega arith)
entries_after-more next room before (b ∷ bytes) one some e = first_step (next before (b ∷ bytes)) _ one e

entries_after-fault : (next : Entry (List ℕ) → List ℕ → Result (Entry (List ℕ) × List ℕ) BlockFault) (room : ℕ) (before : Entry (List ℕ)) (bytes : List ℕ) (why : BlockFault) → 0 < length bytes → next before bytes ≡ Err why → entries_after next (suc room) before bytes ≡ Err why
unfolding entries_after
entries_after-fault next room before [] why some e = absurd (omega arith)
entries_after-fault next room before (b ∷ bytes) why some e = first_fault (next before (b ∷ bytes)) _ why e

pub entries_after-end : (next : Entry (List ℕ) → List ℕ → Result (Entry (List ℕ) × List ℕ) BlockFault) (room : ℕ) (before : Entry (List ℕ)) (bytes : List ℕ) → length bytes ≡ 0 → entries_after next room before bytes ≡ Ok []
unfolding entries_after
entries_after-end next room before [] none = refl
entries_after-end next room before (b ∷ bytes) none = absurd (omega arith)

-- bytes aren't read as no entry
pub entries_after-some : (next : Entry (List ℕ) → List ℕ → Result (Entry (List ℕ) × List ℕ) BlockFault) (room : ℕ) (before : Entry (List ℕ)) (bytes : List ℕ) → 0 < length bytes → entries_after next room before bytes ≡ Ok [] → ⊥
unfolding entries_after
entries_after-some next room before [] some e = omega arith
entries_after-some next zero before (b ∷ bytes) some e = both_steps (next before []) _ [] e (λ one read e1. cc)
entries_after-some next (suc room) before (b ∷ bytes) some e =
    both_steps (next before (b ∷ bytes)) _ [] e (λ one read e1. both_steps (entries_after next room one.0 one.1) _ [] e1 (λ entries more e2. cc))

whole_start : {F : Type 0} (r : Result (List (Entry (List ℕ))) F) → r ≡ (r >>= λ more. Ok ([] ++ more))
whole_start (Ok entries) = refl
whole_start (Err why) = refl

pub IsWalked-start : (part offsets : List ℕ) → IsWalked part offsets 0 0 (restarts_of offsets)
IsWalked-start part offsets = record {
  front = [];
  room = length part;
  within = omega arith;
  enough = omega arith;
  passed = omega arith;
  short = omega arith;
  key_is = refl;
  left = refl;
  whole = whole_start (entries_in part);
}

pub last_of-push : (entries : List (Entry (List ℕ))) (entry before : Entry (List ℕ)) → last_of (entries ++ entry ∷ []) before ≡ entry
last_of-push [] entry before = refl
last_of-push (first ∷ entries) entry before = last_of-push entries entry first

then_one : {F : Type 0} (r : Result (List (Entry (List ℕ))) F) (front : List (Entry (List ℕ))) (entry : Entry (List ℕ))
    → ((r >>= λ more. Ok (entry ∷ more)) >>= λ more. Ok (front ++ more)) ≡ (r >>= λ more. Ok ((front ++ entry ∷ []) ++ more))
then_one (Ok entries) front entry = ap Ok (sym (append_assoc front (entry ∷ []) entries))
then_one (Err why) front entry = refl

-- with room for one entry more
pub some_room : (room : ℕ) → 0 < room → (less : ℕ) × (room ≡ suc less)
some_room zero some = absurd (omega arith)
some_room (suc less) some = (less, refl)

-- What was read where a part is left, whatever the key before it is.
abbrev pub ReadsHere : List ℕ → RawEntry → ℕ → Type 0
ReadsHere bytes raw len = (place : ℕ) (key : List ℕ) → entry_read place key bytes (Ok (raw, len)) ≡ entry_or_none place key bytes

abbrev pub ReadsNothing : List ℕ → NumFault → Type 0
ReadsNothing bytes why = (place : ℕ) (key : List ℕ) → entry_read place key bytes (Err why) ≡ entry_or_none place key bytes

pub IsWalked-more : (part offsets : List ℕ) (place key_len : ℕ) (now : RestartsSeen) (raw : RawEntry) (len next_len : ℕ) (next : RestartsSeen) → IsWalked part offsets place key_len now → place < length part → ReadsHere (drop place part) raw len → raw.shared ≤ key_len
    → 0 < len → length raw.rest.now ≤ len → len ≤ length (drop place part) → next_len ≡ raw.shared + length raw.rest.now → next ≡ restarts_after place raw.shared now → IsWalked part offsets (place + len) next_len next
IsWalked-more part offsets place key_len now raw len next_len next w some reads shares longer rest_fits fits len_is passes =
    let before = last_of w.front (no_entry []) in
    let bytes = drop place part in
    let entry = entry_of place before.key raw in
    let within : raw.shared ≤ length before.key = omega (arith, shares, w.key_is) in
    let some' : 0 < length bytes = omega (arith, some, length-drop place part) in
    let read : Some (entry, drop len bytes) ≡ entry_or_none place before.key bytes = sym (cond-true (nat_le raw.shared (length before.key)) _ _ (le-leb raw.shared (length before.key) within)) ∙ reads place before.key in
    let (less, room) = some_room w.room (omega (arith, w.enough, some)) in
    let rest : drop len bytes ≡ drop (place + len) part = drop-drop len place part in
    let last : last_of (w.front ++ entry ∷ []) (no_entry []) ≡ entry = last_of-push w.front entry (no_entry []) in
    let key_len : length entry.key ≡ raw.shared + length raw.rest.now = length-append (take raw.shared before.key) raw.rest.now ∙ ap (λ n. n + length raw.rest.now) (length-take-le raw.shared before.key within) in
    let follow : entries_after (next_entry (length part)) w.room before bytes ≡ (entries_after (next_entry (length part)) less (last_of (w.front ++ entry ∷ []) (no_entry [])) (drop (place + len) part) >>= λ entries. Ok (entry ∷ entries)) =
    ap (λ room. entries_after (next_entry (length part)) room before bytes) room
    ∙ entries_after-more (next_entry (length part)) less before bytes (entry, drop len bytes) some' (entry_here part place before (entry, drop len bytes) w.within read)
    ∙ (λ i. entries_after (next_entry (length part)) less (sym last i) (rest i) >>= λ entries. Ok (entry ∷ entries)) in
    record {
      front = w.front ++ entry ∷ [];
      room = less;
      within = omega (arith, fits, length-drop place part, some);
      enough = omega (arith, w.enough, room, longer);
      passed = AreBetween-push 0 place (place + len) w.front entry w.passed refl (omega (arith, longer));
      short = omega (arith, len_is, shares, rest_fits, w.short);
      key_is = len_is ∙ sym key_len ∙ ap (λ (last : Entry (List ℕ)). length last.key) (sym last);
      left = passes ∙ ap (restarts_after place raw.shared) w.left ∙ ap (λ left. record { from_zero = starts_at_zero offsets; left = left }) (sym (offsets_left-push w.front entry offsets));
      whole = w.whole ∙ ap (λ r. r >>= λ more. Ok (w.front ++ more)) follow ∙ then_one (entries_after (next_entry (length part)) less (last_of (w.front ++ entry ∷ []) (no_entry [])) (drop (place + len) part)) w.front entry;
    }

none_fault : (part offsets : List ℕ) (place key_len : ℕ) (now : RestartsSeen) (w : IsWalked part offsets place key_len now) → place < length part → None ≡ entry_or_none place (last_of w.front (no_entry [])).key (drop place part) → Err (BadEntry place) ≡ restarts_in part offsets
none_fault part offsets place key_len now w some none =
    let before = last_of w.front (no_entry []) in
    let bytes = drop place part in
    let some' : 0 < length bytes = omega (arith, some, length-drop place part) in
    let (less, room) = some_room w.room (omega (arith, w.enough, some)) in
    let follow : entries_after (next_entry (length part)) w.room before bytes ≡ Err (BadEntry place) =
    ap (λ room. entries_after (next_entry (length part)) room before bytes) room
    ∙ entries_after-fault (next_entry (length part)) less before bytes (BadEntry place) some' (no_entry_here part place before w.within none) in
    sym (ap (λ r. r >>= λ entries. Ok (right_restarts entries offsets)) (w.whole ∙ ap (λ r. r >>= λ more. Ok (w.front ++ more)) follow))

pub IsWalked-fault : (part offsets : List ℕ) (place key_len : ℕ) (now : RestartsSeen) (why : NumFault) → IsWalked part offsets place key_len now → place < length part → ReadsNothing (drop place part) why → Err (BadEntry place) ≡ restarts_in part offsets
IsWalked-fault part offsets place key_len now why w some reads = none_fault part offsets place key_len now w some (reads place (last_of w.front (no_entry [])).key)

-- an entry that shares more than the key before it has
pub IsWalked-shares : (part offsets : List ℕ) (place key_len : ℕ) (now : RestartsSeen) (raw : RawEntry) (len : ℕ) → IsWalked part offsets place key_len now → place < length part → ReadsHere (drop place part) raw len → key_len < raw.shared → Err (BadEntry place) ≡ restarts_in part offsets
IsWalked-shares part offsets place key_len now raw len w some reads shares =
    let key = (last_of w.front (no_entry [])).key in
    none_fault part offsets place key_len now w some (sym (cond-false (nat_le raw.shared (length key)) _ _ (lt-leb raw.shared (length key) (omega (arith, shares, w.key_is)))) ∙ reads place key)

-- bytes have an entry, and no bytes have none
some_entries : (part : List ℕ) (front : List (Entry (List ℕ))) (has : Bool) → has ≡ not (length part == 0) → AreBetween 0 (length part) front → entries_in part ≡ Ok front → has ≡ has_entries front
some_entries [] [] has is between whole = is
some_entries [] (entry ∷ front) has is between whole = absurd (let later = AreBetween-ordered (entry.place + 1) 0 front between.1 in omega (arith, later))
some_entries (b ∷ part) [] has is between whole = absurd (entries_after-some (next_entry (length (b ∷ part))) (length (b ∷ part)) (no_entry []) (b ∷ part) (omega arith) whole)
some_entries (b ∷ part) (entry ∷ front) has is between whole = is ∙ ap not (eqb-suc-zero (length part))

pub IsWalked-end : (part offsets : List ℕ) (place key_len : ℕ) (now : RestartsSeen) (has : Bool) → IsWalked part offsets place key_len now → length part ≤ place → has ≡ not (length part == 0) → Ok (are_met has now) ≡ restarts_in part offsets
IsWalked-end part offsets place key_len now has w ended is =
    let before = last_of w.front (no_entry []) in
    let place_is : place ≡ length part = omega (arith, ended, w.within) in
    let follow = entries_after-end (next_entry (length part)) w.room before (drop place part) (omega (arith, length-drop place part, ended)) in
    let whole : entries_in part ≡ Ok w.front = w.whole ∙ ap (λ r. r >>= λ more. Ok (w.front ++ more)) follow ∙ ap Ok (append-nil w.front) in
    let some = some_entries part w.front has is (subst (λ place. AreBetween 0 place w.front) place_is w.passed) whole in
    (λ i. Ok (are_met (some i) (w.left i)))
    ∙ ap Ok (sym (right_restarts-walk 0 place w.front offsets w.passed))
    ∙ sym (ap (λ r. r >>= λ entries. Ok (right_restarts entries offsets)) whole)
