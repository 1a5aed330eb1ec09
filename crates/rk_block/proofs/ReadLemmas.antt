-- A block that is read, and its entries in turn.
use Rattle.std.specs.Prelude.{nat_lt, nat_le, ◌==◌}
use Rattle.std.proofs.Common.{◌≡◌, ℕ, zero, suc, ◌+◌, ◌-◌, ◌<◌, ◌≤◌, Bool, true, false, cond, List, [], ◌∷◌, ◌++◌, length, take, drop, Some, None, Result, Ok, Err, refl, sym, ap, ◌∙◌, subst, arith, append_assoc, length-drop}
use Rattle.std.proofs.lemmas.Bool.{eqb-true, eqb-false, lt-ltb, le-ltb, leb-true, cond-true, cond-false}
use Rattle.std.proofs.lemmas.List.{drop-drop, take_rest}
use Rattle.rk_bytes.specs.declared.model.number.NumFault.{NumFault}
use Rattle.rk_bytes.specs.declared.model.block.BlockFault.{BlockFault}
use Rattle.rk_bytes.specs.declared.model.block.BlockFault.TheVariants.{BadEntry, BadRestarts}
use Rattle.rk_bytes.specs.Model.Numbers.{◌>>=◌, part_of}
use Rattle.rk_bytes.specs.Model.BlockEntries.{Entry, with_fault, entry_at, next_entry, no_entry, entries_after, right_restarts, block_parts, block_entries}
use Rattle.rk_block.specs.declared.entry.RawEntry.{RawEntry}
use Rattle.rk_block.specs.Parts.{entries_in, restarts_in}
use Rattle.rk_block.specs.Raw.{key_after, entry_of, lengths_at, read_or_none, entry_or_none}
use Rattle.rk_block.specs.Read.{IsReadBlock, AreBetween, last_of, IsReadTo}
use Rattle.rk_block.specs.Seen.{EntriesSeen, entries_or_none, entries_from, key_before, seen_from, seen_whole}
use Rattle.rk_bytes.proofs.Callers.Readings.{both_steps, with_fault_ok}
use Rattle.rk_block.proofs.EntryLemmas.{after_lengths, entry_at-lengths}
use Rattle.rk_block.proofs.Callers.RestartLemmas.{AreBetween-ordered, AreBetween-push}
use Rattle.rk_block.proofs.WalkLemmas.{ReadsHere, ReadsNothing, place_left, some_room, last_of-push}

-- an entry is at the place where it is read
entry_at-place : (place : ℕ) (key bytes : List ℕ) (one : Entry (List ℕ) × List ℕ) → entry_at place key bytes ≡ Ok one → one.0.place ≡ place
entry_at-place place key bytes one e =
    both_steps (lengths_at bytes) (after_lengths place key) one (sym (entry_at-lengths place key bytes) ∙ e) λ lens lens_read e1.
    both_steps (part_of lens.0.0 key) _ one e1 λ front front_read e2.
    both_steps (part_of lens.0.1 lens.1) _ one e2 λ rest rest_read e3.
    both_steps (part_of lens.0.2 rest.1) _ one e3 λ value value_read e4.
    let same : (record { place = place; shared = lens.0.0; key = front.0 ++ rest.0; value = value.0 }, value.1) ≡ one = cc in
    ap (λ (one : Entry (List ℕ) × List ℕ). one.0.place) (sym same)

-- what the definition reads where a part is left
entry_read_here : (part : List ℕ) (place : ℕ) (before : Entry (List ℕ)) (one : Entry (List ℕ) × List ℕ) → place ≤ length part → next_entry (length part) before (drop place part) ≡ Ok one → entry_at place before.key (drop place part) ≡ Ok one
entry_read_here part place before one within e =
    with_fault_ok (λ fault. BadEntry place) (entry_at place before.key (drop place part)) one
    (ap (λ place'. with_fault (λ fault. BadEntry place') (entry_at place' before.key (drop place part))) (sym (place_left part place within)) ∙ e)

-- the next entry and those after it, of which there is one
record HasNext (part : List ℕ) (place : ℕ) (before : Entry (List ℕ)) (room : ℕ) (left : List (Entry (List ℕ))) : Type 0 where
  one : Entry (List ℕ) × List ℕ
  more : List (Entry (List ℕ))
  less : ℕ
  room_is : room ≡ suc less
  read : entry_at place before.key (drop place part) ≡ Ok one
  follow : entries_after (next_entry (length part)) less one.0 one.1 ≡ Ok more
  left_is : left ≡ one.0 ∷ more

after_some : (next : Entry (List ℕ) → List ℕ → Result (Entry (List ℕ) × List ℕ) BlockFault) (less : ℕ) (before : Entry (List ℕ)) (bytes : List ℕ) (left : List (Entry (List ℕ))) {C : Type 0} → 0 < length bytes → entries_after next (suc less) before bytes ≡ Ok left
    → ((one : Entry (List ℕ) × List ℕ) (more : List (Entry (List ℕ))) → next before bytes ≡ Ok one → entries_after next less one.0 one.1 ≡ Ok more → left ≡ one.0 ∷ more → C) → C
unfolding entries_after
after_some next less before [] left some e so = absurd (omega arith)
after_some next less before (b ∷ bytes) left some e so =
    both_steps (next before (b ∷ bytes)) _ left e λ one read e1.
    both_steps (entries_after next less one.0 one.1) _ left e1 λ more follow e2.
    so one more read follow cc

has_next : (part : List ℕ) (place : ℕ) (r : IsReadTo part place) → 0 < length (drop place part) → HasNext part place (last_of r.front (no_entry [])) r.room r.left
has_next part place r some =
    let before = last_of r.front (no_entry []) in
    let (less, room) = some_room r.room (omega (arith, r.enough, some, length-drop place part)) in
    let follow : entries_after (next_entry (length part)) (suc less) before (drop place part) ≡ Ok r.left = ap (λ room. entries_after (next_entry (length part)) room before (drop place part)) (sym room) ∙ r.follow in
    after_some (next_entry (length part)) less before (drop place part) r.left some follow λ one more read later left_is.
    record { one = one; more = more; less = less; room_is = room; read = entry_read_here part place before one r.within read; follow = later; left_is = left_is }

-- what is handed out next begins at the place
record StartsAt (place : ℕ) (entries : List (Entry (List ℕ))) : Type 0 where
  from : entries_from place entries ≡ entries
  before : (key : List ℕ) → key_before place key entries ≡ key

starts_at : (place : ℕ) (entry : Entry (List ℕ)) (entries : List (Entry (List ℕ))) → entry.place ≡ place → StartsAt place (entry ∷ entries)
starts_at place entry entries is =
    let test : nat_lt entry.place place ≡ false = le-ltb entry.place place (omega (arith, is)) in
    record { from = cond-false _ _ _ test; before = λ key. cond-false _ _ _ test }

left_starts : (part : List ℕ) (place : ℕ) (r : IsReadTo part place) → StartsAt place r.left
unfolding entries_after
left_starts part place r = by (drop place part) refl
  where
    by : (bytes : List ℕ) → drop place part ≡ bytes → StartsAt place r.left
    by [] e =
        let none : Ok [] ≡ Ok r.left = ap (entries_after (next_entry (length part)) r.room (last_of r.front (no_entry []))) (sym e) ∙ r.follow in
        let same : [] ≡ r.left = cc in
        subst (λ left. StartsAt place left) same (record { from = refl; before = λ key. refl })
    by (b ∷ bytes) e =
        let next = has_next part place r (subst (λ bytes. 0 < length bytes) (sym e) (omega arith)) in
        subst (λ left. StartsAt place left) (sym next.left_is) (starts_at place next.one.0 next.more (entry_at-place place (last_of r.front (no_entry [])).key (drop place part) next.one next.read))

passed_from : (start place : ℕ) (front left : List (Entry (List ℕ))) → AreBetween start place front → StartsAt place left → entries_from place (front ++ left) ≡ left
passed_from start place [] left between starts = starts.from
passed_from start place (entry ∷ front) left between starts =
    let below = AreBetween-ordered (entry.place + 1) place front between.1 in
    cond-true _ _ _ (lt-ltb entry.place place (omega (arith, below))) ∙ passed_from (entry.place + 1) place front left between.1 starts

passed_key : (start place : ℕ) (before : Entry (List ℕ)) (front left : List (Entry (List ℕ))) → AreBetween start place front → StartsAt place left → key_before place before.key (front ++ left) ≡ (last_of front before).key
passed_key start place before [] left between starts = starts.before before.key
passed_key start place before (entry ∷ front) left between starts =
    let below = AreBetween-ordered (entry.place + 1) place front between.1 in
    cond-true _ _ _ (lt-ltb entry.place place (omega (arith, below))) ∙ passed_key (entry.place + 1) place entry front left between.1 starts

-- what contracts see of entries that were read up to a place
pub seen_to : (part : List ℕ) (place : ℕ) (r : IsReadTo part place) → seen_from place (entries_or_none (entries_in part)) ≡ record { place = place; key = (last_of r.front (no_entry [])).key; left = r.left }
seen_to part place r =
    let starts = left_starts part place r in
    ap (λ read. seen_from place (entries_or_none read)) r.whole
    ∙ (λ i. record { place = place; key = passed_key 0 place (no_entry []) r.front r.left r.passed starts i; left = passed_from 0 place r.front r.left r.passed starts i })

-- all entries of a block are to be handed out
pub IsReadTo-start : (part : List ℕ) → IsReadBlock part → IsReadTo part 0
IsReadTo-start part read = record {
  front = [];
  left = entries_or_none (entries_in part);
  room = length part;
  within = omega arith;
  enough = omega arith;
  passed = omega arith;
  whole = read;
  follow = read;
}

pub seen_at_start : (part : List ℕ) → IsReadBlock part → seen_from 0 (entries_or_none (entries_in part)) ≡ seen_whole (entries_or_none (entries_in part))
unfolding IsReadTo-start
seen_at_start part read = seen_to part 0 (IsReadTo-start part read)

-- where nothing is left
pub seen_at_end : (part : List ℕ) (place : ℕ) → IsReadTo part place → length (drop place part) ≡ 0 → (seen_from place (entries_or_none (entries_in part))).left ≡ []
unfolding entries_after
seen_at_end part place r none = ap (λ (seen : EntriesSeen). seen.left) (seen_to part place r) ∙ by (drop place part) refl none
  where
    by : (bytes : List ℕ) → drop place part ≡ bytes → length bytes ≡ 0 → r.left ≡ []
    by [] e none' =
        let nothing : Ok [] ≡ Ok r.left = ap (entries_after (next_entry (length part)) r.room (last_of r.front (no_entry []))) (sym e) ∙ r.follow in
        let same : [] ≡ r.left = cc in sym same
    by (b ∷ bytes) e none' = absurd (omega arith)

-- an entry was handed out
pub record HandsOut (part : List ℕ) (place : ℕ) (raw : RawEntry) (len : ℕ) : Type 0 where
  pub further : IsReadTo part (place + len)
  pub left : (seen_from place (entries_or_none (entries_in part))).left ≡ entry_of place (seen_from place (entries_or_none (entries_in part))).key raw ∷ (seen_from (place + len) (entries_or_none (entries_in part))).left
  pub key : (seen_from (place + len) (entries_or_none (entries_in part))).key ≡ key_after (seen_from place (entries_or_none (entries_in part))).key raw
  pub shared : raw.shared ≤ length (seen_from place (entries_or_none (entries_in part))).key

some_of : {A : Type 0} (test : Bool) (x y : A) → cond test (Some x) None ≡ Some y → (test ≡ true) × (x ≡ y)
some_of true x y e = (refl, cc)
some_of false x y e = absurd cc

pub hands_out : (part : List ℕ) (place : ℕ) (raw : RawEntry) (len : ℕ) → IsReadTo part place → 0 < length (drop place part) → ReadsHere (drop place part) raw len → 0 < len → len ≤ length (drop place part) → HandsOut part place raw len
hands_out part place raw len r some reads longer fits =
    let before = last_of r.front (no_entry []) in
    let bytes = drop place part in
    let next = has_next part place r some in
    let told = some_of (nat_le raw.shared (length before.key)) (entry_of place before.key raw, drop len bytes) next.one (reads place before.key ∙ ap read_or_none next.read) in
    let within : raw.shared ≤ length before.key = leb-true raw.shared (length before.key) told.0 in
    let entry = entry_of place before.key raw in
    let first : next.one.0 ≡ entry = ap (λ (one : Entry (List ℕ) × List ℕ). one.0) (sym told.1) in
    let rest : next.one.1 ≡ drop (place + len) part = ap (λ (one : Entry (List ℕ) × List ℕ). one.1) (sym told.1) ∙ drop-drop len place part in
    let last : last_of (r.front ++ entry ∷ []) (no_entry []) ≡ entry = last_of-push r.front entry (no_entry []) in
    let left_is : r.left ≡ entry ∷ next.more = next.left_is ∙ ap (λ one. one ∷ next.more) first in
    let further : IsReadTo part (place + len) = record {
      front = r.front ++ entry ∷ [];
      left = next.more;
      room = next.less;
      within = omega (arith, fits, length-drop place part, some);
      enough = omega (arith, r.enough, next.room_is, longer);
      passed = AreBetween-push 0 place (place + len) r.front entry r.passed refl (omega (arith, longer));
      whole = r.whole ∙ ap (λ left. Ok (r.front ++ left)) left_is ∙ ap Ok (sym (append_assoc r.front (entry ∷ []) next.more));
      follow = (λ i. entries_after (next_entry (length part)) next.less ((last ∙ sym first) i) (sym rest i)) ∙ next.follow;
    } in
    let here = seen_to part place r in
    let there = seen_to part (place + len) further in
    let key_here : (seen_from place (entries_or_none (entries_in part))).key ≡ before.key = ap (λ (seen : EntriesSeen). seen.key) here in
    record {
      further = further;
      left = ap (λ (seen : EntriesSeen). seen.left) here ∙ left_is ∙ (λ i. entry_of place (sym key_here i) raw ∷ (sym there i).left);
      key = ap (λ (seen : EntriesSeen). seen.key) there ∙ ap (λ (last : Entry (List ℕ)). last.key) last ∙ ap (λ key. key_after key raw) (sym key_here);
      shared = subst (λ key. raw.shared ≤ length key) (sym key_here) within;
    }

-- what is left of a part, as code slices it
abbrev pub rest_from : List ℕ → ℕ → List ℕ
rest_from part place = take (length part - place) (drop place part)

pub some_left : (part : List ℕ) (place : ℕ) (test : Bool) → test ≡ (length (rest_from part place) == 0) → test ≡ false → 0 < length (drop place part)
some_left part place test is passed = by (length (drop place part)) (sym (is ∙ ap (λ (rest : List ℕ). length rest == 0) (take_rest part place)) ∙ passed)
  where
    by : (len : ℕ) → (len == 0) ≡ false → 0 < len
    by zero e = absurd (eqb-false 0 0 e refl)
    by (suc len) e = omega arith

pub none_left : (part : List ℕ) (place : ℕ) (test : Bool) → test ≡ (length (rest_from part place) == 0) → test ≡ true → length (drop place part) ≡ 0
none_left part place test is passed = eqb-true (length (drop place part)) 0 (sym (is ∙ ap (λ (rest : List ℕ). length rest == 0) (take_rest part place)) ∙ passed)

-- no entry is left where no byte is
pub next_none : (part : List ℕ) (place : ℕ) (test : Bool) → IsReadTo part place → test ≡ (length (rest_from part place) == 0) → test ≡ true → (seen_from place (entries_or_none (entries_in part))).left ≡ []
next_none part place test r is passed =
    seen_at_end part place r (none_left part place test is passed)

pub next_out : (part : List ℕ) (place : ℕ) (test : Bool) (raw : RawEntry) (len : ℕ) → IsReadTo part place → test ≡ (length (rest_from part place) == 0) → test ≡ false → ReadsHere (rest_from part place) raw len → 3 ≤ len → len ≤ length (rest_from part place) → HandsOut part place raw len
next_out part place test raw len r is passed reads longer fits =
    hands_out part place raw len r (some_left part place test is passed) (subst (λ bytes. ReadsHere bytes raw len) (take_rest part place) reads) (omega (arith, longer)) (subst (λ bytes. len ≤ length bytes) (take_rest part place) fits)

-- an entry that is left reads
pub never_unread : (part : List ℕ) (place : ℕ) (test : Bool) (why : NumFault) → IsReadTo part place → test ≡ (length (rest_from part place) == 0) → test ≡ false → ReadsNothing (rest_from part place) why → ⊥
never_unread part place test why r is passed reads =
    let next = has_next part place r (some_left part place test is passed) in
    let key = (last_of r.front (no_entry [])).key in
    let none : None ≡ Some next.one = reads place key ∙ ap (entry_or_none place key) (take_rest part place) ∙ ap read_or_none next.read in cc

-- a block by its parts
pub faulty_parts : (block : List ℕ) (why : BlockFault) → Err why ≡ block_parts block → Err why ≡ block_entries block
unfolding block_entries
faulty_parts block why e = ap (λ (parts : Result (List ℕ × List ℕ) BlockFault). with_fault (λ fault. fault) parts >>= λ parts. entries_in parts.0 >>= λ entries. cond (right_restarts entries parts.1) (Ok entries) (Err BadRestarts)) e

pub parted : (block : List ℕ) (parts : List ℕ × List ℕ) → Ok parts ≡ block_parts block → (entries_in parts.0 >>= λ entries. cond (right_restarts entries parts.1) (Ok entries) (Err BadRestarts)) ≡ block_entries block
unfolding block_entries
parted block parts e = ap (λ (parts : Result (List ℕ × List ℕ) BlockFault). with_fault (λ fault. fault) parts >>= λ parts. entries_in parts.0 >>= λ entries. cond (right_restarts entries parts.1) (Ok entries) (Err BadRestarts)) e

-- an entry that doesn't read is the fault whatever the restarts are
fault_of_entries : {A B : Type 0} (r : Result (List (Entry (List ℕ))) BlockFault) (test : List (Entry (List ℕ)) → B) (f : List (Entry (List ℕ)) → Result A BlockFault) (why : BlockFault) → Err why ≡ (r >>= λ entries. Ok (test entries)) → Err why ≡ (r >>= f)
fault_of_entries (Ok entries) test f why told = absurd cc
fault_of_entries (Err other) test f why told = let same : why ≡ other = cc in ap Err same

pub faulty_entries : (block part offsets : List ℕ) (why : BlockFault) → Ok (part, offsets) ≡ block_parts block → Err why ≡ restarts_in part offsets → Err why ≡ block_entries block
faulty_entries block part offsets why e told =
    fault_of_entries (entries_in part) (λ entries. right_restarts entries offsets) (λ entries. cond (right_restarts entries offsets) (Ok entries) (Err BadRestarts)) why told
    ∙ parted block (part, offsets) e

pub wrong_restarts : (block part offsets : List ℕ) → Ok (part, offsets) ≡ block_parts block → Ok false ≡ restarts_in part offsets → Err BadRestarts ≡ block_entries block
wrong_restarts block part offsets e told = by (entries_in part) told ∙ parted block (part, offsets) e
  where
    by : (r : Result (List (Entry (List ℕ))) BlockFault) → Ok false ≡ (r >>= λ entries. Ok (right_restarts entries offsets)) → Err BadRestarts ≡ (r >>= λ entries. cond (right_restarts entries offsets) (Ok entries) (Err BadRestarts))
    by (Ok entries) told = let wrong : false ≡ right_restarts entries offsets = cc in sym (cond-false _ _ _ (sym wrong))
    by (Err other) told = absurd cc

pub right_block : (block part offsets : List ℕ) → Ok (part, offsets) ≡ block_parts block → Ok true ≡ restarts_in part offsets → IsReadBlock part × (Ok (entries_or_none (entries_in part)) ≡ block_entries block)
right_block block part offsets e told = let told = by (entries_in part) told in (told.0, told.1 ∙ parted block (part, offsets) e)
  where
    by : (r : Result (List (Entry (List ℕ))) BlockFault) → Ok true ≡ (r >>= λ entries. Ok (right_restarts entries offsets)) → (r ≡ Ok (entries_or_none r)) × (Ok (entries_or_none r) ≡ (r >>= λ entries. cond (right_restarts entries offsets) (Ok entries) (Err BadRestarts)))
    by (Ok entries) told = let right : true ≡ right_restarts entries offsets = cc in (refl, sym (cond-true _ _ _ (sym right)))
    by (Err other) told = absurd cc
