-- A block while it is built.
use Rattle.std.specs.Prelude.{Result, Ok, Err, OnOk, OnErr, flat_map, map, unwrap_or, ◌==◌, if◌then◌else◌}
use Rattle.std.specs.List.{common_prefix_len, concat, last_or, scan, zip}
use Rattle.std.proofs.Common.{◌≡◌, ℕ, suc, ◌+◌, ◌-◌, ◌*◌, ◌/◌, ◌^◌, ◌<◌, ◌≤◌, Bool, true, false, List, [], ◌∷◌, ◌++◌, length, drop, Some, nat_eq, refl, sym, ap, ◌∙◌, subst, arith, zero-add, append_assoc, length-append, length-drop}
use Rattle.std.proofs.lemmas.Bool.{eqb-false, ne_eqb, cond-true, cond-false}
use Rattle.std.proofs.lemmas.List.{append-nil, map-append, length-map, same_from_push, length_push}
use Rattle.std.proofs.lemmas.List.Concat.{flat_map-append}
use Rattle.std.proofs.lemmas.List.Folds.{concat-append}
use Rattle.std.proofs.lemmas.List.Sums.{common_prefix_len-le}
use Rattle.rk_bytes.specs.declared.memory.Memory.{Memory}
use Rattle.rk_bytes.specs.Model.Numbers.{fixed_of, varint_of}
use Rattle.rk_bytes.specs.Model.Writers.{KeyValue, entry_bytes, run_bytes, entry_runs, beginnings, block_bytes, last_entry_key, grouped}
use Rattle.rk_bytes.proofs.Callers.Varints.{IsVarint32-varint_of}
use Rattle.rk_block.specs.Building.{Extends, IsBuilt, key_before, noted_entries, offset_bytes}
use Rattle.rk_block.proofs.Callers.Grouping.{more_groups, grouped-push, grouped-first}

-- the key of the last of some entries, which stand after this key
last_after : List ℕ → List KeyValue → List ℕ
last_after before [] = before
last_after before (entry ∷ entries) = last_after entry.0 entries

-- entries after this key
written_after : List ℕ → List KeyValue → List ℕ
written_after before entries = flat_map (λ pair. entry_bytes pair.0 pair.1) (zip (before ∷ map (λ entry. entry.0) entries) entries)

written_after-push : (before : List ℕ) (entries : List KeyValue) (entry : KeyValue) → written_after before (entries ++ entry ∷ []) ≡ written_after before entries ++ entry_bytes (last_after before entries) entry
unfolding last_after written_after
written_after-push before [] entry = append-nil (entry_bytes before entry)
written_after-push before (first ∷ entries) entry =
    ap (λ more. entry_bytes before first ++ more) (written_after-push first.0 entries entry)
    ∙ sym (append_assoc (entry_bytes before first) (written_after first.0 entries) (entry_bytes (last_after first.0 entries) entry))

last_after-is : (before : List ℕ) (entries : List KeyValue) → unwrap_or (last_or (Some before) (map (λ entry. entry.0) entries)) [] ≡ last_after before entries
unfolding last_after
last_after-is before [] = refl
last_after-is before (entry ∷ entries) = last_after-is entry.0 entries

last_entry_key-is : (entries : List KeyValue) → last_entry_key entries ≡ last_after [] entries
unfolding last_after
last_entry_key-is [] = refl
last_entry_key-is (entry ∷ entries) = last_after-is entry.0 entries

last_after-push : (before : List ℕ) (entries : List KeyValue) (entry : KeyValue) → last_after before (entries ++ entry ∷ []) ≡ entry.0
unfolding last_after
last_after-push before [] entry = refl
last_after-push before (first ∷ entries) entry = last_after-push first.0 entries entry

pub last_entry_key-push : (entries : List KeyValue) (entry : KeyValue) → last_entry_key (entries ++ entry ∷ []) ≡ entry.0
last_entry_key-push entries entry = last_entry_key-is (entries ++ entry ∷ []) ∙ last_after-push [] entries entry

-- a run with one entry more
run_bytes-push : (run : List KeyValue) (entry : KeyValue) → run_bytes (run ++ entry ∷ []) ≡ run_bytes run ++ entry_bytes (last_entry_key run) entry
unfolding run_bytes written_after
run_bytes-push run entry = written_after-push [] run entry ∙ ap (λ last. written_after [] run ++ entry_bytes last entry) (sym (last_entry_key-is run))

-- the runs with one entry more
entry_runs-push : (every : ℕ) (entries : List KeyValue) (front : List (List KeyValue)) (run : List KeyValue) (entry : KeyValue) → 1 ≤ every → entry_runs every entries ≡ front ++ run ∷ []
    → entry_runs every (entries ++ entry ∷ []) ≡ more_groups (length run == every) front run entry
entry_runs-push every [] front run entry some is =
    let same = same_from_push [] front [] run is in
    let room : (0 == every) ≡ false = ne_eqb 0 every (λ e. omega arith) in
    grouped-first _ entry
    ∙ sym (cond-false _ _ _ room)
    ∙ ap (λ run. more_groups (length run == every) [] run entry) same.1
    ∙ ap (λ front. more_groups (length run == every) front run entry) same.0
entry_runs-push every (first ∷ entries) front run entry some is = grouped-push (λ run. length run == every) (first ∷ entries) front run entry is

-- where the parts begin, the first of them at this place
beginnings_from : ℕ → List (List ℕ) → List ℕ
beginnings_from place parts = scan (λ place part. place + length part) (λ place part. place) place parts

beginnings_from-push : (place : ℕ) (parts : List (List ℕ)) (part : List ℕ) → beginnings_from place (parts ++ part ∷ []) ≡ beginnings_from place parts ++ (place + length (concat parts)) ∷ []
unfolding beginnings_from
beginnings_from-push place [] part = let same : place ≡ place + 0 = omega arith in ap (λ place. place ∷ []) same
beginnings_from-push place (first ∷ parts) part =
    let same : place + length first + length (concat parts) ≡ place + length (first ++ concat parts) = omega (arith, length-append first (concat parts)) in
    ap (λ more. place ∷ more) (beginnings_from-push (place + length first) parts part ∙ ap (λ last. beginnings_from (place + length first) parts ++ last ∷ []) same)

beginnings-push : (parts : List (List ℕ)) (part : List ℕ) → beginnings (parts ++ part ∷ []) ≡ beginnings parts ++ length (concat parts) ∷ []
unfolding beginnings_from
beginnings-push parts part = beginnings_from-push 0 parts part ∙ ap (λ n. beginnings_from 0 parts ++ n ∷ []) (zero-add (length (concat parts)))

length-beginnings_from : (place : ℕ) (parts : List (List ℕ)) → length (beginnings_from place parts) ≡ length parts
unfolding beginnings_from
length-beginnings_from place [] = refl
length-beginnings_from place (part ∷ parts) = ap suc (length-beginnings_from (place + length part) parts)

length-beginnings : (parts : List (List ℕ)) → length (beginnings parts) ≡ length parts
unfolding beginnings_from
length-beginnings parts = length-beginnings_from 0 parts

length-offsets : (offsets : List ℕ) → length (flat_map (fixed_of 4) offsets) ≡ 4 * length offsets
length-offsets [] = refl
length-offsets (offset ∷ offsets) = omega (arith, length-offsets offsets)

-- some runs, written
abbrev spelled_runs : List (List KeyValue) → List ℕ
spelled_runs runs = concat (map run_bytes runs)

abbrev spelled_offsets : List (List KeyValue) → List ℕ
spelled_offsets runs = flat_map (fixed_of 4) (beginnings (map run_bytes runs))

spelled_runs-push : (front : List (List KeyValue)) (run : List KeyValue) → spelled_runs (front ++ run ∷ []) ≡ spelled_runs front ++ run_bytes run
spelled_runs-push front run =
    ap concat (map-append run_bytes front (run ∷ [])) ∙ concat-append (map run_bytes front) (run_bytes run ∷ []) ∙ ap (λ last. spelled_runs front ++ last) (append-nil (run_bytes run))

spelled_offsets-push : (front : List (List KeyValue)) (run : List KeyValue) → spelled_offsets (front ++ run ∷ []) ≡ spelled_offsets front ++ fixed_of 4 (length (spelled_runs front))
spelled_offsets-push front run =
    ap (λ parts. flat_map (fixed_of 4) (beginnings parts)) (map-append run_bytes front (run ∷ []))
    ∙ ap (flat_map (fixed_of 4)) (beginnings-push (map run_bytes front) (run_bytes run))
    ∙ flat_map-append (fixed_of 4) (beginnings (map run_bytes front)) (length (spelled_runs front) ∷ [])

-- a block's bytes by its runs
block-runs : (every : ℕ) (entries : List KeyValue) (runs : List (List KeyValue)) → entry_runs every entries ≡ runs → block_bytes every entries ≡ spelled_runs runs ++ spelled_offsets runs ++ fixed_of 4 (length runs)
unfolding block_bytes
block-runs every entries runs is =
    ap (λ runs. spelled_runs runs ++ spelled_offsets runs ++ fixed_of 4 (length (map run_bytes runs))) is
    ∙ ap (λ count. spelled_runs runs ++ spelled_offsets runs ++ fixed_of 4 count) (length-map runs run_bytes)

length-spelled_offsets : (runs : List (List KeyValue)) → length (spelled_offsets runs) ≡ 4 * length runs
length-spelled_offsets runs =
    length-offsets (beginnings (map run_bytes runs)) ∙ ap (λ n. 4 * n) (length-beginnings (map run_bytes runs) ∙ length-map runs run_bytes)

-- how long the block is
pub size-built : (every : ℕ) (entries : List KeyValue) (bytes offsets last : List ℕ) (count : ℕ) → IsBuilt every entries bytes offsets last count → length (block_bytes every entries) ≡ length bytes + length offsets + 8
size-built every entries bytes offsets last count b =
    let runs : List (List KeyValue) = b.front ++ b.run ∷ [] in
    let sum : length (block_bytes every entries) ≡ length bytes + length (fixed_of 4 0 ++ offsets) + 4 =
    ap length (block-runs every entries runs b.runs)
    ∙ length-append (spelled_runs runs ++ spelled_offsets runs) (fixed_of 4 (length runs))
    ∙ ap (λ n. n + 4) (length-append (spelled_runs runs) (spelled_offsets runs))
    ∙ (λ i. length (sym b.spelled i) + length (sym b.restarts i) + 4) in
    omega arith

-- the block, whose last four bytes count the restarts
pub finished : (every : ℕ) (entries : List KeyValue) (bytes offsets last : List ℕ) (count : ℕ) → IsBuilt every entries bytes offsets last count
    → bytes ++ (fixed_of 4 0 ++ offsets) ++ fixed_of 4 (length offsets / 4 + 1) ≡ block_bytes every entries
finished every entries bytes offsets last count b =
    let runs : List (List KeyValue) = b.front ++ b.run ∷ [] in
    let all : length (fixed_of 4 0 ++ offsets) ≡ 4 * length runs = ap length b.restarts ∙ length-spelled_offsets runs in
    let len : length offsets / 4 + 1 ≡ length runs = omega arith in
    (λ i. b.spelled i ++ b.restarts i ++ fixed_of 4 (len i)) ∙ sym (block-runs every entries runs b.runs)

-- a block without an entry
pub size-empty : (every : ℕ) → length (block_bytes every []) ≡ 8
unfolding block_bytes run_bytes grouped
size-empty every = refl

-- nothing was added
pub IsBuilt-start : (every : ℕ) → 1 ≤ every → IsBuilt every [] [] [] [] 0
unfolding block_bytes run_bytes grouped
IsBuilt-start every some = record { front = []; run = []; some = some; runs = refl; spelled = refl; restarts = refl; last_is = refl; ends = refl; counted = refl; few = omega arith; fits = omega arith }

length-varint : (n : ℕ) → n < 2 ^ 32 → length (varint_of n) ≤ 5
length-varint n fits = (IsVarint32-varint_of n fits).short

-- an entry has at most 15 bytes besides its key and its value
length-entry : (before : List ℕ) (entry : KeyValue) → length entry.0 < 2 ^ 32 → length entry.1 < 2 ^ 32 → length (entry_bytes before entry) ≤ 15 + length entry.0 + length entry.1
length-entry before entry key_fits value_fits =
    let shared : ℕ = common_prefix_len nat_eq before entry.0 in
    let within : shared ≤ length entry.0 = (common_prefix_len-le nat_eq before entry.0).1 in
    let first : length (varint_of shared) ≤ 5 = length-varint shared (omega arith) in
    let second : length (varint_of (length entry.0 - shared)) ≤ 5 = length-varint (length entry.0 - shared) (omega arith) in
    let third : length (varint_of (length entry.1)) ≤ 5 = length-varint (length entry.1) value_fits in
    let four : length (varint_of shared ++ varint_of (length entry.0 - shared) ++ varint_of (length entry.1) ++ drop shared entry.0 ++ entry.1)
    ≡ length (varint_of shared) + length (varint_of (length entry.0 - shared)) + length (varint_of (length entry.1)) + (length entry.0 - shared) + length entry.1 =
    length-append (varint_of shared ++ varint_of (length entry.0 - shared) ++ varint_of (length entry.1) ++ drop shared entry.0) entry.1
    ∙ ap (λ n. n + length entry.1) (length-append (varint_of shared ++ varint_of (length entry.0 - shared) ++ varint_of (length entry.1)) (drop shared entry.0)
    ∙ (λ i. (length-append (varint_of shared ++ varint_of (length entry.0 - shared)) (varint_of (length entry.1)) ∙ ap (λ n. n + length (varint_of (length entry.1))) (length-append (varint_of shared) (varint_of (length entry.0 - shared)))) i + length-drop shared entry.0 i)) in
    omega arith

run_bytes-one : (entry : KeyValue) → run_bytes (entry ∷ []) ≡ entry_bytes [] entry
unfolding run_bytes
run_bytes-one entry = append-nil (entry_bytes [] entry)

-- the count, with one entry more
abbrev pub count_after : Bool → ℕ → ℕ
count_after restarts count = if restarts then 1 else count + 1

-- one entry more
pub IsBuilt-more : (every : ℕ) (entries : List KeyValue) (bytes offsets last : List ℕ) (count : ℕ) (entry : KeyValue) (new_bytes new_offsets new_last : List ℕ) → IsBuilt every entries bytes offsets last count
    → length (block_bytes every entries) + length entry.0 + length entry.1 + 32 < 2 ^ 32
    → new_bytes ≡ bytes ++ entry_bytes (key_before (count == every) last) entry → new_offsets ≡ offsets ++ offset_bytes (count == every) (length bytes) → new_last ≡ entry.0
    → IsBuilt every (entries ++ entry ∷ []) new_bytes new_offsets new_last (count_after (count == every) count)
IsBuilt-more every entries bytes offsets last count entry new_bytes new_offsets new_last b room bytes_are offsets_are last_is = by (count == every) (ap (λ n. n == every) (sym b.counted)) bytes_are offsets_are
  where
    size : length (block_bytes every entries) ≡ length bytes + length offsets + 8
    size = size-built every entries bytes offsets last count b

    by : (full : Bool) → (length b.run == every) ≡ full → new_bytes ≡ bytes ++ entry_bytes (key_before full last) entry → new_offsets ≡ offsets ++ offset_bytes full (length bytes)
        → IsBuilt every (entries ++ entry ∷ []) new_bytes new_offsets new_last (count_after full count)
    by true full bytes_are offsets_are = record {
      front = b.front ++ b.run ∷ [];
      run = entry ∷ [];
      some = b.some;
      runs = entry_runs-push every entries b.front b.run entry b.some b.runs ∙ cond-true _ _ _ full;
      spelled =
          bytes_are
          ∙ (λ i. b.spelled i ++ sym (run_bytes-one entry) i)
          ∙ sym (spelled_runs-push (b.front ++ b.run ∷ []) (entry ∷ []));
      restarts =
          ap (λ offsets. fixed_of 4 0 ++ offsets) offsets_are
          ∙ sym (append_assoc (fixed_of 4 0) offsets (fixed_of 4 (length bytes)))
          ∙ (λ i. b.restarts i ++ fixed_of 4 (length (b.spelled i)))
          ∙ sym (spelled_offsets-push (b.front ++ b.run ∷ []) (entry ∷ []));
      last_is = last_is;
      ends = last_is ∙ sym (last_entry_key-push entries entry);
      counted = refl;
      few = b.some;
      fits = omega (arith, size, room, ap length bytes_are, length-append bytes (entry_bytes [] entry), length-entry [] entry (omega arith) (omega arith), ap length offsets_are, length-append offsets (fixed_of 4 (length bytes)));
    }
    by false full bytes_are offsets_are = record {
      front = b.front;
      run = b.run ++ entry ∷ [];
      some = b.some;
      runs = entry_runs-push every entries b.front b.run entry b.some b.runs ∙ cond-false _ _ _ full;
      spelled =
          bytes_are
          ∙ (λ i. (b.spelled ∙ spelled_runs-push b.front b.run) i ++ entry_bytes (b.last_is i) entry)
          ∙ append_assoc (spelled_runs b.front) (run_bytes b.run) (entry_bytes (last_entry_key b.run) entry)
          ∙ ap (λ last. spelled_runs b.front ++ last) (sym (run_bytes-push b.run entry))
          ∙ sym (spelled_runs-push b.front (b.run ++ entry ∷ []));
      restarts =
          ap (λ offsets. fixed_of 4 0 ++ offsets) (offsets_are ∙ append-nil offsets)
          ∙ b.restarts
          ∙ spelled_offsets-push b.front b.run
          ∙ sym (spelled_offsets-push b.front (b.run ++ entry ∷ []));
      last_is = last_is ∙ sym (last_entry_key-push b.run entry);
      ends = last_is ∙ sym (last_entry_key-push entries entry);
      counted = ap (λ n. n + 1) b.counted ∙ sym (length_push b.run entry);
      few = let apart : length b.run ≡ every → ⊥ = eqb-false (length b.run) every full in omega (arith, b.few, b.counted, apart);
      fits = omega (arith, size, room, ap length bytes_are, length-append bytes (entry_bytes last entry), length-entry last entry (omega arith) (omega arith), ap length (offsets_are ∙ append-nil offsets));
    }

-- no front is shared with no bytes
pub common_prefix_len-none : (xs : List ℕ) → common_prefix_len {Y = ℕ} nat_eq xs [] ≡ 0
common_prefix_len-none [] = refl
common_prefix_len-none (x ∷ xs) = refl

-- bytes are added to bytes that were added
pub Extends-then : (old front mid piece whole : List ℕ) (result : Result (Unit {0}) Memory) (new : List ℕ) → mid ≡ old ++ front → front ++ piece ≡ whole → OnOk result (new ≡ mid ++ piece) → OnErr result (new ≡ mid) → Extends old whole result new
Extends-then old front mid piece whole (Ok done) new before is ok err = ok ∙ ap (λ mid. mid ++ piece) before ∙ append_assoc old front piece ∙ ap (λ more. old ++ more) is
Extends-then old front mid piece whole (Err memory) new before is ok err = (front, err ∙ before)

-- one more note
pub noted_entries-push : (notes new_notes : List (List ℕ × List ℕ × List ℕ)) (key value : List ℕ) → new_notes ≡ notes ++ ([], key, value) ∷ [] → noted_entries new_notes ≡ noted_entries notes ++ (key, value) ∷ []
noted_entries-push notes new_notes key value noted = ap noted_entries noted ∙ map-append (λ (note : List ℕ × List ℕ × List ℕ). (note.1, note.2)) notes (([], key, value) ∷ [])

-- nothing was noted
pub IsBuilt-at : (every : ℕ) → 1 ≤ every → (notes : List (List ℕ × List ℕ × List ℕ)) (bytes offsets last : List ℕ) → notes ≡ [] → bytes ≡ [] → offsets ≡ [] → last ≡ []
    → IsBuilt every (noted_entries notes) bytes offsets last 0
IsBuilt-at every some notes bytes offsets last no_notes no_bytes no_offsets none =
    subst (λ (notes : List (List ℕ × List ℕ × List ℕ)). IsBuilt every (noted_entries notes) bytes offsets last 0) (sym no_notes)
    (subst (λ (bytes : List ℕ). IsBuilt every [] bytes offsets last 0) (sym no_bytes)
    (subst (λ (offsets : List ℕ). IsBuilt every [] [] offsets last 0) (sym no_offsets)
    (subst (λ (last : List ℕ). IsBuilt every [] [] [] last 0) (sym none) (IsBuilt-start every some))))

-- one entry more, which was noted
pub IsBuilt-noted : (every : ℕ) (notes new_notes : List (List ℕ × List ℕ × List ℕ)) (bytes offsets last : List ℕ) (count : ℕ) (key value new_bytes new_offsets new_last : List ℕ) (new_count : ℕ) → IsBuilt every (noted_entries notes) bytes offsets last count
    → length (block_bytes every (noted_entries notes)) + length key + length value + 32 < 2 ^ 32
    → new_notes ≡ notes ++ ([], key, value) ∷ []
    → new_bytes ≡ bytes ++ entry_bytes (key_before (count == every) last) (key, value) → new_offsets ≡ offsets ++ offset_bytes (count == every) (length bytes) → new_last ≡ key
    → new_count ≡ count_after (count == every) count
    → IsBuilt every (noted_entries new_notes) new_bytes new_offsets new_last new_count
IsBuilt-noted every notes new_notes bytes offsets last count key value new_bytes new_offsets new_last new_count b room noted bytes_are offsets_are last_is counted =
    let entries : noted_entries new_notes ≡ noted_entries notes ++ (key, value) ∷ [] = noted_entries-push notes new_notes key value noted in
    let more : IsBuilt every (noted_entries notes ++ (key, value) ∷ []) new_bytes new_offsets new_last (count_after (count == every) count) =
    IsBuilt-more every (noted_entries notes) bytes offsets last count (key, value) new_bytes new_offsets new_last b room bytes_are offsets_are last_is in
    subst (λ (entries : List KeyValue). IsBuilt every entries new_bytes new_offsets new_last new_count) (sym entries)
    (subst (λ (count : ℕ). IsBuilt every (noted_entries notes ++ (key, value) ∷ []) new_bytes new_offsets new_last count) (sym counted) more)

length-offset_bytes : (restarts : Bool) (place : ℕ) → length (offset_bytes restarts place) ≤ 4
length-offset_bytes true place = omega arith
length-offset_bytes false place = omega arith

-- an entry makes a block longer by its key, its value and 19 bytes at most
pub grows : (every : ℕ) (entries new_entries : List KeyValue) (bytes offsets last new_bytes new_offsets new_last before : List ℕ) (count new_count place : ℕ) (restarts : Bool) (entry : KeyValue) → IsBuilt every entries bytes offsets last count
    → IsBuilt every new_entries new_bytes new_offsets new_last new_count → length entry.0 < 2 ^ 32 → length entry.1 < 2 ^ 32
    → new_bytes ≡ bytes ++ entry_bytes before entry → new_offsets ≡ offsets ++ offset_bytes restarts place
    → length (block_bytes every new_entries) ≤ length (block_bytes every entries) + length entry.0 + length entry.1 + 19
grows every entries new_entries bytes offsets last new_bytes new_offsets new_last before count new_count place restarts entry b new key_fits value_fits bytes_are offsets_are =
    let old_size = size-built every entries bytes offsets last count b in
    let new_size = size-built every new_entries new_bytes new_offsets new_last new_count new in
    let more : length new_bytes ≡ length bytes + length (entry_bytes before entry) = ap length bytes_are ∙ length-append bytes (entry_bytes before entry) in
    let offsets_more : length new_offsets ≡ length offsets + length (offset_bytes restarts place) = ap length offsets_are ∙ length-append offsets (offset_bytes restarts place) in
    omega (arith, length-entry before entry key_fits value_fits, length-offset_bytes restarts place)
