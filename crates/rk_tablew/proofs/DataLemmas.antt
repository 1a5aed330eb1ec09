-- The data blocks of a table while they are written.
use Rattle.std.specs.Prelude.{flat_map, fold, map, nat_le, unwrap_or}
use Rattle.std.specs.List.{last_or, scan, zip}
use Rattle.std.proofs.Common.{◌≡◌, ℕ, suc, ◌+◌, ◌≤◌, ◌<◌, Bool, true, false, List, [], ◌∷◌, ◌++◌, length, Some, refl, sym, ap, ◌∙◌, subst, arith, append_assoc}
use Rattle.std.proofs.lemmas.Bool.{cond-true, cond-false}
use Rattle.std.proofs.lemmas.List.{append-nil, map-append, length-map, same_from_push}
use Rattle.std.proofs.lemmas.List.Sums.{sum_by-append}
use Rattle.rk_bytes.specs.declared.model.block.Handle.{Handle}
use Rattle.rk_bytes.specs.Model.Writers.{KeyValue, block_bytes, run_bytes, front_handles, grouped, handle_behind, handle_bytes, last_entry_key, stored}
use Rattle.rk_block.specs.Building.{Building, built_block, with_entry}
use Rattle.rk_block.proofs.Callers.Grouping.{more_groups, grouped-push, grouped-first}
use Rattle.rk_tablew.specs.Data.{Closes, DataEnds, EntryPut, IsClosed, IsData, RoomMade, blocks_with, empty_block, index_entries, is_closed_next, is_full, open_groups, weight}
use Rattle.rk_tablew.proofs.PartLemmas.{flat_map-stored, handle-behind}

scan-push : {S X Y : Type 0} (next : S → X → S) (out : S → X → Y) (start : S) (xs : List X) (x : X) → scan next out start (xs ++ x ∷ []) ≡ scan next out start xs ++ out (fold next start xs) x ∷ []
scan-push next out start [] x = refl
scan-push next out start (first ∷ xs) x = ap (λ more. out start first ∷ more) (scan-push next out (next start first) xs x)

length-scan : {S X Y : Type 0} (next : S → X → S) (out : S → X → Y) (start : S) (xs : List X) → length (scan next out start xs) ≡ length xs
length-scan next out start [] = refl
length-scan next out start (x ∷ xs) = ap suc (length-scan next out (next start x) xs)

zip-push : {X Y : Type 0} (xs : List X) (ys : List Y) (x : X) (y : Y) → length xs ≡ length ys → zip (xs ++ x ∷ []) (ys ++ y ∷ []) ≡ zip xs ys ++ (x, y) ∷ []
zip-push [] [] x y same = refl
zip-push [] (other ∷ ys) x y same = absurd (omega arith)
zip-push (first ∷ xs) [] x y same = absurd (omega arith)
zip-push (first ∷ xs) (other ∷ ys) x y same = ap (λ more. (first, other) ∷ more) (zip-push xs ys x y (omega arith))

-- blocks one after another are all of them
fold-blocks : (start blocks : List (List ℕ)) → fold (λ before block. before ++ block ∷ []) start blocks ≡ start ++ blocks
fold-blocks start [] = sym (append-nil start)
fold-blocks start (block ∷ blocks) = fold-blocks (start ++ block ∷ []) blocks ∙ append_assoc start (block ∷ []) blocks

front_handles-push : (blocks : List (List ℕ)) (block : List ℕ) → front_handles (blocks ++ block ∷ []) ≡ front_handles blocks ++ handle_behind blocks block ∷ []
front_handles-push blocks block =
    scan-push (λ before block. before ++ block ∷ []) handle_behind [] blocks block ∙ ap (λ before. front_handles blocks ++ handle_behind before block ∷ []) (fold-blocks [] blocks)

length-handles : (groups : List (List KeyValue)) → length (map last_entry_key groups) ≡ length (map handle_bytes (front_handles (blocks_with groups)))
length-handles groups =
    length-map groups last_entry_key
    ∙ sym (length-map groups (block_bytes 16))
    ∙ sym (length-scan (λ before block. before ++ block ∷ []) handle_behind [] (blocks_with groups))
    ∙ sym (length-map (front_handles (blocks_with groups)) handle_bytes)

blocks_with-push : (front : List (List KeyValue)) (last : List KeyValue) → blocks_with (front ++ last ∷ []) ≡ blocks_with front ++ block_bytes 16 last ∷ []
blocks_with-push front last = map-append (block_bytes 16) front (last ∷ [])

-- the index with one block more
index_entries-push : (front : List (List KeyValue)) (last : List KeyValue) → index_entries (front ++ last ∷ []) ≡ index_entries front ++ (last_entry_key last, handle_bytes (handle_behind (blocks_with front) (block_bytes 16 last))) ∷ []
index_entries-push front last =
    let handles : map handle_bytes (front_handles (blocks_with (front ++ last ∷ []))) ≡ map handle_bytes (front_handles (blocks_with front)) ++ handle_bytes (handle_behind (blocks_with front) (block_bytes 16 last)) ∷ [] =
    ap (λ blocks. map handle_bytes (front_handles blocks)) (blocks_with-push front last)
    ∙ ap (map handle_bytes) (front_handles-push (blocks_with front) (block_bytes 16 last))
    ∙ map-append handle_bytes (front_handles (blocks_with front)) (handle_behind (blocks_with front) (block_bytes 16 last) ∷ []) in
    (λ i. zip (map-append last_entry_key front (last ∷ []) i) (handles i))
    ∙ zip-push (map last_entry_key front) (map handle_bytes (front_handles (blocks_with front))) (last_entry_key last) (handle_bytes (handle_behind (blocks_with front) (block_bytes 16 last))) (length-handles front)

-- a block without an entry isn't full
not_full : is_full [] ≡ false
unfolding block_bytes run_bytes grouped
not_full = refl

open_groups-push : (entries : List KeyValue) (front : List (List KeyValue)) (last : List KeyValue) (entry : KeyValue) → open_groups entries ≡ front ++ last ∷ [] → open_groups (entries ++ entry ∷ []) ≡ more_groups (is_full last) front last entry
open_groups-push [] front last entry is =
    let same = same_from_push [] front [] last is in
    grouped-first is_full entry
    ∙ sym (cond-false _ _ _ not_full)
    ∙ ap (λ last. more_groups (is_full last) [] last entry) same.1
    ∙ ap (λ front. more_groups (is_full last) front last entry) same.0
open_groups-push (first ∷ entries) front last entry is = grouped-push is_full (first ∷ entries) front last entry is

-- the last key of some entries is lighter than these
last_or-weight : (before : KeyValue) (entries : List KeyValue) → length (unwrap_or (last_or (Some before.0) (map (λ (entry : KeyValue). entry.0) entries)) []) + 56 ≤ weight (before ∷ entries)
last_or-weight before [] = omega arith
last_or-weight before (entry ∷ entries) =
    let first : weight (before ∷ entry ∷ entries) ≡ weight (before ∷ []) + weight (entry ∷ entries) = sum_by-append (λ (entry : KeyValue). length entry.0 + 56) (before ∷ []) (entry ∷ entries) in
    omega (arith, last_or-weight entry entries, first)

last_key-weight : (entries : List KeyValue) → is_full entries ≡ true → length (last_entry_key entries) + 56 ≤ weight entries
last_key-weight [] full = absurd (cc (not_full))
last_key-weight (entry ∷ entries) full = last_or-weight entry entries

-- the last key is no longer than all entries are heavy
pub last_key-light : (entries : List KeyValue) → length (last_entry_key entries) ≤ weight entries
last_key-light [] = omega arith
last_key-light (entry ∷ entries) = omega (arith, last_or-weight entry entries)

-- no entry
pub IsData-start : (out : List ℕ) (index block : Building) → out ≡ [] → index ≡ record { restart_every = 1; entries = [] } → length (built_block index) ≡ 8 → block ≡ empty_block → IsData [] out index block
IsData-start out index block no_out no_index small no_block = record {
  front = [];
  groups = ap (λ (block : Building). block.entries ∷ []) (sym no_block);
  every = ap (λ (block : Building). block.restart_every) no_block;
  written = no_out;
  indexed = no_index;
  small = let none : weight block.entries ≡ 0 = ap (λ (block : Building). weight block.entries) no_block in omega arith;
}

-- what a closed block adds
record Closed (front : List (List KeyValue)) (last : List KeyValue) (new_out : List ℕ) (new_index : Building) : Type 0 where
  written : new_out ≡ flat_map stored (blocks_with (front ++ last ∷ []))
  indexed : new_index ≡ record { restart_every = 1; entries = index_entries (front ++ last ∷ []) }

closed : (entries : List KeyValue) (out : List ℕ) (index block : Building) (d : IsData entries out index block) (new_out : List ℕ) (new_index : Building) → Closes out index block new_out new_index → Closed d.front block.entries new_out new_index
closed entries out index block d new_out new_index closes =
    let built : built_block block ≡ block_bytes 16 block.entries = ap (λ every. block_bytes every block.entries) d.every in
    let handle : record { offset = length out; size = length (block_bytes 16 block.entries) } ≡ handle_behind (blocks_with d.front) (block_bytes 16 block.entries) = handle-behind (blocks_with d.front) out (block_bytes 16 block.entries) d.written in
    let handle_is = λ (size : List ℕ). handle_bytes (record { offset = length out; size = length size }) in
    record {
      written =
          closes.added
          ∙ (λ i. d.written i ++ stored (built i))
          ∙ sym (flat_map-stored (blocks_with d.front) (block_bytes 16 block.entries))
          ∙ ap (flat_map stored) (sym (blocks_with-push d.front block.entries));
      indexed =
          closes.indexed
          ∙ (λ i. with_entry (d.indexed i) (last_entry_key block.entries) (handle_is (built i)))
          ∙ ap (λ (handle : Handle). with_entry (record { restart_every = 1; entries = index_entries d.front }) (last_entry_key block.entries) (handle_bytes handle)) handle
          ∙ ap (λ (entries : List KeyValue). record { restart_every = 1; entries = entries }) (sym (index_entries-push d.front block.entries));
    }

weight-push : (entries : List KeyValue) (entry : KeyValue) → weight (entries ++ entry ∷ []) ≡ weight entries + (length entry.0 + 56)
weight-push entries entry = sum_by-append (λ (entry : KeyValue). length entry.0 + 56) entries (entry ∷ []) ∙ ap (λ n. weight entries + n) (omega arith)

-- one entry more
pub IsData-more : (entries : List KeyValue) (out : List ℕ) (index block : Building) (key value new_out : List ℕ) (new_index new_block : Building) → IsData entries out index block → EntryPut out index block key value new_out new_index new_block
    → IsData (entries ++ (key, value) ∷ []) new_out new_index new_block
IsData-more entries out index block key value new_out new_index new_block d p = by (is_closed_next block) (ap (λ every. nat_le 4096 (length (block_bytes every block.entries))) (sym d.every)) p.room
  where
    by : (full : Bool) → is_full block.entries ≡ full → RoomMade full out index block new_out new_index p.mid → IsData (entries ++ (key, value) ∷ []) new_out new_index new_block
    by true full made =
        let new : new_block ≡ with_entry empty_block key value = p.put ∙ ap (λ (mid : Building). with_entry mid key value) made.1 in
        let rest = closed entries out index block d new_out new_index made.0 in
        let groups = open_groups-push entries d.front block.entries (key, value) d.groups ∙ cond-true _ _ _ full in
        let light = weight-push entries (key, value) in
        let heavy = last_key-weight block.entries full in
        let small : length (built_block new_index) + weight ((key, value) ∷ []) ≤ 8 + weight (entries ++ (key, value) ∷ []) = omega (arith, d.small, made.0.grows, light, heavy) in
        subst (λ (block : Building). IsData (entries ++ (key, value) ∷ []) new_out new_index block) (sym new) (record {
          front = d.front ++ block.entries ∷ [];
          groups = groups;
          every = refl;
          written = rest.written;
          indexed = rest.indexed;
          small = small;
        })
    by false full made =
        let new : new_block ≡ with_entry block key value = p.put ∙ ap (λ (mid : Building). with_entry mid key value) made.2 in
        let groups = open_groups-push entries d.front block.entries (key, value) d.groups ∙ cond-false _ _ _ full in
        let light = weight-push entries (key, value) in
        let last = weight-push block.entries (key, value) in
        let same : length (built_block new_index) ≡ length (built_block index) = ap (λ (index : Building). length (built_block index)) made.1 in
        let small : length (built_block new_index) + weight (block.entries ++ (key, value) ∷ []) ≤ 8 + weight (entries ++ (key, value) ∷ []) = omega (arith, d.small, same, light, last) in
        subst (λ (block : Building). IsData (entries ++ (key, value) ∷ []) new_out new_index block) (sym new) (record {
          front = d.front;
          groups = groups;
          every = d.every;
          written = made.0 ∙ d.written;
          indexed = made.1 ∙ d.indexed;
          small = small;
        })

-- the last block is closed
pub DataEnds-some : (entries : List KeyValue) (out : List ℕ) (index block : Building) (blocks index_block : List ℕ) → 0 < length entries → IsData entries out index block → IsClosed out index block blocks index_block → DataEnds entries blocks index_block
DataEnds-some [] out index block blocks index_block some d c = absurd (omega arith)
DataEnds-some (entry ∷ entries) out index block blocks index_block some d c =
    let rest = closed (entry ∷ entries) out index block d blocks c.new_index c.closes in record {
      written = rest.written ∙ ap (λ groups. flat_map stored (blocks_with groups)) (sym d.groups);
      indexed = c.index_is ∙ ap built_block rest.indexed ∙ ap (λ groups. block_bytes 1 (index_entries groups)) (sym d.groups);
    }

no_groups : grouped is_full [] ≡ []
unfolding grouped
no_groups = refl

-- there is no block
pub DataEnds-none : (entries : List KeyValue) (out : List ℕ) (index block : Building) (index_block : List ℕ) → 0 ≡ length entries → IsData entries out index block → index_block ≡ built_block index → DataEnds entries out index_block
DataEnds-none (entry ∷ entries) out index block index_block none d is = absurd (omega arith)
DataEnds-none [] out index block index_block none d is =
    let same = same_from_push [] d.front [] block.entries d.groups in record {
      written = d.written ∙ ap (λ front. flat_map stored (blocks_with front)) (sym same.0 ∙ sym no_groups);
      indexed = is ∙ ap built_block d.indexed ∙ ap (λ front. block_bytes 1 (index_entries front)) (sym same.0 ∙ sym no_groups);
    }
