-- Data blocks, range deletions and index blocks that are read, or refused.
use Rattle.std.specs.Prelude.{◌≡◌, ℕ, ◌+◌, Bool, true, false, List, [], ◌∷◌, ◌++◌, length, map, Option, Some, None, Result, Ok, Err, codes, refl}
use Rattle.rk_bytes.specs.declared.model.block.IndexEntry.{IndexEntry}
use Rattle.rk_bytes.specs.declared.model.block.RangeDel.{RangeDel}
use Rattle.rk_bytes.specs.declared.model.table.TableWhy.TheVariants.{Block, BadKey, BadOrder, BadSeparator}
use Rattle.rk_bytes.specs.declared.model.table.TableWhat.TheVariants.{RecordKind}
use Rattle.rk_bytes.specs.Model.BlockEntries.{block_entries, entries_after, index_entries}
use Rattle.rk_bytes.specs.Model.TableStatus.{TableFault, damaged, unsupported, BlockReader, held, range_status, range_list, index_at, data_records}

-- a block of these entries with one restart, at 0
one_restart : List ℕ → List ℕ
one_restart entries = entries ++ 0 ∷ 0 ∷ 0 ∷ 0 ∷ 1 ∷ 0 ∷ 0 ∷ 0 ∷ []

-- an entry that shares nothing, with this user key, sequence number and kind's number, and without a value
entry_of : List ℕ → ℕ → ℕ → List ℕ
entry_of user sequence kind = 0 ∷ (length user + 8) ∷ 0 ∷ user ++ kind ∷ sequence ∷ 0 ∷ 0 ∷ 0 ∷ 0 ∷ 0 ∷ 0 ∷ []

-- the internal key of `a` at this sequence number, put
a_at : ℕ → List ℕ
a_at sequence = codes "a" ++ 1 ∷ sequence ∷ 0 ∷ 0 ∷ 0 ∷ 0 ∷ 0 ∷ 0 ∷ []

-- the block of these entries, whatever the handle is
of_entries : List ℕ → BlockReader
unfolding one_restart
of_entries entries handle = Ok (one_restart entries)

-- an index's entry for a block at this place
index_of : ℕ → List ℕ → IndexEntry
index_of place separator = record { separator = separator; block = record { offset = place; size = 20 } }

-- the user keys of a table whose only data block, at 3, has these entries, between two separators
of_one_block : Bool → Option (List ℕ) → List ℕ → List ℕ → Result (List (List ℕ)) TableFault
unfolding block_entries entries_after of_entries index_of
of_one_block by_user lower upper entries = elim (data_records (of_entries entries) by_user None lower (index_of 3 upper ∷ [])) [
  | Ok records ↦ Ok (map (λ r. r.parts.user) records)
  | Err fault ↦ Err fault
]

-- one block twice, the second time at 26
twice_the_same_key : data_records (of_entries (entry_of (codes "a") 1 1)) false None None (index_of 0 (a_at 1) ∷ index_of 26 (a_at 1) ∷ []) ≡ Err (damaged BadOrder 26)
unfolding block_entries entries_after of_entries entry_of a_at index_of
twice_the_same_key = refl

-- `a` at 2 and then `a` at 1, and the other way round
newer_first : map (of_one_block true None (codes "b")) ((entry_of (codes "a") 2 1 ++ entry_of (codes "a") 1 1) ∷ (entry_of (codes "a") 1 1 ++ entry_of (codes "a") 2 1) ∷ [])
    ≡ Ok (codes "a" ∷ codes "a" ∷ []) ∷ Err (damaged BadOrder 3) ∷ []
unfolding of_one_block entry_of
newer_first = refl

of_kinds : map (λ kind. of_one_block true None (codes "b") (entry_of (codes "a") 1 kind)) (7 ∷ 15 ∷ 16 ∷ 31 ∷ 32 ∷ [])
    ≡ Ok (codes "a" ∷ []) ∷ Err (damaged BadKey 3) ∷ Err (unsupported (RecordKind 16)) ∷ Err (unsupported (RecordKind 31)) ∷ Err (damaged BadKey 3) ∷ []
unfolding of_one_block entry_of
of_kinds = refl

without_a_record : of_one_block true None (codes "b") [] ≡ Err (damaged BadSeparator 3)
unfolding of_one_block
without_a_record = refl

-- A user key may be its separator. An internal key of it is above an older one's separator, and not above a newer one's.
at_the_separator : of_one_block true None (codes "a") (entry_of (codes "a") 5 1) ∷ of_one_block true None [] (entry_of (codes "a") 5 1)
    ∷ of_one_block false None (a_at 5) (entry_of (codes "a") 5 1) ∷ of_one_block false None (a_at 6) (entry_of (codes "a") 5 1) ∷ []
    ≡ Ok (codes "a" ∷ []) ∷ Err (damaged BadSeparator 3) ∷ Ok (codes "a" ∷ []) ∷ Err (damaged BadSeparator 3) ∷ []
unfolding of_one_block entry_of a_at
at_the_separator = refl

-- The first key has to be above the separator before.
after_the_separator_before : of_one_block true (Some (codes "a")) (codes "b") (entry_of (codes "a") 5 1) ∷ of_one_block true (Some (codes "A")) (codes "b") (entry_of (codes "a") 5 1)
    ∷ of_one_block false (Some (a_at 5)) (a_at 1) (entry_of (codes "a") 5 1) ∷ of_one_block false (Some (a_at 6)) (a_at 1) (entry_of (codes "a") 5 1) ∷ []
    ≡ Err (damaged BadSeparator 3) ∷ Ok (codes "a" ∷ []) ∷ Err (damaged BadSeparator 3) ∷ Ok (codes "a" ∷ []) ∷ []
unfolding of_one_block entry_of a_at
after_the_separator_before = refl

-- the range deletions of a block at 3
ranges_of : List ℕ → Result (List RangeDel) TableFault
unfolding range_list block_entries entries_after of_entries
ranges_of entries = held (of_entries entries) range_status range_list (record { offset = 3; size = 20 })

-- They need no order.
of_range_deletions : ranges_of (entry_of (codes "b") 9 15 ++ (0 ∷ 9 ∷ 1 ∷ codes "a" ++ 15 ∷ 4 ∷ 0 ∷ 0 ∷ 0 ∷ 0 ∷ 0 ∷ 0 ∷ codes "y"))
    ≡ Ok (record { start = codes "b"; end = []; sequence = 9 } ∷ record { start = codes "a"; end = codes "y"; sequence = 4 } ∷ [])
unfolding ranges_of entry_of
of_range_deletions = refl

of_other_records : map ranges_of (entry_of (codes "b") 9 1 ∷ entry_of (codes "b") 9 16 ∷ (0 ∷ 1 ∷ 0 ∷ codes "b") ∷ (1 ∷ 0 ∷ 0 ∷ []) ∷ [])
    ≡ Err (damaged BadKey 3) ∷ Err (damaged BadKey 3) ∷ Err (damaged BadKey 3) ∷ Err (damaged Block 3) ∷ []
unfolding ranges_of entry_of
of_other_records = refl

-- an index at 3 with one whole handle, at a separator of seven bytes: an internal key by the properties, and a user key
of_a_short_separator : map (λ properties. index_at (of_entries (0 ∷ 7 ∷ 2 ∷ codes "abcdefg" ++ 0 ∷ 20 ∷ [])) properties (record { offset = 3; size = 20 })) (
    [] ∷ (record { name = codes "rocksdb.index.key.is.user.key"; value = 1 ∷ [] } ∷ []) ∷ []) ≡ Err (damaged BadKey 3) ∷ Ok (index_of 0 (codes "abcdefg") ∷ []) ∷ []
unfolding index_entries block_entries entries_after of_entries index_of
of_a_short_separator = refl

-- Of two records, the last isn't above the separator, and the first is above the one before.
of_two_records : of_one_block true (Some (codes "a")) (codes "c") (entry_of (codes "b") 5 1 ++ entry_of (codes "c") 5 1) ∷ of_one_block true None (codes "b") (entry_of (codes "b") 5 1 ++ entry_of (codes "c") 5 1)
    ∷ of_one_block true (Some (codes "b")) (codes "c") (entry_of (codes "b") 5 1 ++ entry_of (codes "c") 5 1) ∷ []
    ≡ Ok (codes "b" ∷ codes "c" ∷ []) ∷ Err (damaged BadSeparator 3) ∷ Err (damaged BadSeparator 3) ∷ []
unfolding of_one_block entry_of
of_two_records = refl
