-- Which fields of a version edit can be written.
use Rattle.std.specs.Prelude.{◌≡◌, ◌⊎◌, ℕ, ◌^◌, ◌<◌, ◌≤◌, false, List, length, Option, Some, None, is_some}
use Rattle.std.specs.List.{list_any}
use Rattle.rk_bytes.specs.declared.model.edit.Seqs.{Seqs}
use Rattle.rk_bytes.specs.Model.InternalKey.{top_sequence}
use Rattle.rk_bytes.specs.Model.VersionEdit.{NewFile, Field, comparator, log_number, next_file, last_sequence, compact_cursor, delete_file, add_file, previous_log, least_log, family, family_add, family_drop, greatest_family, group, wal_add, wal_delete, ignored, family_add_in, drops_family}

-- an internal key that can be written: it has 8 bytes at least
abbrev pub IsBound : List ℕ → Type 0
IsBound key = (8 ≤ length key) × (length key < 2 ^ 32)

-- sequence numbers have 64 bits, where they are stated
abbrev pub AreStated : Option Seqs → Type 0
AreStated None = Unit
AreStated (Some seqs) = (seqs.least < 2 ^ 64) × (seqs.greatest < 2 ^ 64)

-- an added file's numbers and bounds
pub record IsFile (file : NewFile) : Type 0 where
  pub level : file.level ≤ 255
  pub number : file.number < 2 ^ 64
  pub size : file.size < 2 ^ 64
  pub smallest : IsBound file.smallest
  pub largest : IsBound file.largest
  pub seqs : AreStated file.seqs

-- a synced size has 64 bits, where it is stated
abbrev pub IsSize : Option ℕ → Type 0
IsSize None = Unit
IsSize (Some size) = size < 2 ^ 64

-- The field lies within the bounds of its format. An ignored field isn't written.
abbrev pub IsWritable : Field → Type 0
IsWritable (comparator name) = length name < 2 ^ 32
IsWritable (log_number n) = n < 2 ^ 64
IsWritable (next_file n) = n < 2 ^ 64
IsWritable (last_sequence n) = n ≤ top_sequence
IsWritable (compact_cursor level key) = (level ≤ 255) × IsBound key
IsWritable (delete_file level number) = (level ≤ 255) × (number < 2 ^ 64)
IsWritable (add_file file) = IsFile file
IsWritable (previous_log n) = n < 2 ^ 64
IsWritable (least_log n) = n < 2 ^ 64
IsWritable (family id) = id < 2 ^ 32
IsWritable (family_add name) = length name < 2 ^ 32
IsWritable family_drop = Unit
IsWritable (greatest_family id) = id < 2 ^ 32
IsWritable (group left) = left < 2 ^ 32
IsWritable (wal_add log synced) = (log < 2 ^ 64) × IsSize synced
IsWritable (wal_delete log) = log < 2 ^ 64
IsWritable (ignored tag value) = ⊥

-- no family is both added and dropped
abbrev pub AddsOrDrops : List Field → Type 0
AddsOrDrops fields = (list_any (λ field. is_some (family_add_in field)) fields ≡ false) ⊎ (list_any drops_family fields ≡ false)
