-- What contracts see of a field that is handed out.
use Rattle.std.specs.Prelude.{◌≤◌, length}
use Rattle.rk_bytes.specs.Model.VersionEdit.{NewFile, Field, comparator, log_number, next_file, last_sequence, compact_cursor, delete_file, add_file, previous_log, least_log, family, family_add, family_drop, greatest_family, group, wal_add, wal_delete, ignored}
use Rattle.rk_edit.specs.declared.fields.AddFile.{AddFile as LentFile}
use Rattle.rk_edit.specs.declared.fields.Field.{Field as LentField}
use Rattle.rk_edit.specs.declared.fields.Field.TheVariants.{Comparator, LogNumber, NextFile, LastSequence, CompactCursor, DeleteFile, AddFile, PreviousLog, LeastLog, Family, FamilyAdd, FamilyDrop, GreatestFamily, Group, WalAdd, WalDelete, Ignored}

-- an added file, by the bytes of its bounds
abbrev pub new_file : LentFile → NewFile
new_file file = record { level = file.level; number = file.number; size = file.size; smallest = file.smallest.now; largest = file.largest.now; seqs = file.seqs }

-- the same of any field
abbrev pub field_of : LentField → Field
field_of (Comparator name) = comparator name.now
field_of (LogNumber n) = log_number n
field_of (NextFile n) = next_file n
field_of (LastSequence n) = last_sequence n
field_of (CompactCursor level key) = compact_cursor level key.now
field_of (DeleteFile level number) = delete_file level number
field_of (AddFile file) = add_file (new_file file)
field_of (PreviousLog n) = previous_log n
field_of (LeastLog n) = least_log n
field_of (Family id) = family id
field_of (FamilyAdd name) = family_add name.now
field_of FamilyDrop = family_drop
field_of (GreatestFamily id) = greatest_family id
field_of (Group left) = group left
field_of (WalAdd log synced) = wal_add log synced
field_of (WalDelete log) = wal_delete log
field_of (Ignored tag bytes) = ignored tag bytes.now

-- the internal keys that a field has are long enough to be such
abbrev pub HasWholeKeys : Field → Type 0
HasWholeKeys (compact_cursor level key) = 8 ≤ length key
HasWholeKeys (add_file file) = (8 ≤ length file.smallest) × (8 ≤ length file.largest)
HasWholeKeys _ = Unit
