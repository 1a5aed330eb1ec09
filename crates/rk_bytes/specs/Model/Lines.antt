-- The lines that commands write, and how bytes, keys and refusals are shown in them. All of it is this
-- project's own rule.
use Rattle.std.specs.Prelude.{◌≡◌, ℕ, ◌/◌, ◌%◌, ◌==◌, nat_le, Bool, true, false, not, ◌&&◌, List, [], ◌∷◌, ◌++◌, length, map, flat_map, if◌then◌else◌, Option, Some, None, Ok, Err, codes, decimal, refl}
use Rattle.std.specs.Fmt.{digits}
use Rattle.hex.specs.Hex.{encode_lower, encode_with}
use Rattle.rk_bytes.specs.declared.model.log.GapWhy.{GapWhy}
use Rattle.rk_bytes.specs.declared.model.log.GapWhy.TheVariants as gap_why
use Rattle.rk_bytes.specs.declared.model.log.EndKind.{EndKind}
use Rattle.rk_bytes.specs.declared.model.log.EndKind.TheVariants as end_kind
use Rattle.rk_bytes.specs.declared.model.key.Kind.{Kind}
use Rattle.rk_bytes.specs.declared.model.key.Kind.TheVariants.{Deletion, Value, Merge, SingleDeletion, RangeDeletion}
use Rattle.rk_bytes.specs.declared.model.key.Record.{Record}
use Rattle.rk_bytes.specs.declared.model.batch.BatchFault.{BatchFault}
use Rattle.rk_bytes.specs.declared.model.batch.BatchFault.TheVariants as batch_fault
use Rattle.rk_bytes.specs.declared.model.edit.Seqs.{Seqs}
use Rattle.rk_bytes.specs.declared.model.edit.EditFault.{EditFault}
use Rattle.rk_bytes.specs.declared.model.edit.EditFault.TheVariants as edit_fault
use Rattle.rk_bytes.specs.declared.model.name.CurrentFault.{CurrentFault}
use Rattle.rk_bytes.specs.declared.model.name.CurrentFault.TheVariants as current_fault
use Rattle.rk_bytes.specs.declared.model.manifest.ManifestWhy.{ManifestWhy}
use Rattle.rk_bytes.specs.declared.model.manifest.ManifestWhy.TheVariants as manifest_why
use Rattle.rk_bytes.specs.declared.model.manifest.ApplyFault.{ApplyFault}
use Rattle.rk_bytes.specs.declared.model.manifest.ApplyFault.TheVariants as apply_fault
use Rattle.rk_bytes.specs.declared.model.manifest.EditWhy.{EditWhy}
use Rattle.rk_bytes.specs.declared.model.manifest.EditWhy.TheVariants as edit_why
use Rattle.rk_bytes.specs.declared.model.manifest.Which.{Which}
use Rattle.rk_bytes.specs.declared.model.manifest.Which.TheVariants as which
use Rattle.rk_bytes.specs.declared.model.manifest.ManifestFault.{ManifestFault}
use Rattle.rk_bytes.specs.declared.model.manifest.ManifestFault.TheVariants as manifest_fault
use Rattle.rk_bytes.specs.declared.model.manifest.FamilyState.{FamilyState}
use Rattle.rk_bytes.specs.declared.model.block.Property.{Property}
use Rattle.rk_bytes.specs.declared.model.block.RangeDel.{RangeDel}
use Rattle.rk_bytes.specs.declared.model.table.TableRef.{TableRef}
use Rattle.rk_bytes.specs.declared.model.table.TableWhy.{TableWhy}
use Rattle.rk_bytes.specs.declared.model.table.TableWhy.TheVariants as table_why
use Rattle.rk_bytes.specs.declared.model.table.TableWhat.{TableWhat}
use Rattle.rk_bytes.specs.declared.model.table.TableWhat.TheVariants as table_what
use Rattle.rk_bytes.specs.declared.model.wal.Mode.{Mode}
use Rattle.rk_bytes.specs.declared.model.wal.LogWhat.{LogWhat}
use Rattle.rk_bytes.specs.declared.model.wal.LogWhat.TheVariants as log_what
use Rattle.rk_bytes.specs.declared.model.wal.WalWhy.{WalWhy}
use Rattle.rk_bytes.specs.declared.model.wal.WalWhy.TheVariants as wal_why
use Rattle.rk_bytes.specs.declared.model.wal.WalErr.{WalErr}
use Rattle.rk_bytes.specs.declared.model.wal.WalErr.TheVariants as wal_err
use Rattle.rk_bytes.specs.declared.model.open.OpenErr.{OpenErr}
use Rattle.rk_bytes.specs.declared.model.open.OpenErr.TheVariants as open_err
use Rattle.rk_bytes.specs.declared.model.view.Point.{Point}
use Rattle.rk_bytes.specs.declared.model.salvage.SurveyErr.{SurveyErr}
use Rattle.rk_bytes.specs.declared.model.salvage.SurveyErr.TheVariants as survey_err
use Rattle.rk_bytes.specs.declared.model.salvage.Moved.{Moved}
use Rattle.rk_bytes.specs.declared.model.salvage.Report.{Report}
use Rattle.rk_bytes.specs.Model.Numbers.{in_turn}
use Rattle.rk_bytes.specs.Model.InternalKey.{kind_number, user_key, packed}
use Rattle.rk_bytes.specs.Model.LogItems.{Item, rec, gap, end}
use Rattle.rk_bytes.specs.Model.WriteBatch.{Part, change, log_bytes, noop, Batch, change_count, batch_of}
use Rattle.rk_bytes.specs.Model.VersionEdit.{NewFile, Field, comparator, log_number, next_file, last_sequence, compact_cursor, delete_file, add_file, previous_log, least_log, family, family_add, family_drop, greatest_family, group, wal_add, wal_delete, ignored, after_customs, edit_fields}
use Rattle.rk_bytes.specs.Model.TableStatus.{TableFault, damaged, unsupported}
use Rattle.rk_bytes.specs.Model.KeyView.{Answer, found, absent, merge, Row}
use Rattle.rk_bytes.specs.Model.Grammar.{mode_number}

-- ---- lines and the bytes in them

-- a line of this text
abbrev pub line : List ℕ → List ℕ
line text = text ++ 10 ∷ []

-- a line that belongs to the one above it
abbrev pub inner_line : List ℕ → List ℕ
inner_line text = line (codes "  " ++ text)

-- a space and a number
abbrev pub then_number : ℕ → List ℕ
then_number n = codes " " ++ decimal n

-- Between quotation marks the bytes from the space to `~` stand for themselves, but for `"` and `\`.
abbrev pub stands_for_itself : ℕ → Bool
stands_for_itself b = nat_le 0x20 b && nat_le b 0x7E && not (b == 0x22) && not (b == 0x5C)

-- any other byte is `\x` and its two digits
abbrev pub shown_byte : ℕ → List ℕ
shown_byte b = if stands_for_itself b then b ∷ [] else codes "\\x" ++ encode_lower (b ∷ [])

-- bytes in hexadecimal after `0x`, or between quotation marks
unfoldable pub quoted : Bool → List ℕ → List ℕ
quoted true bytes = codes "0x" ++ encode_lower bytes
quoted false bytes = codes "\"" ++ flat_map shown_byte bytes ++ codes "\""

-- an internal key: its user key, its sequence number and the number of its kind
abbrev pub key_text : Bool → List ℕ → List ℕ
key_text hex key = quoted hex (user_key key) ++ codes "@" ++ decimal (packed key / 256) ++ codes ":" ++ decimal (packed key % 256)

-- a user key and a sequence number
abbrev pub key_at : Bool → List ℕ → ℕ → List ℕ
key_at hex key sequence = quoted hex key ++ codes "@" ++ decimal sequence

-- ---- the items of a log

-- why a piece of a log is left out
abbrev pub why_word : GapWhy → List ℕ
why_word gap_why.Checksum = codes "Checksum"
why_word gap_why.Length = codes "Length"
why_word gap_why.UnknownType = codes "UnknownType"
why_word gap_why.MissingStart = codes "MissingStart"
why_word gap_why.MissingEnd = codes "MissingEnd"
why_word gap_why.Mixed = codes "Mixed"

-- how the reading of a log ends
abbrev pub kind_words : EndKind → List ℕ
kind_words end_kind.Clean = codes "Clean"
kind_words end_kind.Torn = codes "Torn"
kind_words end_kind.Stale = codes "Stale"
kind_words (end_kind.Unsupported kind) = codes "Unsupported" ++ then_number kind

-- an item, where this word says what its records are
abbrev pub item_line : List ℕ → Item → List ℕ
item_line word (rec payload place) = line (word ++ then_number place ++ then_number (length payload))
item_line word (gap why place) = line (codes "gap" ++ then_number place ++ codes " " ++ why_word why)
item_line word (end kind place) = line (codes "end" ++ then_number place ++ codes " " ++ kind_words kind)

-- ---- write batches

-- why a batch doesn't read
abbrev pub batch_fault_words : BatchFault → List ℕ
batch_fault_words batch_fault.TooSmall = codes "TooSmall"
batch_fault_words (batch_fault.BadRecord place) = codes "BadRecord" ++ then_number place
batch_fault_words (batch_fault.UnsupportedTag tag) = codes "UnsupportedTag" ++ then_number tag
batch_fault_words (batch_fault.WrongCount stated counted) = codes "WrongCount" ++ then_number stated ++ then_number counted
batch_fault_words batch_fault.SequenceTop = codes "SequenceTop"

-- what a change does
abbrev pub change_word : Kind → List ℕ
change_word Deletion = codes "delete"
change_word Value = codes "put"
change_word Merge = codes "merge"
change_word SingleDeletion = codes "single_delete"
change_word RangeDeletion = codes "range_delete"

-- the value that a change puts or merges, or the end of the keys that it deletes
abbrev pub change_value : Bool → Kind → List ℕ → List ℕ
change_value hex Value value = codes " => " ++ quoted hex value
change_value hex Merge value = codes " => " ++ quoted hex value
change_value hex RangeDeletion until = codes " .. " ++ quoted hex until
change_value hex _ value = []

-- a part of a batch
abbrev pub part_line : Bool → Part → List ℕ
part_line hex (change place r) = inner_line (change_word r.kind ++ then_number r.family ++ codes " " ++ key_at hex r.key r.sequence ++ change_value hex r.kind r.value)
part_line hex (log_bytes place bytes) = inner_line (codes "log_bytes" ++ then_number (length bytes))
part_line hex (noop place) = inner_line (codes "noop")

-- a batch's sequence number and its count of changes
abbrev pub batch_line : Batch → List ℕ
batch_line batch = inner_line (codes "batch" ++ then_number batch.sequence ++ then_number (change_count batch.parts))

-- the only line of what doesn't read
abbrev pub bad_line : List ℕ → List ℕ
bad_line why = inner_line (codes "bad " ++ why)

-- the lines of the batch that the bytes are
unfoldable pub batch_lines : Bool → List ℕ → List (List ℕ)
batch_lines hex bytes = elim (batch_of bytes) [
  | Ok batch ↦ batch_line batch ∷ map (part_line hex) batch.parts
  | Err why ↦ bad_line (batch_fault_words why) ∷ []
]

-- ---- version edits

-- why an edit doesn't read
abbrev pub edit_fault_words : EditFault → List ℕ
edit_fault_words (edit_fault.UnknownTag tag place) = codes "UnknownTag" ++ then_number tag ++ then_number place
edit_fault_words (edit_fault.UnsupportedTag tag place) = codes "UnsupportedTag" ++ then_number tag ++ then_number place
edit_fault_words (edit_fault.BadField tag place) = codes "BadField" ++ then_number tag ++ then_number place

-- the sequence numbers of an added file, where they are stated
abbrev pub seqs_words : Option Seqs → List ℕ
seqs_words None = []
seqs_words (Some seqs) = codes " seqs" ++ then_number seqs.least ++ then_number seqs.greatest

-- an added file: its level, number, size and bounds
abbrev pub new_file_words : Bool → NewFile → List ℕ
new_file_words hex new =
    then_number new.level ++ then_number new.number ++ then_number new.size
    ++ codes " " ++ key_text hex new.smallest ++ codes " " ++ key_text hex new.largest ++ seqs_words new.seqs

-- how many bytes of a tracked log are synced, where it is stated
abbrev pub synced_words : Option ℕ → List ℕ
synced_words None = []
synced_words (Some synced) = codes " synced" ++ then_number synced

-- a field of an edit
abbrev pub field_words : Bool → Field → List ℕ
field_words hex (comparator name) = codes "comparator " ++ quoted hex name
field_words hex (log_number n) = codes "log_number" ++ then_number n
field_words hex (next_file n) = codes "next_file" ++ then_number n
field_words hex (last_sequence n) = codes "last_sequence" ++ then_number n
field_words hex (compact_cursor level key) = codes "compact_cursor" ++ then_number level ++ codes " " ++ key_text hex key
field_words hex (delete_file level n) = codes "delete_file" ++ then_number level ++ then_number n
field_words hex (add_file new) = codes "add_file" ++ new_file_words hex new
field_words hex (previous_log n) = codes "previous_log" ++ then_number n
field_words hex (least_log n) = codes "least_log" ++ then_number n
field_words hex (family id) = codes "family" ++ then_number id
field_words hex (family_add name) = codes "family_add " ++ quoted hex name
field_words hex family_drop = codes "family_drop"
field_words hex (greatest_family id) = codes "greatest_family" ++ then_number id
field_words hex (group left) = codes "group" ++ then_number left
field_words hex (wal_add n synced) = codes "wal_add" ++ then_number n ++ synced_words synced
field_words hex (wal_delete n) = codes "wal_delete" ++ then_number n
field_words hex (ignored tag bytes) = codes "ignored" ++ then_number tag ++ then_number (length bytes)

-- the lines of the edit that the bytes are
unfoldable pub edit_lines : Bool → List ℕ → List (List ℕ)
edit_lines hex bytes = elim (edit_fields bytes) [
  | Ok fields ↦ map (λ field. inner_line (field_words hex field)) fields
  | Err why ↦ bad_line (edit_fault_words why) ∷ []
]

-- a family of the last version
abbrev pub families_line : FamilyState → List ℕ
families_line live = line (codes "family" ++ then_number live.id ++ codes " " ++ quoted false live.name ++ codes " log" ++ then_number live.log ++ codes " files" ++ then_number (length live.files))

-- ---- what is shown of keys

-- what a merge is to be applied to
abbrev pub base_words : Bool → Option (List ℕ) → List ℕ
base_words hex None = codes "none"
base_words hex (Some value) = quoted hex value

-- a value, or a merge with its operands, the newest first
abbrev pub answer_words : Bool → Answer → List ℕ
answer_words hex (found value) = quoted hex value
answer_words hex absent = codes "not found"
answer_words hex (merge operands base) = codes "merge" ++ flat_map (λ value. codes " " ++ quoted hex value) operands ++ codes " base " ++ base_words hex base

-- a row of a scan
abbrev pub row_line : Bool → Row → List ℕ
row_line hex row = line (quoted hex row.key ++ codes " => " ++ answer_words hex row.answer)

-- the answer for one key
abbrev pub answer_line : Bool → Answer → List ℕ
answer_line hex answer = line (answer_words hex answer)

-- ---- what is opened

-- the manifest of an opening by best efforts, and how many units it has
abbrev pub manifest_line : ℕ → ℕ → List ℕ
manifest_line number units = line (codes "manifest" ++ then_number number ++ codes " units" ++ then_number units)

-- how many units count for a family
abbrev pub point_line : Point → List ℕ
point_line point = line (codes "point" ++ then_number point.family ++ then_number point.at)

-- the counts of families, files and records
abbrev pub ok_line : ℕ → ℕ → ℕ → List ℕ
ok_line families files records = line (codes "ok: families" ++ then_number families ++ codes " files" ++ then_number files ++ codes " records" ++ then_number records)

-- the counts of records and of keys that are shown
abbrev pub count_words : ℕ → ℕ → List ℕ
count_words records keys = codes "records" ++ then_number records ++ codes " keys" ++ then_number keys

-- what a drill says of a mode
abbrev pub mode_line : Mode → List ℕ → List ℕ
mode_line mode words = line (codes "mode" ++ then_number (mode_number mode) ++ codes ": " ++ words)

-- what it says of best efforts
abbrev pub best_efforts_line : List ℕ → List ℕ
best_efforts_line words = line (codes "best-efforts: " ++ words)

-- the first line of a drill
abbrev pub drill_line : ℕ → List ℕ
drill_line n = line (codes "drill" ++ then_number n)

-- ---- repair

-- a file that was moved; the names stand as they are
abbrev pub moved_line : Moved → List ℕ
moved_line moved = line (codes "lost: " ++ moved.name ++ codes " " ++ moved.lost)

-- the counts of a repair
abbrev pub repaired_line : Report → List ℕ
repaired_line report = line (codes "repaired: families" ++ then_number report.families ++ codes " tables" ++ then_number report.tables ++ codes " logs" ++ then_number report.logs
    ++ codes " added" ++ then_number report.added ++ codes " archived" ++ then_number report.archived ++ codes " records" ++ then_number report.records)

-- ---- one table

-- a good table: its family, and how many records and range deletions it has
abbrev pub good_line : TableRef → List ℕ
good_line table = line (codes "good: family" ++ then_number table.family ++ codes " entries" ++ then_number table.entries ++ codes " ranges" ++ then_number (length table.ranges))

-- a record of a table
abbrev pub entry_line : Bool → Record → List ℕ
entry_line hex r = line (key_at hex r.key r.sequence ++ codes ":" ++ decimal (kind_number r.kind) ++ codes " => " ++ quoted hex r.value)

-- a range deletion of a table
abbrev pub range_line : Bool → RangeDel → List ℕ
range_line hex range = line (codes "range " ++ key_at hex range.start range.sequence ++ codes " .. " ++ quoted hex range.end)

-- a property of a table
abbrev pub property_line : Bool → Property → List ℕ
property_line hex property = line (quoted hex property.name ++ codes " = " ++ quoted hex property.value)

-- ---- refusals

-- why CURRENT names no manifest
abbrev pub current_fault_words : CurrentFault → List ℕ
current_fault_words current_fault.NoNewline = codes "NoNewline"
current_fault_words current_fault.Trailing = codes "Trailing"
current_fault_words current_fault.NotManifest = codes "NotManifest"

-- what in a manifest's log is damaged
abbrev pub manifest_why_words : ManifestWhy → List ℕ
manifest_why_words (manifest_why.Gap why) = why_word why
manifest_why_words (manifest_why.Unsupported kind) = codes "Unsupported" ++ then_number kind

-- why a unit isn't applied. No definition gives want of memory.
abbrev pub apply_fault_words : ApplyFault → List ℕ
apply_fault_words apply_fault.UnsupportedComparator = codes "UnsupportedComparator"
apply_fault_words (apply_fault.FamilyExists id) = codes "FamilyExists" ++ then_number id
apply_fault_words (apply_fault.UnknownFamily id) = codes "UnknownFamily" ++ then_number id
apply_fault_words (apply_fault.DeleteAbsent n) = codes "DeleteAbsent" ++ then_number n
apply_fault_words (apply_fault.AddPresent n) = codes "AddPresent" ++ then_number n
apply_fault_words (apply_fault.Overlap id level) = codes "Overlap" ++ then_number id ++ then_number level
apply_fault_words apply_fault.Memory = codes "Memory"

-- why an edit is bad
abbrev pub edit_why_words : EditWhy → List ℕ
edit_why_words (edit_why.Read why) = edit_fault_words why
edit_why_words (edit_why.Apply why) = apply_fault_words why

-- what no edit states
abbrev pub which_word : Which → List ℕ
which_word which.LogNumber = codes "LogNumber"
which_word which.NextFile = codes "NextFile"
which_word which.LastSequence = codes "LastSequence"

-- the first fault of a manifest
abbrev pub manifest_fault_words : ManifestFault → List ℕ
manifest_fault_words (manifest_fault.Damaged place why) = codes "ManifestDamaged" ++ then_number place ++ codes " " ++ manifest_why_words why
manifest_fault_words (manifest_fault.BadEdit unit why) = codes "BadEdit" ++ then_number unit ++ codes " " ++ edit_why_words why
manifest_fault_words (manifest_fault.BadGroup unit) = codes "BadGroup" ++ then_number unit
manifest_fault_words (manifest_fault.NoFields which) = codes "NoFields " ++ which_word which

-- why a table is damaged
abbrev pub table_why_word : TableWhy → List ℕ
table_why_word table_why.FooterShort = codes "FooterShort"
table_why_word table_why.BadMagic = codes "BadMagic"
table_why_word table_why.BadHandle = codes "BadHandle"
table_why_word table_why.OutOfFile = codes "OutOfFile"
table_why_word table_why.Checksum = codes "Checksum"
table_why_word table_why.Block = codes "Block"
table_why_word table_why.BadProperty = codes "BadProperty"
table_why_word table_why.BadKey = codes "BadKey"
table_why_word table_why.BadOrder = codes "BadOrder"
table_why_word table_why.BadSeparator = codes "BadSeparator"

-- what in a table isn't supported
abbrev pub table_what_words : TableWhat → List ℕ
table_what_words (table_what.Version version) = codes "Version" ++ then_number version
table_what_words (table_what.Checksum kind) = codes "Checksum" ++ then_number kind
table_what_words (table_what.Compressed kind) = codes "Compressed" ++ then_number kind
table_what_words table_what.Comparator = codes "Comparator"
table_what_words (table_what.IndexType kind) = codes "IndexType" ++ then_number kind
table_what_words table_what.External = codes "External"
table_what_words table_what.HashIndex = codes "HashIndex"
table_what_words (table_what.RecordKind kind) = codes "RecordKind" ++ then_number kind

-- a table that is damaged
abbrev pub damaged_words : ℕ → TableWhy → ℕ → List ℕ
damaged_words n why place = codes "DamagedTable" ++ then_number n ++ codes " " ++ table_why_word why ++ then_number place

-- a table that isn't supported
abbrev pub unsupported_words : ℕ → TableWhat → List ℕ
unsupported_words n what = codes "UnsupportedTable" ++ then_number n ++ codes " " ++ table_what_words what

-- the fault of a table
abbrev pub table_fault_words : ℕ → TableFault → List ℕ
table_fault_words n (damaged why place) = damaged_words n why place
table_fault_words n (unsupported what) = unsupported_words n what

-- what in a log isn't supported
abbrev pub log_what_words : LogWhat → List ℕ
log_what_words (log_what.RecordType kind) = codes "type" ++ then_number kind
log_what_words (log_what.Tag tag) = codes "tag" ++ then_number tag

-- a log in which something isn't supported
abbrev pub unsupported_log_words : ℕ → LogWhat → List ℕ
unsupported_log_words log what = codes "UnsupportedLog" ++ then_number log ++ codes " " ++ log_what_words what

-- what in a log is damaged
abbrev pub wal_why_words : WalWhy → List ℕ
wal_why_words (wal_why.Gap why) = why_word why
wal_why_words wal_why.Torn = codes "Torn"
wal_why_words (wal_why.Batch why) = batch_fault_words why

-- why logs aren't replayed. No definition gives want of memory.
abbrev pub wal_err_words : WalErr → List ℕ
wal_err_words (wal_err.Corrupt log place why) = codes "Corrupt" ++ then_number log ++ then_number place ++ codes " " ++ wal_why_words why
wal_err_words (wal_err.FamilyAhead id log) = codes "FamilyAhead" ++ then_number id ++ then_number log
wal_err_words (wal_err.UnsupportedLog log what) = unsupported_log_words log what
wal_err_words wal_err.Memory = codes "Memory"

-- Why a database isn't opened. No definition gives the last two.
abbrev pub open_err_words : OpenErr → List ℕ
open_err_words open_err.NoCurrent = codes "NoCurrent"
open_err_words (open_err.BadCurrent why) = codes "BadCurrent " ++ current_fault_words why
open_err_words (open_err.NoManifest n) = codes "NoManifest" ++ then_number n
open_err_words (open_err.Manifest why) = manifest_fault_words why
open_err_words (open_err.MissingTable n) = codes "MissingTable" ++ then_number n
open_err_words (open_err.SizeMismatch n stated actual) = codes "SizeMismatch" ++ then_number n ++ then_number stated ++ then_number actual
open_err_words (open_err.DamagedTable n why place) = damaged_words n why place
open_err_words (open_err.UnsupportedTable n what) = unsupported_words n what
open_err_words (open_err.OutOfBounds n) = codes "OutOfBounds" ++ then_number n
open_err_words (open_err.MissingLog n) = codes "MissingLog" ++ then_number n
open_err_words (open_err.ShortLog n stated actual) = codes "ShortLog" ++ then_number n ++ then_number stated ++ then_number actual
open_err_words (open_err.Wal why) = wal_err_words why
open_err_words open_err.NoUsableManifest = codes "NoUsableManifest"
open_err_words open_err.DiskFault = codes "DiskFault"
open_err_words open_err.Memory = codes "Memory"

-- Why a directory isn't salvaged. No definition gives the last two.
abbrev pub survey_err_words : SurveyErr → List ℕ
survey_err_words (survey_err.NumbersExhausted greatest) = codes "NumbersExhausted" ++ then_number greatest
survey_err_words (survey_err.UnsupportedTable n what) = unsupported_words n what
survey_err_words (survey_err.UnsupportedLog n what) = unsupported_log_words n what
survey_err_words (survey_err.FamilyTooLarge id) = codes "FamilyTooLarge" ++ then_number id
survey_err_words survey_err.DiskFault = codes "DiskFault"
survey_err_words survey_err.Memory = codes "Memory"

-- a log that isn't there
abbrev pub no_log_words : ℕ → List ℕ
no_log_words n = codes "NoLog" ++ then_number n

-- a table that isn't there
abbrev pub no_table_words : ℕ → List ℕ
no_table_words n = codes "NoTable" ++ then_number n

-- a family that no live one is
abbrev pub no_family_words : List ℕ → List ℕ
no_family_words name = codes "NoFamily " ++ quoted false name

-- the text of a refusal
abbrev pub refused_words : List ℕ → List ℕ
refused_words why = codes "refused: " ++ why

-- the line of a refusal
abbrev pub refusal_line : List ℕ → List ℕ
refusal_line why = line (refused_words why)

-- ---- words that spell no command, and faults

-- the line that answers words that spell no command
abbrev pub usage_line : List ℕ
usage_line = line (codes "usage: scan get families manifest_dump dump_wal check repair sst drill")

-- the line that ends an output after a fault of the disk
abbrev pub disk_fault_line : List ℕ
disk_fault_line = line (codes "fault: disk")

-- the line that ends an output after want of memory
abbrev pub memory_fault_line : List ℕ
memory_fault_line = line (codes "fault: memory")

of_an_unsupported_end : item_line (codes "record") (end (end_kind.Unsupported 5) 40) ≡ line (codes "end 40 Unsupported 5")
unfolding digits
of_an_unsupported_end = refl

-- the space and `~` stand for themselves, their neighbours and `"` and `\` don't
of_bytes : quoted false (0x1F ∷ 0x20 ∷ 0x21 ∷ 0x22 ∷ 0x5C ∷ 0x7E ∷ 0x7F ∷ 0xFF ∷ []) ≡ codes "\"\\x1f !\\x22\\x5c~\\x7f\\xff\""
unfolding quoted encode_with
of_bytes = refl

in_hexadecimal : map (quoted true) ((0 ∷ 0xAB ∷ 0x22 ∷ []) ∷ [] ∷ []) ≡ codes "0x00ab22" ∷ codes "0x" ∷ []
unfolding quoted encode_with
in_hexadecimal = refl

of_an_internal_key : key_text false (0x61 ∷ 0x22 ∷ 0x10 ∷ 0x01 ∷ 0 ∷ 0 ∷ 0 ∷ 0 ∷ 0 ∷ 1 ∷ []) ≡ codes "\"a\\x22\"@281474976710657:16"
unfolding quoted encode_with digits
of_an_internal_key = refl

-- puts of `a`, `b` and `c` from sequence number 5 on, with the count that is stated
puts_from_five : ℕ → List ℕ
puts_from_five count =
    (5 ∷ 0 ∷ 0 ∷ 0 ∷ 0 ∷ 0 ∷ 0 ∷ 0 ∷ count ∷ 0 ∷ 0 ∷ 0 ∷ []) ++ (1 ∷ 1 ∷ codes "a") ++ (1 ∷ codes "1") ++ (1 ∷ 1 ∷ codes "b") ++ (1 ∷ codes "2")
    ++ (1 ∷ 1 ∷ codes "c") ++ (1 ∷ codes "3")

-- batches of three puts that state their count right and wrong, and of a deletion in a family
lines_of_batches : map (batch_lines false) (puts_from_five 3 ∷ puts_from_five 2 ∷ (1 ∷ 0 ∷ 0 ∷ 0 ∷ 0 ∷ 0 ∷ 0 ∷ 0 ∷ 1 ∷ 0 ∷ 0 ∷ 0 ∷ 4 ∷ 7 ∷ 1 ∷ codes "a") ∷ [])
    ≡ map line (codes "  batch 5 3" ∷ codes "  put 0 \"a\"@5 => \"1\"" ∷ codes "  put 0 \"b\"@6 => \"2\"" ∷ codes "  put 0 \"c\"@7 => \"3\"" ∷ [])
    ∷ map line (codes "  bad WrongCount 2 3" ∷ []) ∷ map line (codes "  batch 1 1" ∷ codes "  delete 7 \"a\"@1" ∷ []) ∷ []
unfolding batch_lines batch_of in_turn puts_from_five quoted encode_with digits
lines_of_batches = refl

-- every other part of a batch
lines_of_parts : map (part_line true) (change 12 (record { family = 3; key = codes "k"; sequence = 1; kind = Merge; value = codes "v" }) ∷ change 20 (record { family = 0; key = []; sequence = 2; kind = SingleDeletion; value = [] })
    ∷ change 30 (record { family = 0; key = codes "a"; sequence = 3; kind = RangeDeletion; value = codes "b" }) ∷ log_bytes 40 (codes "xy") ∷ noop 50 ∷ [])
    ≡ map line (codes "  merge 3 0x6b@1 => 0x76" ∷ codes "  single_delete 0 0x@2" ∷ codes "  range_delete 0 0x61@3 .. 0x62" ∷ codes "  log_bytes 2" ∷ codes "  noop" ∷ [])
unfolding quoted encode_with digits
lines_of_parts = refl

-- `a` at sequence 1, as a put
key_of_a : List ℕ
key_of_a = 0x61 ∷ 1 ∷ 1 ∷ 0 ∷ 0 ∷ 0 ∷ 0 ∷ 0 ∷ 0 ∷ []

-- an added file with its sequence numbers, a tag that is passed over, and one that isn't supported
lines_of_edits : map (edit_lines false) (((0x67 ∷ 0 ∷ 4 ∷ 0xE8 ∷ 7 ∷ 9 ∷ []) ++ key_of_a ++ 9 ∷ key_of_a ++ 1 ∷ 1 ∷ 1 ∷ []) ∷ (0x81 ∷ 0x40 ∷ 3 ∷ codes "abc") ∷ (0x66 ∷ []) ∷ [])
    ≡ map line (codes "  add_file 0 4 1000 \"a\"@1:1 \"a\"@1:1 seqs 1 1" ∷ []) ∷ map line (codes "  ignored 8193 3" ∷ []) ∷ map line (codes "  bad UnsupportedTag 102 0" ∷ []) ∷ []
unfolding edit_lines edit_fields in_turn after_customs key_of_a quoted encode_with digits
lines_of_edits = refl

-- every other field
lines_of_fields : map (field_words false) (comparator (codes "c") ∷ log_number 1 ∷ next_file 2 ∷ last_sequence 3 ∷ compact_cursor 4 key_of_a ∷ delete_file 5 6 ∷ previous_log 7 ∷ least_log 8 ∷ family 9
    ∷ family_add (codes "f") ∷ family_drop ∷ greatest_family 10 ∷ group 11 ∷ wal_add 12 None ∷ wal_add 13 (Some 14) ∷ wal_delete 15 ∷ [])
    ≡ codes "comparator \"c\"" ∷ codes "log_number 1" ∷ codes "next_file 2" ∷ codes "last_sequence 3" ∷ codes "compact_cursor 4 \"a\"@1:1" ∷ codes "delete_file 5 6" ∷ codes "previous_log 7" ∷ codes "least_log 8"
    ∷ codes "family 9" ∷ codes "family_add \"f\"" ∷ codes "family_drop" ∷ codes "greatest_family 10" ∷ codes "group 11" ∷ codes "wal_add 12" ∷ codes "wal_add 13 synced 14" ∷ codes "wal_delete 15" ∷ []
unfolding key_of_a quoted encode_with digits
lines_of_fields = refl

-- Wrappers aren't printed.
lines_of_refusals : map open_err_words (open_err.BadCurrent current_fault.NoNewline ∷ open_err.Manifest (manifest_fault.Damaged 7 (manifest_why.Gap gap_why.Checksum)) ∷ open_err.Manifest (manifest_fault.Damaged 7 (manifest_why.Unsupported 9))
    ∷ open_err.Manifest (manifest_fault.BadEdit 2 (edit_why.Read (edit_fault.BadField 103 5))) ∷ open_err.Manifest (manifest_fault.BadEdit 2 (edit_why.Apply (apply_fault.Overlap 1 3))) ∷ open_err.Manifest (manifest_fault.NoFields which.NextFile)
    ∷ open_err.DamagedTable 4 table_why.BadMagic 65 ∷ open_err.UnsupportedTable 4 (table_what.Compressed 1) ∷ open_err.UnsupportedTable 4 table_what.HashIndex ∷ open_err.ShortLog 3 48 47
    ∷ open_err.Wal (wal_err.Corrupt 3 0 (wal_why.Batch (batch_fault.WrongCount 2 3))) ∷ open_err.Wal (wal_err.Corrupt 5 76 wal_why.Torn) ∷ open_err.Wal (wal_err.UnsupportedLog 3 (log_what.RecordType 9)) ∷ open_err.Wal (wal_err.UnsupportedLog 3 (log_what.Tag 16)) ∷ [])
    ≡ codes "BadCurrent NoNewline" ∷ codes "ManifestDamaged 7 Checksum" ∷ codes "ManifestDamaged 7 Unsupported 9" ∷ codes "BadEdit 2 BadField 103 5" ∷ codes "BadEdit 2 Overlap 1 3" ∷ codes "NoFields NextFile"
    ∷ codes "DamagedTable 4 BadMagic 65" ∷ codes "UnsupportedTable 4 Compressed 1" ∷ codes "UnsupportedTable 4 HashIndex" ∷ codes "ShortLog 3 48 47"
    ∷ codes "Corrupt 3 0 WrongCount 2 3" ∷ codes "Corrupt 5 76 Torn" ∷ codes "UnsupportedLog 3 type 9" ∷ codes "UnsupportedLog 3 tag 16" ∷ []
unfolding digits
lines_of_refusals = refl

-- operands stand after the newest first, and a base may lack
lines_of_answers : map (answer_line false) (found (codes "1") ∷ absent ∷ merge (codes "z" ∷ codes "y" ∷ []) (Some (codes "x")) ∷ merge ([] ∷ []) None ∷ [])
    ≡ map line (codes "\"1\"" ∷ codes "not found" ∷ codes "merge \"z\" \"y\" base \"x\"" ∷ codes "merge \"\" base none" ∷ [])
unfolding quoted encode_with
lines_of_answers = refl
