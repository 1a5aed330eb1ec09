-- What is kept of an edit's fields, field by field.
use Rattle.std.proofs.Common.{◌≡◌, Bool, true, false, List, [], ◌∷◌}
use Rattle.std.specs.Prelude.{◌||◌}
use Rattle.std.specs.List.{list_any}
use Rattle.rk_bytes.specs.Model.VersionEdit.{Field, drops_family}
use Rattle.rk_edit.specs.Fields.{field_of}
use Rattle.rk_edit.specs.declared.fields.Field.{Field as LentField}
use Rattle.rk_edit.specs.declared.fields.Field.TheVariants.{Comparator, LogNumber, NextFile, LastSequence, CompactCursor, DeleteFile, AddFile, PreviousLog, LeastLog, Family, FamilyAdd, FamilyDrop, GreatestFamily, Group, WalAdd, WalDelete, Ignored}
use Rattle.rk_version.specs.Stated.{with_field, Continues, Tells}
use Rattle.rk_version.specs.declared.stated.Stated.{Stated}

dropped : (before later all : Bool) → (before || true) ≡ all → true ≡ all
dropped true later all e = e
dropped false later all e = e

last : (before all : Bool) → (before || false) ≡ all → before ≡ all
last true all e = e
last false all e = e

-- the next field is kept
pub one_more : (kept : Stated) (field : LentField) (left edit : List Field) → Continues kept (field_of field ∷ left) edit → Continues (with_field kept field) left edit
one_more kept (Comparator name) left edit so = record { comparator = so.comparator; log_number = so.log_number; next_file = so.next_file; last_sequence = so.last_sequence; least_log = so.least_log; family = so.family; family_add = so.family_add; drops_family = so.drops_family; greatest_family = so.greatest_family }
one_more kept (LogNumber n) left edit so = record { comparator = so.comparator; log_number = so.log_number; next_file = so.next_file; last_sequence = so.last_sequence; least_log = so.least_log; family = so.family; family_add = so.family_add; drops_family = so.drops_family; greatest_family = so.greatest_family }
one_more kept (NextFile n) left edit so = record { comparator = so.comparator; log_number = so.log_number; next_file = so.next_file; last_sequence = so.last_sequence; least_log = so.least_log; family = so.family; family_add = so.family_add; drops_family = so.drops_family; greatest_family = so.greatest_family }
one_more kept (LastSequence n) left edit so = record { comparator = so.comparator; log_number = so.log_number; next_file = so.next_file; last_sequence = so.last_sequence; least_log = so.least_log; family = so.family; family_add = so.family_add; drops_family = so.drops_family; greatest_family = so.greatest_family }
one_more kept (CompactCursor level key) left edit so = record { comparator = so.comparator; log_number = so.log_number; next_file = so.next_file; last_sequence = so.last_sequence; least_log = so.least_log; family = so.family; family_add = so.family_add; drops_family = so.drops_family; greatest_family = so.greatest_family }
one_more kept (DeleteFile level number) left edit so = record { comparator = so.comparator; log_number = so.log_number; next_file = so.next_file; last_sequence = so.last_sequence; least_log = so.least_log; family = so.family; family_add = so.family_add; drops_family = so.drops_family; greatest_family = so.greatest_family }
one_more kept (AddFile file) left edit so = record { comparator = so.comparator; log_number = so.log_number; next_file = so.next_file; last_sequence = so.last_sequence; least_log = so.least_log; family = so.family; family_add = so.family_add; drops_family = so.drops_family; greatest_family = so.greatest_family }
one_more kept (PreviousLog n) left edit so = record { comparator = so.comparator; log_number = so.log_number; next_file = so.next_file; last_sequence = so.last_sequence; least_log = so.least_log; family = so.family; family_add = so.family_add; drops_family = so.drops_family; greatest_family = so.greatest_family }
one_more kept (LeastLog n) left edit so = record { comparator = so.comparator; log_number = so.log_number; next_file = so.next_file; last_sequence = so.last_sequence; least_log = so.least_log; family = so.family; family_add = so.family_add; drops_family = so.drops_family; greatest_family = so.greatest_family }
one_more kept (Family id) left edit so = record { comparator = so.comparator; log_number = so.log_number; next_file = so.next_file; last_sequence = so.last_sequence; least_log = so.least_log; family = so.family; family_add = so.family_add; drops_family = so.drops_family; greatest_family = so.greatest_family }
one_more kept (FamilyAdd name) left edit so = record { comparator = so.comparator; log_number = so.log_number; next_file = so.next_file; last_sequence = so.last_sequence; least_log = so.least_log; family = so.family; family_add = so.family_add; drops_family = so.drops_family; greatest_family = so.greatest_family }
one_more kept (GreatestFamily id) left edit so = record { comparator = so.comparator; log_number = so.log_number; next_file = so.next_file; last_sequence = so.last_sequence; least_log = so.least_log; family = so.family; family_add = so.family_add; drops_family = so.drops_family; greatest_family = so.greatest_family }
one_more kept (Group n) left edit so = record { comparator = so.comparator; log_number = so.log_number; next_file = so.next_file; last_sequence = so.last_sequence; least_log = so.least_log; family = so.family; family_add = so.family_add; drops_family = so.drops_family; greatest_family = so.greatest_family }
one_more kept (WalAdd log synced) left edit so = record { comparator = so.comparator; log_number = so.log_number; next_file = so.next_file; last_sequence = so.last_sequence; least_log = so.least_log; family = so.family; family_add = so.family_add; drops_family = so.drops_family; greatest_family = so.greatest_family }
one_more kept (WalDelete log) left edit so = record { comparator = so.comparator; log_number = so.log_number; next_file = so.next_file; last_sequence = so.last_sequence; least_log = so.least_log; family = so.family; family_add = so.family_add; drops_family = so.drops_family; greatest_family = so.greatest_family }
one_more kept (Ignored tag bytes) left edit so = record { comparator = so.comparator; log_number = so.log_number; next_file = so.next_file; last_sequence = so.last_sequence; least_log = so.least_log; family = so.family; family_add = so.family_add; drops_family = so.drops_family; greatest_family = so.greatest_family }
one_more kept FamilyDrop left edit so = record { comparator = so.comparator; log_number = so.log_number; next_file = so.next_file; last_sequence = so.last_sequence; least_log = so.least_log; family = so.family; family_add = so.family_add; drops_family = dropped kept.drops_family (list_any drops_family left) (list_any drops_family edit) so.drops_family; greatest_family = so.greatest_family }

-- no field is left
pub all_kept : (kept : Stated) (edit : List Field) → Continues kept [] edit → Tells kept edit
all_kept kept edit so = record { comparator = so.comparator; log_number = so.log_number; next_file = so.next_file; last_sequence = so.last_sequence; least_log = so.least_log; family = so.family; family_add = so.family_add; drops_family = last kept.drops_family (list_any drops_family edit) so.drops_family; greatest_family = so.greatest_family }
