-- What an edit says of its family, field by field.
use Rattle.std.proofs.Common.{◌≡◌, Bool, true, false, List, [], ◌∷◌}
use Rattle.std.specs.Prelude.{◌||◌}
use Rattle.std.specs.List.{list_any}
use Rattle.rk_bytes.specs.Model.VersionEdit.{Field, drops_family}
use Rattle.rk_edit.specs.Fields.{field_of}
use Rattle.rk_edit.specs.declared.fields.Field.{Field as LentField}
use Rattle.rk_edit.specs.declared.fields.Field.TheVariants.{Comparator, LogNumber, NextFile, LastSequence, CompactCursor, DeleteFile, AddFile, PreviousLog, LeastLog, Family, FamilyAdd, FamilyDrop, GreatestFamily, Group, WalAdd, WalDelete, Ignored}
use Rattle.rk_points.specs.Aims.{with_field, Continues, Aims}
use Rattle.rk_points.specs.declared.aim.Aim.{Aim}

dropped : (before left all : Bool) → (before || (true || left)) ≡ all → (true || left) ≡ all
dropped true left all e = e
dropped false left all e = e

last : (before all : Bool) → (before || false) ≡ all → before ≡ all
last true all e = e
last false all e = e

pub one_more : (aim : Aim) (field : LentField) (left edit : List Field) → Continues aim (field_of field ∷ left) edit → Continues (with_field aim field) left edit
one_more aim (Family id) left edit so = record { family = so.family; drops = so.drops }
one_more aim FamilyDrop left edit so = record { family = so.family; drops = dropped aim.drops (list_any drops_family left) (list_any drops_family edit) so.drops }
one_more aim (Comparator name) left edit so = record { family = so.family; drops = so.drops }
one_more aim (LogNumber n) left edit so = record { family = so.family; drops = so.drops }
one_more aim (NextFile n) left edit so = record { family = so.family; drops = so.drops }
one_more aim (LastSequence n) left edit so = record { family = so.family; drops = so.drops }
one_more aim (CompactCursor level key) left edit so = record { family = so.family; drops = so.drops }
one_more aim (DeleteFile level number) left edit so = record { family = so.family; drops = so.drops }
one_more aim (AddFile file) left edit so = record { family = so.family; drops = so.drops }
one_more aim (PreviousLog n) left edit so = record { family = so.family; drops = so.drops }
one_more aim (LeastLog n) left edit so = record { family = so.family; drops = so.drops }
one_more aim (FamilyAdd name) left edit so = record { family = so.family; drops = so.drops }
one_more aim (GreatestFamily id) left edit so = record { family = so.family; drops = so.drops }
one_more aim (Group n) left edit so = record { family = so.family; drops = so.drops }
one_more aim (WalAdd log synced) left edit so = record { family = so.family; drops = so.drops }
one_more aim (WalDelete log) left edit so = record { family = so.family; drops = so.drops }
one_more aim (Ignored tag bytes) left edit so = record { family = so.family; drops = so.drops }

-- no field is left
pub all_known : (aim : Aim) (edit : List Field) → Continues aim [] edit → Aims aim edit
all_known aim edit so = record { family = so.family; drops = last aim.drops (list_any drops_family edit) so.drops }
