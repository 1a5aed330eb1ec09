-- What a field does that is none of those that a loop looks for, and steps of such loops.
use Rattle.std.proofs.Common.{◌≡◌, ℕ, List, ◌∷◌, Option, refl, sym, subst, ◌∙◌, ap}
use Rattle.rk_bytes.specs.declared.model.manifest.Tracked.{Tracked}
use Rattle.rk_bytes.specs.Model.VersionEdit.{Field}
use Rattle.rk_bytes.specs.Model.Manifest.{track_field, tracked_after}
use Rattle.rk_edit.specs.Fields.{field_of}
use Rattle.rk_edit.specs.declared.fields.Field.{Field as LentField}
use Rattle.rk_edit.specs.declared.fields.Field.TheVariants.{Comparator, LogNumber, NextFile, LastSequence, CompactCursor, DeleteFile, AddFile, PreviousLog, LeastLog, Family, FamilyAdd, FamilyDrop, GreatestFamily, Group, WalAdd, WalDelete, Ignored}
use Rattle.rk_version.specs.Places.{Rises}
use Rattle.rk_version.proofs.VersionOrder.{order_field}

pub untracked : (field : LentField) (logs : List Tracked) → ((log : ℕ) (synced : Option ℕ) → field ≡ WalAdd log synced → ⊥) → ((log : ℕ) → field ≡ WalDelete log → ⊥) → track_field logs (field_of field) ≡ logs
untracked (Comparator name) logs no_add no_delete = refl
untracked (LogNumber n) logs no_add no_delete = refl
untracked (NextFile n) logs no_add no_delete = refl
untracked (LastSequence n) logs no_add no_delete = refl
untracked (CompactCursor level key) logs no_add no_delete = refl
untracked (DeleteFile level number) logs no_add no_delete = refl
untracked (AddFile file) logs no_add no_delete = refl
untracked (PreviousLog n) logs no_add no_delete = refl
untracked (LeastLog n) logs no_add no_delete = refl
untracked (Family id) logs no_add no_delete = refl
untracked (FamilyAdd name) logs no_add no_delete = refl
untracked FamilyDrop logs no_add no_delete = refl
untracked (GreatestFamily id) logs no_add no_delete = refl
untracked (Group n) logs no_add no_delete = refl
untracked (WalAdd log synced) logs no_add no_delete = absurd (no_add log synced refl)
untracked (WalDelete log) logs no_add no_delete = absurd (no_delete log refl)
untracked (Ignored tag bytes) logs no_add no_delete = refl

-- one more field of those that track logs
pub tracked_more : (field : Field) (left all : List Field) (now new first : List Tracked) → Rises (λ tracked. tracked.log) now × (tracked_after (field ∷ left) now ≡ tracked_after all first) → new ≡ track_field now field
    → Rises (λ tracked. tracked.log) new × (tracked_after left new ≡ tracked_after all first)
tracked_more field left all now new first so is =
    (subst (Rises (λ tracked. tracked.log)) (sym is) (order_field now field so.0), ap (tracked_after left) is ∙ so.1)
