-- The lines of a version edit.
use Rattle.std.proofs.Common.{◌≡◌, ℕ, Bool, List, [], ◌∷◌, map, Result, Ok, Err, refl, sym, ap, ◌∙◌}
use Rattle.rk_bytes.specs.declared.model.edit.EditFault.{EditFault}
use Rattle.rk_bytes.specs.Model.VersionEdit.{Field, edit_fields}
use Rattle.rk_bytes.specs.Model.Lines.{bad_line, edit_fault_words, edit_lines}
use Rattle.rk_ldb.specs.Wrote.{field_line}

abbrev lines_of : Bool → Result (List Field) EditFault → List (List ℕ)
lines_of hex (Ok fields) = map (field_line hex) fields
lines_of hex (Err why) = bad_line (edit_fault_words why) ∷ []

pub lines_of_edit : (hex : Bool) (payload : List ℕ) (read : Result (List Field) EditFault) → read ≡ edit_fields payload → edit_lines hex payload ≡ lines_of hex read
unfolding edit_lines
lines_of_edit hex payload read is = by (edit_fields payload) ∙ ap (lines_of hex) (sym is)
  where
    by : (read : Result (List Field) EditFault) → elim read [ Ok fields ↦ map (field_line hex) fields | Err why ↦ bad_line (edit_fault_words why) ∷ [] ] ≡ lines_of hex read
    by (Ok fields) = refl
    by (Err why) = refl
