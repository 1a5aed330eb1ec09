-- The lines of the version edit that was read, and a text that is put part by part.
use Rattle.std.proofs.Common.{◌≡◌, ℕ, Bool, List, [], ◌∷◌, ◌++◌, map, sym, ap, ◌∙◌, append_assoc, Result, Ok, Err}
use Rattle.std.proofs.lemmas.List.{append-nil}
use Rattle.rk_bytes.specs.declared.model.edit.EditFault.{EditFault}
use Rattle.rk_bytes.specs.Model.VersionEdit.{Field, edit_fields}
use Rattle.rk_bytes.specs.Model.Lines.{inner_line, field_words, bad_line, edit_fault_words, edit_lines}
use Rattle.rk_bytes.specs.Model.Output.{joined}

abbrev lines_of : Bool → Result (List Field) EditFault → List (List ℕ)
lines_of hex read = elim read [
  | Ok fields ↦ map (λ field. inner_line (field_words hex field)) fields
  | Err why ↦ bad_line (edit_fault_words why) ∷ []
]

pub field_lines : (hex : Bool) (bytes : List ℕ) (fields : List Field) → Ok fields ≡ edit_fields bytes → joined (map (λ field. inner_line (field_words hex field)) fields) ≡ joined (edit_lines hex bytes)
unfolding edit_lines
field_lines hex bytes fields is = ap (λ read. joined (lines_of hex read)) is

pub bad_edit_lines : (hex : Bool) (bytes : List ℕ) (fault : EditFault) → Err fault ≡ edit_fields bytes → bad_line (edit_fault_words fault) ≡ joined (edit_lines hex bytes)
unfolding edit_lines
bad_edit_lines hex bytes fault is = sym (append-nil (bad_line (edit_fault_words fault))) ∙ ap (λ read. joined (lines_of hex read)) is

-- a text after which a part more is put, or two
pub then_put : (start text part line next : List ℕ) → line ≡ start ++ text → next ≡ line ++ part → next ≡ start ++ (text ++ part)
then_put start text part line next so_far put = put ∙ ap (λ line. line ++ part) so_far ∙ append_assoc start text part

pub then_both_put : (start text first second line next : List ℕ) → line ≡ start ++ text → next ≡ line ++ first ++ second → next ≡ start ++ (text ++ first ++ second)
then_both_put start text first second line next so_far put =
    put ∙ ap (λ line. line ++ first ++ second) so_far ∙ ap (λ line. line ++ second) (append_assoc start text first) ∙ append_assoc start (text ++ first) second
