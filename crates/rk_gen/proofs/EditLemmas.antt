-- An edit, field after field.
use Rattle.std.specs.Prelude.{flat_map}
use Rattle.std.proofs.Common.{◌≡◌, List, [], ◌∷◌, ◌++◌, sym, ap, ◌∙◌}
use Rattle.std.proofs.lemmas.Grind.{flat_map-append}
use Rattle.std.proofs.lemmas.List.{append-nil}
use Rattle.rk_bytes.specs.Model.VersionEdit.{Field}
use Rattle.rk_bytes.specs.Model.Writers.{field_bytes, edit_bytes}

pub edit_more : (fields : List Field) (field : Field) → flat_map field_bytes fields ++ field_bytes field ≡ edit_bytes (fields ++ field ∷ [])
unfolding edit_bytes
edit_more fields field =
    ap (λ last. flat_map field_bytes fields ++ last) (sym (append-nil (field_bytes field))) ∙ sym (flat_map-append field_bytes fields (field ∷ []))
