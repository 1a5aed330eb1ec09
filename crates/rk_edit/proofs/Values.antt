-- The value of a field, by its tag.
use Rattle.std.specs.Prelude.{◌==◌}
use Rattle.std.proofs.Common.{◌≡◌, ℕ, Bool, true, false, cond, List, Option, Some, None, Result, Ok, Err, refl, sym, ◌∙◌}
use Rattle.std.proofs.lemmas.Bool.{cond-false, ne_eqb}
use Rattle.rk_bytes.specs.declared.model.edit.EditFault.{EditFault}
use Rattle.rk_bytes.specs.declared.model.edit.EditFault.TheVariants.{UnknownTag, BadField}
use Rattle.rk_bytes.specs.Model.Numbers.{Read, prefixed_at, reads_or}
use Rattle.rk_bytes.specs.Model.VersionEdit.{Field, ignored, reads, value_reader, is_unsupported_edit_tag, is_passed_over, field_of_tag}
use Rattle.rk_edit.specs.Read.{some_field, known_at}

-- a field that was read or not, as an edit has it
abbrev pub settled : ℕ → ℕ → Read (Option Field) → Result (Field × List ℕ) EditFault
settled place tag (Ok one) = elim one.0 [ Some field ↦ Ok (field, one.1) | None ↦ Err (UnknownTag tag place) ]
settled place tag (Err fault) = Err (BadField tag place)

settled-some : (place tag : ℕ) (read : Read Field) → settled place tag (some_field read) ≡ reads_or (BadField tag place) read
settled-some place tag (Ok one) = refl
settled-some place tag (Err fault) = refl

-- the field with a tag that is neither that of a file with custom fields nor refused
pub settled-known : (place tag : ℕ) (bytes : List ℕ) → (tag ≡ 103 → ⊥) → is_unsupported_edit_tag tag ≡ false → settled place tag (known_at tag bytes) ≡ field_of_tag place tag bytes
settled-known place tag bytes custom supported =
    by (is_passed_over tag) (value_reader tag) ∙ sym (cond-false (tag == 103) _ _ (ne_eqb tag 103 custom) ∙ cond-false (is_unsupported_edit_tag tag) _ _ supported)
  where
    by : (passed : Bool) (found : Option (List ℕ → Read Field))
        → settled place tag (cond passed (some_field (reads (ignored tag) prefixed_at bytes)) (elim found as (λ found. Read (Option Field)) [ Some value_at ↦ some_field (value_at bytes) | None ↦ Ok (None, bytes) ]))
        ≡ cond passed (reads_or (BadField tag place) (reads (ignored tag) prefixed_at bytes)) (elim found as (λ found. Result (Field × List ℕ) EditFault) [ Some value_at ↦ reads_or (BadField tag place) (value_at bytes) | None ↦ Err (UnknownTag tag place) ])
    by true found = settled-some place tag (reads (ignored tag) prefixed_at bytes)
    by false (Some read) = settled-some place tag (read bytes)
    by false None = refl
