use Rattle.std.proofs.Common.{ap}
use Rattle.std.proofs.lemmas.Result.{err_from_is_err_and}
use Rattle.rk_bytes.specs.Model.VersionEdit.{added_in}
use Rattle.rk_bytes.specs.Model.Manifest.{add_step}
use Rattle.rk_edit.specs.Fields.{field_of, new_file}
use Rattle.rk_version.proofs.StepLemmas.{one_step, bad_step, last_step}
use Rattle.rk_version.proofs.step.add_files.Goals as goal

pub returns-in_err-draft : goal.returns-in_err-draft
returns-in_err-draft c =
    let told = err_from_is_err_and c.from_residual.result c.from_residual.ensures.1 in
    rw (told.1, told.2) (λ why_not. bad_step (add_step c.args.id) added_in (field_of c.in-Some.field) c.next_field.new.self (new_file c.in-AddFile.file) c.loop-field.draft _ _
    (ap (λ field. added_in (field_of field)) c.in-AddFile.is) (c.in_err-draft.ensures why_not) (rw c.in-Some.ensures.given at c.loop-field.invariant))

pub loop-field-preserved-in-AddFile : goal.loop-field-preserved-in-AddFile
loop-field-preserved-in-AddFile c =
    one_step (add_step c.args.id) added_in (field_of c.in-Some.field) c.next_field.new.self (new_file c.in-AddFile.file) c.loop-field.draft c.in_ok-draft.draft _
    (ap (λ field. added_in (field_of field)) c.in-AddFile.is) c.in_ok-draft.ensures (rw c.in-Some.ensures.given at c.loop-field.invariant)

pub returns : goal.returns
returns c = last_step (add_step c.args.id) added_in c.loop-field.view c.loop-field.draft _ c.in_default.ensures.none.0 c.loop-field.invariant
