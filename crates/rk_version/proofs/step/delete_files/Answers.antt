use Rattle.std.proofs.Common.{ap}
use Rattle.std.proofs.lemmas.Result.{err_from_is_err_and}
use Rattle.rk_bytes.specs.Model.VersionEdit.{deleted_in}
use Rattle.rk_bytes.specs.Model.Manifest.{delete_step}
use Rattle.rk_edit.specs.Fields.{field_of}
use Rattle.rk_version.proofs.StepLemmas.{one_step, bad_step, last_step}
use Rattle.rk_version.proofs.step.delete_files.Goals as goal

pub returns-in_err-draft : goal.returns-in_err-draft
returns-in_err-draft c =
    let told = err_from_is_err_and c.from_residual.result c.from_residual.ensures.1 in
    rw (told.1, told.2) (λ why_not. bad_step (delete_step c.args.id) deleted_in (field_of c.in-Some.field) c.next_field.new.self (c.in-DeleteFile.level, c.in-DeleteFile.number) c.loop-field.draft _ _
    (ap (λ field. deleted_in (field_of field)) c.in-DeleteFile.is) (c.in_err-draft.ensures why_not) (rw c.in-Some.ensures.given at c.loop-field.invariant))

pub loop-field-preserved-in-DeleteFile : goal.loop-field-preserved-in-DeleteFile
loop-field-preserved-in-DeleteFile c =
    one_step (delete_step c.args.id) deleted_in (field_of c.in-Some.field) c.next_field.new.self (c.in-DeleteFile.level, c.in-DeleteFile.number) c.loop-field.draft c.in_ok-draft.draft _
    (ap (λ field. deleted_in (field_of field)) c.in-DeleteFile.is) c.in_ok-draft.ensures (rw c.in-Some.ensures.given at c.loop-field.invariant)

pub returns : goal.returns
returns c = last_step (delete_step c.args.id) deleted_in c.loop-field.view c.loop-field.draft _ c.in_default.ensures.none.0 c.loop-field.invariant
