use Rattle.std.proofs.Common.{◌==◌, sym}
use Rattle.rk_version.proofs.PlaceLemmas.{any_at, any_free}
use Rattle.rk_version.proofs.files.has_file_at.Goals as goal

pub returns-in-Ok : goal.returns-in-Ok
returns-in-Ok c = sym (any_at (λ file. file.number) c.args.number (λ file. file.level == c.args.level) c.in-Ok.place c.args.files.now c.index-files-place.result c.in-Ok.ensures)

pub returns-in-Err : goal.returns-in-Err
returns-in-Err c = sym (any_free (λ file. file.number) c.args.number (λ file. file.level == c.args.level) c.in-Err.field-0 c.args.files.now c.in-Err.ensures)
