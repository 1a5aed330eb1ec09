use Rattle.std.proofs.Common.{sym}
use Rattle.rk_bytes.specs.declared.model.manifest.Tracked.{Tracked}
use Rattle.rk_version.proofs.PlaceLemmas.{front_of_found, front_at}
use Rattle.rk_version.proofs.logs.logs_below.Goals as goal

pub returns-in-Ok : goal.returns-in-Ok
returns-in-Ok c = sym (front_of_found (λ (tracked : Tracked). tracked.log) c.args.least c.in-Ok.place c.args.logs.now c.in-Ok.ensures)

pub returns-in-Err : goal.returns-in-Err
returns-in-Err c = sym (front_at (λ (tracked : Tracked). tracked.log) c.args.least c.in-Err.place c.args.logs.now c.in-Err.ensures)
