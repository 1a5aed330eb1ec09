use Rattle.std.proofs.Common.{subst, ◌∙◌}
use Rattle.rk_bytes.specs.declared.model.manifest.Tracked.{Tracked}
use Rattle.rk_version.specs.Places.{IsAt, IsFree}
use Rattle.rk_version.proofs.PlaceLemmas.{replaced, inserted}
use Rattle.rk_version.proofs.logs.put_log.Goals as goal

pub returns-in-Ok : goal.returns-in-Ok
returns-in-Ok c =
    let logs = c.args.logs.now.items in
    let at = subst (λ logs. IsAt (λ (tracked : Tracked). tracked.log) c.args.tracked.log logs c.in-Ok.place) c.deref.ensures.value c.in-Ok.ensures in
    replaced (λ (tracked : Tracked). tracked.log) c.args.tracked.log c.in-Ok.place logs c.args.tracked at

pub returns-in_ok-insert-in-Err : goal.returns-in_ok-insert-in-Err
returns-in_ok-insert-in-Err c =
    let logs = c.args.logs.now.items in
    let free = subst (λ logs. IsFree (λ (tracked : Tracked). tracked.log) c.args.tracked.log logs c.in-Err.place) c.deref.ensures.value c.in-Err.ensures in
    c.in_ok-insert-in-Err.ensures.items ∙ inserted (λ (tracked : Tracked). tracked.log) c.args.tracked.log c.in-Err.place logs c.args.tracked free
