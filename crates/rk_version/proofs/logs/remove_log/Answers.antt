use Rattle.std.proofs.Common.{sym, subst, ◌∙◌}
use Rattle.rk_bytes.specs.declared.model.manifest.Tracked.{Tracked}
use Rattle.rk_version.specs.Places.{IsAt, IsFree}
use Rattle.rk_version.proofs.PlaceLemmas.{removed, none_removed}
use Rattle.rk_version.proofs.logs.remove_log.Goals as goal

pub returns-in-Ok : goal.returns-in-Ok
returns-in-Ok c =
    let logs = c.args.logs.now.items in
    let at = subst (λ logs. IsAt (λ (tracked : Tracked). tracked.log) c.args.log logs c.in-Ok.place) c.deref.ensures.value c.in-Ok.ensures in
    c.remove.ensures.items ∙ sym (removed (λ (tracked : Tracked). tracked.log) c.args.log c.in-Ok.place logs at)

pub returns-in_default : goal.returns-in_default
returns-in_default c =
    let logs = c.args.logs.now.items in
    let free = subst (λ logs. IsFree (λ (tracked : Tracked). tracked.log) c.args.log logs c.in_default.field-0) c.deref.ensures.value c.in_default.ensures in
    sym (none_removed (λ (tracked : Tracked). tracked.log) c.args.log c.in_default.field-0 logs free)
