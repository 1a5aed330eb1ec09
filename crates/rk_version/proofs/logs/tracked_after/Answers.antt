use Rattle.std.proofs.Common.{sym, ap, ◌∙◌}
use Rattle.rk_bytes.specs.Model.Manifest.{track_field}
use Rattle.rk_edit.specs.Fields.{field_of}
use Rattle.rk_version.proofs.FieldLemmas.{untracked, tracked_more}
use Rattle.rk_version.proofs.logs.tracked_after.Goals as goal

pub loop-field-preserved : goal.loop-field-preserved
loop-field-preserved c =
    tracked_more (field_of c.in-Some.field) c.next_field.new.self c.args.view c.loop-field.logs.items c.loop-field.logs.items c.args.logs (rw c.in-Some.ensures.given at c.loop-field.invariant)
    (sym (untracked c.in-Some.field c.loop-field.logs.items c.in_default-field.not-WalAdd c.in_default-field.not-WalDelete))

pub loop-field-preserved-in-Continue-1 : goal.loop-field-preserved-in-Continue-1
loop-field-preserved-in-Continue-1 c =
    tracked_more (field_of c.in-Some.field) c.next_field.new.self c.args.view c.loop-field.logs.items c.track.new.logs.items c.args.logs (rw c.in-Some.ensures.given at c.loop-field.invariant)
    (c.in_ok-track-in-WalAdd.ensures ∙ ap (λ field. track_field c.loop-field.logs.items (field_of field)) (sym c.in-WalAdd.is))

pub loop-field-preserved-in-WalDelete : goal.loop-field-preserved-in-WalDelete
loop-field-preserved-in-WalDelete c =
    tracked_more (field_of c.in-Some.field) c.next_field.new.self c.args.view c.loop-field.logs.items c.untrack.new.logs.items c.args.logs (rw c.in-Some.ensures.given at c.loop-field.invariant)
    (c.untrack.ensures ∙ ap (λ field. track_field c.loop-field.logs.items (field_of field)) (sym c.in-WalDelete.is))
