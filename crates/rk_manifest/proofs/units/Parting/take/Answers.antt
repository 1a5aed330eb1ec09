use Rattle.std.proofs.Common.{◌≡◌, ◌+◌, suc, length, Option, Some, Ok, sym, ap, ◌∙◌, subst, arith}
use Rattle.rk_bytes.specs.Model.LogItems.{Item}
use Rattle.rk_log.specs.Items.{piece_bytes}
use Rattle.rk_version.specs.declared.unit.Unit.{Unit as LentUnit}
use Rattle.rk_manifest.specs.declared.reading.Reading.TheVariants.{GoesOn, Ended}
use Rattle.rk_manifest.specs.Fronts.{edits_in, joined}
use Rattle.rk_manifest.specs.Groups.{TakesEdit}
use Rattle.rk_manifest.specs.Partings.{Parts}
use Rattle.rk_manifest.proofs.TakeLemmas.{ahead-none}
use Rattle.rk_manifest.proofs.GroupLemmas.{may_not_join}
use Rattle.rk_manifest.proofs.UnitLemmas.{parts_end, parts_unit}
use Rattle.rk_manifest.proofs.units.Parting.take.Goals as goal

pub returns-in-Err-clause-parts : goal.returns-in-Err-clause-parts
returns-in-Err-clause-parts c = λ items all parts.
    let old = c.args.self.now in
    let ends = c.in-Err.ensures in
    parts_end old _ all ends.ended c.in-Err.fault parts (ahead-none old.begun.left (edits_in old.begun.edits) _ ends.ended old.begun.front.front (ends.none items)) (ends.named (suc (length old.units)))

pub returns-in_ok-push-in-Ok-join-clause-parts : goal.returns-in_ok-push-in-Ok-join-clause-parts
returns-in_ok-push-in-Ok-join-clause-parts c =
    let old = c.args.self.now in
    let bytes = piece_bytes c.in-Ok.edit in
    let takes = subst (λ (unit : Option LentUnit). TakesEdit (edits_in old.begun.edits) bytes (Ok unit) (edits_in c.take.new.self.edits)) c.in-Some.is c.in_ok-unit-in-Ok-join.ensures in
    subst (λ (item : Item). Parts old item (Ok GoesOn) (record { units = c.push.new.self; begun = c.take.new.self })) (sym c.in-Ok.ensures.1)
    (λ items all parts. parts_unit old (record { units = c.push.new.self; begun = c.take.new.self }) bytes c.in-Ok.ensures.0 items all c.in-Some.unit parts takes c.in_ok-push-in-Ok-join.ensures.ok)

pub returns-in-Err-join-clause-parts : goal.returns-in-Err-join-clause-parts
returns-in-Err-join-clause-parts c =
    let old = c.args.self.now in
    let bytes = piece_bytes c.in-Ok.edit in
    let number : suc (length old.units) ≡ length c.as_slice.result.now + 1 = omega (arith, ap length c.as_slice.ensures) in
    let is = ap (λ n. joined old.begun.left n bytes) number ∙ ap (joined old.begun.left (length c.as_slice.result.now + 1)) (sym c.as_slice-2.ensures) ∙ sym c.join.ensures ∙ c.in-Err-join.is in
    let ends = may_not_join old.begun.left (suc (length old.units)) (edits_in old.begun.edits) bytes c.in-Err-join.fault old.begun.front.front is in
    subst (λ (item : Item). Parts old item (Ok (Ended (Some c.in-Err-join.fault))) old) (sym c.in-Ok.ensures.1)
    (λ items all parts. parts_end old _ all ends.ended (Some c.in-Err-join.fault) parts (ends.none c.in-Ok.ensures.0 items) ends.named)
