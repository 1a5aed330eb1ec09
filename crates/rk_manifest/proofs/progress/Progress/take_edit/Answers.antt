use Rattle.std.proofs.Common.{Option, Ok, Err, subst}
use Rattle.rk_log.specs.Items.{piece_bytes}
use Rattle.rk_version.specs.declared.unit.Unit.{Unit as LentUnit}
use Rattle.rk_manifest.specs.declared.error.ManifestErr.{ManifestErr}
use Rattle.rk_manifest.specs.Fronts.{edits_in}
use Rattle.rk_manifest.specs.Groups.{TakesEdit}
use Rattle.rk_manifest.specs.Last.{AppliesTo}
use Rattle.rk_manifest.proofs.UnitLemmas.{reads_of}
use Rattle.rk_manifest.proofs.LastLemmas.{takes_unit, takes_refused}
use Rattle.rk_manifest.proofs.progress.Progress.take_edit.Goals as goal

pub apply-requires-clause-reads : goal.apply-requires-clause-reads
apply-requires-clause-reads c =
    let takes = subst (λ (unit : Option LentUnit). TakesEdit (edits_in c.args.self.now.begun.edits) (piece_bytes c.args.edit) (Ok unit) (edits_in c.take_lent.new.self.edits)) c.in-Some.is c.in_ok-unit.ensures in
    reads_of c.in-Some.unit takes.0 takes.1

pub returns-in-Ok-clause-outcome : goal.returns-in-Ok-clause-outcome
returns-in-Ok-clause-outcome c =
    let takes = subst (λ (unit : Option LentUnit). TakesEdit (edits_in c.args.self.now.begun.edits) (piece_bytes c.args.edit) (Ok unit) (edits_in c.take_lent.new.self.edits)) c.in-Some.is c.in_ok-unit.ensures in
    λ place. takes_unit c.args.self.now (record { applied = c.apply.new.self; begun = c.take_lent.new.self }) (piece_bytes c.args.edit) place c.in-Some.unit takes (c.in-Ok.ensures.applies takes.0 takes.1)

pub returns-in-Err-Fault-clause-outcome : goal.returns-in-Err-Fault-clause-outcome
returns-in-Err-Fault-clause-outcome c =
    let takes = subst (λ (unit : Option LentUnit). TakesEdit (edits_in c.args.self.now.begun.edits) (piece_bytes c.args.edit) (Ok unit) (edits_in c.take_lent.new.self.edits)) c.in-Some.is c.in_ok-unit.ensures in
    let refused = subst (λ (error : ManifestErr). AppliesTo takes.0 c.args.self.now.applied (Err error) c.apply.new.self) c.in-Err-Fault.field-0-is (c.in-Err-Fault.ensures.applies takes.0 takes.1) in
    λ place. takes_refused c.args.self.now (record { applied = c.apply.new.self; begun = c.take_lent.new.self }) (piece_bytes c.args.edit) place c.in-Some.unit c.in-Err-Fault.fault takes refused
