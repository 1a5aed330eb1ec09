use Rattle.std.proofs.Common.{◌≡◌, ◌+◌, suc, Some, Ok, sym, ap, ◌∙◌, subst, arith}
use Rattle.rk_bytes.specs.Model.LogItems.{Item}
use Rattle.rk_log.specs.Items.{piece_bytes}
use Rattle.rk_manifest.specs.declared.reading.Reading.TheVariants.{Ended}
use Rattle.rk_manifest.specs.Fronts.{edits_in, joined}
use Rattle.rk_manifest.specs.Outcomes.{TakesItem}
use Rattle.rk_manifest.proofs.GroupLemmas.{may_not_join}
use Rattle.rk_manifest.proofs.LastLemmas.{takes_end, takes_fault}
use Rattle.rk_manifest.proofs.progress.Progress.take.Goals as goal

pub returns-in-Err-clause-outcome : goal.returns-in-Err-clause-outcome
returns-in-Err-clause-outcome c = takes_end c.args.self.now c.args.self.now.begun.left _ c.in-Err.fault c.args.self.now.begun.front.front c.in-Err.ensures

pub returns-in-Ok-join-clause-outcome : goal.returns-in-Ok-join-clause-outcome
returns-in-Ok-join-clause-outcome c =
    subst (λ (item : Item). TakesItem c.args.self.now item c.take_edit.result c.take_edit.new.self) (sym c.in-Ok.ensures.1) (c.take_edit.ensures.outcome c.in-Ok.ensures.0)

pub returns-in-Err-join-clause-outcome : goal.returns-in-Err-join-clause-outcome
returns-in-Err-join-clause-outcome c =
    let old = c.args.self.now in
    let number : suc old.applied.count ≡ c.count.result + 1 = omega (arith, c.count.ensures) in
    let is = ap (λ n. joined old.begun.left n (piece_bytes c.in-Ok.edit)) number ∙ ap (joined old.begun.left (c.count.result + 1)) (sym c.as_slice.ensures) ∙ sym c.join.ensures ∙ c.in-Err-join.is in
    let ends = may_not_join old.begun.left (suc old.applied.count) (edits_in old.begun.edits) (piece_bytes c.in-Ok.edit) c.in-Err-join.fault old.begun.front.front is in
    subst (λ (item : Item). TakesItem old item (Ok (Ended (Some c.in-Err-join.fault))) old) (sym c.in-Ok.ensures.1) (takes_fault old (piece_bytes c.in-Ok.edit) c.in-Ok.ensures.0 c.in-Err-join.fault ends)
