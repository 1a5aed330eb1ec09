use Rattle.std.proofs.Common.{◌∙◌, sym, ap, not, arith}
use Rattle.std.specs.Ordering.{is_lt}
use Rattle.rk_bytes.specs.Model.Records.{slot_of}
use Rattle.rk_view.specs.Places.{is_from}
use Rattle.rk_view.proofs.SeekLemmas.{from_upward, before_all, after_all}
use Rattle.rk_view.proofs.seek.leaps.Goals as goal

pub returns-then-step-run-clause-before : goal.returns-then-step-run-clause-before
returns-then-step-run-clause-before c = λ yes.
    let q = slot_of c.args.sought.now in
    before_all (is_from q) (from_upward q) c.args.run.now c.requires.run.rises _ _ c.index-run-low.result (omega arith) c.index-run-low.is (ap not (ap is_lt (sym c.cmp_slots.ensures) ∙ sym c.is_lt.ensures ∙ yes)) (omega arith)

pub returns-then-step-run-clause-after : goal.returns-then-step-run-clause-after
returns-then-step-run-clause-after c = λ no.
    let q = slot_of c.args.sought.now in
    after_all (is_from q) (from_upward q) c.args.run.now c.requires.run.rises _ _ c.index-run-low.result (omega arith) c.index-run-low.is (ap not (ap is_lt (sym c.cmp_slots.ensures) ∙ sym c.is_lt.ensures ∙ no)) (omega arith)
