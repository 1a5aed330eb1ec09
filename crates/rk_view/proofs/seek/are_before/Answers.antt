use Rattle.std.proofs.Common.{◌∙◌, sym, ap, not, arith}
use Rattle.std.specs.Ordering.{is_lt}
use Rattle.rk_bytes.specs.Model.Records.{slot_of}
use Rattle.rk_view.specs.Places.{is_from}
use Rattle.rk_view.proofs.SeekLemmas.{from_upward, before_all}
use Rattle.rk_view.proofs.seek.are_before.Goals as goal

pub returns-then-count-run-clause-before : goal.returns-then-count-run-clause-before
returns-then-count-run-clause-before c = λ yes.
    let q = slot_of c.args.sought.now in
    before_all (is_from q) (from_upward q) c.args.run.now c.requires.rises _ c.args.count c.index-run-count.result (omega arith) c.index-run-count.is (ap not (ap is_lt (sym c.cmp_slots.ensures) ∙ sym c.is_lt.ensures ∙ yes)) (omega arith)
