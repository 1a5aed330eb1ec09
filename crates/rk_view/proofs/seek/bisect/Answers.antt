use Rattle.std.proofs.Common.{◌∙◌, sym, ap, not, arith}
use Rattle.std.specs.Ordering.{is_lt}
use Rattle.rk_bytes.specs.Model.Records.{slot_of}
use Rattle.rk_view.specs.Places.{is_from}
use Rattle.rk_view.proofs.SeekLemmas.{from_upward, before_all, after_all}
use Rattle.rk_view.proofs.seek.bisect.Goals as goal

pub loop-low-preserved-then-is_lt : goal.loop-low-preserved-then-is_lt
loop-low-preserved-then-is_lt c =
    let q = slot_of c.args.sought.now in
    let inv = c.loop-low.invariant in
    record {
      order = omega (arith, c.loop-low-test.true);
      bound = inv.bound;
      before = before_all (is_from q) (from_upward q) c.args.run.now c.requires.run.rises _ _ c.index-run-middle.result (omega (arith, c.loop-low-test.true, inv.bound)) c.index-run-middle.is (ap not (ap is_lt (sym c.cmp_slots.ensures) ∙ sym c.is_lt.ensures ∙ c.if-is_lt.true)) (omega arith);
      after = inv.after;
    }

pub loop-low-preserved : goal.loop-low-preserved
loop-low-preserved c =
    let q = slot_of c.args.sought.now in
    let inv = c.loop-low.invariant in
    record {
      order = omega arith;
      bound = omega (arith, c.loop-low-test.true, inv.bound);
      before = inv.before;
      after = after_all (is_from q) (from_upward q) c.args.run.now c.requires.run.rises _ _ c.index-run-middle.result (omega (arith, c.loop-low-test.true, inv.bound)) c.index-run-middle.is (ap not (ap is_lt (sym c.cmp_slots.ensures) ∙ sym c.is_lt.ensures ∙ c.if-is_lt.false)) (omega arith);
    }
