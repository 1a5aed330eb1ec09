use Rattle.std.proofs.Common.{get_or, ap}
use Rattle.rk_bytes.specs.Model.Opening.{of_family}
use Rattle.rk_open.proofs.KeptLemmas.{changed_more}
use Rattle.rk_open.proofs.read.set_family.Goals as goal

pub loop-record-preserved : goal.loop-record-preserved
loop-record-preserved c =
    let records = c.loop-record.records in
    let i = c.loop-record.record-index in
    changed_more (of_family c.args.family) c.args.records.now records i (get_or records i c.record-item.result) c.loop-record-test.true c.loop-record.invariant (ap (get_or records i) c.record-item.is)
