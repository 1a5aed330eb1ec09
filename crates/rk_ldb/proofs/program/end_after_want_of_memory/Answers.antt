use Rattle.rk_bytes.specs.Model.Lines.{memory_fault_line}
use Rattle.rk_ldb.proofs.Faults.{TookPart-tried, Counts-rise}
use Rattle.rk_ldb.proofs.program.end_after_want_of_memory.Goals as goal

pub returns-clause-line : goal.returns-clause-line
returns-clause-line g c =
    let w = c.write.ensures in
    let between = g.S.Sink.faults c.write.new.self in
    let after = g.S.Sink.faults c.flush.new.self in
    TookPart-tried (g.S.Sink.taken c.args.out.now) (g.S.Sink.taken c.write.new.self) (g.S.Sink.taken c.flush.new.self) memory_fault_line (g.S.Sink.faults c.args.out.now) between after c.write.result w.ok w.failed w.memory w.faults
    c.flush.ensures.taken (Counts-rise _ between after c.flush.ensures.faults)
