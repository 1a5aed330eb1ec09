use Rattle.std.proofs.Common.{ℕ, sym, subst}
use Rattle.rk_bytes.specs.Model.DiskImages.{Rose}
use Rattle.rk_bytes.specs.Model.Lines.{disk_fault_line}
use Rattle.rk_ldb.specs.Answers.{TookPart}
use Rattle.rk_ldb.proofs.Faults.{TookPart-whole}
use Rattle.rk_ldb.proofs.program.end_after_disk_fault.Goals as goal

pub returns-in-Ok-clause-line : goal.returns-in-Ok-clause-line
returns-in-Ok-clause-line g c = λ is.
    let before = g.S.Sink.taken c.args.out.now in
    let cause = λ (len : ℕ). Rose (g.S.Sink.faults c.args.out.now) (g.S.Sink.faults c.flush.new.self) in
    subst (λ taken. TookPart before taken disk_fault_line cause) (sym c.flush.ensures.taken) (TookPart-whole before (g.S.Sink.taken c.write-written.new.self) disk_fault_line cause c.in-Ok.ensures.ok)
