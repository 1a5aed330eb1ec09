use Rattle.rk_bytes.specs.Model.DiskImages.{Directory}
use Rattle.std.proofs.Common.{subst}
use Rattle.rk_ldb.specs.Drills.{drill_lines}
use Rattle.rk_ldb.specs.Stops.{TookUpTo}
use Rattle.rk_ldb.proofs.drill.drill.Goals as goal

pub returns-clause-lines : goal.returns-clause-lines
returns-clause-lines g c =
    subst (λ (d : Directory). TookUpTo (g.S.Sink.taken c.args.out.now) (g.S.Sink.taken c.write_drill.new.out) (drill_lines c.args.number d) c.write_drill.result) c.in_ok-disk.ensures c.write_drill.ensures.lines
