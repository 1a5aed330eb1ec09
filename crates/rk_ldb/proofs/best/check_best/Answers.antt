use Rattle.rk_bytes.specs.Model.BestEfforts.{best_directory}
use Rattle.rk_bytes.specs.Model.DiskImages.{contents_told}
use Rattle.rk_bytes.specs.Model.Output.{Output, written}
use Rattle.rk_open.specs.Best.{best_of}
use Rattle.rk_ldb.specs.Stops.{TookUpTo}
use Rattle.rk_ldb.specs.Views.{best_lines}
use Rattle.rk_ldb.proofs.Openings.{lines_of_opened, lines_of_refused}
use Rattle.rk_ldb.proofs.best.check_best.Goals as goal

pub returns-in-Ok-clause-lines : goal.returns-in-Ok-clause-lines
returns-in-Ok-clause-lines g c =
    lines_of_opened best_of best_directory (λ best. written (best_lines best)) (λ (o : Output). TookUpTo (g.S.Sink.taken c.args.out.now) (g.S.Sink.taken c.write_best.new.out) o.lines c.write_best.result)
    (contents_told (g.D.Disk.told c.args.disk.now)) c.in-Ok.best c.in-Ok.ensures.best c.write_best.ensures.lines

pub returns-in_ok-refusal_of-in-Err-clause-lines : goal.returns-in_ok-refusal_of-in-Err-clause-lines
returns-in_ok-refusal_of-in-Err-clause-lines g c =
    lines_of_refused best_of best_directory (λ best. written (best_lines best)) (λ (o : Output). TookUpTo (g.S.Sink.taken c.args.out.now) (g.S.Sink.taken c.refuse.new.out) o.lines c.refuse.result)
    (contents_told (g.D.Disk.told c.args.disk.now)) c.in-Err.why c.in_ok-refusal_of-in-Err.field-0 c.in-Err.ensures.best c.in_ok-refusal_of-in-Err.ensures c.refuse.ensures.lines
