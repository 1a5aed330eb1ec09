use Rattle.rk_bytes.specs.Model.DiskImages.{contents_told}
use Rattle.rk_bytes.specs.Model.Output.{Output}
use Rattle.rk_ldb.specs.Stops.{TookUpTo}
use Rattle.rk_ldb.proofs.Openings.{lines_of_opened, lines_of_refused}
use Rattle.std.proofs.Common.{◌∷◌, []}
use Rattle.rk_bytes.specs.Model.Opening.{open_directory}
use Rattle.rk_bytes.specs.Model.Output.{written, counts_line}
use Rattle.rk_open.specs.Opened.{opened_of}
use Rattle.rk_ldb.proofs.check.check_in.Goals as goal

pub returns-in-Ok-clause-lines : goal.returns-in-Ok-clause-lines
returns-in-Ok-clause-lines g c =
    lines_of_opened opened_of (open_directory c.args.mode) (λ opened. written (counts_line opened.state ∷ [])) (λ (o : Output). TookUpTo (g.S.Sink.taken c.args.out.now) (g.S.Sink.taken c.write_counts.new.out) o.lines c.write_counts.result)
    (contents_told (g.D.Disk.told c.args.disk.now)) c.in-Ok.opened c.in-Ok.ensures.opened c.write_counts.ensures.lines

pub returns-in_ok-refusal_of-in-Err-clause-lines : goal.returns-in_ok-refusal_of-in-Err-clause-lines
returns-in_ok-refusal_of-in-Err-clause-lines g c =
    lines_of_refused opened_of (open_directory c.args.mode) (λ opened. written (counts_line opened.state ∷ [])) (λ (o : Output). TookUpTo (g.S.Sink.taken c.args.out.now) (g.S.Sink.taken c.refuse.new.out) o.lines c.refuse.result)
    (contents_told (g.D.Disk.told c.args.disk.now)) c.in-Err.why c.in_ok-refusal_of-in-Err.field-0 c.in-Err.ensures.opened c.in_ok-refusal_of-in-Err.ensures c.refuse.ensures.lines
