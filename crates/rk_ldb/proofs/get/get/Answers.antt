use Rattle.rk_bytes.specs.Model.DiskImages.{contents_told}
use Rattle.rk_bytes.specs.Model.Output.{Output}
use Rattle.rk_ldb.specs.Stops.{TookUpTo}
use Rattle.rk_ldb.proofs.Openings.{lines_of_opened, lines_of_refused}
use Rattle.std.specs.Option.{option_copied}
use Rattle.rk_bytes.specs.Model.Output.{state_of}
use Rattle.rk_view.specs.Kept.{Kept}
use Rattle.rk_ldb.specs.Commands.{told_key}
use Rattle.rk_ldb.specs.Views.{family_answer}
use Rattle.rk_ldb.proofs.get.get.Goals as goal

pub returns-in-Ok-clause-lines : goal.returns-in-Ok-clause-lines
returns-in-Ok-clause-lines g c =
    lines_of_opened (λ (kept : Kept). kept.state) (state_of c.args.how) (family_answer (told_key c.args.key) (option_copied c.args.family) c.args.hex) (λ (o : Output). TookUpTo (g.S.Sink.taken c.args.out.now) (g.S.Sink.taken c.get_of_family.new.out) o.lines c.get_of_family.result)
    (contents_told (g.D.Disk.told c.args.disk.now)) c.in-Ok.state c.in-Ok.ensures.state c.get_of_family.ensures.lines

pub returns-in_ok-refusal_of-in-Err-clause-lines : goal.returns-in_ok-refusal_of-in-Err-clause-lines
returns-in_ok-refusal_of-in-Err-clause-lines g c =
    lines_of_refused (λ (kept : Kept). kept.state) (state_of c.args.how) (family_answer (told_key c.args.key) (option_copied c.args.family) c.args.hex) (λ (o : Output). TookUpTo (g.S.Sink.taken c.args.out.now) (g.S.Sink.taken c.refuse.new.out) o.lines c.refuse.result)
    (contents_told (g.D.Disk.told c.args.disk.now)) c.in-Err.why c.in_ok-refusal_of-in-Err.field-0 c.in-Err.ensures.state c.in_ok-refusal_of-in-Err.ensures c.refuse.ensures.lines
