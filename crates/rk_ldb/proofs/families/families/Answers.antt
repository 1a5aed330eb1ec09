use Rattle.std.proofs.Common.{List, map, Ok, Err, sym, ap, ◌∙◌, subst}
use Rattle.std.proofs.lemmas.Result.{err_from_is_err_and}
use Rattle.rk_bytes.specs.declared.model.manifest.FamilyState.{FamilyState}
use Rattle.rk_bytes.specs.declared.model.manifest.Version.{Version}
use Rattle.rk_bytes.specs.declared.model.status.Status.{Status}
use Rattle.rk_bytes.specs.declared.model.status.Status.TheVariants.{Done}
use Rattle.rk_bytes.specs.Model.DiskImages.{contents_told}
use Rattle.rk_bytes.specs.Model.Lines.{families_line}
use Rattle.rk_bytes.specs.Model.Output.{Output, Took, joined, written, manifest_version}
use Rattle.rk_ldb.specs.Stops.{TookUpTo}
use Rattle.rk_ldb.proofs.Openings.{lines_of_found, lines_of_unopened}
use Rattle.rk_ldb.proofs.Taken.{TookUpTo-stop}
use Rattle.rk_ldb.proofs.families.families.Goals as goal

live_lines : Version → Output
live_lines version = written (map families_line version.families)

pub returns-in_err-write_shown-in-Ok-clause-lines : goal.returns-in_err-write_shown-in-Ok-clause-lines
unfolding live_lines
returns-in_err-write_shown-in-Ok-clause-lines g c =
    let before = g.S.Sink.taken c.args.out.now in
    let now = g.S.Sink.taken c.write_shown.new.out in
    let stop = c.in_err-write_shown-in-Ok.field-0.0 in
    let stopped = err_from_is_err_and c.from_residual.result c.from_residual.ensures.1 in
    let took = subst (λ (families : List FamilyState). TookUpTo {T = Unit {0}} before now (map families_line families) (Err stop)) c.as_slice.ensures c.in_err-write_shown-in-Ok.ensures.lines in
    lines_of_found manifest_version live_lines (λ (o : Output). TookUpTo before now o.lines c.from_residual.result) (contents_told (g.D.Disk.told c.args.disk.now)) c.in-Ok.version c.in-Ok.ensures.version
    (subst (TookUpTo before now (live_lines c.in-Ok.version).lines) (sym (stopped.1 ∙ ap Err stopped.2)) (TookUpTo-stop (Unit {0}) Status before now (live_lines c.in-Ok.version).lines stop took))

pub returns-in_ok-write_shown-in-Ok-clause-lines : goal.returns-in_ok-write_shown-in-Ok-clause-lines
unfolding live_lines
returns-in_ok-write_shown-in-Ok-clause-lines g c =
    let before = g.S.Sink.taken c.args.out.now in
    let now = g.S.Sink.taken c.write_shown.new.out in
    lines_of_found manifest_version live_lines (λ (o : Output). TookUpTo before now o.lines (Ok Done)) (contents_told (g.D.Disk.told c.args.disk.now)) c.in-Ok.version c.in-Ok.ensures.version
    (subst (λ (families : List FamilyState). Took before now (joined (map families_line families))) c.as_slice.ensures c.in_ok-write_shown-in-Ok.ensures.lines)

pub returns-in_ok-refusal_of-in-Err-clause-lines : goal.returns-in_ok-refusal_of-in-Err-clause-lines
unfolding live_lines
returns-in_ok-refusal_of-in-Err-clause-lines g c =
    lines_of_unopened manifest_version live_lines (λ (o : Output). TookUpTo (g.S.Sink.taken c.args.out.now) (g.S.Sink.taken c.refuse.new.out) o.lines c.refuse.result) (contents_told (g.D.Disk.told c.args.disk.now))
    c.in-Err.why c.in_ok-refusal_of-in-Err.field-0 c.in-Err.ensures.version c.in_ok-refusal_of-in-Err.ensures c.refuse.ensures.lines
