use Rattle.std.proofs.Common.{ℕ, Result, subst}
use Rattle.std.specs.Prelude.{IfSome}
use Rattle.std.specs.FinMap.{get}
use Rattle.rk_bytes.specs.declared.model.open.OpenErr.{OpenErr}
use Rattle.rk_bytes.specs.declared.model.open.OpenErr.TheVariants.{NoManifest}
use Rattle.rk_bytes.specs.Model.DiskImages.{contents_told}
use Rattle.rk_bytes.specs.Model.FileNames.{manifest_name}
use Rattle.rk_bytes.specs.Model.Opening.{named_manifest}
use Rattle.rk_bytes.specs.Model.Output.{Output}
use Rattle.rk_open.specs.Answers.{Answers}
use Rattle.rk_ldb.specs.declared.refusal.Refusal.TheVariants.{Open}
use Rattle.rk_ldb.specs.Refusals.{words_of}
use Rattle.rk_ldb.specs.Stops.{TookUpTo}
use Rattle.rk_ldb.specs.Wrote.{file_output}
use Rattle.rk_ldb.proofs.ManifestDumps.{edits, lines_of_named, lines_of_refused}
use Rattle.rk_ldb.proofs.manifest_dump.manifest_dump.Goals as goal

pub returns-in-Ok-clause-lines : goal.returns-in-Ok-clause-lines
returns-in-Ok-clause-lines g c =
    let told = g.D.Disk.told c.args.disk.now in
    let P : Output → Type 0 = λ o. TookUpTo (g.S.Sink.taken c.args.out.now) (g.S.Sink.taken c.dump_file.new.out) o.lines c.dump_file.result in
    lines_of_named (contents_told told) c.args.hex c.in-Ok.number P
    (subst (λ (named : Result ℕ OpenErr). IfSome (contents_told told) (λ d. Answers (named_manifest (get d)) named)) c.in-Ok.is c.named_manifest.ensures.named)
    (subst (λ told. IfSome (contents_told told) (λ d. P (file_output (words_of (Open (NoManifest c.in-Ok.number))) (edits c.args.hex) 0 (get d (manifest_name c.in-Ok.number))))) c.named_manifest.ensures.left c.dump_file.ensures.lines)

pub returns-in_ok-refusal_of-in-Err-clause-lines : goal.returns-in_ok-refusal_of-in-Err-clause-lines
returns-in_ok-refusal_of-in-Err-clause-lines g c =
    let told = g.D.Disk.told c.args.disk.now in
    lines_of_refused (contents_told told) c.args.hex c.in-Err.why c.in_ok-refusal_of-in-Err.field-0 (λ (o : Output). TookUpTo (g.S.Sink.taken c.args.out.now) (g.S.Sink.taken c.refuse.new.out) o.lines c.refuse.result)
    c.in-Err.ensures.named c.in_ok-refusal_of-in-Err.ensures c.refuse.ensures.lines
