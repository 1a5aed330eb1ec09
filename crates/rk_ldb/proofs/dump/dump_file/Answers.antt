use Rattle.std.proofs.Common.{◌≡◌, length, Some, Err, sym, ap, ◌∙◌, subst}
use Rattle.std.specs.Prelude.{IfSome, option_map}
use Rattle.std.specs.FinMap.{get}
use Rattle.std.proofs.lemmas.Result.{err_from_is_err_and}
use Rattle.rk_bytes.specs.declared.model.status.Status.{Status}
use Rattle.rk_bytes.specs.Model.DiskImages.{contents_told}
use Rattle.rk_bytes.specs.Model.FileNames.{printed_name}
use Rattle.rk_bytes.specs.Model.LogItems.{log_items}
use Rattle.rk_bytes.specs.Model.Output.{Output}
use Rattle.rk_ldb.specs.Refusals.{words_of}
use Rattle.rk_ldb.specs.Stops.{TookUpTo}
use Rattle.rk_ldb.specs.Wrote.{dump_lines}
use Rattle.rk_disk.specs.Parts.{OfFile}
use Rattle.rk_disk.proofs.Callers.{OfFile-with}
use Rattle.rk_ldb.proofs.Dumps.{found_file}
use Rattle.rk_ldb.proofs.Taken.{TookUpTo-stop}
use Rattle.rk_ldb.proofs.dump.dump_file.Goals as goal

pub returns-in_err-write_file-in-Some-clause-lines : goal.returns-in_err-write_file-in-Some-clause-lines
returns-in_err-write_file-in-Some-clause-lines g c =
    let told = g.D.Disk.told c.args.disk.now in
    let from = g.S.Sink.taken c.args.out.now in
    let now = g.S.Sink.taken c.write_file.new.out in
    let name = c.as_str-in-Some.result.now in
    let stop = c.in_err-write_file-in-Some.field-0.0 in
    let answer = c.from_residual-in_err-write_file-in-Some.result in
    let stopped = err_from_is_err_and answer c.from_residual-in_err-write_file-in-Some.ensures.1 in
    let sized = subst (λ name. IfSome (contents_told told) (λ files. Some c.in-Some.size ≡ option_map length (get files name))) (c.as_str.ensures ∙ sym c.as_str-in-Some.ensures)
    (subst (λ size. IfSome (contents_told told) (λ files. size ≡ option_map length (get files c.as_str.result.now))) c.in-Some.is c.in_ok-size.ensures.size) in
    let lines = subst (λ told. OfFile told name c.in-Some.size (λ bytes. TookUpTo {T = Unit {0}} from now (dump_lines c.args.form (log_items c.args.number bytes)) (Err stop))) c.in_ok-size.ensures.left
    c.in_err-write_file-in-Some.ensures.lines in
    found_file told (words_of c.args.absent) c.args.form c.args.number c.in-Some.size name (printed_name c.args.name) (λ (o : Output). TookUpTo from now o.lines answer) (c.as_str-in-Some.ensures ∙ c.in_ok-name.ensures.printed) sized
    (OfFile-with told name c.in-Some.size (λ bytes. TookUpTo {T = Unit {0}} from now (dump_lines c.args.form (log_items c.args.number bytes)) (Err stop))
    (λ bytes. TookUpTo from now (dump_lines c.args.form (log_items c.args.number bytes)) answer)
    (λ bytes took. subst (TookUpTo from now (dump_lines c.args.form (log_items c.args.number bytes))) (sym (stopped.1 ∙ ap Err stopped.2))
    (TookUpTo-stop (Unit {0}) Status from now (dump_lines c.args.form (log_items c.args.number bytes)) stop took)) lines)
