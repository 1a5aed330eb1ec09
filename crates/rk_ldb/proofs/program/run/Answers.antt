use Rattle.std.proofs.Common.{◌≡◌, ◌⊎◌, Ok, Err, sym, subst}
use Rattle.std.proofs.lemmas.Option.{IfSome_then}
use Rattle.rk_bytes.specs.declared.model.status.Status.{Status}
use Rattle.rk_bytes.specs.Model.DiskImages.{Rose, contents_told}
use Rattle.rk_bytes.specs.Model.Lines.{disk_fault_line, memory_fault_line}
use Rattle.rk_bytes.specs.Model.Output.{TookFront, text}
use Rattle.rk_ldb.specs.Answers.{EndsInFault}
use Rattle.rk_ldb.specs.Built.{output_so_far}
use Rattle.rk_ldb.specs.Stops.{TookUpTo}
use Rattle.rk_ldb.proofs.Faults.{EndsInFault-whole, TookFront-whole, EndsInFault-disk, EndsInFault-memory}
use Rattle.rk_ldb.proofs.program.run.Goals as goal

pub returns-in-Ok-clause-memory_text : goal.returns-in-Ok-clause-memory_text
returns-in-Ok-clause-memory_text g c = λ is.
    let before = g.S.Sink.taken c.args.out.now in
    let between = g.S.Sink.taken c.answer.new.out in
    let after = g.S.Sink.taken c.end_after_answer.new.out in
    let words = c.args.words.now in
    let rose = Rose (g.S.Sink.faults c.args.out.now) (g.S.Sink.faults c.end_after_answer.new.out) in
    IfSome_then (contents_told (g.D.Disk.told c.args.disk.now))
    {P = λ d. TookUpTo before between (output_so_far words d).lines (Ok c.in-Ok.status)}
    {Q = λ d. EndsInFault before after (output_so_far words d).lines memory_fault_line (λ len. (len ≡ 0) ⊎ rose)}
    c.in-Ok.ensures.lines
    (λ d took. subst (λ after. EndsInFault before after (output_so_far words d).lines memory_fault_line (λ len. (len ≡ 0) ⊎ rose)) (sym c.end_after_answer.ensures.taken)
    (EndsInFault-whole before between (output_so_far words d).lines memory_fault_line rose took))

pub returns-in-Ok-clause-sink_fault_text : goal.returns-in-Ok-clause-sink_fault_text
returns-in-Ok-clause-sink_fault_text g c = λ is.
    let before = g.S.Sink.taken c.args.out.now in
    let between = g.S.Sink.taken c.answer.new.out in
    let words = c.args.words.now in
    IfSome_then (contents_told (g.D.Disk.told c.args.disk.now))
    {P = λ d. TookUpTo before between (output_so_far words d).lines (Ok c.in-Ok.status)}
    {Q = λ d. TookFront before (g.S.Sink.taken c.end_after_answer.new.out) (text (output_so_far words d))}
    c.in-Ok.ensures.lines
    (λ d took. subst (λ after. TookFront before after (text (output_so_far words d))) (sym c.end_after_answer.ensures.taken)
    (TookFront-whole before between (text (output_so_far words d)) took))

pub returns-in-Err-Disk-clause-disk_fault_text : goal.returns-in-Err-Disk-clause-disk_fault_text
returns-in-Err-Disk-clause-disk_fault_text g c = λ is.
    let before = g.S.Sink.taken c.args.out.now in
    let between = g.S.Sink.taken c.answer.new.out in
    let after = g.S.Sink.taken c.end_after_disk_fault.new.out in
    let words = c.args.words.now in
    let n = g.S.Sink.faults c.args.out.now in
    let k = g.S.Sink.faults c.end_after_disk_fault.new.out in
    IfSome_then (contents_told (g.D.Disk.told c.args.disk.now))
    {P = λ d. TookUpTo {T = Status} before between (output_so_far words d).lines (Err c.in-Err-Disk.field-0)}
    {Q = λ d. EndsInFault before after (output_so_far words d).lines disk_fault_line (λ len. Rose n k)}
    c.in-Err-Disk.ensures.lines
    (λ d took. EndsInFault-disk before between after (output_so_far words d).lines disk_fault_line n (g.S.Sink.faults c.answer.new.out) k c.in-Err-Disk.field-0 c.in-Err-Disk.field-0-is took
    c.in-Err-Disk.ensures.output_count (c.end_after_disk_fault.ensures.line is))

pub returns-in-Err-Memory-clause-memory_text : goal.returns-in-Err-Memory-clause-memory_text
returns-in-Err-Memory-clause-memory_text g c = λ is.
    let before = g.S.Sink.taken c.args.out.now in
    let between = g.S.Sink.taken c.answer.new.out in
    let after = g.S.Sink.taken c.end_after_want_of_memory.new.out in
    let words = c.args.words.now in
    let n = g.S.Sink.faults c.args.out.now in
    let k = g.S.Sink.faults c.end_after_want_of_memory.new.out in
    IfSome_then (contents_told (g.D.Disk.told c.args.disk.now))
    {P = λ d. TookUpTo {T = Status} before between (output_so_far words d).lines (Err c.in-Err-Memory.field-0)}
    {Q = λ d. EndsInFault before after (output_so_far words d).lines memory_fault_line (λ len. (len ≡ 0) ⊎ Rose n k)}
    c.in-Err-Memory.ensures.lines
    (λ d took. EndsInFault-memory before between after (output_so_far words d).lines memory_fault_line n (g.S.Sink.faults c.answer.new.out) k c.in-Err-Memory.field-0 c.in-Err-Memory.field-0-is took
    c.in-Err-Memory.ensures.output_count c.end_after_want_of_memory.ensures.line)
