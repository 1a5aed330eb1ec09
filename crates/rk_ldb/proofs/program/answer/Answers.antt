use Rattle.std.proofs.Common.{◌≡◌}
use Rattle.std.specs.Prelude.{IfOk}
use Rattle.rk_bytes.specs.Model.DiskImages.{contents_told}
use Rattle.rk_bytes.specs.Model.Output.{Output}
use Rattle.rk_ldb.specs.Commands.{told}
use Rattle.rk_ldb.specs.Stops.{TookUpTo}
use Rattle.rk_ldb.proofs.Dumps.{lines_of_command, lines_of_usage}
use Rattle.rk_ldb.proofs.Endings.{usage_of_words, usage_of, not_found_of, no_usage_of}
use Rattle.rk_ldb.specs.Built.{built_command}
use Rattle.rk_ldb.proofs.SmallDrills.{small_command}
use Rattle.rk_ldb.proofs.program.answer.Goals as goal

pub returns-in-Some-clause-lines : goal.returns-in-Some-clause-lines
returns-in-Some-clause-lines g c =
    lines_of_command (contents_told (g.D.Disk.told c.args.disk.now)) c.args.words.now (told c.in-Some.command)
    (λ (o : Output). TookUpTo (g.S.Sink.taken c.args.out.now) (g.S.Sink.taken c.write_answer.new.out) o.lines c.write_answer.result) c.in-Some.ensures c.write_answer.ensures.lines

pub returns-in-Some-clause-status : goal.returns-in-Some-clause-status
returns-in-Some-clause-status g c =
    lines_of_command (contents_told (g.D.Disk.told c.args.disk.now)) c.args.words.now (told c.in-Some.command) (λ (o : Output). IfOk c.write_answer.result (λ status. status ≡ o.status)) c.in-Some.ensures c.write_answer.ensures.status

pub returns-in-None-clause-lines : goal.returns-in-None-clause-lines
returns-in-None-clause-lines g c =
    lines_of_usage (contents_told (g.D.Disk.told c.args.disk.now)) c.args.words.now (λ (o : Output). TookUpTo (g.S.Sink.taken c.args.out.now) (g.S.Sink.taken c.answer_with_usage.new.out) o.lines c.answer_with_usage.result)
    c.in-None.ensures c.answer_with_usage.ensures.lines

pub returns-in-None-clause-status : goal.returns-in-None-clause-status
returns-in-None-clause-status g c =
    lines_of_usage (contents_told (g.D.Disk.told c.args.disk.now)) c.args.words.now (λ (o : Output). IfOk c.answer_with_usage.result (λ status. status ≡ o.status)) c.in-None.ensures c.answer_with_usage.ensures.status

pub returns-in-Some-clause-usage : goal.returns-in-Some-clause-usage
returns-in-Some-clause-usage g c =
    let before = g.S.Sink.taken c.args.out.now in
    let now = g.S.Sink.taken c.write_answer.new.out in
    let words = c.args.words.now in
    usage_of before now (built_command words) c.write_answer.result (usage_of_words before now words (told c.in-Some.command) c.write_answer.result c.in-Some.ensures c.write_answer.ensures.ends)

pub returns-in-Some-clause-not_found : goal.returns-in-Some-clause-not_found
returns-in-Some-clause-not_found g c =
    let before = g.S.Sink.taken c.args.out.now in
    let now = g.S.Sink.taken c.write_answer.new.out in
    let words = c.args.words.now in
    not_found_of before now (built_command words) c.write_answer.result (usage_of_words before now words (told c.in-Some.command) c.write_answer.result c.in-Some.ensures c.write_answer.ensures.ends)

pub returns-in-Some-clause-no_usage : goal.returns-in-Some-clause-no_usage
returns-in-Some-clause-no_usage g c =
    let before = g.S.Sink.taken c.args.out.now in
    let now = g.S.Sink.taken c.write_answer.new.out in
    let words = c.args.words.now in
    no_usage_of before now (built_command words) c.write_answer.result (usage_of_words before now words (told c.in-Some.command) c.write_answer.result c.in-Some.ensures c.write_answer.ensures.ends)

pub write_answer-requires : goal.write_answer-requires
write_answer-requires g c = small_command c.args.words.now c.in-Some.command c.in-Some.ensures
