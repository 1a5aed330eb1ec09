use Rattle.std.proofs.Common.{sym, ap, ◌∙◌, Err}
use Rattle.std.proofs.lemmas.Result.{err_from_is_err_and}
use Rattle.rk_bytes.specs.Reading.{rest_of}
use Rattle.rk_batch.specs.Parts.{part_at}
use Rattle.rk_batch.proofs.CountLemmas.{Counting-start, Counting-more, Counting-end, Counting-fault}
use Rattle.rk_bytes.proofs.Callers.Cursors.{some_left, none_left}
use Rattle.rk_batch.proofs.Shorter.{rest_shorter}
use Rattle.rk_batch.proofs.view.count_changes.Goals as goal

pub loop-cursor-init : goal.loop-cursor-init
loop-cursor-init c = Counting-start c.args.cursor c.requires

pub returns-in_err-raw : goal.returns-in_err-raw
returns-in_err-raw c = λ sequence.
    let some = some_left c.rest.result.now (rest_of c.loop-cursor.cursor) c.is_empty.result c.rest.ensures c.is_empty.ensures c.loop-cursor-test.true in
    let told = err_from_is_err_and c.from_residual.result c.from_residual.ensures.1 in
    (told.1 ∙ ap Err told.2) ∙ Counting-fault c.args.cursor c.loop-cursor.cursor c.loop-cursor.count sequence c.in_err-raw.field-0.0 c.loop-cursor.invariant some c.in_err-raw.ensures.part

pub loop-cursor-smaller : goal.loop-cursor-smaller
loop-cursor-smaller c =
    let some = some_left c.rest.result.now (rest_of c.loop-cursor.cursor) c.is_empty.result c.rest.ensures c.is_empty.ensures c.loop-cursor-test.true in
    rest_shorter c.loop-cursor.cursor.place 0 (rest_of c.loop-cursor.cursor) (part_at c.loop-cursor.cursor.place 0 c.in_ok-raw.raw) (rest_of c.read_part.new.cursor) some (sym (c.in_ok-raw.ensures.part 0))

pub loop-cursor-preserved : goal.loop-cursor-preserved
loop-cursor-preserved c =
    let some = some_left c.rest.result.now (rest_of c.loop-cursor.cursor) c.is_empty.result c.rest.ensures c.is_empty.ensures c.loop-cursor-test.true in
    Counting-more c.args.cursor c.loop-cursor.cursor c.read_part.new.cursor c.loop-cursor.count c.changes_in-count.result (λ sequence. part_at c.loop-cursor.cursor.place sequence c.in_ok-raw.raw)
    c.loop-cursor.invariant c.in_ok-raw.ensures.after some c.in_ok-raw.ensures.part (λ sequence. c.changes_in-count.ensures.count c.loop-cursor.cursor.place sequence) c.changes_in-count.ensures.few

pub returns : goal.returns
returns c = λ sequence. Counting-end c.args.cursor c.loop-cursor.cursor c.loop-cursor.count sequence c.loop-cursor.invariant (none_left c.rest.result.now (rest_of c.loop-cursor.cursor) c.is_empty.result c.rest.ensures c.is_empty.ensures c.loop-cursor-test.false)
