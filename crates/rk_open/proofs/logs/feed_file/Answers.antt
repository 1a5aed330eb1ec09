use Rattle.std.proofs.Common.{◌≡◌, ◌+◌, length, take, rules, sym, ap, ◌∙◌, subst, arith, Err}
use Rattle.std.proofs.lemmas.List.{length-take}
use Rattle.std.proofs.lemmas.Result.{err_from_is_err_and}
use Rattle.rk_disk.specs.Parts.{IsPart, OfFile}
use Rattle.rk_open.proofs.FrontLemmas.{FeedsFile, file_more, file_whole, file_refused}
use Rattle.rk_open.proofs.logs.feed_file.Goals as goal

pub returns-in_err-feed_block-clause-fed : goal.returns-in_err-feed_block-clause-fed
returns-in_err-feed_block-clause-fed g c =
    let inv = c.loop-part.invariant in
    let told = g.D.Disk.told c.args.disk.now in
    let name = c.args.name.now in
    let at = c.loop-part.at in
    let block = take c.in-Ok.part.0 c.read_part.new.buf in
    let is = subst (λ told. OfFile told name c.args.size (λ bytes. IsPart at bytes block c.in-Ok.part.1)) inv.left c.in-Ok.ensures.part in
    let answer = err_from_is_err_and c.from_residual.result c.from_residual.ensures.1 in
    subst (λ result. FeedsFile told name c.args.size c.args.run.now c.args.number result c.feed_block.new.run) (sym (answer.1 ∙ ap Err answer.2))
    (file_refused told name c.args.size c.args.run.now c.args.number c.loop-part.run c.feed_block.new.run at block c.in-Ok.part.1 inv.fed is c.in_err-feed_block.field-0.0 inv.mode inv.version c.in_err-feed_block.ensures.fed)

pub returns-then-last-clause-fed : goal.returns-then-last-clause-fed
returns-then-last-clause-fed g c =
    let inv = c.loop-part.invariant in
    let told = g.D.Disk.told c.args.disk.now in
    let name = c.args.name.now in
    let at = c.loop-part.at in
    let block = take c.in-Ok.part.0 c.read_part.new.buf in
    let is = subst (λ told. OfFile told name c.args.size (λ bytes. IsPart at bytes block c.in-Ok.part.1)) inv.left c.in-Ok.ensures.part in
    file_whole told name c.args.size c.args.run.now c.args.number c.loop-part.run c.feed_block.new.run at block c.in-Ok.part.1 inv.fed is c.if-last.true c.in_ok-feed_block.ensures.fed

pub loop-part-preserved : goal.loop-part-preserved
loop-part-preserved g c =
    let inv = c.loop-part.invariant in
    let told = g.D.Disk.told c.args.disk.now in
    let name = c.args.name.now in
    let at = c.loop-part.at in
    let block = take c.in-Ok.part.0 c.read_part.new.buf in
    let is = subst (λ told. OfFile told name c.args.size (λ bytes. IsPart at bytes block c.in-Ok.part.1)) inv.left c.in-Ok.ensures.part in
    let full = c.in-Ok.ensures.full c.if-last.false in
    let len : length block ≡ 32768 = length-take c.in-Ok.part.0 c.read_part.new.buf ∙ omega (arith, full.0, inv.room, c.in-Ok.ensures.room) in record {
      within = omega (arith, full.1, inv.room);
      room = c.in-Ok.ensures.room ∙ inv.room;
      version = search rules;
      mode = search rules;
      log = search rules;
      read = omega (arith, c.in_ok-feed_block.ensures.read, inv.read, len);
      left = search rules;
      faults = search rules;
      fed = file_more told name c.args.size c.args.run.now c.args.number c.loop-part.run c.feed_block.new.run at block c.in-Ok.part.1 inv.fed is c.if-last.false (at + 32768) (ap (λ n. at + n) len) c.in_ok-feed_block.ensures.fed;
    }
