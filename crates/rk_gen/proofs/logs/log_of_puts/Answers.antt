use Rattle.std.proofs.Common.{ap, ◌∙◌}
use Rattle.rk_log.specs.Writing.{Writing}
use Rattle.rk_gen.proofs.PutLemmas.{log_more}
use Rattle.rk_gen.proofs.logs.log_of_puts.Goals as goal

pub loop-before-preserved : goal.loop-before-preserved
loop-before-preserved c =
    let old = c.loop-before.log in
    record {
      legacy = ap (λ (log : Writing). log.number) c.in_ok-add.ensures.ok ∙ c.loop-before.invariant.legacy;
      so_far = log_more c.args.sequences c.args.keys c.loop-before.before old.number old.bytes c.add.new.self.bytes c.as_slice.result.now
          c.loop-before.invariant.legacy c.in_ok-add.ensures.log c.loop-before.invariant.so_far (c.as_slice.ensures ∙ c.in_ok-batch.ensures);
    }
