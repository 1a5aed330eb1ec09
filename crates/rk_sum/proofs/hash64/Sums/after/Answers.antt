use Rattle.std.proofs.Common.{◌∙◌}
use Rattle.rk_sum.proofs.Hashes.{sum64_more, sum64_none}
use Rattle.rk_sum.proofs.hash64.Sums.after.Goals as goal

pub loop-stripe-init : goal.loop-stripe-init
loop-stripe-init c =
    let start = c.args.self in record {
      first = sum64_none 0 start.first;
      second = sum64_none 1 start.second;
      third = sum64_none 2 start.third;
      fourth = sum64_none 3 start.fourth;
    }

pub loop-stripe-preserved : goal.loop-stripe-preserved
loop-stripe-preserved c =
    let start = c.args.self in
    let stripes = c.args.stripes.now in
    let i = c.loop-stripe.stripe-index in
    let so_far = c.loop-stripe.invariant in
    let more = c.after_one-self.ensures in
    let within = c.loop-stripe-test.true in record {
      first = more.first ∙ sum64_more 0 start.first stripes i c.loop-stripe.self.first within so_far.first;
      second = more.second ∙ sum64_more 1 start.second stripes i c.loop-stripe.self.second within so_far.second;
      third = more.third ∙ sum64_more 2 start.third stripes i c.loop-stripe.self.third within so_far.third;
      fourth = more.fourth ∙ sum64_more 3 start.fourth stripes i c.loop-stripe.self.fourth within so_far.fourth;
    }
