use Rattle.std.proofs.Common.{◌≡◌, take}
use Rattle.rk_bytes.specs.Model.Checksums.{xxh64_sum}
use Rattle.rk_sum.proofs.hash64.Sums.after.Given as goal

abbrev pub invariant-loop-stripe : goal.invariant-loop-stripe
invariant-loop-stripe l = record {
  first : l.self.first ≡ xxh64_sum 0 l.initial.self.first (take l.stripe-index l.stripes);
  second : l.self.second ≡ xxh64_sum 1 l.initial.self.second (take l.stripe-index l.stripes);
  third : l.self.third ≡ xxh64_sum 2 l.initial.self.third (take l.stripe-index l.stripes);
  fourth : l.self.fourth ≡ xxh64_sum 3 l.initial.self.fourth (take l.stripe-index l.stripes);
}
