use Rattle.std.proofs.Common.{arith}
use Rattle.rk_tomb.proofs.KeyLemmas.{user_key-internal_key, packed-internal_key}
use Rattle.rk_tomb.proofs.lookup.Lookup.cmp_smallest.Goals as goal

pub returns : goal.returns
returns c =
    let self = c.args.self.now in
    let user_is = user_key-internal_key self.user.now self.sequence self.kind in
    let packed_is = packed-internal_key self.user.now self.sequence self.kind (omega (arith, c.requires.sequence)) in
    cc
