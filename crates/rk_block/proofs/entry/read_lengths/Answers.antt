use Rattle.std.proofs.Common.{◌<◌, subst, sym}
use Rattle.rk_block.proofs.EntryLemmas.{short_lengths}
use Rattle.rk_block.proofs.entry.read_lengths.Goals as goal

pub returns-in-len3-up-clause-lengths : goal.returns-in-len3-up-clause-lengths
returns-in-len3-up-clause-lengths c =
    short_lengths c.args.bytes.now c.from.result c.from-in-len3-up.result c.from-in-len3-up-2.result c.in-len3-up.len_at_least c.from.ensures c.from-in-len3-up.ensures c.from-in-len3-up-2.ensures
    (subst (λ b. b < 128) (sym c.from.ensures) c.if-shared-lt128.true) (subst (λ b. b < 128) (sym c.from-in-len3-up.ensures) c.if-rest-lt128.true) (subst (λ b. b < 128) (sym c.from-in-len3-up-2.ensures) c.if-value-lt128.true)
