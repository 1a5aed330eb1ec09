use Rattle.std.proofs.Common.{◌+◌, ◌-◌, ◌^◌, ◌<◌, ◌≤◌, ◌∷◌, [], ◌++◌, length, sym, ap, ◌∙◌, subst, arith}
use Rattle.rk_bytes.specs.Model.InternalKey.{top_sequence}
use Rattle.rk_batch.specs.Building.{Building, next_record}
use Rattle.rk_batch.proofs.BuilderLemmas.{IsBuilt-more}
use Rattle.rk_batch.proofs.builder.BatchBuilder.add.Goals as goal

pub invariant_of-self : goal.invariant_of-self
invariant_of-self c =
    let below = subst (λ (b : Building). b.sequence + length b.records ≤ top_sequence) (sym c.self.view_is) c.requires.sequence in
    let few = subst (λ (b : Building). length b.records < 2 ^ 32 - 1) (sym c.self.view_is) c.requires.count in
    let more = IsBuilt-more c.self.inside.sequence c.self.inside.count c.args.family c.args.kind c.args.key.now c.args.value.now c.self.inside.out c.put_change.new.out
    c.self.invariant few below (omega arith) c.requires.key c.requires.value c.requires.kind c.in-Ok.ensures in
    more.0

pub returns-in-Ok-clause-ok : goal.returns-in-Ok-clause-ok
returns-in-Ok-clause-ok c =
    let below = subst (λ (b : Building). b.sequence + length b.records ≤ top_sequence) (sym c.self.view_is) c.requires.sequence in
    let few = subst (λ (b : Building). length b.records < 2 ^ 32 - 1) (sym c.self.view_is) c.requires.count in
    let more = IsBuilt-more c.self.inside.sequence c.self.inside.count c.args.family c.args.kind c.args.key.now c.args.value.now c.self.inside.out c.put_change.new.out
    c.self.invariant few below (omega arith) c.requires.key c.requires.value c.requires.kind c.in-Ok.ensures in
    (λ i. record { sequence = c.self.inside.sequence; records = more.1 i })
    ∙ ap (λ (b : Building). record { sequence = b.sequence; records = b.records ++ next_record b c.args.family c.args.kind c.args.key.now c.args.value.now ∷ [] }) c.self.view_is
