use Rattle.std.proofs.Common.{ℕ, ◌+◌, ◌^◌, ◌<◌, ◌≤◌, length, subst, sym, arith}
use Rattle.std.specs.Prelude.{◌==◌}
use Rattle.rk_bytes.specs.Model.Writers.{block_bytes}
use Rattle.rk_block.specs.Building.{Building, built_block, key_before, noted_entries}
use Rattle.rk_block.proofs.BuildLemmas.{IsBuilt-noted, grows}
use Rattle.rk_block.proofs.builder.BlockBuilder.add.Goals as goal

pub invariant_of-self : goal.invariant_of-self
invariant_of-self c =
    let b = c.self.inside in
    let room = subst (λ (building : Building). length (built_block building) + length c.args.key.now + length c.args.value.now + 32 < 2 ^ 32) (sym c.self.view_is) c.requires in
    IsBuilt-noted b.restart_every b.history.items c.note.new.self.items b.out b.offsets b.last b.count c.args.key.now c.args.value.now c.put_more.new.out c.put_more.new.offsets c.put_more.new.last _
    c.self.invariant room c.note.ensures c.in-Ok.ensures.out c.in-Ok.ensures.offsets c.in-Ok.ensures.ok c.count_after-self-inside.ensures

pub returns-in-Ok-clause-grows : goal.returns-in-Ok-clause-grows
returns-in-Ok-clause-grows c =
    let b = c.self.inside in
    let room = subst (λ (building : Building). length (built_block building) + length c.args.key.now + length c.args.value.now + 32 < 2 ^ 32) (sym c.self.view_is) c.requires in
    let new = invariant_of-self c in
    let more = grows b.restart_every (noted_entries b.history.items) (noted_entries c.note.new.self.items) b.out b.offsets b.last c.put_more.new.out c.put_more.new.offsets c.put_more.new.last (key_before (b.count == b.restart_every) b.last) b.count _ (length b.out) (b.count == b.restart_every) (c.args.key.now, c.args.value.now)
    c.self.invariant new (omega arith) (omega arith) c.in-Ok.ensures.out c.in-Ok.ensures.offsets in
    subst (λ (building : Building). length (block_bytes b.restart_every (noted_entries c.note.new.self.items)) ≤ length (built_block building) + length c.args.key.now + length c.args.value.now + 19) c.self.view_is more
