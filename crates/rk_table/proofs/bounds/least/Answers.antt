use Rattle.std.proofs.Common.{◌+◌, ◌≤◌, List, ℕ, Some, length, sym, subst, ap, ◌∙◌}
use Rattle.rk_bytes.specs.declared.model.key.Kind.TheVariants.{RangeDeletion}
use Rattle.rk_bytes.specs.Model.InternalKey.{internal_key}
use Rattle.rk_bytes.specs.Model.TableStatus.{start_key, lesser}
use Rattle.rk_table.proofs.BoundLemmas.{Reducing, long_key, lesser_next}
use Rattle.rk_table.proofs.bounds.least.Goals as goal

pub lesser-requires-clause-key_long : goal.lesser-requires-clause-key_long
lesser-requires-clause-key_long c = subst (λ (key : List ℕ). 8 ≤ length key) (sym c.in_ok-start.ensures) (long_key c.as_slice.result.now _ _)

pub loop-range-preserved : goal.loop-range-preserved
loop-range-preserved c =
    let made = c.in_ok-start.ensures ∙ ap (λ (user : List ℕ). internal_key user c.range-item.result.sequence RangeDeletion) c.as_slice.ensures in
    subst (λ (key : List ℕ). Reducing lesser start_key c.in_ok-least.least c.args.ranges.now (Some key) (c.loop-range.range-index + 1)) (sym c.lesser.ensures)
    (lesser_next c.in_ok-least.least c.loop-range.least c.args.ranges.now c.loop-range.range-index c.range-item.result c.in_ok-start.start c.loop-range-test.true c.range-item.is made c.loop-range.invariant)
