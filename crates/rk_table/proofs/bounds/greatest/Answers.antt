use Rattle.std.proofs.Common.{◌+◌, ◌≤◌, List, ℕ, Some, length, sym, subst, ap, ◌∙◌}
use Rattle.rk_bytes.specs.declared.model.key.Kind.TheVariants.{RangeDeletion}
use Rattle.rk_bytes.specs.Model.InternalKey.{internal_key}
use Rattle.rk_bytes.specs.Model.InternalKey.{top_sequence}
use Rattle.rk_bytes.specs.Model.TableStatus.{end_key, greater}
use Rattle.rk_table.proofs.BoundLemmas.{Reducing, long_key, greater_next}
use Rattle.rk_table.proofs.bounds.greatest.Goals as goal

pub greater-requires-clause-key_long : goal.greater-requires-clause-key_long
greater-requires-clause-key_long c = subst (λ (key : List ℕ). 8 ≤ length key) (sym c.in_ok-end.ensures) (long_key c.as_slice.result.now _ _)

pub loop-range-preserved : goal.loop-range-preserved
loop-range-preserved c =
    let made = c.in_ok-end.ensures ∙ ap (λ (user : List ℕ). internal_key user top_sequence RangeDeletion) c.as_slice.ensures in
    subst (λ (key : List ℕ). Reducing greater end_key c.in_ok-greatest.greatest c.args.ranges.now (Some key) (c.loop-range.range-index + 1)) (sym c.greater.ensures)
    (greater_next c.in_ok-greatest.greatest c.loop-range.greatest c.args.ranges.now c.loop-range.range-index c.range-item.result c.in_ok-end.end c.loop-range-test.true c.range-item.is made c.loop-range.invariant)
