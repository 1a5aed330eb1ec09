use Rattle.std.proofs.Common.{sym, ◌∙◌, subst}
use Rattle.rk_bytes.specs.declared.model.block.RangeFault.TheVariants.{Memory}
use Rattle.rk_meta.specs.Walk.{Passes, range_in, entry_with}
use Rattle.rk_meta.proofs.KeptLemmas.{IsKept, IsKept-more}
use Rattle.rk_meta.proofs.WalkLemmas.{unless, range_in-entry}
use Rattle.rk_meta.proofs.ranges.ranges_in.Goals as goal

pub loop-value-preserved : goal.loop-value-preserved
loop-value-preserved c =
    let passes : Passes c.loop-value.entries c.next_value.new.entries c.in-Ok-Some.value.now = rw c.in-Ok-Some.field-0-is at c.in-Ok-Some.ensures.next in
    let same = range_in-entry passes.entry c.as_slice.result.now c.in-Ok-Some.value.now (passes.key ∙ sym c.in-Ok-Some.ensures.key ∙ sym c.as_slice.ensures) passes.value_is in
    let range = c.in_ok-range-in-Ok-Some.range in
    record {
      key = c.in-Ok-Some.ensures.key;
      kept =
          subst (λ ranges. IsKept range_in c.args.entries.left c.next_value.new.entries.left ranges) (sym c.in-Ok.ensures.ok)
          (IsKept-more range_in c.args.entries.left c.loop-value.entries.left c.next_value.new.entries.left passes.entry c.loop-value.ranges range c.loop-value.invariant.kept passes.left
          (same ∙ unless (range_in (entry_with c.as_slice.result.now c.in-Ok-Some.value.now)) range Memory c.in_ok-range-in-Ok-Some.ensures));
    }
