use Rattle.std.proofs.Common.{Some, sym, ◌∙◌, subst}
use Rattle.rk_meta.specs.Walk.{Passes, whole_entry}
use Rattle.rk_meta.proofs.KeptLemmas.{IsKept, IsKept-more}
use Rattle.rk_meta.proofs.WalkLemmas.{whole_entry-handle}
use Rattle.rk_meta.proofs.index.whole_index.Goals as goal

pub loop-value-preserved : goal.loop-value-preserved
loop-value-preserved c =
    let passes : Passes c.loop-value.entries c.next_value.new.entries c.in-Ok-Some.value.now = rw c.in-Ok-Some.field-0-is at c.in-Ok-Some.ensures.next in
    let gives = whole_entry-handle passes.entry c.as_slice.result.now c.in-Ok-Some.value.now (Some c.in-Some.block) (passes.key ∙ sym c.in-Ok-Some.ensures.key ∙ sym c.as_slice.ensures) passes.value_is c.in-Some.ensures in
    record {
      key = c.in-Ok-Some.ensures.key;
      kept =
          subst (λ index. IsKept whole_entry c.args.entries.left c.next_value.new.entries.left index) (sym c.in_ok-push_entry-in-Ok-Some.ensures.ok)
          (IsKept-more whole_entry c.args.entries.left c.loop-value.entries.left c.next_value.new.entries.left passes.entry c.loop-value.index (record { separator = c.as_slice.result.now; block = c.in-Some.block }) c.loop-value.invariant.kept passes.left gives);
    }
