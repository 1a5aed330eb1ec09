use Rattle.std.proofs.lemmas.List.Elements.{All-nil}
use Rattle.rk_bytes.specs.declared.model.view.Tomb.{Tomb}
use Rattle.rk_tomb.specs.Bounds.{HasWholeBounds}
use Rattle.rk_tomb.proofs.IndexLemmas.{IsIndex-nil}
use Rattle.rk_tomb.proofs.set.TombSet.new.Goals as goal

pub invariant_of-result : goal.invariant_of-result
invariant_of-result c = rw (c.new.ensures.items, c.new-2.ensures.items) (IsIndex-nil, All-nil (λ (tomb : Tomb). HasWholeBounds tomb.cut))
