use Rattle.std.proofs.Common.{refl}
use Rattle.rk_manifest.proofs.FoldLemmas.{room_at_start, fed_none}
use Rattle.rk_manifest.proofs.fold.ManifestFold.new.Goals as goal

pub invariant_of-result : goal.invariant_of-result
invariant_of-result c = record { room = λ goes. room_at_start c.new.result c.in_ok-new.field-0.applied c.new.ensures.left c.new.ensures.before c.in_ok-new.ensures.applied }

pub returns-clause-fed : goal.returns-clause-fed
returns-clause-fed c = fed_none _ refl c.new.ensures.left c.in_ok-new.ensures.applied c.in_ok-new.ensures.begun
