use Rattle.std.proofs.Common.{sym, subst}
use Rattle.rk_version.specs.Places.{Rises}
use Rattle.rk_open.proofs.VersionLemmas.{last_order}
use Rattle.rk_open.proofs.state.state_of_families.Goals as goal

pub add_families-requires-clause-rising : goal.add_families-requires-clause-rising
add_families-requires-clause-rising c = subst (Rises (λ live. live.id)) (sym c.as_slice.ensures) (last_order c.args.version.now c.requires.last).ids
