use Rattle.std.proofs.Common.{◌<◌, sym, ap, subst}
use Rattle.std.specs.List.{AllByRecursion}
use Rattle.rk_bytes.specs.Model.KeyView.{State}
use Rattle.rk_open.proofs.LineLemmas.{lines_below}
use Rattle.rk_open.proofs.state.add_families.Goals as goal

pub add_family-requires : goal.add_family-requires
add_family-requires c =
    let at = c.loop-live in
    let live = c.live-item.result in record {
      above = subst (AllByRecursion (λ line. line.id < live.id)) (sym (ap (λ (state : State). state.families) at.invariant)) (lines_below c.args.families.now at.live-index live c.requires.rising c.loop-live-test.true c.live-item.is);
    }
