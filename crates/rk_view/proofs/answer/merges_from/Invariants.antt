use Rattle.std.proofs.Common.{◌≡◌, ◌++◌, ◌∷◌}
use Rattle.std.specs.Prelude.{None}
use Rattle.rk_bytes.specs.Model.InternalKey.{packed_of}
use Rattle.rk_bytes.specs.Model.KeyView.{deciding, operands, base_value}
use Rattle.rk_view.specs.Sources.{merged}
use Rattle.rk_view.specs.Shown.{shown_below}
use Rattle.rk_view.proofs.answer.merges_from.Given as goal

abbrev pub invariant-loop-next : goal.invariant-loop-next
invariant-loop-next l = record {
  values : l.newest_first ++ operands (deciding (shown_below l.tombs l.newest.family l.newest.key l.below (merged l.behind)))
      ≡ l.newest.value ∷ operands (deciding (shown_below l.tombs l.newest.family l.newest.key (packed_of l.newest.sequence l.newest.kind) (merged l.initial.behind)));
  rest : base_value (deciding (shown_below l.tombs l.newest.family l.newest.key l.below (merged l.behind)))
      ≡ base_value (deciding (shown_below l.tombs l.newest.family l.newest.key (packed_of l.newest.sequence l.newest.kind) (merged l.initial.behind)));
  none : l.base ≡ None;
}

abbrev pub decreases-loop-next : goal.decreases-loop-next
decreases-loop-next l = l.below
