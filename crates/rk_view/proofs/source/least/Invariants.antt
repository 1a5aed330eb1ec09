use Rattle.std.proofs.Common.{◌≡◌, map, take, slice_get}
use Rattle.std.specs.Option.{option_copied}
use Rattle.rk_view.specs.Sources.{merged}
use Rattle.rk_view.proofs.SourceLemmas.{IsHeldAt}
use Rattle.rk_view.proofs.source.least.Given as goal

abbrev pub invariant-loop-index : goal.invariant-loop-index
invariant-loop-index g l = record {
  first : option_copied l.first ≡ slice_get (merged (take l.index (map g.S.Source.left l.sources))) 0;
  held : IsHeldAt (map g.S.Source.left l.sources) l.index l.least (option_copied l.first);
}
