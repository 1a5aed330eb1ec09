use Rattle.std.proofs.Common.{length}
use Rattle.rk_bytes.specs.Model.Manifest.{manifest_units}
use Rattle.rk_manifest.specs.Partings.{PartsInto}
use Rattle.rk_manifest.proofs.units.read_units.Given as goal

-- the units so far, and those of the items that are left
abbrev pub invariant-loop-parting : goal.invariant-loop-parting
invariant-loop-parting l = PartsInto l.parting l.reader.items (manifest_units l.bytes)

abbrev pub decreases-loop-parting : goal.decreases-loop-parting
decreases-loop-parting l = length l.reader.items
