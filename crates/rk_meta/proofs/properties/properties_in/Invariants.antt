use Rattle.std.proofs.Common.{◌≡◌, ◌++◌, length, map}
use Rattle.rk_meta.specs.Walk.{property_of}
use Rattle.rk_meta.proofs.properties.properties_in.Given as goal

abbrev pub invariant-loop-properties : goal.invariant-loop-properties
invariant-loop-properties l = record { key : l.key ≡ l.entries.key; kept : map property_of l.initial.entries.left ≡ l.properties ++ map property_of l.entries.left }

abbrev pub decreases-loop-properties : goal.decreases-loop-properties
decreases-loop-properties l = length l.entries.left
