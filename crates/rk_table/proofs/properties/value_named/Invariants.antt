use Rattle.std.proofs.Common.{◌≡◌, drop}
use Rattle.rk_bytes.specs.Model.TableStatus.{value_named}
use Rattle.rk_table.proofs.properties.value_named.Given as goal

-- none of the properties so far has the name
abbrev pub invariant-loop-property : goal.invariant-loop-property
invariant-loop-property l = value_named l.name l.properties ≡ value_named l.name (drop l.property-index l.properties)
