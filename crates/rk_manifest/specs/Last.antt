-- The last version, and how far units are applied on the way to it.
use Rattle.std.specs.Prelude.{◌≡◌, suc, ◌+◌, List, length, Option, Some, None, Result, Ok, Err}
use Rattle.rk_bytes.specs.declared.model.manifest.ManifestFault.{ManifestFault}
use Rattle.rk_bytes.specs.declared.model.manifest.Version.{Version}
use Rattle.rk_bytes.specs.Model.Numbers.{◌>>=◌}
use Rattle.rk_bytes.specs.Model.Manifest.{ManifestUnit, UnitsEnd, fault_in, in_unit, unit_step, version_after, complete}
use Rattle.rk_manifest.specs.declared.error.ManifestErr.{ManifestErr}
use Rattle.rk_manifest.specs.declared.error.ManifestErr.TheVariants.{Fault, Memory}
use Rattle.rk_manifest.specs.declared.last.Applied.{Applied}

-- The call gives this last version or names this fault, or memory ran out.
abbrev pub IsLast : Result Version ManifestFault → Result Version ManifestErr → Type 0
IsLast last (Ok version) = last ≡ Ok version
IsLast last (Err (Fault fault)) = last ≡ Err fault
IsLast last (Err Memory) = Unit {0}

-- the last version, where this is the one after the units, which this fault ended, if one did
abbrev pub ended_with : Option ManifestFault → Version → Result Version ManifestFault
ended_with (Some fault) version = Err fault
ended_with None version = complete version

-- the last version, where so many units are applied and these follow them
abbrev pub last_after : Applied → List ManifestUnit → Option ManifestFault → Result Version ManifestFault
last_after applied units fault = do
  version ← version_after (suc applied.count) units applied.builder
  ended_with fault version

-- the same, by what ends the units
abbrev pub last_of : Applied → List ManifestUnit × UnitsEnd → Result Version ManifestFault
last_of applied ahead = last_after applied ahead.0 (fault_in (suc (applied.count + length ahead.0)) ahead.1)

-- The next unit is applied, or it is refused, or memory ran out.
abbrev pub AppliesTo : ManifestUnit → Applied → Result (Unit {0}) ManifestErr → Applied → Type 0
AppliesTo unit old (Ok done) new = (unit_step unit old.builder ≡ Ok new.builder) × (new.count ≡ suc old.count)
AppliesTo unit old (Err (Fault fault)) new = (in_unit (suc old.count) (unit_step unit old.builder) ≡ Err fault) × (new ≡ old)
AppliesTo unit old (Err Memory) new = new ≡ old
