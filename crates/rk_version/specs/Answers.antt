-- What a call answers, as the definition has it. Only of want of memory no definition speaks.
use Rattle.std.specs.Prelude.{◌≡◌, ◌≢◌, Option, Some, None, Result, Ok, Err, MatchResult}
use Rattle.rk_bytes.specs.declared.model.manifest.ApplyFault.{ApplyFault}
use Rattle.rk_bytes.specs.declared.model.manifest.ApplyFault.TheVariants.{Memory}
use Rattle.rk_bytes.specs.declared.model.manifest.Version.{Version}
use Rattle.rk_bytes.specs.Model.Manifest.{ManifestUnit, unit_step}

-- what is said is what is answered
abbrev pub Gives : {A : Type 0} → Result A ApplyFault → Result A ApplyFault → Type 0
Gives said answer = MatchResult answer (λ x. said ≡ Ok x) (λ why. why ≢ Memory → said ≡ Err why)

-- A unit that is applied makes the version after it of the version before. A refusal, want of memory too,
-- leaves the version as it was.
abbrev pub Applies : ManifestUnit → Version → Result (Unit {0}) ApplyFault → Version → Type 0
Applies means old answer new = MatchResult answer (λ done. unit_step means old ≡ Ok new) (λ why. (new ≡ old) × (why ≢ Memory → unit_step means old ≡ Err why))

-- no fault is found, or this one
abbrev pub Finds : Option ApplyFault → Result (Unit {0}) ApplyFault → Type 0
Finds fault answer = MatchResult answer (λ done. fault ≡ None) (λ why. why ≢ Memory → fault ≡ Some why)
