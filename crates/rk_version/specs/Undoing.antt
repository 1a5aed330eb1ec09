-- What calls answer that keep what leads back, and that go back.
use Rattle.std.specs.Prelude.{◌≡◌, ◌≢◌, Result, Ok, Err, MatchResult}
use Rattle.rk_bytes.specs.declared.model.manifest.ApplyFault.{ApplyFault}
use Rattle.rk_bytes.specs.declared.model.manifest.ApplyFault.TheVariants.{Memory}
use Rattle.rk_bytes.specs.declared.model.manifest.Version.{Version}
use Rattle.rk_bytes.specs.Model.Manifest.{ManifestUnit, unit_step}
use Rattle.rk_version.specs.declared.undo.Undo.{Undo}
use Rattle.rk_version.specs.declared.undo.UndoErr.{UndoErr}
use Rattle.rk_version.specs.declared.undo.UndoErr.TheVariants.{Memory as no_memory}
use Rattle.rk_version.specs.Undone.{before_edits}

-- The undo leads from the later version to the earlier one, and to no other.
abbrev pub Leads : Undo → Version → Version → Type 0
Leads undo later earlier = before_edits undo.edits later ≡ earlier

-- What is said is what is answered, with what leads back.
abbrev pub Steps : {K : Type 0} → Result Version ApplyFault → Result (Version × K) ApplyFault → (Version × K → Type 0) → Type 0
Steps said answer LeadsBack = MatchResult answer (λ done. (said ≡ Ok done.0) × LeadsBack done) (λ why. why ≢ Memory → said ≡ Err why)

-- A unit that is applied makes the version after it of the version before. A refusal leaves the version.
abbrev pub AppliesUndo : ManifestUnit → Version → Result Undo ApplyFault → Version → Type 0
AppliesUndo means old answer new = MatchResult answer (λ undo. unit_step means old ≡ Ok new) (λ why. (new ≡ old) × (why ≢ Memory → unit_step means old ≡ Err why))

-- Going back comes to the earlier version. Want of memory leaves the version, and hands the undo back.
abbrev pub Undoes : Undo → Version → Result (Unit {0}) UndoErr → Version → Type 0
Undoes undo old answer new = MatchResult answer (λ done. Leads undo old new) (λ why. (new ≡ old) × (why ≡ no_memory undo))
