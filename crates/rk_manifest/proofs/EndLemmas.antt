-- Items that end the edits of a manifest.
use Rattle.std.proofs.Common.{ℕ, Some, refl}
use Rattle.rk_bytes.specs.declared.model.log.GapWhy.{GapWhy}
use Rattle.rk_bytes.specs.declared.model.log.EndKind.{EndKind}
use Rattle.rk_bytes.specs.declared.model.log.EndKind.TheVariants.{Clean, Torn, Stale, Unsupported}
use Rattle.rk_bytes.specs.declared.model.manifest.ManifestWhy.TheVariants.{Gap, Unsupported as Refused}
use Rattle.rk_bytes.specs.declared.model.manifest.ManifestFault.TheVariants.{Damaged}
use Rattle.rk_bytes.specs.Model.LogItems.{gap, end}
use Rattle.rk_bytes.specs.Model.Manifest.{log_end, damaged_log, edits_of}
use Rattle.rk_manifest.specs.Records.{fault_at_end, EndsEdits}

pub EndsEdits-gap : (why : GapWhy) (place : ℕ) → EndsEdits (gap why place) (Some (Damaged place (Gap why)))
unfolding edits_of
EndsEdits-gap why place = record { ended = damaged_log place (Gap why); named = λ unit. refl; none = λ items. refl }

pub EndsEdits-end : (kind : EndKind) (place : ℕ) → EndsEdits (end kind place) (fault_at_end kind place)
unfolding edits_of
EndsEdits-end Clean place = record { ended = log_end; named = λ unit. refl; none = λ items. refl }
EndsEdits-end Torn place = record { ended = log_end; named = λ unit. refl; none = λ items. refl }
EndsEdits-end Stale place = record { ended = log_end; named = λ unit. refl; none = λ items. refl }
EndsEdits-end (Unsupported kind) place = record { ended = damaged_log place (Refused kind); named = λ unit. refl; none = λ items. refl }
