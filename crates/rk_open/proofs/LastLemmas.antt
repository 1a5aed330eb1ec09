-- The last version of a manifest's file, of a fold that was fed with its blocks.
use Rattle.std.proofs.Common.{◌≡◌, ℕ, List, length, Option, Some, None, Result, Ok, Err, refl}
use Rattle.std.specs.Prelude.{option_map, ok_or, IfOk, IfSome}
use Rattle.std.specs.FinMap.{get}
use Rattle.rk_bytes.specs.declared.model.manifest.Version.{Version}
use Rattle.rk_bytes.specs.declared.model.open.OpenErr.{OpenErr}
use Rattle.rk_bytes.specs.declared.model.open.OpenErr.TheVariants.{NoManifest, Manifest}
use Rattle.rk_bytes.specs.Model.Numbers.{◌>>=◌}
use Rattle.rk_bytes.specs.Model.BlockEntries.{with_fault}
use Rattle.rk_bytes.specs.Model.DiskImages.{Directory}
use Rattle.rk_bytes.specs.Model.FileNames.{manifest_name}
use Rattle.rk_bytes.specs.Model.Manifest.{manifest_units, last_version}
use Rattle.rk_bytes.specs.Model.Opening.{version_in}
use Rattle.rk_bytes.proofs.Callers.Readings.{with_fault_ok}
use Rattle.rk_open.specs.Answers.{Answers}
use Rattle.rk_open.specs.Versions.{IsLast}

-- the answer is the last version of the manifest that the bytes are
abbrev AnswersLast : Result Version OpenErr → List ℕ → Type 0
AnswersLast result bytes = Answers (with_fault Manifest (last_version (manifest_units bytes))) result

module _ (Fed : List ℕ → Type 0) (result : Result Version OpenErr) (so : (bytes : List ℕ) → Fed bytes → AnswersLast result bytes) where
  pub version_told : (o : Option Directory) (number size : ℕ) → IfSome o (λ d. Some size ≡ option_map length (get d (manifest_name number)))
      → IfSome o (λ d. (bytes : List ℕ) → get d (manifest_name number) ≡ Some bytes → length bytes ≡ size → Fed bytes) → IfSome o (λ d. Answers (version_in (get d) number) result)
  version_told None number size told fed = tt
  version_told (Some d) number size told fed = by (get d (manifest_name number)) refl told
    where
      by : (found : Option (List ℕ)) → get d (manifest_name number) ≡ found → Some size ≡ option_map length found
          → Answers (ok_or found (NoManifest number) >>= λ bytes. with_fault Manifest (last_version (manifest_units bytes))) result
      by (Some bytes) is told = let len : length bytes ≡ size = cc in so bytes (fed bytes is len)
      by None is told = absurd cc

  pub is_last : (bytes : List ℕ) × Fed bytes → IfOk result IsLast
  is_last fed = by result (so fed.0 fed.1)
    where
      by : (result : Result Version OpenErr) → AnswersLast result fed.0 → IfOk result IsLast
      by (Ok version) told = (fed.0, with_fault_ok Manifest (last_version (manifest_units fed.0)) version told)
      by (Err why) told = tt
