-- What contracts see of a fold over a manifest's blocks.
use Rattle.std.specs.Prelude.{◌≡◌, ℕ, Bool, true, false, List, ◌++◌, Result, Ok, Err}
use Rattle.rk_bytes.specs.declared.model.manifest.Version.{Version}
use Rattle.rk_bytes.specs.Model.Manifest.{manifest_units, last_version}
use Rattle.rk_log.specs.Left.{left, bytes_before}
use Rattle.rk_log.specs.Steps.{MayFollow}
use Rattle.rk_manifest.specs.declared.error.ManifestErr.{ManifestErr}
use Rattle.rk_manifest.specs.declared.error.ManifestErr.TheVariants.{Fault, Memory}
use Rattle.rk_manifest.specs.declared.reading.Reading.{Reading}
use Rattle.rk_manifest.specs.declared.fold.ManifestFold.{ManifestFold}
use Rattle.rk_manifest.specs.Outcomes.{outcome}
use Rattle.rk_manifest.specs.Blocks.{goes_on, ran_out}

-- more blocks are wanted
abbrev pub wants_more : ManifestFold → Bool
wants_more fold = goes_on fold.reading

-- memory ran out
abbrev pub has_failed : ManifestFold → Bool
has_failed fold = ran_out fold.reading

-- so many bytes were read, without those of blocks that weren't wanted any more
abbrev pub bytes_read : ManifestFold → ℕ
bytes_read fold = bytes_before fold.feed

-- The fold was fed with these bytes, in order, and the file ends with them or not. What the units of these and of
-- the bytes that may follow come to is what the fold has come to, unless memory ran out.
pub record HasFed (fold : ManifestFold) (is_last : Bool) (bytes : List ℕ) : Type 0 where
  pub comes_to : (reading : Reading) → fold.reading ≡ Ok reading → (rest : List ℕ) → MayFollow is_last rest
      → last_version (manifest_units (bytes ++ rest)) ≡ outcome reading fold.progress (left fold.feed rest).items

-- the answer is want of memory
abbrev pub lacks_memory : Result Version ManifestErr → Bool
lacks_memory (Ok version) = false
lacks_memory (Err (Fault fault)) = false
lacks_memory (Err Memory) = true
