-- What a mode makes of a finding: three ways.
use Rattle.std.proofs.Common.{◌≡◌, ℕ, true, false, [], Some, None, refl}
use Rattle.rk_bytes.specs.declared.model.manifest.Version.{Version}
use Rattle.rk_bytes.specs.declared.model.wal.Mode.{Mode}
use Rattle.rk_bytes.specs.declared.model.wal.Mode.TheVariants.{TolerateTail, Absolute, PointInTime, SkipAny}
use Rattle.rk_bytes.specs.declared.model.wal.WalWhy.{WalWhy}
use Rattle.rk_bytes.specs.declared.model.wal.WalWhy.TheVariants.{Gap, Torn, Batch as bad_batch}
use Rattle.rk_bytes.specs.declared.model.wal.WalErr.{WalErr}
use Rattle.rk_bytes.specs.declared.model.wal.WalErr.TheVariants.{Corrupt, UnsupportedLog}
use Rattle.rk_bytes.specs.Model.Replay.{Finding, batch, damage, unsupported, stale_end, clean_end, is_stop, batch_in, refusal}
use Rattle.rk_walmode.specs.Walks.{records_in, expected_behind}

-- the finding is no batch
pub record AddsNone (version : Version) (log : ℕ) (one : Finding) : Type 0 where
  pub no_batch : batch_in one ≡ None
  pub no_records : records_in version log one ≡ []
  pub same : (expected : ℕ) → expected_behind expected one ≡ expected

-- replay stops at the finding, or refuses it, or goes on behind it
pub data Sort (mode : Mode) (version : Version) (log : ℕ) (one : Finding) : Type 0 where
  stops : is_stop mode one ≡ true → refusal mode log one ≡ None → AddsNone version log one → Sort mode version log one
  refuses : (why : WalErr) → is_stop mode one ≡ false → refusal mode log one ≡ Some why → Sort mode version log one
  goes_on : is_stop mode one ≡ false → refusal mode log one ≡ None → Sort mode version log one

no_damage : (version : Version) (log : ℕ) (why : WalWhy) (place : ℕ) → AddsNone version log (damage why place)
no_damage version log why place = record { no_batch = refl; no_records = refl; same = λ expected. refl }

no_stale : (version : Version) (log : ℕ) → AddsNone version log stale_end
no_stale version log = record { no_batch = refl; no_records = refl; same = λ expected. refl }

pub sorted : (mode : Mode) (version : Version) (log : ℕ) (one : Finding) → Sort mode version log one
sorted TolerateTail version log (batch read) = goes_on refl refl
sorted Absolute version log (batch read) = goes_on refl refl
sorted PointInTime version log (batch read) = goes_on refl refl
sorted SkipAny version log (batch read) = goes_on refl refl
sorted TolerateTail version log (damage (Gap why) place) = refuses (Corrupt log place (Gap why)) refl refl
sorted TolerateTail version log (damage Torn place) = goes_on refl refl
sorted TolerateTail version log (damage (bad_batch why) place) = refuses (Corrupt log place (bad_batch why)) refl refl
sorted Absolute version log (damage why place) = refuses (Corrupt log place why) refl refl
sorted PointInTime version log (damage why place) = stops refl refl (no_damage version log why place)
sorted SkipAny version log (damage why place) = goes_on refl refl
sorted TolerateTail version log (unsupported what) = refuses (UnsupportedLog log what) refl refl
sorted Absolute version log (unsupported what) = refuses (UnsupportedLog log what) refl refl
sorted PointInTime version log (unsupported what) = refuses (UnsupportedLog log what) refl refl
sorted SkipAny version log (unsupported what) = refuses (UnsupportedLog log what) refl refl
sorted TolerateTail version log stale_end = goes_on refl refl
sorted Absolute version log stale_end = goes_on refl refl
sorted PointInTime version log stale_end = stops refl refl (no_stale version log)
sorted SkipAny version log stale_end = goes_on refl refl
sorted TolerateTail version log clean_end = goes_on refl refl
sorted Absolute version log clean_end = goes_on refl refl
sorted PointInTime version log clean_end = goes_on refl refl
sorted SkipAny version log clean_end = goes_on refl refl
