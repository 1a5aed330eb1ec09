-- What is known of a version that opening goes on with, whatever the disk tells.
use Rattle.std.specs.Prelude.{◌≡◌, ◌≤◌, ℕ, true, List, Some, Ok, IsSome}
use Rattle.rk_bytes.specs.declared.model.manifest.Version.{Version}
use Rattle.rk_bytes.specs.Model.InternalKey.{top_sequence}
use Rattle.rk_bytes.specs.Model.Manifest.{manifest_units, last_version}

-- the version is the last one of some manifest
abbrev pub IsLast : Version → Type 0
IsLast version = (bytes : List ℕ) × (last_version (manifest_units bytes) ≡ Ok version)

-- The version states a log number, a next file and a last sequence number that an internal key can hold.
pub record StatesAll (version : Version) : Type 0 where
  pub log : version.log_seen ≡ true
  pub next_file : IsSome version.next_file
  pub last : ℕ
  pub last_sequence : version.last_sequence ≡ Some last
  pub bound : last ≤ top_sequence
