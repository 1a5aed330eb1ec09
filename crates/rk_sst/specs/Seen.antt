-- What contracts see of an open table.
use Rattle.std.specs.Prelude.{ℕ, List, Option}
use Rattle.rk_bytes.specs.declared.model.table.TableRef.{TableRef}
use Rattle.rk_cache.specs.Kept.{CacheSeen}

-- its number, what is known of it, the number of the next data block, the last internal key that was given, and
-- the blocks that are kept
pub record OpenSeen : Type 0 where
  pub number : ℕ
  pub table : TableRef
  pub block : ℕ
  pub last : Option (List ℕ)
  pub cache : CacheSeen

-- the table with its records under this family from now on
abbrev pub under_family : ℕ → OpenSeen → OpenSeen
under_family family seen = record seen { table = record seen.table { family = family } }
