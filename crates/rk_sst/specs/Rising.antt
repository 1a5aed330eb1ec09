-- The order of the records that are given of a table, whatever the disk tells.
use Rattle.std.specs.Prelude.{◌≡◌, ◌≤◌, ℕ, true, List, [], ◌∷◌, map, Option, Some, None, Result, Ok, Err}
use Rattle.std.specs.List.{AllByRecursion, last_or}
use Rattle.rk_bytes.specs.declared.model.key.Record.{Record}
use Rattle.rk_bytes.specs.Model.InternalKey.{top_sequence, key_cmp}
use Rattle.rk_bytes.specs.Model.KeyView.{is_point, key_of}
use Rattle.rk_bytes.specs.Model.TableStatus.{is_above}
use Rattle.rk_sst.specs.declared.error.SstErr.{SstErr}
use Rattle.rk_sst.specs.Seen.{OpenSeen}

-- the record is of a single key of the family, with a sequence number that an internal key can hold
abbrev pub IsOfTable : ℕ → Record → Type 0
IsOfTable family r = (r.family ≡ family) × (is_point r.kind ≡ true) × (r.sequence ≤ top_sequence)

-- each key is above the one before it
abbrev pub Ascend : Option (List ℕ) → List (List ℕ) → Type 0
Ascend before [] = Unit {0}
Ascend before (key ∷ keys) = (is_above key_cmp key before ≡ true) × Ascend (Some key) keys

-- Records of single keys of the family, whose internal keys rise from above the key before.
pub record RiseFrom (family : ℕ) (before : Option (List ℕ)) (records : List Record) : Type 0 where
  pub each : AllByRecursion (IsOfTable family) records
  pub rise : Ascend before (map key_of records)

-- the internal key of the last of the records, or the one before where there is none
abbrev pub last_given : Option (List ℕ) → List Record → Option (List ℕ)
last_given before records = last_or before (map key_of records)

-- The records that are given rise from the last key that was given before, and this is now the last one.
abbrev pub RisesOn : OpenSeen → Result (Option (List Record)) SstErr → Option (List ℕ) → Type 0
RisesOn old (Ok (Some records)) last = RiseFrom old.table.family old.last records × (last ≡ last_given old.last records)
RisesOn old (Ok None) last = last ≡ old.last
RisesOn old (Err error) last = last ≡ old.last
