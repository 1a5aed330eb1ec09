-- What contracts see of the entries of a block that are tested when their turn comes.
use Rattle.std.specs.Prelude.{◌≡◌, ℕ, ◌+◌, ◌-◌, ◌<◌, ◌≤◌, List, [], ◌∷◌, length, if◌then◌else◌, Option, Some, None, Result, Ok, Err}
use Rattle.rk_bytes.specs.declared.model.block.BlockFault.{BlockFault}
use Rattle.rk_bytes.specs.declared.model.block.BlockFault.TheVariants.{BadRestarts}
use Rattle.rk_bytes.specs.Model.Numbers.{◌>>=◌}
use Rattle.rk_bytes.specs.Model.BlockEntries.{Entry, right_restarts, block_entries}
use Rattle.rk_block.specs.declared.entry.RawEntry.{RawEntry}
use Rattle.rk_block.specs.Parts.{entries_in}
use Rattle.rk_block.specs.Raw.{entry_of, key_after}
use Rattle.rk_block.specs.Seen.{entries_or_none, entries_from, key_before}

-- the entries of a block, or its first fault
abbrev pub Told : Type 0
Told = Result (List (Entry (List ℕ))) BlockFault

-- where the next entry begins, the key before it and its length, how many bytes are left, and what is left: the
-- entries or the block's first fault
pub record TestedSeen : Type 0 where
  pub place : ℕ
  pub key : List ℕ
  pub key_len : ℕ
  pub rest : ℕ
  pub left : Told

-- the entries that fill a part with these restart offsets, or the first fault
abbrev pub told_of : List ℕ → List ℕ → Told
told_of part offsets = do
  entries ← entries_in part
  if right_restarts entries offsets then Ok entries else Err BadRestarts

-- those from a place on
abbrev pub left_from : ℕ → Told → Told
left_from place (Ok entries) = Ok (entries_from place entries)
left_from place (Err fault) = Err fault

-- the key before a place, where the entries of the part read
abbrev pub key_at : List ℕ → ℕ → List ℕ
key_at part place = key_before place [] (entries_or_none (entries_in part))

-- what is seen at a place in a part
abbrev pub tested_from : List ℕ → List ℕ → ℕ → ℕ → TestedSeen
tested_from part offsets place key_len = record {
  place = place;
  key = key_at part place;
  key_len = key_len;
  rest = length part - place;
  left = left_from place (told_of part offsets);
}

-- this entry, and then those
abbrev pub preceded : Entry (List ℕ) → Told → Told
preceded entry (Ok entries) = Ok (entry ∷ entries)
preceded entry (Err fault) = Err fault

-- all entries of the block are to be handed out
pub record IsBegun (seen : TestedSeen) (block : List ℕ) : Type 0 where
  pub left : seen.left ≡ block_entries block
  pub key : seen.key ≡ []
  pub key_len : seen.key_len ≡ 0

-- an entry was handed out
pub record Gives (old : TestedSeen) (raw : RawEntry) (new : TestedSeen) : Type 0 where
  pub left : old.left ≡ preceded (entry_of old.place old.key raw) new.left
  pub key : (entries : List (Entry (List ℕ))) → old.left ≡ Ok entries → new.key ≡ key_after old.key raw
  pub shared : raw.shared ≤ old.key_len
  pub key_len : new.key_len ≡ raw.shared + length raw.rest.now
  pub shorter : new.rest < old.rest

-- the next entry, or none is left of a block that reads, or the block's first fault
abbrev pub GivesEntry : TestedSeen → Result (Option RawEntry) BlockFault → TestedSeen → Type 0
GivesEntry old (Ok (Some raw)) new = Gives old raw new
GivesEntry old (Ok None) new = (old.left ≡ Ok []) × (new ≡ old)
GivesEntry old (Err fault) new = (old.left ≡ Err fault) × (new ≡ old)

-- the block reads, or this is its first fault
abbrev pub Passes : Told → Result (Unit {0}) BlockFault → Type 0
Passes told (Ok done) = (entries : List (Entry (List ℕ))) × (told ≡ Ok entries)
Passes told (Err fault) = told ≡ Err fault
