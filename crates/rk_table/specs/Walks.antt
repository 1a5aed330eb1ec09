-- A walk over the records of a data block.
use Rattle.std.specs.Prelude.{◌≡◌, ℕ, ◌<◌, ◌≤◌, ◌∷◌, true, List, [], ◌++◌, length, Option, Some, None, IfSome, Result, Ok, Err}
use Rattle.rk_bytes.specs.declared.model.key.Kind.{Kind}
use Rattle.rk_bytes.specs.declared.model.block.BlockFault.{BlockFault}
use Rattle.rk_bytes.specs.Model.Numbers.{◌>>=◌}
use Rattle.rk_bytes.specs.Model.BlockEntries.{Entry, with_fault, block_entries}
use Rattle.rk_bytes.specs.Model.InternalKey.{user_key, key_cmp}
use Rattle.rk_bytes.specs.Model.TableStatus.{TableFault, DataEntry, block_status, is_above, records_after}
use Rattle.rk_table.specs.declared.status.WalkErr.{WalkErr}
use Rattle.rk_table.specs.declared.walk.Checked.{Checked}
use Rattle.rk_table.specs.declared.walk.LastKey.{LastKey}
use Rattle.rk_table.specs.declared.walk.LastKey.TheVariants.{Nowhere, Before, Here}
use Rattle.rk_table.specs.declared.walk.Walk.{Walk}
use Rattle.rk_table.specs.Told.{Tells}

-- the record of an entry with this sequence number and kind, or the error
abbrev pub entry_made : Entry (List ℕ) → Result (ℕ × Kind) WalkErr → Result DataEntry WalkErr
entry_made entry (Ok (sequence, kind)) = Ok (record { key = entry.key; parts = record { user = user_key entry.key; sequence = sequence; kind = kind }; value = entry.value })
entry_made entry (Err error) = Err error

-- the key of the record before, of which it is known where it is kept
abbrev pub key_kept : LastKey → List ℕ → List ℕ → Option (List ℕ)
key_kept Nowhere before key = None
key_kept Before before key = Some before
key_kept Here before key = Some key

-- the key before the records that are left
abbrev pub before_of : Walk → Option (List ℕ)
before_of walk = key_kept walk.last walk.before walk.key

-- before the first record of a block its key is empty
abbrev pub IsFresh : LastKey → List ℕ → Type 0
IsFresh Here key = Unit {0}
IsFresh _ key = key ≡ []

-- what is told of the entries of a block at a place, or the block's fault
abbrev pub told_with : ℕ → Result (List (Entry (List ℕ))) BlockFault → (List (Entry (List ℕ)) → Result (List DataEntry) TableFault) → Result (List DataEntry) TableFault
told_with place entries told = with_fault (block_status place) entries >>= told

-- the records that are left, or the first fault
abbrev pub walk_left : Walk → Result (List DataEntry) TableFault
walk_left walk = told_with walk.place walk.entries.left (records_after walk.place (before_of walk))

-- records aren't told because of this error
abbrev pub IsFault : WalkErr → Result (List DataEntry) TableFault → Type 0
IsFault error told = Tells {A = List DataEntry} (Err error) told

-- what is true between the steps of a walk
pub record IsWalk (walk : Walk) : Type 0 where
  pub same : (entries : List (Entry (List ℕ))) → walk.entries.left ≡ Ok entries → walk.entries.key ≡ walk.key
  pub len : walk.entries.key_len ≡ length walk.key
  pub long : IfSome (before_of walk) (λ key. 8 ≤ length key)
  pub fresh : IsFresh walk.last walk.key

-- the records of a block at a place and after a key, or the first fault
abbrev pub block_told : ℕ → Option (List ℕ) → List ℕ → Result (List DataEntry) TableFault
block_told place before block = do
  entries ← with_fault (block_status place) (block_entries block)
  records_after place before entries

-- a walk over a block begins, with what its block's records are, or the block doesn't read
abbrev pub Begins : ℕ → Option (List ℕ) → List ℕ → Result Walk WalkErr → Type 0
Begins place before block (Ok walk) = IsWalk walk × (block_told place before block ≡ walk_left walk) × (before_of walk ≡ before)
Begins place before block (Err error) = Tells (Err error) (block_told place before block)

-- the record that was handed out, under the walk's key
abbrev pub handed_out : Checked → List ℕ → DataEntry
handed_out checked key = record { key = key; parts = record { user = user_key key; sequence = checked.sequence; kind = checked.kind }; value = checked.value.now }

-- the records after this one
abbrev pub preceded : List DataEntry → Result (List DataEntry) TableFault → Result (List DataEntry) TableFault
preceded front (Ok records) = Ok (front ++ records)
preceded front (Err fault) = Err fault

-- a walk hands out this record, and goes on
pub record HandsOut (old : Walk) (checked : Checked) (new : Walk) : Type 0 where
  pub walk : IsWalk new
  pub left : walk_left old ≡ preceded (handed_out checked new.key ∷ []) (walk_left new)
  pub shorter : new.entries.rest < old.entries.rest
  pub before : before_of new ≡ Some new.key
  pub above : is_above key_cmp new.key (before_of old) ≡ true
  pub long : 8 ≤ length new.key
  pub place : new.place ≡ old.place

-- a walk's step: a record, the end or an error
abbrev pub Steps : Walk → Result (Option Checked) WalkErr → Walk → Type 0
Steps old (Ok (Some checked)) new = HandsOut old checked new
Steps old (Ok None) new = (walk_left old ≡ Ok []) × (new.key ≡ old.key) × (new ≡ old)
Steps old (Err error) new = Tells (Err error) (walk_left old)
