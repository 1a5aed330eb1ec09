-- The records among a log's items, and what ends them as edits of a manifest.
use Rattle.std.specs.Prelude.{◌≡◌, ℕ, suc, List, [], ◌∷◌, Option, Some, None, Result, Ok, Err}
use Rattle.rk_bytes.specs.declared.model.log.EndKind.{EndKind}
use Rattle.rk_bytes.specs.declared.model.log.EndKind.TheVariants.{Clean, Torn, Stale, Unsupported}
use Rattle.rk_bytes.specs.declared.model.manifest.ManifestWhy.TheVariants.{Unsupported as Refused}
use Rattle.rk_bytes.specs.declared.model.manifest.ManifestFault.{ManifestFault}
use Rattle.rk_bytes.specs.declared.model.manifest.ManifestFault.TheVariants.{Damaged}
use Rattle.rk_bytes.specs.Model.LogItems.{Item, rec, gap, end}
use Rattle.rk_bytes.specs.Model.Manifest.{UnitsEnd, fault_in, no_edit, edits_of}
use Rattle.rk_log.specs.declared.item.Piece.{Piece}
use Rattle.rk_log.specs.Items.{piece_bytes}

-- how many of the items are records
abbrev pub records : List Item → ℕ
records [] = 0
records (rec payload place ∷ items) = suc (records items)
records (gap why place ∷ items) = records items
records (end kind place ∷ items) = records items

-- the fault that a log's end at this place is, if it is one
abbrev pub fault_at_end : EndKind → ℕ → Option ManifestFault
fault_at_end Clean place = None
fault_at_end Torn place = None
fault_at_end Stale place = None
fault_at_end (Unsupported kind) place = Some (Damaged place (Refused kind))

-- The edits of items end with the first one, and in whatever unit that is, this is the fault, if there is one.
pub record EndsEdits (item : Item) (fault : Option ManifestFault) : Type 0 where
  pub ended : UnitsEnd
  pub named : (unit : ℕ) → fault_in unit ended ≡ fault
  pub none : (items : List Item) → edits_of (item ∷ items) ≡ no_edit ended

-- the item is this record, or it ends the edits
abbrev pub IsRecord : Item → Result Piece (Option ManifestFault) → Type 0
IsRecord item (Ok edit) = (place : ℕ) × (item ≡ rec (piece_bytes edit) place)
IsRecord item (Err fault) = EndsEdits item fault
