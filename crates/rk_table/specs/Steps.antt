-- How the stages of a table's reading follow one another.
use Rattle.std.specs.Prelude.{◌≡◌, ℕ, ◌+◌, ◌-◌, ◌^◌, ◌<◌, ◌≤◌, min, false, List, [], ◌∷◌, length, take, drop, find, Option, Some, None, option_map, Result, Ok, Err, bytes_eq}
use Rattle.std.specs.List.{AllByRecursion}
use Rattle.std.specs.Ordering.{is_gt}
use Rattle.rk_bytes.specs.declared.model.table.TrailerFault.{TrailerFault}
use Rattle.rk_bytes.specs.declared.model.table.Footer.{Footer}
use Rattle.rk_meta.specs.declared.want.Want.{Want}
use Rattle.rk_meta.specs.declared.want.Want.TheVariants as want
use Rattle.rk_bytes.specs.Model.TableFooter.{checked_block}
use Rattle.rk_bytes.specs.declared.model.block.Handle.{Handle}
use Rattle.rk_bytes.specs.declared.model.block.IndexEntry.{IndexEntry}
use Rattle.rk_bytes.specs.declared.model.block.RangeDel.{RangeDel}
use Rattle.rk_bytes.specs.declared.model.table.TableRef.{TableRef}
use Rattle.rk_bytes.specs.Model.InternalKey.{top_sequence, key_cmp}
use Rattle.rk_bytes.specs.declared.model.block.Property.{Property}
use Rattle.rk_bytes.specs.Model.Numbers.{◌>>=◌}
use Rattle.rk_bytes.specs.Model.BlockEntries.{with_fault}
use Rattle.rk_bytes.specs.Model.TableStatus.{TableFault, block_status, property_list, tested_properties}
use Rattle.rk_table.specs.declared.status.Status.{Status}
use Rattle.rk_table.specs.declared.status.Status.TheVariants as status
use Rattle.rk_table.specs.declared.status.WalkErr.{WalkErr}
use Rattle.rk_table.specs.declared.status.WalkErr.TheVariants as err
use Rattle.rk_table.specs.declared.stage.Stage.{Stage}
use Rattle.rk_table.specs.declared.stage.Stage.TheVariants.{Tail, Metaindex, Properties, Ranges, Index, Data, Ended}
use Rattle.rk_table.specs.Stages.{left_of}

-- the handle under this name: the first one
abbrev pub meta_named : List ℕ → List IndexEntry → Option Handle
meta_named name metas = option_map (λ meta. meta.block) (find (λ meta. bytes_eq meta.separator name) metas)

-- the properties in a block at this place, of a table that is supported
abbrev pub properties_told : ℕ → List ℕ → Result (List Property) TableFault
properties_told place block = do
  properties ← with_fault (block_status place) (property_list block)
  tested_properties place properties

-- where reading goes on after an error
abbrev pub stopped_at : WalkErr → Stage → Result Stage Stage
stopped_at (err.Damaged why place) stage = Ok (Ended (status.Damaged why place))
stopped_at (err.Unsupported what) stage = Ok (Ended (status.Unsupported what))
stopped_at err.Memory stage = Err stage

-- no range deletion has a sequence number above the greatest
abbrev pub AreBelowTop : List RangeDel → Type 0
AreBelowTop ranges = AllByRecursion (λ range. range.sequence ≤ top_sequence) ranges

-- the next data block that is wanted, of those of these entries of an index
abbrev pub block_wanted : Footer → List IndexEntry → Want
block_wanted footer [] = want.Nothing
block_wanted footer (at ∷ index) = want.Block at.block footer.start footer.sum

-- what is wanted of a file of this length, at a stage
abbrev pub want_at : ℕ → Stage → Want
want_at len Tail = want.Tail (min 53 len)
want_at len (Metaindex footer) = want.Block footer.metaindex footer.start footer.sum
want_at len (Properties footer at ranges_at) = want.Block at footer.start footer.sum
want_at len (Ranges footer properties at) = want.Block at footer.start footer.sum
want_at len (Index footer properties ranges) = want.Block footer.index footer.start footer.sum
want_at len (Data footer table number) = block_wanted footer (drop number table.index)
want_at len (Ended status) = want.Nothing

-- what is handed in for a wanted block is what the table has there
abbrev pub Hands : List ℕ → Want → Result (List ℕ) TrailerFault → Type 0
Hands table (want.Block handle end sum) handed = checked_block (take end table) handle sum ≡ handed
Hands table (want.Tail len) handed = ⊥
Hands table want.Nothing handed = ⊥

-- Where the block that is handed in is the table's, as much is left to find out at the next stage.
abbrev pub Continues : Stage → List ℕ → Stage → Type 0
Continues stage block next = (len : ℕ) (table : List ℕ) → Hands table (want_at len stage) (Ok block) → left_of next table ≡ left_of stage table

-- The smallest and the largest key of the data records so far: of at least 8 bytes each, and in their order.
abbrev pub AreBounds : Option (List ℕ) → Option (List ℕ) → Type 0
AreBounds None None = Unit {0}
AreBounds (Some smallest) (Some largest) = (8 ≤ length smallest) × (8 ≤ length largest) × (is_gt (key_cmp smallest largest) ≡ false)
AreBounds _ _ = ⊥

-- what is known of a table before its data block with this number
pub record IsBefore (table : TableRef) (number : ℕ) : Type 0 where
  pub within : number < length table.index
  pub few : length table.index < 2 ^ 64
  pub top : AreBelowTop table.ranges
  pub long : table.user_keys ≡ false → AllByRecursion (λ at. 8 ≤ length at.separator) table.index
  pub bounds : AreBounds table.smallest table.largest

-- a table with this status has no range deletion above the greatest sequence number
abbrev pub IsSoundStatus : Status → Type 0
IsSoundStatus (status.Good table) = AreBelowTop table.ranges
IsSoundStatus _ = Unit {0}

-- what is true at each stage
abbrev pub IsSound : Stage → Type 0
IsSound (Index footer properties ranges) = AreBelowTop ranges
IsSound (Data footer table number) = IsBefore table number
IsSound (Ended status) = IsSoundStatus status
IsSound _ = Unit {0}

-- how much is left at most to be handed in, from a stage on
abbrev pub steps_left : Stage → ℕ
steps_left Tail = 2 ^ 64 + 4
steps_left (Metaindex footer) = 2 ^ 64 + 3
steps_left (Properties footer at ranges_at) = 2 ^ 64 + 2
steps_left (Ranges footer properties at) = 2 ^ 64 + 1
steps_left (Index footer properties ranges) = 2 ^ 64
steps_left (Data footer table number) = length table.index - number
steps_left (Ended status) = 0

-- a block is wanted at the stage
abbrev pub NeedsBlock : Stage → Type 0
NeedsBlock Tail = ⊥
NeedsBlock (Ended status) = ⊥
NeedsBlock _ = Unit {0}
