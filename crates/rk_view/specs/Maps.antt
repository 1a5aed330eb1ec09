-- How runs of records make up a record map.
use Rattle.std.specs.Prelude.{◌≡◌, ◌<◌, ◌≤◌, ℕ, Bool, true, length, slice_index_or, T, List, map, reverse, flat_map, Option, Some, None, if◌then◌else◌}
use Rattle.std.specs.List.{AllByRecursion}
use Rattle.std.specs.Ordering.{is_gt}
use Rattle.std.specs.FinMap.{is_sorted, from_entries}
use Rattle.std.specs.FinMap.Entries.{find}
use Rattle.rk_bytes.specs.declared.model.key.Record.{Record}
use Rattle.rk_bytes.specs.Model.InternalKey.{top_sequence}
use Rattle.rk_bytes.specs.Model.Records.{Slot, RecordMap, slot_cmp, slot_of, entry_of}

-- the records have sequence numbers that internal keys can hold
abbrev pub AreNumbered : List Record → Type 0
AreNumbered records = AllByRecursion (λ r. r.sequence ≤ top_sequence) records

-- records in the strict order of their slots
pub record IsRun (records : List Record) : Type 0 where
  pub rises : T (is_sorted slot_cmp (map entry_of records))
  pub numbered : AreNumbered records

-- the entries of runs, those of the youngest first, which is the last
abbrev pub entries_of : List (List Record) → List (Slot × Record)
entries_of runs = flat_map (λ run. map entry_of run) (reverse runs)

-- the record map of runs, in which a younger run's record takes the place of an older one's
unfoldable pub map_of : List (List Record) → RecordMap
map_of runs = from_entries (entries_of runs)

-- of the first records of two maps, where there are such, the first one of the second map over the first
abbrev pub first_of : Option Record → Option Record → Option Record
first_of None later = later
first_of (Some r) None = Some r
first_of (Some r) (Some s) = if is_gt (slot_cmp (slot_of s) (slot_of r)) then Some r else Some s

-- what a list of records has in a slot
abbrev pub look : Slot → List Record → Option Record
look q records = find slot_cmp q (map entry_of records)

-- the record map of one run
abbrev pub run_map : List Record → RecordMap
run_map run = from_entries (map entry_of run)

-- the runs that are marked have nothing in the slot of a record
abbrev pub AreApart : List Bool → List (List Record) → Record → Type 0
AreApart marks runs r = (k : ℕ) (mark : Bool) (run : List Record) → k < length runs → slice_index_or marks k mark ≡ true → look (slot_of r) (slice_index_or runs k run) ≡ None
