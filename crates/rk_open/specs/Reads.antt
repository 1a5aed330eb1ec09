-- What is kept of tables that were read.
use Rattle.std.specs.Prelude.{◌≡◌, ℕ, List, map, Option, IfSome, Ok}
use Rattle.std.specs.BTreeMap.{get as get_kept}
use Rattle.std.specs.FinMap.{get}
use Rattle.std.specs.Ordering.{nat_cmp}
use Rattle.rk_bytes.specs.declared.model.key.Record.{Record}
use Rattle.rk_bytes.specs.declared.model.block.RangeDel.{RangeDel}
use Rattle.rk_bytes.specs.declared.model.manifest.FileMeta.{FileMeta}
use Rattle.rk_bytes.specs.Model.DiskImages.{Directory}
use Rattle.rk_bytes.specs.Model.Opening.{Files, Listed, of_family, table_file}
use Rattle.rk_bytes.specs.Model.TableStatus.{Good}
use Rattle.rk_table.specs.Steps.{AreBelowTop}
use Rattle.rk_view.specs.Kept.{IsTableRun}
use Rattle.rk_open.specs.declared.kept.KeptTable.{KeptTable}
use Rattle.rk_open.specs.declared.kept.KeptTables.{KeptTables}
use Rattle.rk_open.specs.declared.read.ReadTable.{ReadTable}

-- the listed table is good, and holds these records, under the family that lists it, and these range deletions
pub record HoldsRun (files : Files) (listed : Listed) (run : List Record) (ranges : List RangeDel) : Type 0 where
  pub good : Good
  pub is : table_file files listed ≡ Ok (record { listed = listed; good = good })
  pub run_is : run ≡ map (of_family listed.family) good.records
  pub ranges_are : ranges ≡ good.table.ranges

-- A table was read: its records are a run that a state takes, its range deletions have sequence numbers that an
-- internal key can hold, and both are those of the listed table, where the disk tells its files.
pub record IsRead (disk : Option Directory) (listed : Listed) (table : ReadTable) : Type 0 where
  pub run : IsTableRun table.run
  pub below : AreBelowTop table.ranges
  pub told : IfSome disk (λ d. HoldsRun (get d) listed table.run table.ranges)

-- a file that no family lists yet, which is read as the default family's
abbrev pub unlisted : FileMeta → Listed
unlisted file = record { family = 0; file = file }

-- a kept table is what was read of its file
abbrev pub IsKept : Option Directory → KeptTable → Type 0
IsKept disk kept = IsRead disk (unlisted kept.file) kept.table

-- each table that is kept is what was read of its file
abbrev pub AreKept : Option Directory → KeptTables → Type 0
AreKept disk kept = (number : ℕ) → IfSome (get_kept nat_cmp kept.by_number number) (IsKept disk)
