-- What is written of a table that is opened, and why it isn't.
use Rattle.std.specs.Prelude.{ℕ, Bool, List, [], ◌∷◌, ◌++◌, map, Result, Ok, Err}
use Rattle.rk_bytes.specs.declared.model.command.SstPart.{SstPart}
use Rattle.rk_bytes.specs.declared.model.command.SstPart.TheVariants.{Check, Scan, Properties}
use Rattle.rk_bytes.specs.declared.model.open.OpenErr.TheVariants.{DamagedTable, UnsupportedTable}
use Rattle.rk_bytes.specs.Model.DiskImages.{Directory}
use Rattle.rk_bytes.specs.Model.Lines.{good_line, entry_line, range_line, property_line}
use Rattle.rk_sst.specs.declared.error.SstErr.{SstErr}
use Rattle.rk_sst.specs.declared.error.SstErr.TheVariants.{NoTable, Damaged, Unsupported, DiskFault, Memory}
use Rattle.rk_sst.specs.Seen.{OpenSeen}
use Rattle.rk_sst.specs.Opened.{records_left}
use Rattle.rk_ldb.specs.declared.refusal.Refusal.{Refusal}
use Rattle.rk_ldb.specs.declared.refusal.Refusal.TheVariants as refusal
use Rattle.rk_ldb.specs.declared.stop.Stop.{Stop}
use Rattle.rk_ldb.specs.declared.stop.Stop.TheVariants as stop

-- a fault of the disk and want of memory stop a command, and don't refuse it
abbrev pub table_stop : ℕ → SstErr → Result Refusal Stop
table_stop n NoTable = Ok (refusal.NoTable n)
table_stop n (Damaged why place) = Ok (refusal.Open (DamagedTable n why place))
table_stop n (Unsupported what) = Ok (refusal.Open (UnsupportedTable n what))
table_stop n DiskFault = Err stop.Disk
table_stop n Memory = Err stop.Memory

-- the lines of the records that are left, and of the range deletions
abbrev pub scan_lines : Bool → OpenSeen → Directory → List (List ℕ)
scan_lines hex seen files = map (entry_line hex) (records_left seen files) ++ map (range_line hex) seen.table.ranges

-- the lines of what is asked
abbrev pub open_lines : SstPart → Bool → OpenSeen → Directory → List (List ℕ)
open_lines Check hex seen files = good_line seen.table ∷ []
open_lines Scan hex seen files = scan_lines hex seen files
open_lines Properties hex seen files = map (property_line hex) seen.table.properties
