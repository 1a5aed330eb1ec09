-- The lines of what is asked of a table.
use Rattle.std.specs.Prelude.{◌≡◌, ℕ, Bool, List, [], ◌∷◌, ◌++◌, map, Some, Result, Ok, Err}
use Rattle.std.specs.FinMap.{get}
use Rattle.rk_bytes.specs.declared.model.command.SstPart.{SstPart}
use Rattle.rk_bytes.specs.declared.model.command.SstPart.TheVariants.{Check, Scan, Properties}
use Rattle.rk_bytes.specs.Model.DiskImages.{Directory}
use Rattle.rk_bytes.specs.Model.FileNames.{table_name}
use Rattle.rk_bytes.specs.Model.Lines.{good_line, entry_line, range_line, property_line}
use Rattle.rk_bytes.specs.Model.Output.{joined, table_lines}
use Rattle.rk_bytes.specs.Model.TableStatus.{Good, table_status}
use Rattle.rk_sst.specs.declared.error.SstErr.{SstErr}
use Rattle.rk_sst.specs.Errors.{IsCause}
use Rattle.rk_sst.specs.Seen.{OpenSeen}
use Rattle.rk_sst.specs.Opened.{records_left, Opens}

-- the table is there, it is good, and the text is the lines of what is asked of it
pub record GivesLines (files : Directory) (number : ℕ) (part : SstPart) (hex : Bool) (text : List ℕ) : Type 0 where
  pub bytes : List ℕ
  pub file : get files (table_name number) ≡ Some bytes
  pub good : Good
  pub status : table_status bytes ≡ Ok good
  pub lines : text ≡ joined (table_lines part hex good)

-- The lines of what is asked of a table, or why it isn't opened. Of a fault of the disk, and of want of memory,
-- nothing is said.
abbrev pub TellsLines : Directory → ℕ → SstPart → Bool → Result (List ℕ) SstErr → Type 0
TellsLines files number part hex (Ok text) = GivesLines files number part hex text
TellsLines files number part hex (Err error) = Opens files number (Err error)

-- the lines of the records that are left, and of the range deletions
abbrev pub scan_lines : Bool → OpenSeen → Directory → List (List ℕ)
scan_lines hex seen files = map (entry_line hex) (records_left seen files) ++ map (range_line hex) seen.table.ranges

-- the lines of what is asked of an open table
abbrev pub asked_lines : SstPart → Bool → OpenSeen → Directory → List (List ℕ)
asked_lines Check hex seen files = good_line seen.table ∷ []
asked_lines Scan hex seen files = scan_lines hex seen files
asked_lines Properties hex seen files = map (property_line hex) seen.table.properties

-- the text of lines, or an error that says nothing of the table
abbrev pub TellsText : List (List ℕ) → Result (List ℕ) SstErr → Type 0
TellsText lines (Ok text) = text ≡ joined lines
TellsText lines (Err error) = IsCause error

-- the lines of what is asked of an open table
abbrev pub TellsAsked : SstPart → Bool → OpenSeen → Directory → Result (List ℕ) SstErr → Type 0
TellsAsked part hex seen files result = TellsText (asked_lines part hex seen files) result

-- the lines of what is left of an open table
abbrev pub TellsScan : Bool → OpenSeen → Directory → Result (List ℕ) SstErr → Type 0
TellsScan hex seen files result = TellsText (scan_lines hex seen files) result
