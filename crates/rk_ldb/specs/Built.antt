-- The commands that the program has so far. The words of any other are answered like those of none.
use Rattle.std.specs.Prelude.{ℕ, Bool, false, List, [], Option, Some, None, option_map}
use Rattle.rk_bytes.specs.declared.model.command.SstPart.{SstPart}
use Rattle.rk_bytes.specs.declared.model.command.SstPart.TheVariants.{Check}
use Rattle.rk_bytes.specs.Model.DiskImages.{Directory}
use Rattle.rk_bytes.specs.Model.Drill.{drill_directory}
use Rattle.rk_bytes.specs.Model.Grammar.{Command, scan, get, families, manifest_dump, dump_wal, check, sst, drill, hex_of, command_of}
use Rattle.rk_bytes.specs.Model.Output.{Output, command_output}
use Rattle.rk_ldb.specs.Drills.{drill_so_far}

-- the command, where the program has it
abbrev pub built : Option Command → Option Command
built (Some (scan named opening from to hex)) = Some (scan named opening from to hex)
built (Some (get key named opening hex)) = Some (get key named opening hex)
built (Some families) = Some families
built (Some (manifest_dump hex)) = Some (manifest_dump hex)
built (Some (dump_wal n hex)) = Some (dump_wal n hex)
built (Some (check opening)) = Some (check opening)
built (Some (sst n part hex)) = Some (sst n part hex)
built (Some (drill n)) = Some (drill n)
built _ = None

-- the command that the words spell, where the program has it
abbrev pub built_command : List (List ℕ) → Option Command
built_command words = built (command_of words)

-- The command is a `get`.
abbrev pub IsGet : Option Command → Type 0
IsGet (Some (get key named opening hex)) = Unit {0}
IsGet _ = ⊥

-- What a command writes over a directory so far, or the usage line where there is none. A drill ends before its
-- repair, and looks at no directory but its own.
abbrev pub so_far : Option Command → Directory → Output
so_far (Some (drill n)) d = drill_so_far n (drill_directory n)
so_far command d = command_output command d

-- what a command writes over a directory, or the usage line where the program doesn't have it
abbrev pub output_of : Command → Directory → Output
output_of command d = so_far (built (Some command)) d

-- what the program writes for these words over the directory
abbrev pub output_so_far : List (List ℕ) → Directory → Output
output_so_far words d = so_far (built_command words) d

-- the command of the words after `manifest_dump`
abbrev pub manifest_dump_of : List (List ℕ) → Option Command
manifest_dump_of words = option_map manifest_dump (hex_of words)

-- whether the last words ask for hexadecimal, where this is asked of a table; a check takes none
abbrev pub form_of : SstPart → List (List ℕ) → Option Bool
form_of Check [] = Some false
form_of Check _ = None
form_of part words = hex_of words
