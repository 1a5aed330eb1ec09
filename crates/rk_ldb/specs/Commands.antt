-- What the definitions call the commands of the code.
use Rattle.std.specs.Prelude.{◌≤◌}
use Rattle.std.specs.Option.{option_copied, option_map}
use Rattle.rk_bytes.specs.Model.Grammar.{KeyWord, text_key, hex_key, Command, scan, get, families, manifest_dump, dump_wal, check, repair, sst, drill}
use Rattle.rk_ldb.specs.declared.keys.KeyWord.{KeyWord as ReadKey}
use Rattle.rk_ldb.specs.declared.keys.KeyWord.TheVariants.{Text, Hex}
use Rattle.rk_ldb.specs.declared.command.Command.{Command as Read}
use Rattle.rk_ldb.specs.declared.command.Command.TheVariants.{Scan, Get, Families, ManifestDump, DumpWal, Check, Repair, Sst, Drill}

-- a key, as it is spelled
abbrev pub told_key : ReadKey → KeyWord
told_key (Text text) = text_key text.now
told_key (Hex digits) = hex_key digits.now

-- a command
abbrev pub told : Read → Command
told (Scan family how from to hex) = scan (option_copied family) how (option_map told_key from) (option_map told_key to) hex
told (Get key family how hex) = get (told_key key) (option_copied family) how hex
told Families = families
told (ManifestDump hex) = manifest_dump hex
told (DumpWal number hex) = dump_wal number hex
told (Check how) = check how
told Repair = repair
told (Sst number part hex) = sst number part hex
told (Drill number) = drill number

-- A drill's directory can have this number.
abbrev pub IsSmall : Read → Type 0
IsSmall (Drill number) = number ≤ 100000
IsSmall _ = Unit {0}
