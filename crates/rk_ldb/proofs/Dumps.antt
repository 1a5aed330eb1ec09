-- What is written of a file that is there, or isn't, and of words.
use Rattle.std.proofs.Common.{◌≡◌, ℕ, Bool, List, [], ◌∷◌, length, Option, Some, None, refl, sym, ap, subst, ◌∙◌}
use Rattle.std.specs.Prelude.{IfSome, option_map}
use Rattle.std.specs.FinMap.{get}
use Rattle.rk_bytes.specs.Model.DiskImages.{Directory, Told, contents, contents_told}
use Rattle.rk_bytes.specs.Model.Drill.{drill_directory}
use Rattle.rk_bytes.specs.Model.FileNames.{log_name, table_name}
use Rattle.rk_bytes.specs.Model.LogItems.{log_items}
use Rattle.rk_bytes.specs.declared.model.status.Status.TheVariants.{Usage}
use Rattle.rk_bytes.specs.declared.model.command.SstPart.{SstPart}
use Rattle.rk_bytes.specs.declared.model.command.How.{How}
use Rattle.rk_bytes.specs.Model.Grammar.{KeyWord, Command, scan, get as get_key, check, families, manifest_dump, dump_wal, sst, drill, command_of}
use Rattle.rk_bytes.specs.Model.Lines.{usage_line}
use Rattle.rk_bytes.specs.Model.Output.{Output, state_of, scan_output, get_output, check_output, dump_wal_output, manifest_dump_output, families_output, sst_output, command_output, written, refused}
use Rattle.rk_ldb.specs.declared.items.Form.{Form}
use Rattle.rk_ldb.specs.Built.{built, so_far, output_of, output_so_far}
use Rattle.rk_ldb.specs.Drills.{drill_so_far}
use Rattle.rk_ldb.specs.Wrote.{dump_lines, file_output}
use Rattle.rk_disk.specs.Parts.{OfFile}

-- what is written of a file that is there, where something is of its bytes
pub found_file : (told : Option Told) (why : List ℕ) (form : Form) (number size : ℕ) (name printed : List ℕ) (P : Output → Type 0) → name ≡ printed
    → IfSome (contents_told told) (λ files. Some size ≡ option_map length (get files name)) → OfFile told name size (λ bytes. P (written (dump_lines form (log_items number bytes))))
    → IfSome (contents_told told) (λ d. P (file_output why form number (get d printed)))
found_file None why form number size name printed P is sized h = tt
found_file (Some told) why form number size name printed P is sized h = subst (λ name. P (file_output why form number (get (contents told.now) name))) is (by (get (contents told.now) name) refl sized)
  where
    by : (file : Option (List ℕ)) → get (contents told.now) name ≡ file → Some size ≡ option_map length file → P (file_output why form number file)
    by None found sized = absurd cc
    by (Some bytes) found sized = let len : size ≡ length bytes = cc in h bytes found (sym len)

-- the same of one that isn't
pub absent_file : (told : Option Told) (why : List ℕ) (form : Form) (number : ℕ) (name printed : List ℕ) (P : Output → Type 0) → name ≡ printed
    → IfSome (contents_told told) (λ files. ◌≡◌ {A = Option ℕ} None (option_map length (get files name))) → P (refused why)
    → IfSome (contents_told told) (λ d. P (file_output why form number (get d printed)))
absent_file None why form number name printed P is sized h = tt
absent_file (Some told) why form number name printed P is sized h = subst (λ name. P (file_output why form number (get (contents told.now) name))) is (by (get (contents told.now) name) sized)
  where
    by : (file : Option (List ℕ)) → ◌≡◌ {A = Option ℕ} None (option_map length file) → P (file_output why form number file)
    by None sized = h
    by (Some bytes) sized = absurd cc

-- ---- what is written of words

pub output_of_log : (o : Option Directory) (command : Command) (n : ℕ) (hex : Bool) (P : Output → Type 0) → command ≡ dump_wal n hex
    → IfSome o (λ d. P (dump_wal_output n hex (get d (log_name n)))) → IfSome o (λ d. P (output_of command d))
unfolding command_output
output_of_log None command n hex P is h = tt
output_of_log (Some d) command n hex P is h = subst (λ command. P (output_of command d)) (sym is) h

pub output_of_manifest : (o : Option Directory) (command : Command) (hex : Bool) (P : Output → Type 0) → command ≡ manifest_dump hex
    → IfSome o (λ d. P (manifest_dump_output hex (get d))) → IfSome o (λ d. P (output_of command d))
unfolding command_output
output_of_manifest None command hex P is h = tt
output_of_manifest (Some d) command hex P is h = subst (λ command. P (output_of command d)) (sym is) h

pub output_of_families : (o : Option Directory) (command : Command) (P : Output → Type 0) → command ≡ families
    → IfSome o (λ d. P (families_output (get d))) → IfSome o (λ d. P (output_of command d))
unfolding command_output
output_of_families None command P is h = tt
output_of_families (Some d) command P is h = subst (λ command. P (output_of command d)) (sym is) h

pub output_of_table : (o : Option Directory) (command : Command) (n : ℕ) (part : SstPart) (hex : Bool) (P : Output → Type 0) → command ≡ sst n part hex
    → IfSome o (λ d. P (sst_output n part hex (get d (table_name n)))) → IfSome o (λ d. P (output_of command d))
unfolding command_output
output_of_table None command n part hex P is h = tt
output_of_table (Some d) command n part hex P is h = subst (λ command. P (output_of command d)) (sym is) h

pub output_of_scan : (o : Option Directory) (command : Command) (named : Option (List ℕ)) (opening : How) (from to : Option KeyWord) (hex : Bool) (P : Output → Type 0) → command ≡ scan named opening from to hex
    → IfSome o (λ d. P (scan_output named from to hex (state_of opening d))) → IfSome o (λ d. P (output_of command d))
unfolding command_output
output_of_scan None command named opening from to hex P is h = tt
output_of_scan (Some d) command named opening from to hex P is h = subst (λ command. P (output_of command d)) (sym is) h

pub output_of_get : (o : Option Directory) (command : Command) (key : KeyWord) (named : Option (List ℕ)) (opening : How) (hex : Bool) (P : Output → Type 0) → command ≡ get_key key named opening hex
    → IfSome o (λ d. P (get_output key named hex (state_of opening d))) → IfSome o (λ d. P (output_of command d))
unfolding command_output
output_of_get None command key named opening hex P is h = tt
output_of_get (Some d) command key named opening hex P is h = subst (λ command. P (output_of command d)) (sym is) h

pub output_of_check : (o : Option Directory) (command : Command) (opening : How) (P : Output → Type 0) → command ≡ check opening
    → IfSome o (λ d. P (check_output opening d)) → IfSome o (λ d. P (output_of command d))
unfolding command_output
output_of_check None command opening P is h = tt
output_of_check (Some d) command opening P is h = subst (λ command. P (output_of command d)) (sym is) h

pub output_of_drill : (o : Option Directory) (command : Command) (n : ℕ) (P : Output → Type 0) → command ≡ drill n → P (drill_so_far n (drill_directory n)) → IfSome o (λ d. P (output_of command d))
output_of_drill None command n P is h = tt
output_of_drill (Some d) command n P is h = subst (λ command. P (output_of command d)) (sym is) h

-- what is written of a command that the program doesn't have
pub output_of_none : (o : Option Directory) (command other : Command) (P : Output → Type 0) → command ≡ other → built (Some other) ≡ None → P (record { lines = usage_line ∷ []; status = Usage })
    → IfSome o (λ d. P (output_of command d))
unfolding command_output
output_of_none None command other P is lacks h = tt
output_of_none (Some d) command other P is lacks h = subst (λ built. P (so_far built d)) (sym (ap (λ command. built (Some command)) is ∙ lacks)) h

pub lines_of_command : (o : Option Directory) (words : List (List ℕ)) (command : Command) (P : Output → Type 0) → ◌≡◌ {A = Option Command} (Some command) (command_of words)
    → IfSome o (λ d. P (output_of command d)) → IfSome o (λ d. P (output_so_far words d))
lines_of_command None words command P is h = tt
lines_of_command (Some d) words command P is h = subst (λ command. P (so_far (built command) d)) is h

pub lines_of_usage : (o : Option Directory) (words : List (List ℕ)) (P : Output → Type 0) → ◌≡◌ {A = Option Command} None (command_of words) → P (record { lines = usage_line ∷ []; status = Usage })
    → IfSome o (λ d. P (output_so_far words d))
unfolding command_output
lines_of_usage None words P is h = tt
lines_of_usage (Some d) words P is h = subst (λ command. P (so_far (built command) d)) is h
