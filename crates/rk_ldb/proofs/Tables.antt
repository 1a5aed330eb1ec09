-- What is written of a table, by whether it opens.
use Rattle.std.proofs.Common.{◌≡◌, ℕ, Bool, List, [], ◌∷◌, ◌++◌, map, Option, Some, None, Result, Ok, Err, sym, ap, ◌∙◌, subst}
use Rattle.std.specs.Prelude.{IfSome}
use Rattle.std.specs.FinMap.{get}
use Rattle.rk_bytes.specs.declared.model.command.SstPart.{SstPart}
use Rattle.rk_bytes.specs.declared.model.command.SstPart.TheVariants.{Check, Scan, Properties}
use Rattle.rk_bytes.specs.declared.model.open.OpenErr.TheVariants.{DamagedTable, UnsupportedTable}
use Rattle.rk_bytes.specs.Model.DiskImages.{Directory}
use Rattle.rk_bytes.specs.Model.FileNames.{table_name}
use Rattle.rk_bytes.specs.Model.Lines.{good_line, entry_line, range_line, property_line, table_fault_words}
use Rattle.rk_bytes.specs.Model.Output.{Output, written, refused, written_or_refused, table_lines, sst_output}
use Rattle.rk_bytes.specs.Model.TableStatus.{TableFault, damaged, unsupported, Good, table_status}
use Rattle.rk_sst.specs.declared.error.SstErr.{SstErr}
use Rattle.rk_sst.specs.declared.error.SstErr.TheVariants.{NoTable, Damaged, Unsupported, DiskFault, Memory}
use Rattle.rk_sst.specs.Seen.{OpenSeen}
use Rattle.rk_sst.specs.Opened.{OpensGood, Opens}
use Rattle.rk_ldb.specs.declared.refusal.Refusal.{Refusal}
use Rattle.rk_ldb.specs.declared.refusal.Refusal.TheVariants as refusal
use Rattle.rk_ldb.specs.Refusals.{words_of}
use Rattle.rk_ldb.specs.Tables.{table_stop, open_lines}

-- what is asked of an open table is what is asked of the good table that it is
asked_lines : (part : SstPart) (hex : Bool) (n : ℕ) (seen : OpenSeen) (files : Directory) (is : OpensGood files n seen) → open_lines part hex seen files ≡ table_lines part hex is.good
asked_lines Check hex n seen files is = ap (λ table. good_line table ∷ []) is.table
asked_lines Scan hex n seen files is = (λ i. map (entry_line hex) (is.records i) ++ map (range_line hex) (is.table i).ranges)
asked_lines Properties hex n seen files is = ap (λ table. map (property_line hex) table.properties) is.table

-- what is written of a file that has this status
of_status : (n : ℕ) (part : SstPart) (hex : Bool) (file : Option (List ℕ)) (bytes : List ℕ) (status : Result Good TableFault) → file ≡ Some bytes → table_status bytes ≡ status
    → sst_output n part hex file ≡ written_or_refused (table_fault_words n) (λ good. written (table_lines part hex good)) status
of_status n part hex file bytes status there is =
    ap (sst_output n part hex) there ∙ ap (λ (status : Result Good TableFault). written_or_refused (table_fault_words n) (λ good. written (table_lines part hex good)) status) is

pub lines_of_table : (o : Option Directory) (n : ℕ) (part : SstPart) (hex : Bool) (seen : OpenSeen) (P : List (List ℕ) → Type 0) → IfSome o (λ files. OpensGood files n seen)
    → IfSome o (λ files. P (open_lines part hex seen files)) → IfSome o (λ files. P (sst_output n part hex (get files (table_name n))).lines)
lines_of_table None n part hex seen P is h = tt
lines_of_table (Some files) n part hex seen P is h =
    subst P (asked_lines part hex n seen files is ∙ sym (ap (λ (o : Output). o.lines) (of_status n part hex (get files (table_name n)) is.bytes (Ok is.good) is.file is.status))) h

pub status_of_table : (o : Option Directory) (n : ℕ) (part : SstPart) (hex : Bool) (seen : OpenSeen) (P : Output → Type 0) → IfSome o (λ files. OpensGood files n seen)
    → IfSome o (λ files. (lines : List (List ℕ)) → P (written lines)) → IfSome o (λ files. P (sst_output n part hex (get files (table_name n))))
status_of_table None n part hex seen P is h = tt
status_of_table (Some files) n part hex seen P is h = subst P (sym (of_status n part hex (get files (table_name n)) is.bytes (Ok is.good) is.file is.status)) (h (table_lines part hex is.good))

pub lines_of_bad_table : (o : Option Directory) (n : ℕ) (part : SstPart) (hex : Bool) (error : SstErr) (why : Refusal) (P : Output → Type 0) → IfSome o (λ files. Opens files n (Err error))
    → Ok why ≡ table_stop n error → P (refused (words_of why)) → IfSome o (λ files. P (sst_output n part hex (get files (table_name n))))
lines_of_bad_table None n part hex error why P is stops h = tt
lines_of_bad_table (Some files) n part hex NoTable why P is stops h =
    let same : why ≡ refusal.NoTable n = cc in
    subst P (ap (λ why. refused (words_of why)) same ∙ sym (ap (sst_output n part hex) is)) h
lines_of_bad_table (Some files) n part hex (Damaged reason place) why P is stops h =
    let same : why ≡ refusal.Open (DamagedTable n reason place) = cc in
    subst P (ap (λ why. refused (words_of why)) same ∙ sym (of_status n part hex (get files (table_name n)) is.bytes (Err (damaged reason place)) is.file is.status)) h
lines_of_bad_table (Some files) n part hex (Unsupported what) why P is stops h =
    let same : why ≡ refusal.Open (UnsupportedTable n what) = cc in
    subst P (ap (λ why. refused (words_of why)) same ∙ sym (of_status n part hex (get files (table_name n)) is.bytes (Err (unsupported what)) is.file is.status)) h
lines_of_bad_table (Some files) n part hex DiskFault why P is stops h = absurd cc
lines_of_bad_table (Some files) n part hex Memory why P is stops h = absurd cc
