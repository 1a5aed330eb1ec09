-- The lines of what is asked of a table, one after another.
use Rattle.std.proofs.Common.{◌≡◌, ℕ, ◌+◌, ◌<◌, ◌≤◌, Bool, List, [], ◌∷◌, ◌++◌, length, map, drop, get_or, Option, Some, None, IfSome, Result, Ok, Err, sym, ap, ◌∙◌, add-one, drop-cons, append_assoc, append-nil}
use Rattle.std.proofs.lemmas.List.{drop_all, map-append}
use Rattle.std.proofs.lemmas.Grind.{flat_map-append}
use Rattle.rk_bytes.specs.declared.model.block.RangeDel.{RangeDel}
use Rattle.rk_bytes.specs.declared.model.command.SstPart.{SstPart}
use Rattle.rk_bytes.specs.declared.model.command.SstPart.TheVariants.{Check, Scan, Properties}
use Rattle.rk_bytes.specs.declared.model.key.Record.{Record}
use Rattle.rk_bytes.specs.Model.DiskImages.{Directory}
use Rattle.rk_bytes.specs.Model.Lines.{good_line, entry_line, range_line, property_line}
use Rattle.rk_bytes.specs.Model.Output.{joined, table_lines}
use Rattle.rk_sst.specs.declared.error.SstErr.{SstErr}
use Rattle.rk_sst.specs.declared.error.SstErr.TheVariants.{NoTable, Damaged, Unsupported, DiskFault, Memory}
use Rattle.rk_sst.specs.Seen.{OpenSeen}
use Rattle.rk_sst.specs.Opened.{records_left, OpensGood, GivesNext}
use Rattle.rk_sst.specs.Lines.{TellsLines, TellsText, scan_lines, asked_lines}

-- a text so far, before the lines of the things from one on, is the whole text
abbrev pub IsPut : {A : Type 0} → (A → List ℕ) → List A → List ℕ → ℕ → List ℕ → Type 0
IsPut shown things before i text = text ++ joined (map shown (drop i things)) ≡ before ++ joined (map shown things)

pub put_next : {A : Type 0} (shown : A → List ℕ) (things : List A) (before text next : List ℕ) (i : ℕ) (thing : A) → i < length things → thing ≡ get_or things i thing → next ≡ text ++ shown thing
    → IsPut shown things before i text → IsPut shown things before (i + 1) next
put_next {A = A} shown things before text next i thing within is appended so_far =
    let dropped : drop i things ≡ thing ∷ drop (i + 1) things = drop-cons things i thing within ∙ (λ j. sym is j ∷ drop (sym (add-one i) j) things) in
    ap (λ (text : List ℕ). text ++ joined (map shown (drop (i + 1) things))) appended
    ∙ append_assoc text (shown thing) (joined (map shown (drop (i + 1) things)))
    ∙ ap (λ (left : List A). text ++ joined (map shown left)) (sym dropped)
    ∙ so_far

pub put_all : {A : Type 0} (shown : A → List ℕ) (things : List A) (before text : List ℕ) (i : ℕ) → length things ≤ i → IsPut shown things before i text → text ≡ before ++ joined (map shown things)
put_all {A = A} shown things before text i ended so_far =
    sym (append-nil text) ∙ ap (λ (left : List A). text ++ joined (map shown left)) (sym (drop_all i things ended)) ∙ so_far

-- what is asked of an open table is what is asked of the good table that it is
asked_of : (part : SstPart) (hex : Bool) (number : ℕ) (seen : OpenSeen) (files : Directory) (is : OpensGood files number seen) → asked_lines part hex seen files ≡ table_lines part hex is.good
asked_of Check hex number seen files is = ap (λ table. good_line table ∷ []) is.table
asked_of Scan hex number seen files is = (λ i. map (entry_line hex) (is.records i) ++ map (range_line hex) (is.table i).ranges)
asked_of Properties hex number seen files is = ap (λ table. map (property_line hex) table.properties) is.table

-- the text of an open table is that of the table's file
pub lines_told : (told : Option Directory) (number : ℕ) (part : SstPart) (hex : Bool) (seen : OpenSeen) (result : Result (List ℕ) SstErr) → IfSome told (λ files. OpensGood files number seen)
    → IfSome told (λ files. TellsText (asked_lines part hex seen files) result) → IfSome told (λ files. TellsLines files number part hex result)
lines_told None number part hex seen result is text = tt
lines_told (Some files) number part hex seen (Ok text) is told = record {
  bytes = is.bytes;
  file = is.file;
  good = is.good;
  status = is.status;
  lines = told ∙ ap joined (asked_of part hex number seen files is);
}
lines_told (Some files) number part hex seen (Err NoTable) is none = absurd none
lines_told (Some files) number part hex seen (Err (Damaged why place)) is none = absurd none
lines_told (Some files) number part hex seen (Err (Unsupported what)) is none = absurd none
lines_told (Some files) number part hex seen (Err DiskFault) is told = tt
lines_told (Some files) number part hex seen (Err Memory) is told = tt

-- How far the text of a table has come: with the lines of what is left behind it, it is the whole text.
abbrev pub IsTold : Option Directory → Bool → OpenSeen → OpenSeen → List ℕ → Type 0
IsTold told hex first seen text = IfSome told (λ files. text ++ joined (scan_lines hex seen files) ≡ joined (scan_lines hex first files))

-- the lines of a block's records come first
scan_next : (hex : Bool) (old new : OpenSeen) (files : Directory) (records : List Record) → records_left old files ≡ records ++ records_left new files → new.table ≡ old.table
    → scan_lines hex old files ≡ map (entry_line hex) records ++ scan_lines hex new files
scan_next hex old new files records given same =
    let ranges = map (range_line hex) old.table.ranges in
    ap (λ left. map (entry_line hex) left ++ ranges) given ∙ ap (λ lines. lines ++ ranges) (map-append (entry_line hex) records (records_left new files))
    ∙ append_assoc (map (entry_line hex) records) (map (entry_line hex) (records_left new files)) ranges
    ∙ (λ i. map (entry_line hex) records ++ (map (entry_line hex) (records_left new files) ++ map (range_line hex) (sym same i).ranges))

module _ (hex : Bool) (first old new : OpenSeen) (text next : List ℕ) where
  pub told_next : (told : Option Directory) (records : List Record) → IsTold told hex first old text → IfSome told (λ files. GivesNext old files (Ok (Some records)) new) → new.table ≡ old.table
      → next ≡ text ++ joined (map (entry_line hex) records) → IsTold told hex first new next
  told_next None records so_far given same put = tt
  told_next (Some files) records so_far given same put =
      ap (λ text. text ++ joined (scan_lines hex new files)) put
      ∙ append_assoc text (joined (map (entry_line hex) records)) (joined (scan_lines hex new files))
      ∙ ap (λ l. text ++ l) (sym (flat_map-append (λ (bytes : List ℕ). bytes) (map (entry_line hex) records) (scan_lines hex new files)))
      ∙ ap (λ lines. text ++ joined lines) (sym (scan_next hex old new files records given same))
      ∙ so_far

  pub told_all : (told : Option Directory) (ranges : List RangeDel) → IsTold told hex first old text → IfSome told (λ files. GivesNext old files (Ok None) new) → ranges ≡ old.table.ranges
      → next ≡ text ++ joined (map (range_line hex) ranges) → IfSome told (λ files. TellsText (scan_lines hex first files) (Ok next))
  told_all None ranges so_far none same put = tt
  told_all (Some files) ranges so_far none same put =
      put ∙ ap (λ ranges. text ++ joined (map (range_line hex) ranges)) same
      ∙ ap (λ (left : List Record). text ++ joined (map (entry_line hex) left ++ map (range_line hex) old.table.ranges)) (sym none)
      ∙ so_far
