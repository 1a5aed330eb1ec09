-- What is written of a table, block by block.
use Rattle.std.proofs.Common.{◌≡◌, ℕ, Bool, List, [], ◌++◌, map, Option, Some, None, Ok, Err, sym, ap, ◌∙◌, subst, append_assoc}
use Rattle.std.specs.Prelude.{IfSome}
use Rattle.std.proofs.lemmas.List.{map-append}
use Rattle.rk_bytes.specs.declared.model.block.RangeDel.{RangeDel}
use Rattle.rk_bytes.specs.declared.model.key.Record.{Record}
use Rattle.rk_bytes.specs.declared.model.status.Status.{Status}
use Rattle.rk_bytes.specs.Model.DiskImages.{Directory}
use Rattle.rk_bytes.specs.Model.Lines.{entry_line, range_line}
use Rattle.rk_bytes.specs.Model.Output.{Took, joined}
use Rattle.rk_sst.specs.declared.error.SstErr.{SstErr}
use Rattle.rk_sst.specs.declared.error.SstErr.TheVariants.{NoTable, Damaged, Unsupported, DiskFault, Memory}
use Rattle.rk_sst.specs.Errors.{IsCause}
use Rattle.rk_sst.specs.Seen.{OpenSeen}
use Rattle.rk_sst.specs.Opened.{records_left, GivesNext}
use Rattle.rk_ldb.specs.declared.refusal.Refusal.{Refusal}
use Rattle.rk_ldb.specs.declared.stop.Stop.{Stop}
use Rattle.rk_ldb.specs.declared.stop.Stop.TheVariants as stop
use Rattle.rk_ldb.specs.Stops.{TookUpTo}
use Rattle.rk_ldb.specs.Tables.{table_stop, scan_lines}
use Rattle.rk_ldb.specs.Wrote.{Wrote}
use Rattle.rk_ldb.proofs.Taken.{Wrote-more, Wrote-stopped, Wrote-lines, Wrote-all}
use Rattle.std.proofs.lemmas.List.{append-nil}

-- the lines of a block's records come first
scan_next : (hex : Bool) (old new : OpenSeen) (files : Directory) (records : List Record) → records_left old files ≡ records ++ records_left new files → new.table ≡ old.table
    → scan_lines hex old files ≡ map (entry_line hex) records ++ scan_lines hex new files
scan_next hex old new files records given same =
    let ranges = map (range_line hex) old.table.ranges in
    ap (λ left. map (entry_line hex) left ++ ranges) given ∙ ap (λ lines. lines ++ ranges) (map-append (entry_line hex) records (records_left new files))
    ∙ append_assoc (map (entry_line hex) records) (map (entry_line hex) (records_left new files)) ranges
    ∙ (λ i. map (entry_line hex) records ++ (map (entry_line hex) (records_left new files) ++ map (range_line hex) (sym same i).ranges))

-- what was written of a table up to its next block, over the files that are told
abbrev pub Scanned : Option Directory → Option (List ℕ) → Option (List ℕ) → Bool → OpenSeen → OpenSeen → Type 0
Scanned o before now hex first seen = IfSome o (λ files. Wrote before now (scan_lines hex first files) (scan_lines hex seen files))

module _ (before between now : Option (List ℕ)) (hex : Bool) (first old new : OpenSeen) where
  pub block_scanned : (o : Option Directory) (records : List Record) → Scanned o before between hex first old → IfSome o (λ files. GivesNext old files (Ok (Some records)) new) → new.table ≡ old.table
      → Took between now (joined (map (entry_line hex) records)) → Scanned o before now hex first new
  block_scanned None records h given same took = tt
  block_scanned (Some files) records h given same took =
      Wrote-more before between now (scan_lines hex first files) (map (entry_line hex) records) (scan_lines hex new files)
      (subst (Wrote before between (scan_lines hex first files)) (scan_next hex old new files records given same) h) took

  pub block_stopped : (o : Option Directory) (records : List Record) (why : Stop) → Scanned o before between hex first old → IfSome o (λ files. GivesNext old files (Ok (Some records)) new) → new.table ≡ old.table
      → TookUpTo {T = Unit {0}} between now (map (entry_line hex) records) (Err why) → IfSome o (λ files. TookUpTo {T = Status} before now (scan_lines hex first files) (Err why))
  block_stopped None records why h given same took = tt
  block_stopped (Some files) records why h given same took =
      Wrote-stopped (Unit {0}) Status before between now (scan_lines hex first files) (map (entry_line hex) records) (scan_lines hex new files) why
      (subst (Wrote before between (scan_lines hex first files)) (scan_next hex old new files records given same) h) took

  -- the range deletions alone are left
  ranges_left : (files : Directory) (ranges : List RangeDel) → records_left old files ≡ [] → ranges ≡ old.table.ranges → scan_lines hex old files ≡ map (range_line hex) ranges ++ []
  ranges_left files ranges none same = (λ i. map (entry_line hex) (none i) ++ map (range_line hex) (sym same i)) ∙ sym (append-nil (map (range_line hex) ranges))

  pub ranges_scanned : (o : Option Directory) (ranges : List RangeDel) → Scanned o before between hex first old → IfSome o (λ files. records_left old files ≡ []) → ranges ≡ old.table.ranges
      → Took between now (joined (map (range_line hex) ranges)) → IfSome o (λ files. Took before now (joined (scan_lines hex first files)))
  ranges_scanned None ranges h none same took = tt
  ranges_scanned (Some files) ranges h none same took =
      Wrote-all before now (scan_lines hex first files)
      (Wrote-more before between now (scan_lines hex first files) (map (range_line hex) ranges) [] (subst (Wrote before between (scan_lines hex first files)) (ranges_left files ranges none same) h) took)

  pub ranges_stopped : (o : Option Directory) (ranges : List RangeDel) (why : Stop) → Scanned o before between hex first old → IfSome o (λ files. records_left old files ≡ []) → ranges ≡ old.table.ranges
      → TookUpTo {T = Unit {0}} between now (map (range_line hex) ranges) (Err why) → IfSome o (λ files. TookUpTo {T = Status} before now (scan_lines hex first files) (Err why))
  ranges_stopped None ranges why h none same took = tt
  ranges_stopped (Some files) ranges why h none same took =
      Wrote-stopped (Unit {0}) Status before between now (scan_lines hex first files) (map (range_line hex) ranges) [] why
      (subst (Wrote before between (scan_lines hex first files)) (ranges_left files ranges none same) h) took

  -- the disk failed, or memory ran out
  pub scan_stopped : (o : Option Directory) (n : ℕ) (error : SstErr) (why : Stop) → Scanned o before between hex first old → Err why ≡ table_stop n error → IfSome o (λ files. TookUpTo {T = Status} before between (scan_lines hex first files) (Err why))
  scan_stopped None n error why h is = tt
  scan_stopped (Some files) n NoTable why h is = absurd cc
  scan_stopped (Some files) n (Damaged cause place) why h is = absurd cc
  scan_stopped (Some files) n (Unsupported what) why h is = absurd cc
  scan_stopped (Some files) n DiskFault why h is = let same : stop.Disk ≡ why = cc in
      subst (λ why. TookUpTo {T = Status} before between (scan_lines hex first files) (Err why)) same (Wrote-lines before between (scan_lines hex first files) (scan_lines hex old files) h)
  scan_stopped (Some files) n Memory why h is = let same : stop.Memory ≡ why = cc in
      subst (λ why. TookUpTo {T = Status} before between (scan_lines hex first files) (Err why)) same (Wrote-lines before between (scan_lines hex first files) (scan_lines hex old files) h)

-- a table that is told isn't refused once it was opened
pub not_refused : (o : Option Directory) (P : Directory → Type 0) (n : ℕ) (error : SstErr) (why : Refusal) → IfSome o (λ files. IsCause error) → Ok why ≡ table_stop n error → IfSome o P
not_refused None P n error why cause is = tt
not_refused (Some files) P n NoTable why cause is = absurd cause
not_refused (Some files) P n (Damaged reason place) why cause is = absurd cause
not_refused (Some files) P n (Unsupported what) why cause is = absurd cause
not_refused (Some files) P n DiskFault why cause is = absurd cc
not_refused (Some files) P n Memory why cause is = absurd cc
