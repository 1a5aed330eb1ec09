use Rattle.std.proofs.Common.{List, map, Option, Some, None, Result, Ok, Err, rules, sym, ap, ◌∙◌, subst}
use Rattle.std.specs.Prelude.{IfSome}
use Rattle.std.proofs.lemmas.Result.{err_from_is_err_and}
use Rattle.rk_bytes.specs.declared.model.key.Record.{Record}
use Rattle.rk_bytes.specs.Model.DiskImages.{contents_told}
use Rattle.rk_bytes.specs.Model.Lines.{entry_line}
use Rattle.rk_bytes.specs.Model.Output.{Took, joined}
use Rattle.rk_sst.specs.declared.error.SstErr.{SstErr}
use Rattle.rk_sst.specs.Opened.{IsOpen, GivesNext}
use Rattle.rk_ldb.specs.Stops.{TookUpTo}
use Rattle.rk_ldb.specs.Tables.{scan_lines}
use Rattle.rk_ldb.proofs.Scans.{block_scanned, block_stopped, ranges_stopped, scan_stopped}
use Rattle.rk_ldb.proofs.sst.write_scan.Goals as goal

pub returns-in_err-write_shown-in-Ok-Some-clause-lines : goal.returns-in_err-write_shown-in-Ok-Some-clause-lines
returns-in_err-write_shown-in-Ok-Some-clause-lines g c =
    let inv = c.loop-records.invariant in
    let o = contents_told (g.D.Disk.told c.args.disk.now) in
    let before = g.S.Sink.taken c.args.out.now in
    let between = g.S.Sink.taken c.loop-records.out in
    let now = g.S.Sink.taken c.write_shown.new.out in
    let first = c.args.table.now in
    let old = c.loop-records.table in
    let new = c.next_records_over.new.self in
    let records = c.in-Ok-Some.records in
    let stop = c.in_err-write_shown-in-Ok-Some.field-0.0 in
    let stopped = err_from_is_err_and c.from_residual.result c.from_residual.ensures.1 in
    let given = subst (λ told. IfSome (contents_told told) (λ files. GivesNext old files (Ok (Some records)) new)) inv.left
    (subst (λ (given : Result (Option (List Record)) SstErr). IfSome (contents_told (g.D.Disk.told c.loop-records.disk)) (λ files. GivesNext old files given new)) (c.in-Ok-Some.is ∙ ap Ok c.in-Ok-Some.field-0-is) c.next_records_over.ensures.records) in
    let took = subst (λ (records : List Record). TookUpTo {T = Unit {0}} between now (map (entry_line c.args.hex) records) (Err stop)) c.as_slice.ensures c.in_err-write_shown-in-Ok-Some.ensures.lines in
    subst (λ answer. IfSome o (λ files. TookUpTo before now (scan_lines c.args.hex first files) answer)) (sym (stopped.1 ∙ ap Err stopped.2))
    (block_stopped before between now c.args.hex first old new o records stop inv.scanned given c.in-Ok-Some.ensures.table took)

pub loop-records-preserved : goal.loop-records-preserved
loop-records-preserved g c =
    let inv = c.loop-records.invariant in
    let o = contents_told (g.D.Disk.told c.args.disk.now) in
    let before = g.S.Sink.taken c.args.out.now in
    let between = g.S.Sink.taken c.loop-records.out in
    let now = g.S.Sink.taken c.write_shown.new.out in
    let first = c.args.table.now in
    let old = c.loop-records.table in
    let new = c.next_records_over.new.self in
    let records = c.in-Ok-Some.records in
    let given = subst (λ told. IfSome (contents_told told) (λ files. GivesNext old files (Ok (Some records)) new)) inv.left
    (subst (λ (given : Result (Option (List Record)) SstErr). IfSome (contents_told (g.D.Disk.told c.loop-records.disk)) (λ files. GivesNext old files given new)) (c.in-Ok-Some.is ∙ ap Ok c.in-Ok-Some.field-0-is) c.next_records_over.ensures.records) in
    let took = subst (λ (records : List Record). Took between now (joined (map (entry_line c.args.hex) records))) c.as_slice.ensures c.in_ok-write_shown-in-Ok-Some.ensures.lines in record {
      left = search rules;
      disk_faults = search rules;
      output_faults = search rules;
      opened = subst (λ told. IfSome (contents_told told) (IsOpen new)) inv.left c.in-Ok-Some.ensures.open;
      scanned = block_scanned before between now c.args.hex first old new o records inv.scanned given c.in-Ok-Some.ensures.table took;
    }

pub returns-in_err-table_refusal-in-Err-clause-lines : goal.returns-in_err-table_refusal-in-Err-clause-lines
returns-in_err-table_refusal-in-Err-clause-lines g c =
    let inv = c.loop-records.invariant in
    let o = contents_told (g.D.Disk.told c.args.disk.now) in
    let before = g.S.Sink.taken c.args.out.now in
    let between = g.S.Sink.taken c.loop-records.out in
    let first = c.args.table.now in
    let old = c.loop-records.table in
    let stop = c.in_err-table_refusal-in-Err.field-0.0 in
    let stopped = err_from_is_err_and c.from_residual-in_err-table_refusal-in-Err.result c.from_residual-in_err-table_refusal-in-Err.ensures.1 in
    subst (λ answer. IfSome o (λ files. TookUpTo before between (scan_lines c.args.hex first files) answer)) (sym (stopped.1 ∙ ap Err stopped.2))
    (scan_stopped before between between c.args.hex first old old o c.args.number c.in-Err.why stop inv.scanned c.in_err-table_refusal-in-Err.ensures)

pub returns-in_err-write_shown-clause-lines : goal.returns-in_err-write_shown-clause-lines
returns-in_err-write_shown-clause-lines g c =
    let inv = c.loop-records.invariant in
    let o = contents_told (g.D.Disk.told c.args.disk.now) in
    let before = g.S.Sink.taken c.args.out.now in
    let between = g.S.Sink.taken c.loop-records.out in
    let now = g.S.Sink.taken c.write_shown-2.new.out in
    let first = c.args.table.now in
    let old = c.loop-records.table in
    let new = c.next_records_over.new.self in
    let stop = c.in_err-write_shown.field-0.0 in
    let stopped = err_from_is_err_and c.from_residual-in_err-write_shown.result c.from_residual-in_err-write_shown.ensures.1 in
    let none = subst (λ told. IfSome (contents_told told) (λ files. GivesNext old files (Ok None) new)) inv.left
    (subst (λ (given : Result (Option (List Record)) SstErr). IfSome (contents_told (g.D.Disk.told c.loop-records.disk)) (λ files. GivesNext old files given new)) (c.in-Ok-None.is ∙ ap Ok c.in-Ok-None.field-0-is) c.next_records_over.ensures.records) in
    subst (λ answer. IfSome o (λ files. TookUpTo before now (scan_lines c.args.hex first files) answer)) (sym (stopped.1 ∙ ap Err stopped.2))
    (ranges_stopped before between now c.args.hex first old new o c.as_slice-2.result.now stop inv.scanned none
    (c.as_slice-2.ensures ∙ ap (λ table. table.ranges) (c.table.ensures ∙ c.in-Ok-None.ensures.table)) c.in_err-write_shown.ensures.lines)
