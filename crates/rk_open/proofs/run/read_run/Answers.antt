use Rattle.std.proofs.Common.{List, Option, Some, Result, Ok, rules, ap, ◌∙◌, subst}
use Rattle.std.specs.Prelude.{IfSome}
use Rattle.rk_bytes.specs.declared.model.key.Record.{Record}
use Rattle.rk_bytes.specs.Model.DiskImages.{contents_told}
use Rattle.rk_bytes.specs.Model.Opening.{are_within}
use Rattle.rk_sst.specs.declared.error.SstErr.{SstErr}
use Rattle.rk_sst.specs.Opened.{IsOpen, GivesNext}
use Rattle.rk_sst.specs.Rising.{RisesOn}
use Rattle.rk_open.proofs.RunLemmas.{run_more, rise_more, last_more, within_both}
use Rattle.rk_open.proofs.run.read_run.Goals as goal

pub loop-records-preserved : goal.loop-records-preserved
loop-records-preserved g c =
    let inv = c.loop-records.invariant in
    let o = contents_told (g.D.Disk.told c.args.disk.now) in
    let first = c.args.table.now in
    let old = c.loop-records.table in
    let new = c.next_records.new.self in
    let run = c.loop-records.run.items in
    let records = c.in-Ok-Some.records in
    let after = c.join.new.run.items in
    let joined = c.in_ok-join-in-Ok-Some.ensures.joined in
    let given = subst (λ told. IfSome (contents_told told) (λ files. GivesNext old files (Ok (Some records)) new)) inv.left
    (subst (λ (given : Result (Option (List Record)) SstErr). IfSome (contents_told (g.D.Disk.told c.loop-records.disk)) (λ files. GivesNext old files given new)) (c.in-Ok-Some.is ∙ ap Ok c.in-Ok-Some.field-0-is) c.next_records.ensures.records) in
    let rises = subst (λ (given : Result (Option (List Record)) SstErr). RisesOn old given new.last) (c.in-Ok-Some.is ∙ ap Ok c.in-Ok-Some.field-0-is) c.next_records.ensures.rising in record {
      left = search rules;
      faults = search rules;
      table = c.in-Ok-Some.ensures.table ∙ inv.table;
      opened = subst (λ told. IfSome (contents_told told) (IsOpen new)) inv.left c.in-Ok-Some.ensures.open;
      run = run_more first old run records after joined.0 o new inv.run given;
      within = ap (are_within c.args.file.now) joined.0 ∙ within_both c.args.file.now run records inv.within joined.1;
      rising = rise_more first old run records after joined.0 inv.table inv.last inv.rising rises.0;
      last = last_more first old run records after joined.0 new.last inv.last rises.1;
    }
