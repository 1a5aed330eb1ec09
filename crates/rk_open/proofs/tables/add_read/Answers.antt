use Rattle.std.proofs.Common.{List, ap, ◌∙◌, subst}
use Rattle.std.specs.Prelude.{fold, map, max}
use Rattle.rk_bytes.specs.declared.model.block.RangeDel.{RangeDel}
use Rattle.rk_bytes.specs.Model.Opening.{greatest_sequence, range_record}
use Rattle.rk_view.specs.Kept.{with_records}
use Rattle.rk_open.specs.Tables.{Adds, listed_of, cut_ranges}
use Rattle.rk_open.proofs.TablesLemmas.{adds_table}
use Rattle.rk_open.proofs.tables.add_read.Goals as goal

pub returns : goal.returns
returns c = λ disk is.
    let table = c.args.table in
    let listed = listed_of c.args.listed.now in
    let mid = c.add_run.new.self.state in
    let new = c.add_ranges.new.state.state in
    let top_is = c.greatest_with-top.ensures
    ∙ ap (λ n. fold max n (map (λ (range : RangeDel). range.sequence) c.as_slice-2.result.now)) (c.greatest_sequence.ensures ∙ ap greatest_sequence c.as_slice.ensures)
    ∙ ap (λ (ranges : List RangeDel). fold max (greatest_sequence table.run) (map (λ range. range.sequence) ranges)) c.as_slice-2.ensures in
    adds_table disk listed table c.args.state.now.state mid new c.greatest_with-top.result is
    (c.add_run.ensures.state ∙ ap (with_records table.run) c.in_ok-reserve_runs.ensures.state)
    (subst (λ (ranges : List RangeDel). Adds (map (range_record listed.family) ranges) (cut_ranges listed ranges) mid new) c.as_slice-3.ensures c.in_ok-add_ranges.ensures)
    top_is
