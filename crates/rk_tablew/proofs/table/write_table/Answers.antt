use Rattle.std.proofs.Common.{◌∙◌, subst, List, ℕ}
use Rattle.std.proofs.lemmas.Result.{IfOk-weaker}
use Rattle.rk_tablew.specs.Parts.{EndsWith}
use Rattle.rk_tablew.specs.Writing.{TableDone}
use Rattle.rk_tablew.proofs.TableLemmas.{TableDone-from}
use Rattle.rk_tablew.proofs.table.write_table.Goals as goal

pub returns : goal.returns
returns c =
    let s = c.args.stated.now in
    IfOk-weaker c.with_end.result (λ table. EndsWith c.in_ok-data.data.front c.in_ok-ranges.ranges c.as_slice.result.now c.as_slice-2.result.now table)
    (λ table. TableDone c.args.out c.args.index c.args.block c.args.ranges s.record_count s.range_count s.family s.name.now s.sizes table)
    (λ table ends. TableDone-from c.args.out c.args.index c.args.block c.args.ranges s.record_count s.range_count s.family s.name.now s.sizes table c.in_ok-data.data.front c.in_ok-data.data.index c.in_ok-ranges.ranges c.as_slice.result.now
    c.in_ok-data.ensures c.in_ok-ranges.ensures (c.as_slice.ensures ∙ c.in_ok-properties.ensures)
    (subst (λ (index : List ℕ). EndsWith c.in_ok-data.data.front c.in_ok-ranges.ranges c.as_slice.result.now index table) c.as_slice-2.ensures ends))
    c.with_end.ensures
