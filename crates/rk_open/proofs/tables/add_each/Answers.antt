use Rattle.std.proofs.Common.{rules, sym, subst}
use Rattle.std.specs.Prelude.{IfSome}
use Rattle.std.specs.FinMap.{get}
use Rattle.rk_bytes.specs.Model.DiskImages.{contents_told}
use Rattle.rk_bytes.specs.Model.Opening.{table_file}
use Rattle.rk_open.specs.Answers.{RefusesAs}
use Rattle.rk_open.specs.Reads.{AreKept}
use Rattle.rk_open.specs.Tables.{listed_of, AddsTable}
use Rattle.rk_open.proofs.TablesLemmas.{tables_none, each_more, each_refuses, greater_is}
use Rattle.rk_open.proofs.tables.add_each.Goals as goal

pub loop-table-init : goal.loop-table-init
loop-table-init g c = record {
  left = search rules;
  faults = search rules;
  added = tables_none (contents_told (g.D.Disk.told c.args.disk.now)) c.args.state.now.state;
  kept = c.requires.kept;
}

pub add_table-requires-clause-kept : goal.add_table-requires-clause-kept
add_table-requires-clause-kept g c = let inv = c.loop-table.invariant in subst (λ told. AreKept (contents_told told) c.loop-table.kept) (sym inv.left) inv.kept

pub loop-table-preserved : goal.loop-table-preserved
loop-table-preserved g c =
    let inv = c.loop-table.invariant in
    let o = contents_told (g.D.Disk.told c.args.disk.now) in
    let table = c.table-item.result in
    let own = subst (λ told. AddsTable (contents_told told) (listed_of table) c.loop-table.state.state c.add_table.new.state.state c.in-Ok.own) inv.left c.in-Ok.ensures.table in record {
      left = search rules;
      faults = search rules;
      added = each_more listed_of c.args.tables.now c.loop-table.table-index table c.table-item.is c.loop-table-test.true o c.args.state.now.state c.loop-table.state.state c.add_table.new.state.state c.loop-table.top c.in-Ok.own c.max-top.result inv.added own (greater_is c.loop-table.top c.in-Ok.own c.max-top.result c.max-top.ensures);
      kept = subst (λ told. AreKept (contents_told told) c.add_table.new.kept) inv.left c.in-Ok.ensures.kept;
    }

pub returns-in-Err-clause-tables : goal.returns-in-Err-clause-tables
returns-in-Err-clause-tables g c =
    let inv = c.loop-table.invariant in
    let o = contents_told (g.D.Disk.told c.args.disk.now) in
    let table = c.table-item.result in
    let refuses = subst (λ told. IfSome (contents_told told) (λ d. RefusesAs (table_file (get d) (listed_of table)) c.in-Err.why)) inv.left c.in-Err.ensures.table in
    each_refuses listed_of c.args.tables.now c.loop-table.table-index table c.table-item.is c.loop-table-test.true o c.args.state.now.state c.loop-table.state.state c.loop-table.top c.in-Err.why inv.added refuses
