use Rattle.std.proofs.Common.{arith}
use Rattle.rk_table.specs.Told.{value_of}
use Rattle.rk_table.proofs.Callers.KeyBytes.{are_bytes}
use Rattle.rk_sst.proofs.TakenLemmas.{come_first, entry_there}
use Rattle.rk_sst.proofs.RisingLemmas.{block_rises}
use Rattle.rk_sst.proofs.records.records_in.Goals as goal

pub returns-clause-records : goal.returns-clause-records
returns-clause-records c = λ whole at entries there handed read.
    let bytes = are_bytes c.args.bytes.now (λ i. let fits = c.type_inv.bytes i in omega arith) in
    come_first whole c.args.table.now c.args.block (value_of c.args.last) at c.args.bytes.now entries c.in_ok-records.records there bytes handed (c.in_ok-records.ensures.records at there) read

pub returns-clause-rising : goal.returns-clause-rising
returns-clause-rising c =
    let bytes = are_bytes c.args.bytes.now (λ i. let fits = c.type_inv.bytes i in omega arith) in
    let (at, there) = entry_there c.args.table.now.index c.args.block c.requires.within in
    block_rises c.args.table.now.family at.block.offset (value_of c.args.last) c.args.bytes.now c.in_ok-records.records bytes (c.in_ok-records.ensures.records at there)
