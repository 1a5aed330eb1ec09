use Rattle.std.proofs.Common.{◌+◌, ◌-◌, arith, sym}
use Rattle.rk_block.proofs.EntryLemmas.{entry_whole_at}
use Rattle.rk_block.proofs.entry.read_entry.Goals as goal

pub returns-clause-entry : goal.returns-clause-entry
returns-clause-entry c = λ place key.
    let lengths = c.in_ok-lengths.lengths in
    let rest_end = lengths.spelled + lengths.rest in
    entry_whole_at place key c.args.bytes.now lengths.shared lengths.rest lengths.value lengths.spelled (rest_end - lengths.spelled) (rest_end + lengths.value - rest_end) (sym c.in_ok-lengths.ensures.lengths) c.if-bytes-end.false (omega arith) (omega arith)
