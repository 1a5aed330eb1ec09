use Rattle.std.proofs.Common.{◌≤◌, List, ℕ, Option, IfSome, length, sym, subst}
use Rattle.rk_sst.proofs.RisingLemmas.{long_last}
use Rattle.rk_sst.proofs.records.take_block.Goals as goal

pub returns-clause-long : goal.returns-clause-long
returns-clause-long g c =
    let last = c.in_ok-keep_last.ensures.ok in
    subst (λ (key : Option (List ℕ)). IfSome key (λ key. 8 ≤ length key)) (sym last) (long_last c.args.last.now c.as_slice.result.now c.requires.long)
