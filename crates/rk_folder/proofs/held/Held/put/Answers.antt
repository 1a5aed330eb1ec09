use Rattle.std.proofs.Common.{take, refl}
use Rattle.rk_folder.proofs.Waiting.{then_through}
use Rattle.rk_folder.proofs.held.Held.put.Goals as goal

pub returns-in-Ok-clause-ok : goal.returns-in-Ok-clause-ok
returns-in-Ok-clause-ok g c =
    then_through _ _ _ _ _ _ _ c.args.bytes.now (c.if-keep.ensures.left refl) (c.if-keep-2.ensures.left refl) c.in_ok-hand_on.ensures.handed c.in_ok-hand_on.ensures.ok c.in-Ok.ensures.ok

pub returns-in-Err-clause-err : goal.returns-in-Err-clause-err
returns-in-Err-clause-err g c =
    let n = c.in-Err.stopped.taken in
    (n, then_through _ _ _ _ _ _ _ (take n c.args.bytes.now) (c.if-keep.ensures.left refl) (c.if-keep-2.ensures.left refl) c.in_ok-hand_on.ensures.handed c.in_ok-hand_on.ensures.ok c.in-Err.ensures.err.1)
