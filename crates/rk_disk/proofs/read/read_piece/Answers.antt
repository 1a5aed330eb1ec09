use Rattle.std.proofs.Common.{◌-◌, length, ap, rules}
use Rattle.rk_bytes.specs.Model.DiskImages.{contents_told}
use Rattle.rk_disk.proofs.Pieces.{told_more, told_ended, rest_lent, lent_sum, none_behind}
use Rattle.rk_disk.proofs.read.read_piece.Goals as goal

pub loop-filled-preserved : goal.loop-filled-preserved
loop-filled-preserved g c =
    let n = c.loop-filled.filled in
    let buf = c.loop-filled.buf in
    record {
      within = search rules;
      room = search rules;
      part = told_more _ _ _ _ _ _ _ _ _ _ _ _ (ap contents_told c.loop-filled.invariant.left) (rest_lent n buf) (none_behind n buf) c.in-Some.ensures.1 c.loop-filled.invariant.part c.in_ok-got.ensures.part c.in_ok-got.ensures.short;
      left = search rules;
      faults = search rules;
    }

pub returns-then-got-eq0-clause-part : goal.returns-then-got-eq0-clause-part
returns-then-got-eq0-clause-part g c =
    let n = c.loop-filled.filled in
    let buf = c.loop-filled.buf in
    let same = ap contents_told c.loop-filled.invariant.left in
    let more = told_more _ _ _ _ _ _ _ _ _ _ _ _ same (rest_lent n buf) (none_behind n buf) c.in-Some.ensures.1 c.loop-filled.invariant.part c.in_ok-got.ensures.part c.in_ok-got.ensures.short in
    told_ended _ _ buf _ _ _ n (length buf - n) _ _ _ _ _ same (lent_sum n _ buf c.loop-filled.invariant.within c.loop-filled.invariant.room) c.in-Some.ensures.1 c.if-got-eq0.true more c.in_ok-got.ensures.part
