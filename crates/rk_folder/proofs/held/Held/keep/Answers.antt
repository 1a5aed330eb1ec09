use Rattle.std.proofs.Common.{◌+◌, ◌-◌, ◌++◌, length, ap, ◌∙◌, rules}
use borrow.Rule.Slice.PartMut.{put_mid}
use Rattle.rk_folder.proofs.Waiting.{part_of, part_more}
use Rattle.rk_folder.proofs.held.Held.keep.Goals as goal

pub returns-clause-kept : goal.returns-clause-kept
returns-clause-kept c _ =
    let held = c.self.inside in
    let k = held.end + length c.args.bytes.now - held.end in
    ap (λ bytes. part_of held.start (held.end + length c.args.bytes.now) (put_mid held.end k held.room bytes)) c.copy_from_slice.ensures.after
    ∙ part_more held.start held.end k held.room c.args.bytes.now c.self.invariant.0 (search rules)
    ∙ ap (λ bytes. bytes ++ c.args.bytes.now) c.self.view_is
