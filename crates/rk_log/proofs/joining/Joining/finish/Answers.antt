use Rattle.std.proofs.Common.{[], refl}
use Rattle.rk_log.proofs.JoinLemmas.{left_behind-open, left_behind-ended, Gives-at, file_end_given}
use Rattle.rk_log.proofs.joining.Joining.finish.Goals as goal

pub returns-clause-left : goal.returns-clause-left
returns-clause-left c =
    Gives-at _ (left_behind-open c.args.self.now c.args.self.now.unfinished c.args.file_len [] c.requires refl) c.cut_off.ensures.item
    (left_behind-ended _ _ c.args.file_len [] c.cut_off.ensures.given)
    (file_end_given c.args.self.now.unfinished c.args.file_len)
