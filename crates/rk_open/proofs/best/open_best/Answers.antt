use Rattle.std.proofs.Common.{subst}
use Rattle.std.specs.Prelude.{IfSome}
use Rattle.std.specs.FinMap.{get}
use Rattle.rk_bytes.specs.Model.DiskImages.{contents_told}
use Rattle.rk_open.specs.Answers.{AnswersBy}
use Rattle.rk_open.specs.Best.{best_of, best_of_last}
use Rattle.rk_open.proofs.BestLemmas.{best_told}
use Rattle.rk_open.proofs.best.open_best.Goals as goal

pub returns-in-Ok-clause-best : goal.returns-in-Ok-clause-best
returns-in-Ok-clause-best g c =
    let o = contents_told (g.D.Disk.told c.args.disk.now) in
    let opened = subst (λ told. IfSome (contents_told told) (λ d. AnswersBy best_of (best_of_last (get d) c.as_slice.result.now) c.open_last.result)) c.manifest_numbers.ensures.left c.open_last.ensures.best in
    best_told o c.in-Ok.numbers.items c.open_last.result c.in-Ok.ensures.numbers (subst (λ numbers. IfSome o (λ d. AnswersBy best_of (best_of_last (get d) numbers) c.open_last.result)) c.as_slice.ensures.value opened)
