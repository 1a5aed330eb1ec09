use Rattle.std.proofs.Common.{Err, ap, sym, subst, ◌∙◌, rules}
use Rattle.std.specs.Prelude.{IfSome}
use Rattle.std.proofs.lemmas.Result.{err_from_is_err_and}
use Rattle.rk_bytes.specs.Model.DiskImages.{contents_told}
use Rattle.rk_bytes.specs.Model.Manifest.{first_log}
use Rattle.rk_open.specs.Logs.{needed_logs}
use Rattle.rk_open.proofs.ReplayedLemmas.{AnswersReplay, needed}
use Rattle.rk_open.proofs.NeededLemmas.{replay_named, replay_not_named}
use Rattle.rk_open.proofs.logs.replay_logs.Goals as goal

pub returns-in_err-numbers-clause-replayed : goal.returns-in_err-numbers-clause-replayed
returns-in_err-numbers-clause-replayed g c =
    let answer = err_from_is_err_and c.from_residual.result c.from_residual.ensures.1 in
    let version = c.args.version.now in
    let first = first_log version in
    let told = contents_told (g.D.Disk.told c.args.disk.now) in
    let why = c.in_err-numbers.field-0.0 in
    subst (λ result. IfSome told (λ d. AnswersReplay c.args.mode version result (needed_logs first d))) (sym (answer.1 ∙ ap Err answer.2))
    (replay_not_named c.args.mode version first why c.in_err-numbers.ensures.cause told)

pub returns-clause-replayed : goal.returns-clause-replayed
returns-clause-replayed g c =
    let version = c.args.version.now in
    let first = first_log version in
    let told = g.D.Disk.told c.args.disk.now in
    let numbers = c.in_ok-numbers.numbers.items in
    let result = c.replay_numbered.result in
    let answers = subst (λ told. IfSome (contents_told told) (λ d. AnswersReplay c.args.mode version result (needed first d numbers))) c.in_ok-numbers.ensures.left (search rules) in
    replay_named c.args.mode version first result numbers (contents_told told) c.in_ok-numbers.ensures.numbers answers
