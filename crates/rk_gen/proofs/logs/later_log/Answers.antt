use Rattle.std.proofs.Common.{◌≡◌, ◌+◌, ◌*◌, List, map, IfOk, subst, zero-add}
use Rattle.rk_bytes.specs.declared.model.key.Record.{Record}
use Rattle.rk_bytes.specs.Model.Drill.{drill_put, up_to, log_of_puts, drill_log}
use Rattle.rk_gen.specs.Puts.{put_above}
use Rattle.rk_gen.proofs.logs.later_log.Goals as goal

pub returns : goal.returns
unfolding drill_log
returns c =
    let n = c.args.number in
    let same : map (put_above (2 * n) 0) (up_to n) ≡ map (λ j. drill_put (2 * n + j) j (2 * n + j)) (up_to n) = λ i. map (λ j. drill_put (2 * n + j) (zero-add j i) (2 * n + j)) (up_to n) in
    subst (λ (puts : List Record). IfOk c.log_of_puts.result (λ log. log ≡ log_of_puts puts)) same c.log_of_puts.ensures
