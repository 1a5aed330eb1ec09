use Rattle.std.proofs.Common.{◌-◌, List, ℕ, length, take, ap, ◌∙◌}
use Rattle.rk_bytes.specs.Model.Drill.{drill_torn_log}
use Rattle.rk_gen.proofs.logs.torn_log.Goals as goal

pub returns : goal.returns
unfolding drill_torn_log
returns c =
    let log : List ℕ = c.in_ok-log.log in
    c.truncate.ensures ∙ ap (λ len. take len log) (c.saturating_sub.ensures ∙ ap (λ (log : List ℕ). length log - 1) c.as_slice-len.ensures)
    ∙ ap (λ (log : List ℕ). take (length log - 1) log) c.in_ok-log.ensures
