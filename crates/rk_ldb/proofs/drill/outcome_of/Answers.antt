use Rattle.std.proofs.Common.{◌≡◌, Ok}
use Rattle.rk_bytes.specs.Model.Output.{state_of}
use Rattle.rk_open.specs.Answers.{RefusesAs}
use Rattle.rk_view.specs.Kept.{Kept}
use Rattle.rk_ldb.proofs.DrillLemmas.{of_files, same_files, never_failed, opened_outcome, refused_outcome}
use Rattle.rk_ldb.proofs.drill.outcome_of.Goals as goal

pub returns-in-Ok-clause-outcome : goal.returns-in-Ok-clause-outcome
returns-in-Ok-clause-outcome c =
    opened_outcome (state_of c.args.how c.args.disk.now) c.in-Ok.state.state c.counted.result (of_files (λ d. state_of c.args.how d ≡ Ok c.in-Ok.state.state) c.args.disk.now c.in-Ok.ensures.state) c.counted.ensures

pub returns-in-Ok-clause-same : goal.returns-in-Ok-clause-same
returns-in-Ok-clause-same c = same_files c.args.disk.now c.open_state.new.disk c.open_state.ensures.left

pub returns-in-Err-clause-outcome : goal.returns-in-Err-clause-outcome
returns-in-Err-clause-outcome c =
    refused_outcome (state_of c.args.how c.args.disk.now) c.in-Err.why c.refused.result (of_files (λ d. RefusesAs (state_of c.args.how d) c.in-Err.why) c.args.disk.now c.in-Err.ensures.state)
    (never_failed Kept c.in-Err.why c.in-Err.ensures.faults) c.refused.ensures.outcome c.refused.ensures.memory

pub returns-in-Err-clause-same : goal.returns-in-Err-clause-same
returns-in-Err-clause-same c = same_files c.args.disk.now c.open_state.new.disk c.open_state.ensures.left
