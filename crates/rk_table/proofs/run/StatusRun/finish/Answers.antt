use Rattle.std.proofs.Common.{ap, ◌∙◌}
use Rattle.rk_table.specs.Runs.{want_of}
use Rattle.rk_table.proofs.RunLemmas.{nothing_left}
use Rattle.rk_table.proofs.run.StatusRun.finish.Goals as goal

pub unreachable-requires : goal.unreachable-requires
unreachable-requires c = nothing_left c.self.inside.length c.self.inside.stage c.self.invariant (ap want_of c.self.view_is ∙ c.requires) c.in_default.not-Ended
