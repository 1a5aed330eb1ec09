use Rattle.std.proofs.Common.{rules, of_calls}
use Rattle.std.specs.Prelude.{nat_le}
use Rattle.std.proofs.lemmas.Fn.{always_returns_same}
use Rattle.rk_points.specs.declared.course.Turn.{Turn}
use Rattle.rk_points.proofs.DescentTurns.{are_parted, parts_from}
use Rattle.rk_points.proofs.descent.turns_until.Goals as goal

pub returns-clause-parts : goal.returns-clause-parts
returns-clause-parts c rises =
    parts_from c.args.turns.now c.args.point c.partition_point.result (c.partition_point.ensures.partitioned (λ (turn : Turn). nat_le turn.at c.args.point) (always_returns_same _ _ _ (λ a r f k. search (rules, of_calls))) (are_parted c.args.turns.now c.args.point rises))
