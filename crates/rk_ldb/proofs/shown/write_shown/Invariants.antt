use Rattle.std.proofs.Common.{◌≡◌, ◌≤◌, length, map, drop}
use Rattle.rk_ldb.specs.Wrote.{Wrote}
use Rattle.rk_ldb.proofs.shown.write_shown.Given as goal

-- the things so far have their lines in the output, and no write failed
abbrev pub invariant-loop-thing : goal.invariant-loop-thing
invariant-loop-thing g l =
    Wrote (g.S.Sink.taken l.fn.out) (g.S.Sink.taken l.out) (map (g.T.Shown.shown l.hex) l.things) (map (g.T.Shown.shown l.hex) (drop l.thing-index l.things))
    × (g.S.Sink.faults l.out ≡ g.S.Sink.faults l.fn.out) × (l.thing-index ≤ length l.things)
