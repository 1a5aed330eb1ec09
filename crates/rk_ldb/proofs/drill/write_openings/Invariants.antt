use Rattle.std.proofs.Common.{◌≡◌, ◌≤◌, length, map, drop}
use Rattle.rk_ldb.specs.Drills.{opened_line}
use Rattle.rk_ldb.specs.Wrote.{Wrote}
use Rattle.rk_ldb.proofs.drill.write_openings.Given as goal

-- the openings so far have their lines in the output, no write failed, and the directory is as it was
abbrev pub invariant-loop-how : goal.invariant-loop-how
invariant-loop-how g l =
    Wrote (g.S.Sink.taken l.fn.out) (g.S.Sink.taken l.out) (map (opened_line l.fn.disk) l.ways) (map (opened_line l.fn.disk) (drop l.how-index l.ways))
    × (g.S.Sink.faults l.out ≡ g.S.Sink.faults l.fn.out) × (l.disk ≡ l.fn.disk) × (l.how-index ≤ length l.ways)
