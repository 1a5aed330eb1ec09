use Rattle.std.proofs.Common.{◌≡◌, map, None}
use Rattle.rk_bytes.specs.Model.Drill.{up_to, log_of_puts}
use Rattle.rk_gen.specs.Puts.{put_above}
use Rattle.rk_gen.proofs.logs.log_of_puts.Given as goal

abbrev pub invariant-loop-before : goal.invariant-loop-before
invariant-loop-before l =
    record { legacy : l.log.number ≡ None; so_far : l.log.bytes ≡ log_of_puts (map (put_above l.sequences l.keys) (up_to l.before)) }
