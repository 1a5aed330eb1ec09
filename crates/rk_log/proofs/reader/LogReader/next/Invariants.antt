use Rattle.std.proofs.Common.{◌≡◌, ◌+◌, ◌<◌, ◌^◌, length}
use Rattle.rk_log.specs.Left.{left, bytes_before}
use Rattle.rk_log.proofs.reader.LogReader.next.Given as goal

-- what is left is what was left before
abbrev pub invariant-loop-item : goal.invariant-loop-item
invariant-loop-item l = record {
  same : left l.feed l.self-inside.rest.now ≡ l.fn.self;
  fits : bytes_before l.feed + length l.self-inside.rest.now < 2 ^ 64;
}

abbrev pub decreases-loop-item : goal.decreases-loop-item
decreases-loop-item l = length l.self-inside.rest.now
