use Rattle.std.proofs.Common.{◌≡◌, ◌++◌, filter, length}
use Rattle.std.specs.List.{All}
use Rattle.rk_bytes.specs.Model.WriteBatch.{changes}
use Rattle.rk_bytes.specs.Model.Replay.{is_wanted}
use Rattle.rk_walmode.specs.Low.{IsLow}
use Rattle.rk_walmode.proofs.batch.add_records.Given as goal

abbrev pub invariant-loop-part : goal.invariant-loop-part
invariant-loop-part l = record {
  added : l.records ++ filter (is_wanted l.version l.log) (changes l.batch.left) ≡ l.initial.records ++ filter (is_wanted l.version l.log) (changes l.initial.batch.left);
  low : All IsLow (changes l.initial.batch.left) → All IsLow l.initial.records → All IsLow (changes l.batch.left);
  kept : All IsLow (changes l.initial.batch.left) → All IsLow l.initial.records → All IsLow l.records;
}

abbrev pub decreases-loop-part : goal.decreases-loop-part
decreases-loop-part l = length l.batch.left
