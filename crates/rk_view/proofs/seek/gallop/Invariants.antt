use Rattle.std.proofs.Common.{◌≡◌, ◌-◌, ◌<◌, ◌≤◌, false, length}
use Rattle.std.specs.List.{AllWithin}
use Rattle.rk_bytes.specs.Model.Records.{slot_of}
use Rattle.rk_view.specs.Places.{is_from}
use Rattle.rk_view.proofs.seek.gallop.Given as goal

abbrev pub invariant-loop-low : goal.invariant-loop-low
invariant-loop-low l = record {
  from : l.start ≤ l.low;
  bound : l.low ≤ length l.run;
  step : 0 < l.step;
  before : AllWithin (λ r. is_from (slot_of l.sought) r ≡ false) l.run 0 l.low;
}

abbrev pub decreases-loop-low : goal.decreases-loop-low
decreases-loop-low l = length l.run - l.low
