use Rattle.std.proofs.Common.{◌≡◌, ◌-◌, ◌≤◌, true, false, length}
use Rattle.std.specs.List.{AllWithin}
use Rattle.rk_bytes.specs.Model.Records.{slot_of}
use Rattle.rk_view.specs.Places.{is_from}
use Rattle.rk_view.proofs.seek.bisect.Given as goal

abbrev pub invariant-loop-low : goal.invariant-loop-low
invariant-loop-low l = record {
  order : l.low ≤ l.high;
  bound : l.high ≤ length l.run;
  before : AllWithin (λ r. is_from (slot_of l.sought) r ≡ false) l.run 0 l.low;
  after : AllWithin (λ r. is_from (slot_of l.sought) r ≡ true) l.run l.high (length l.run);
}

abbrev pub decreases-loop-low : goal.decreases-loop-low
decreases-loop-low l = l.high - l.low
