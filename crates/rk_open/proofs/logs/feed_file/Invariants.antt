use Rattle.std.proofs.Common.{◌≡◌, ◌≤◌, ◌-◌, List, length, take}
use Rattle.std.specs.Prelude.{IfSome}
use Rattle.rk_bytes.specs.Model.DiskImages.{IsLeft}
use Rattle.rk_bytes.specs.Model.Replay.{Log}
use Rattle.rk_disk.specs.Parts.{OfFile}
use Rattle.rk_walmode.specs.Runs.{version_of, mode_of, open_log, bytes_read, HasFed}
use Rattle.rk_open.specs.Logs.{fed_whole, HasFedFront}
use Rattle.rk_open.proofs.logs.feed_file.Given as goal

-- the blocks before this one were fed, and no call failed
abbrev pub invariant-loop-part : goal.invariant-loop-part
invariant-loop-part g l =
    record {
      within : l.at ≤ l.size;
      room : length l.buffer ≡ 32768;
      version : version_of l.run ≡ version_of l.fn.run;
      mode : mode_of l.run ≡ mode_of l.fn.run;
      log : IfSome (open_log l.run) (λ log. log ≡ l.number);
      read : bytes_read l.run ≤ l.at;
      left : IsLeft (g.D.Disk.told l.fn.disk) (g.D.Disk.told l.disk);
      faults : g.D.Disk.faults l.disk ≡ g.D.Disk.faults l.fn.disk;
      fed : OfFile (g.D.Disk.told l.fn.disk) l.name l.size (λ bytes. (before : List Log) → HasFed l.fn.run (fed_whole before) → HasFedFront l.run before l.number (take l.at bytes));
    }

abbrev pub decreases-loop-part : goal.decreases-loop-part
decreases-loop-part g l = l.size - l.at
