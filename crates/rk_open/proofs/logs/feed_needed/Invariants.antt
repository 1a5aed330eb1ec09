use Rattle.std.proofs.Common.{◌≡◌, None, length, take}
use Rattle.rk_bytes.specs.Model.DiskImages.{IsLeft, contents_told}
use Rattle.rk_walmode.specs.Runs.{version_of, mode_of, open_log, bytes_read}
use Rattle.rk_open.proofs.ReplayedLemmas.{FedNeeded}
use Rattle.rk_open.proofs.logs.feed_needed.Given as goal

-- the logs so far that are needed were fed, and no call failed
abbrev pub invariant-loop-number : goal.invariant-loop-number
invariant-loop-number g l =
    record {
      room : length l.buffer ≡ 32768;
      version : version_of l.run ≡ version_of l.fn.run;
      mode : mode_of l.run ≡ mode_of l.fn.run;
      log : open_log l.run ≡ None;
      read : bytes_read l.run ≡ 0;
      left : IsLeft (g.D.Disk.told l.fn.disk) (g.D.Disk.told l.disk);
      faults : g.D.Disk.faults l.disk ≡ g.D.Disk.faults l.fn.disk;
      fed : FedNeeded l.fn.run l.run l.first (take l.number-index l.numbers) (contents_told (g.D.Disk.told l.fn.disk));
    }
