use Rattle.std.proofs.Common.{◌≡◌, length, map, take}
use Rattle.std.specs.Prelude.{IfSome}
use Rattle.std.specs.FinMap.{get}
use Rattle.rk_bytes.specs.Model.BestEfforts.{is_whole_in}
use Rattle.rk_bytes.specs.Model.DiskImages.{IsLeft, contents_told}
use Rattle.rk_open.specs.Reads.{AreKept}
use Rattle.rk_open.proofs.whole.test_files.Given as goal

-- the files so far are tested, and no call failed
abbrev pub invariant-loop-file : goal.invariant-loop-file
invariant-loop-file g l =
    let told = g.D.Disk.told l.fn.disk in
    record {
      left : IsLeft told (g.D.Disk.told l.disk);
      faults : g.D.Disk.faults l.disk ≡ g.D.Disk.faults l.fn.disk;
      count : length l.tested.answers.items ≡ l.file-index;
      answers : IfSome (contents_told told) (λ d. l.tested.answers.items ≡ map (is_whole_in (get d)) (take l.file-index l.files));
      kept : AreKept (contents_told told) l.kept;
    }
