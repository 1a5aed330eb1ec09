-- Which answers of a disk or an output are faults. This project's own rule.
use Rattle.std.specs.Prelude.{Bool, true, false, Result, Ok, Err}
use Rattle.rk_disk.specs.declared.disk.DiskErr.{DiskErr}
use Rattle.rk_disk.specs.declared.disk.DiskErr.TheVariants as disk
use Rattle.rk_disk.specs.declared.sink.SinkErr.{SinkErr}
use Rattle.rk_disk.specs.declared.sink.SinkErr.TheVariants as sink

abbrev pub disk_failed : {T : Type 0} → Result T DiskErr → Bool
disk_failed (Ok x) = false
disk_failed (Err disk.Failed) = true
disk_failed (Err disk.Memory) = false

abbrev pub sink_failed : {T : Type 0} → Result T SinkErr → Bool
sink_failed (Ok x) = false
sink_failed (Err sink.Failed) = true
sink_failed (Err sink.Memory) = false
