-- What stands after a command that stopped.
use Rattle.std.specs.Prelude.{◌≡◌, ℕ, List, [], Option, Result, Ok, Err}
use Rattle.rk_disk.specs.declared.disk.DiskErr.{DiskErr}
use Rattle.rk_disk.specs.declared.disk.DiskErr.TheVariants as disk
use Rattle.rk_disk.specs.declared.sink.SinkErr.{SinkErr}
use Rattle.rk_disk.specs.declared.sink.SinkErr.TheVariants as sink
use Rattle.rk_ldb.specs.declared.stop.Stop.{Stop}
use Rattle.rk_ldb.specs.declared.stop.Stop.TheVariants.{Disk, Sink, Memory}
use Rattle.rk_bytes.specs.Model.DiskImages.{Rose}
use Rattle.rk_bytes.specs.Model.Output.{Took, TookLines, TookFront, joined}

abbrev pub disk_stop : DiskErr → Stop
disk_stop disk.Failed = Disk
disk_stop disk.Memory = Memory

abbrev pub sink_stop : SinkErr → Stop
sink_stop sink.Failed = Sink
sink_stop sink.Memory = Memory

-- What an output took of these lines: all of them, or whole lines up to a stop that isn't its own,
-- or a front up to its own.
abbrev pub TookUpTo : {T : Type 0} → Option (List ℕ) → Option (List ℕ) → List (List ℕ) → Result T Stop → Type 0
TookUpTo before after lines (Ok x) = Took before after (joined lines)
TookUpTo before after lines (Err Disk) = TookLines before after lines []
TookUpTo before after lines (Err Sink) = TookFront before after (joined lines)
TookUpTo before after lines (Err Memory) = TookLines before after lines []

-- the same of one line, which may be taken in part
abbrev pub TookLine : {T : Type 0} → Option (List ℕ) → Option (List ℕ) → List ℕ → Result T Stop → Type 0
TookLine before after line (Ok x) = Took before after line
TookLine before after line (Err Disk) = ⊥
TookLine before after line (Err Sink) = TookFront before after line
TookLine before after line (Err Memory) = after ≡ before

-- The disk's count of faults rose just where a fault of the disk stopped the command.
abbrev pub DiskCounts : {T : Type 0} → ℕ → ℕ → Result T Stop → Type 0
DiskCounts before now (Ok x) = now ≡ before
DiskCounts before now (Err Disk) = Rose before now
DiskCounts before now (Err Sink) = now ≡ before
DiskCounts before now (Err Memory) = now ≡ before

-- The output's count of faults rose just where a fault of the output stopped the command.
abbrev pub SinkCounts : {T : Type 0} → ℕ → ℕ → Result T Stop → Type 0
SinkCounts before now (Ok x) = now ≡ before
SinkCounts before now (Err Disk) = now ≡ before
SinkCounts before now (Err Sink) = Rose before now
SinkCounts before now (Err Memory) = now ≡ before

-- What has only a disk at hand doesn't stop for the output, and the count rose just where the disk failed.
abbrev pub DiskStops : {T : Type 0} → ℕ → ℕ → Result T Stop → Type 0
DiskStops before now (Ok x) = now ≡ before
DiskStops before now (Err Disk) = Rose before now
DiskStops before now (Err Sink) = ⊥
DiskStops before now (Err Memory) = now ≡ before

-- What has only an output at hand doesn't stop for the disk, and the count rose just where the output failed.
abbrev pub OutputStops : {T : Type 0} → ℕ → ℕ → Result T Stop → Type 0
OutputStops before now (Ok x) = now ≡ before
OutputStops before now (Err Disk) = ⊥
OutputStops before now (Err Sink) = Rose before now
OutputStops before now (Err Memory) = now ≡ before
