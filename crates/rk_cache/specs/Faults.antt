-- Which answers are faults of the disk.
use Rattle.std.specs.Prelude.{Bool, true, false, Result, Ok, Err}
use Rattle.rk_disk.specs.declared.disk.DiskErr.{DiskErr}
use Rattle.rk_disk.specs.declared.disk.DiskErr.TheVariants as disk
use Rattle.rk_cache.specs.declared.fault.CacheFault.{CacheFault}
use Rattle.rk_cache.specs.declared.fault.CacheFault.TheVariants.{Trailer, Disk, Memory}
use Rattle.rk_cache.specs.declared.fault.SourceErr.{SourceErr}
use Rattle.rk_cache.specs.declared.fault.SourceErr.TheVariants as source

-- what a disk's error is to who asks for a block
abbrev pub disk_fault : DiskErr → CacheFault
disk_fault disk.Failed = Disk
disk_fault disk.Memory = Memory

-- the disk failed
abbrev pub disk_failed : {T : Type 0} → Result T CacheFault → Bool
disk_failed (Ok x) = false
disk_failed (Err (Trailer fault)) = false
disk_failed (Err Disk) = true
disk_failed (Err Memory) = false

-- what a disk's error is to who asks for a table's status
abbrev pub source_err : DiskErr → SourceErr
source_err disk.Failed = source.Disk
source_err disk.Memory = source.Memory

-- the disk failed
abbrev pub source_failed : {T : Type 0} → Result T SourceErr → Bool
source_failed (Ok x) = false
source_failed (Err source.Disk) = true
source_failed (Err source.Memory) = false
