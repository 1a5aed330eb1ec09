-- What the faults below are to who opens a table.
use Rattle.std.specs.Prelude.{ℕ, Bool, true, false, Result, Ok, Err}
use Rattle.rk_disk.specs.declared.disk.DiskErr.{DiskErr}
use Rattle.rk_disk.specs.declared.disk.DiskErr.TheVariants as disk
use Rattle.rk_bytes.specs.declared.model.table.TableWhy.TheVariants as table_why
use Rattle.rk_bytes.specs.declared.model.table.TableWhat.TheVariants as table_what
use Rattle.rk_bytes.specs.declared.model.table.TrailerFault.TheVariants as trailer
use Rattle.rk_table.specs.declared.status.WalkErr.{WalkErr}
use Rattle.rk_table.specs.declared.status.WalkErr.TheVariants as walk
use Rattle.rk_cache.specs.declared.fault.CacheFault.{CacheFault}
use Rattle.rk_cache.specs.declared.fault.CacheFault.TheVariants as cache
use Rattle.rk_cache.specs.declared.fault.SourceErr.{SourceErr}
use Rattle.rk_cache.specs.declared.fault.SourceErr.TheVariants as source
use Rattle.rk_sst.specs.declared.error.SstErr.{SstErr}
use Rattle.rk_sst.specs.declared.error.SstErr.TheVariants.{NoTable, Damaged, Unsupported, DiskFault, Memory}

abbrev pub disk_err : DiskErr → SstErr
disk_err disk.Failed = DiskFault
disk_err disk.Memory = Memory

abbrev pub source_err : SourceErr → SstErr
source_err source.Disk = DiskFault
source_err source.Memory = Memory

abbrev pub walk_err : WalkErr → SstErr
walk_err (walk.Damaged why place) = Damaged why place
walk_err (walk.Unsupported what) = Unsupported what
walk_err walk.Memory = Memory

-- the fault of a block at this place
abbrev pub block_err : ℕ → CacheFault → SstErr
block_err place (cache.Trailer trailer.OutOfFile) = Damaged table_why.OutOfFile place
block_err place (cache.Trailer trailer.Checksum) = Damaged table_why.Checksum place
block_err place (cache.Trailer (trailer.Compressed kind)) = Unsupported (table_what.Compressed kind)
block_err place cache.Disk = DiskFault
block_err place cache.Memory = Memory

-- the disk failed
abbrev pub disk_failed : {T : Type 0} → Result T SstErr → Bool
disk_failed (Ok x) = false
disk_failed (Err NoTable) = false
disk_failed (Err (Damaged why place)) = false
disk_failed (Err (Unsupported what)) = false
disk_failed (Err DiskFault) = true
disk_failed (Err Memory) = false

-- the error says nothing of the table
abbrev pub IsCause : SstErr → Type 0
IsCause DiskFault = Unit {0}
IsCause Memory = Unit {0}
IsCause _ = ⊥
