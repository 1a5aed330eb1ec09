-- What the faults of tables are to opening.
use Rattle.std.specs.Prelude.{ℕ}
use Rattle.rk_bytes.specs.declared.model.open.OpenErr.{OpenErr}
use Rattle.rk_bytes.specs.declared.model.open.OpenErr.TheVariants as open_err
use Rattle.rk_sst.specs.declared.error.SstErr.{SstErr}
use Rattle.rk_sst.specs.declared.error.SstErr.TheVariants.{NoTable, Damaged, Unsupported, DiskFault, Memory}

-- the fault of the table with this number
abbrev pub table_fault : ℕ → SstErr → OpenErr
table_fault number NoTable = open_err.MissingTable number
table_fault number (Damaged why place) = open_err.DamagedTable number why place
table_fault number (Unsupported what) = open_err.UnsupportedTable number what
table_fault number DiskFault = open_err.DiskFault
table_fault number Memory = open_err.Memory
