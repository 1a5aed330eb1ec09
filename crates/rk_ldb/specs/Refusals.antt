-- Why a command is refused, in the definitions' words.
use Rattle.std.specs.Prelude.{ℕ, List, Result, Ok, Err}
use Rattle.rk_bytes.specs.declared.model.open.OpenErr.{OpenErr}
use Rattle.rk_bytes.specs.declared.model.open.OpenErr.TheVariants.{DiskFault, Memory}
use Rattle.rk_bytes.specs.Model.Lines.{open_err_words, no_log_words, no_table_words}
use Rattle.rk_ldb.specs.declared.refusal.Refusal.{Refusal}
use Rattle.rk_ldb.specs.declared.refusal.Refusal.TheVariants.{NoLog, NoTable, Open}
use Rattle.rk_ldb.specs.declared.stop.Stop.{Stop}
use Rattle.rk_ldb.specs.declared.stop.Stop.TheVariants as stop

abbrev pub words_of : Refusal → List ℕ
words_of (NoLog n) = no_log_words n
words_of (NoTable n) = no_table_words n
words_of (Open why) = open_err_words why

-- a fault of the disk and want of memory stop a command, and don't refuse it
abbrev pub open_stop : OpenErr → Result Refusal Stop
open_stop DiskFault = Err stop.Disk
open_stop Memory = Err stop.Memory
open_stop why = Ok (Open why)
