use Rattle.std.proofs.Common.{◌≡◌, ◌+◌, ◌≤◌, List, length, None}
use Rattle.std.specs.Prelude.{IfSome}
use Rattle.rk_bytes.specs.Model.Replay.{Log}
use Rattle.rk_walmode.specs.Fed.{log_of}
use Rattle.rk_walmode.specs.Runs.{version_of, mode_of, open_log, bytes_read, HasFed}
use Rattle.rk_walmode.proofs.LogsLemmas.{IsWithin}
use Rattle.rk_walmode.proofs.logs.feed_log.Given as goal

abbrev pub invariant-loop-rest : goal.invariant-loop-rest
invariant-loop-rest l = record {
  within : (whole : List Log) → HasFed l.initial.run (record { whole = whole; begun = None }) → IsWithin l.run whole (log_of l.log) l.rest;
  mode : mode_of l.run ≡ mode_of l.initial.run;
  version : version_of l.run ≡ version_of l.initial.run;
  log : IfSome (open_log l.run) (λ number. number ≡ l.log.number);
  read : bytes_read l.run + length l.rest ≤ length l.log.bytes;
}

abbrev pub decreases-loop-rest : goal.decreases-loop-rest
decreases-loop-rest l = length l.rest
