use Rattle.std.proofs.Common.{◌≡◌, map, take, None}
use Rattle.rk_walmode.specs.Fed.{log_of}
use Rattle.rk_walmode.specs.Runs.{version_of, mode_of, open_log, bytes_read, HasFed}
use Rattle.rk_walmode.proofs.logs.feed_logs.Given as goal

abbrev pub invariant-loop-log : goal.invariant-loop-log
invariant-loop-log l = record {
  fed : HasFed l.run (record { whole = map log_of (take l.log-index l.logs); begun = None });
  mode : mode_of l.run ≡ mode_of l.initial.run;
  version : version_of l.run ≡ version_of l.initial.run;
  log : open_log l.run ≡ None;
  read : bytes_read l.run ≡ 0;
}
