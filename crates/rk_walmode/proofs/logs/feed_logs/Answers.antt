use Rattle.std.proofs.Common.{List, map, take, None, Err, subst, sym, ap, ◌∙◌}
use Rattle.std.proofs.lemmas.Result.{err_from_is_err_and}
use Rattle.rk_bytes.specs.Model.Replay.{Log}
use Rattle.rk_walmode.specs.Fed.{log_of}
use Rattle.rk_walmode.specs.Runs.{version_of, mode_of, HasFed}
use Rattle.rk_walmode.specs.Parts.{RefusesLogs}
use Rattle.rk_walmode.proofs.LogsLemmas.{refuses_in, logs_more, some_refused}
use Rattle.rk_walmode.proofs.logs.feed_logs.Goals as goal

pub returns-in_err-feed_log-clause-refused : goal.returns-in_err-feed_log-clause-refused
returns-in_err-feed_log-clause-refused c =
    let h = c.loop-log.invariant in
    let told = err_from_is_err_and c.from_residual.result c.from_residual.ensures.1 in
    let mode = mode_of c.args.run.now in
    let version = version_of c.args.run.now in
    let before = map log_of (take c.loop-log.log-index c.args.logs.now) in
    let one = refuses_in (mode_of c.loop-log.run) mode (version_of c.loop-log.run) version _ (Err c.in_err-feed_log.field-0.0) h.mode h.version (c.in_err-feed_log.ensures.refused before h.fed) in
    subst (RefusesLogs mode version (map log_of c.args.logs.now)) (sym (told.1 ∙ ap Err told.2))
    (some_refused mode version log_of c.args.logs.now c.loop-log.log-index c.log-item.result (Err c.in_err-feed_log.field-0.0) c.loop-log-test.true c.log-item.is one)

pub loop-log-preserved : goal.loop-log-preserved
loop-log-preserved c =
    let h = c.loop-log.invariant in
    let before = map log_of (take c.loop-log.log-index c.args.logs.now) in
    record {
      fed = subst (λ (logs : List Log). HasFed c.feed_log.new.run (record { whole = logs; begun = None })) (sym (logs_more log_of c.args.logs.now c.loop-log.log-index c.log-item.result c.loop-log-test.true c.log-item.is)) (c.in_ok-feed_log.ensures.fed before h.fed);
      mode = c.feed_log.ensures.mode ∙ h.mode;
      version = c.feed_log.ensures.version ∙ h.version;
      log = c.in_ok-feed_log.ensures.log;
      read = c.in_ok-feed_log.ensures.read;
    }
