use Rattle.std.proofs.Common.{map, None, Err, ◌∙◌}
use Rattle.rk_walmode.specs.Fed.{log_of}
use Rattle.rk_walmode.specs.Runs.{version_of, mode_of}
use Rattle.rk_walmode.proofs.LogsLemmas.{refuses_in, refused_whole, replays_in}
use Rattle.rk_walmode.proofs.logs.replay.Goals as goal

pub returns-in-Ok-clause-replayed : goal.returns-in-Ok-clause-replayed
returns-in-Ok-clause-replayed c =
    let logs = map log_of c.args.logs.now in
    replays_in (mode_of c.feed_logs.new.run) c.args.mode (version_of c.feed_logs.new.run) c.args.version.now logs c.finish.result (c.feed_logs.ensures.mode ∙ c.new-run.ensures.mode) (c.feed_logs.ensures.version ∙ c.new-run.ensures.version)
    (c.finish.ensures.replayed (record { whole = logs; begun = None }) c.in-Ok.ensures.fed)

pub returns-in-Err-clause-replayed : goal.returns-in-Err-clause-replayed
returns-in-Err-clause-replayed c =
    let logs = map log_of c.args.logs.now in
    refused_whole c.args.mode c.args.version.now logs c.in-Err.why (refuses_in (mode_of c.new-run.result) c.args.mode (version_of c.new-run.result) c.args.version.now logs (Err c.in-Err.why) c.new-run.ensures.mode c.new-run.ensures.version c.in-Err.ensures.refused)
