use Rattle.std.proofs.Common.{◌∙◌}
use Rattle.rk_bytes.specs.Model.DiskImages.{contents_told}
use Rattle.rk_bytes.specs.Model.Manifest.{first_log}
use Rattle.rk_open.proofs.ReplayedLemmas.{replay_answered, replay_refused}
use Rattle.rk_open.proofs.logs.replay_numbered.Goals as goal

pub returns-in-Ok-clause-replayed : goal.returns-in-Ok-clause-replayed
returns-in-Ok-clause-replayed g c =
    replay_answered c.new-run.result c.feed_logs.new.run c.new-run.ensures.fed c.args.mode c.args.version.now c.first_log.result (first_log c.args.version.now) c.first_log.ensures c.args.numbers.now
    (c.in-Ok.ensures.mode ∙ c.new-run.ensures.mode) (c.in-Ok.ensures.version ∙ c.new-run.ensures.version) c.finished.result c.finished.ensures.replayed
    (contents_told (g.D.Disk.told c.args.disk.now)) c.in-Ok.ensures.fed

pub returns-in-Err-clause-replayed : goal.returns-in-Err-clause-replayed
returns-in-Err-clause-replayed g c =
    replay_refused c.new-run.result c.feed_logs.new.run c.new-run.ensures.fed c.args.mode c.args.version.now c.first_log.result (first_log c.args.version.now) c.first_log.ensures c.args.numbers.now
    c.new-run.ensures.mode c.new-run.ensures.version c.in-Err.why (contents_told (g.D.Disk.told c.args.disk.now)) c.in-Err.ensures.fed
