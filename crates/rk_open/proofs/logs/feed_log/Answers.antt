use Rattle.std.proofs.Common.{[], ◌∷◌, rules}
use Rattle.rk_bytes.specs.Model.DiskImages.{contents_told}
use Rattle.rk_open.specs.Logs.{FeedsLogs}
use Rattle.rk_open.proofs.ReplayedLemmas.{no_log_told, feeds_block}
use Rattle.rk_open.proofs.logs.feed_log.Goals as goal

pub returns-in-Ok-None-clause-fed : goal.returns-in-Ok-None-clause-fed
returns-in-Ok-None-clause-fed g c =
    let run = c.args.run.now in
    let new = c.feed_block.new.run in
    let result = c.feed_block.result in
    let told = contents_told (g.D.Disk.told c.args.disk.now) in
    no_log_told (λ log. FeedsLogs run (log ∷ []) result new) c.args.number told (search rules) (feeds_block run new c.args.number [] result c.feed_block.ensures.fed)
