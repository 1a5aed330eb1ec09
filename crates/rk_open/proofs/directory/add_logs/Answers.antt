use Rattle.rk_bytes.specs.Model.DiskImages.{contents_told}
use Rattle.rk_open.proofs.DirectoryLemmas.{filled_as}
use Rattle.rk_open.proofs.directory.add_logs.Goals as goal

pub returns-in-Ok-clause-filled : goal.returns-in-Ok-clause-filled
returns-in-Ok-clause-filled g c =
    filled_as (contents_told (g.D.Disk.told c.args.disk.now)) c.args.mode c.args.version.now c.args.loaded c.in-Ok.replayed c.with_replayed.result c.in-Ok.ensures.replayed c.with_replayed.ensures.filled
    c.with_replayed.ensures.memory
