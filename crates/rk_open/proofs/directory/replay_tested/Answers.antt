use Rattle.rk_open.proofs.DirectoryLemmas.{last_fits}
use Rattle.rk_open.proofs.VersionLemmas.{states_all}
use Rattle.rk_open.proofs.directory.replay_tested.Goals as goal

pub replay_logs-requires : goal.replay_logs-requires
replay_logs-requires g c = let version = c.args.version.now in last_fits version (states_all version c.requires)
