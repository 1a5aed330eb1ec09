use Rattle.rk_open.proofs.VersionLemmas.{states_all}
use Rattle.rk_open.proofs.directory.open_version.Goals as goal

pub returns-in-Ok-clause-version : goal.returns-in-Ok-clause-version
returns-in-Ok-clause-version g c = states_all c.args.version c.requires
