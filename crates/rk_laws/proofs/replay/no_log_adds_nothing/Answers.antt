use Rattle.std.proofs.Common.{refl}
use Rattle.rk_bytes.specs.Model.Replay.{replay}
use Rattle.rk_laws.proofs.replay.no_log_adds_nothing.Goals as goal

pub returns : goal.returns
unfolding replay
returns c = λ mode version. refl
