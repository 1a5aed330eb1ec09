use Rattle.rk_bytes.specs.declared.model.wal.Mode.TheVariants.{TolerateTail, SkipAny}
use Rattle.rk_laws.proofs.ReplayLaw.{tolerate_tail-never, skip_any-never, never-added}
use Rattle.rk_laws.proofs.OpeningLemmas.{opens-alike}
use Rattle.rk_laws.proofs.opening.undamaged_opens_alike.Goals as goal

pub returns : goal.returns
returns c = record { tolerated = opens-alike TolerateTail (never-added TolerateTail tolerate_tail-never); skipped = opens-alike SkipAny (never-added SkipAny skip_any-never) }
