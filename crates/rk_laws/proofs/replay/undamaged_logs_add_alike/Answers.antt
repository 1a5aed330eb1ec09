use Rattle.rk_laws.proofs.ReplayLaw.{tolerate_tail-never, skip_any-never, never-added, fresh-added, part-added}
use Rattle.rk_bytes.specs.declared.model.wal.Mode.TheVariants.{TolerateTail, SkipAny}
use Rattle.rk_laws.proofs.replay.undamaged_logs_add_alike.Goals as goal

pub returns : goal.returns
returns c = record {
  tolerated = never-added TolerateTail tolerate_tail-never;
  skipped = never-added SkipAny skip_any-never;
  stopped_nowhere = fresh-added;
  stopped = part-added;
}
