use Rattle.rk_manifest.proofs.EndLemmas.{EndsEdits-gap, EndsEdits-end}
use Rattle.rk_manifest.proofs.reading.record_in.Goals as goal

pub returns-in-Gap : goal.returns-in-Gap
returns-in-Gap c = rw (c.in-Gap.is, c.damaged.ensures) (EndsEdits-gap c.in-Gap.why c.in-Gap.place)

pub returns-in-End : goal.returns-in-End
returns-in-End c = rw (c.in-End.is, c.fault_at_end.ensures) (EndsEdits-end c.in-End.kind c.in-End.place)
