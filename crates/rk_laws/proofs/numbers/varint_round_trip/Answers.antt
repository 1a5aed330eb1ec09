use Rattle.rk_bytes.proofs.Callers.Varints.{varint32-written, varint64-written}
use Rattle.rk_laws.proofs.numbers.varint_round_trip.Goals as goal

pub returns-clause-narrow : goal.returns-clause-narrow
returns-clause-narrow c n rest below = varint32-written n rest below

pub returns-clause-wide : goal.returns-clause-wide
returns-clause-wide c n rest below = varint64-written n rest below
