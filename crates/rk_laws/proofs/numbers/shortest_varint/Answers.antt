use Rattle.rk_bytes.proofs.Callers.Varints.{IsVarint32-varint_of, IsVarint64-varint_of, shortest}
use Rattle.rk_laws.proofs.numbers.shortest_varint.Goals as goal

pub returns-clause-narrow : goal.returns-clause-narrow
returns-clause-narrow c = IsVarint32-varint_of

pub returns-clause-wide : goal.returns-clause-wide
returns-clause-wide c = IsVarint64-varint_of

pub returns-clause-shortest : goal.returns-clause-shortest
returns-clause-shortest c = shortest
