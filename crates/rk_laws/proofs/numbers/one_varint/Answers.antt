use Rattle.rk_bytes.specs.Model.Numbers.{IsVarint32, IsVarint64, IsPrefixed, varint32_at, varint64_at, prefixed_at}
use Rattle.rk_laws.proofs.Readers.{read-iff-spelled, exact_varint32, exact_varint64, exact_prefixed}
use Rattle.rk_laws.proofs.numbers.one_varint.Goals as goal

pub returns-clause-narrow : goal.returns-clause-narrow
returns-clause-narrow c = read-iff-spelled varint32_at IsVarint32 exact_varint32

pub returns-clause-wide : goal.returns-clause-wide
returns-clause-wide c = read-iff-spelled varint64_at IsVarint64 exact_varint64

pub returns-clause-prefixed : goal.returns-clause-prefixed
returns-clause-prefixed c = λ bytes rest slice. read-iff-spelled prefixed_at IsPrefixed exact_prefixed bytes rest slice
