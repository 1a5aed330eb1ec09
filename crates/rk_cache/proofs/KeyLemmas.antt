-- Keys are equal just where what is kept under them is kept under the same.
use Rattle.std.proofs.Common.{◌≡◌, Bool, [], refl, ap}
use Rattle.std.specs.Prelude.{nat_eq, ◌&&◌}
use Rattle.rk_bytes.specs.declared.model.table.SumKind.{SumKind}
use Rattle.rk_bytes.specs.declared.model.table.SumKind.TheVariants.{NoSum, Crc32c, Xxh32, Xxh64}
use Rattle.rk_bytes.specs.contracts.model.table.SumKindPartialEq.TheImpl as sums
use Rattle.rk_cache.specs.declared.key.BlockKey.{BlockKey}
use Rattle.rk_cache.specs.contracts.key.BlockKeyPartialEq.TheImpl.{eq-value}
use Rattle.rk_cache.specs.Kept.{kept_under, is_sum, is_handle, is_same}

-- the equality of keys
abbrev pub equal_keys : BlockKey → BlockKey → Bool
equal_keys = eq-value.it

-- kinds of checksum are equal where they are one
equal_sums : (one other : SumKind) → is_sum one other ≡ sums.eq-value.it one other
equal_sums NoSum NoSum = refl
equal_sums NoSum Crc32c = refl
equal_sums NoSum Xxh32 = refl
equal_sums NoSum Xxh64 = refl
equal_sums Crc32c NoSum = refl
equal_sums Crc32c Crc32c = refl
equal_sums Crc32c Xxh32 = refl
equal_sums Crc32c Xxh64 = refl
equal_sums Xxh32 NoSum = refl
equal_sums Xxh32 Crc32c = refl
equal_sums Xxh32 Xxh32 = refl
equal_sums Xxh32 Xxh64 = refl
equal_sums Xxh64 NoSum = refl
equal_sums Xxh64 Crc32c = refl
equal_sums Xxh64 Xxh32 = refl
equal_sums Xxh64 Xxh64 = refl

pub is_test : (key other : BlockKey) → is_same (kept_under key []) (kept_under other []) ≡ equal_keys key other
is_test key other =
    ap (λ sum. nat_eq key.number other.number && (nat_eq key.size other.size && (is_handle key.handle other.handle && sum))) (equal_sums key.sum other.sum)
