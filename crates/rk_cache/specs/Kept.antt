-- The blocks that a cache keeps.
use Rattle.std.specs.Prelude.{ℕ, ◌-◌, Bool, true, false, ◌&&◌, nat_eq, List, [], ◌∷◌, take, find, slice_get, if◌then◌else◌, Option, option_map}
use Rattle.std.specs.List.{list_any}
use Rattle.rk_bytes.specs.declared.model.block.Handle.{Handle}
use Rattle.rk_bytes.specs.declared.model.table.SumKind.{SumKind}
use Rattle.rk_bytes.specs.declared.model.table.SumKind.TheVariants.{NoSum, Crc32c, Xxh32, Xxh64}
use Rattle.rk_cache.specs.declared.key.BlockKey.{BlockKey}

-- A block, and what it was asked for by: the table's number, how many bytes of the table it was looked for in,
-- its handle, and the kind of its checksum.
pub record Kept : Type 0 where
  pub number : ℕ
  pub size : ℕ
  pub handle : Handle
  pub sum : SumKind
  pub block : List ℕ

-- how many blocks there may be, and those that are kept, the most recently used first
pub record CacheSeen : Type 0 where
  pub capacity : ℕ
  pub kept : List Kept

-- a block under its key
abbrev pub kept_under : BlockKey → List ℕ → Kept
kept_under key block = record { number = key.number; size = key.size; handle = key.handle; sum = key.sum; block = block }

-- an entry of the map of blocks
abbrev pub kept_of : BlockKey × List ℕ → Kept
kept_of entry = kept_under entry.0 entry.1

-- whether two kinds of checksum are one
abbrev pub is_sum : SumKind → SumKind → Bool
is_sum NoSum NoSum = true
is_sum Crc32c Crc32c = true
is_sum Xxh32 Xxh32 = true
is_sum Xxh64 Xxh64 = true
is_sum _ _ = false

-- whether two handles are one
abbrev pub is_handle : Handle → Handle → Bool
is_handle one other = nat_eq one.offset other.offset && nat_eq one.size other.size

-- whether a block is kept under the same as another
abbrev pub is_same : Kept → Kept → Bool
is_same one other =
    nat_eq one.number other.number && (nat_eq one.size other.size && (is_handle one.handle other.handle && is_sum one.sum other.sum))

-- the block that is kept under this, if one is
abbrev pub block_of : ℕ → ℕ → Handle → SumKind → List Kept → Option (List ℕ)
block_of number size handle sum kept = option_map (λ one. one.block) (find (is_same (record { number = number; size = size; handle = handle; sum = sum; block = [] })) kept)

-- the list without the first that passes the test
abbrev pub without : (Kept → Bool) → List Kept → List Kept
without test [] = []
without test (one ∷ more) = if test one then more else one ∷ without test more

-- The cache after it gave a block. The block is in front. If it was kept, it leaves its place for that; if not,
-- the last goes where the cache was full.
abbrev pub after_giving : CacheSeen → Kept → CacheSeen
after_giving cache one = record cache {
  kept = one ∷ (if list_any (is_same one) cache.kept then without (is_same one) cache.kept else take (cache.capacity - 1) cache.kept);
}

-- the block in front
abbrev pub newest : List Kept → Option (List ℕ)
newest kept = option_map (λ one. one.block) (slice_get kept 0)
