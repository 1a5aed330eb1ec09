-- What a cache is once the block that it lent has ended.
use Rattle.std.specs.Prelude.{◌≡◌, ℕ, List, Option, IfSome, Result, Ok, Err, ⊤}
use Rattle.std.specs.Borrow.{Fml, Bor, MutBor, follows_so}
use mathlib.Core.Option.{none}
use Rattle.rk_bytes.specs.declared.model.block.Handle.{Handle}
use Rattle.rk_bytes.specs.declared.model.table.SumKind.{SumKind}
use Rattle.rk_bytes.specs.Model.DiskImages.{Directory}
use Rattle.rk_cache.specs.declared.fault.CacheFault.{CacheFault}
use Rattle.rk_cache.specs.contracts.cache.BlockCache.{the_row}
use Rattle.rk_cache.specs.Kept.{CacheSeen, after_giving}
use Rattle.rk_cache.specs.Answers.{HoldsFor}

-- the cache after this answer: a refusal leaves it as it was
abbrev pub cache_after : CacheSeen → ℕ → ℕ → Handle → SumKind → Result (Bor (List ℕ)) CacheFault → CacheSeen
cache_after cache number size handle sum (Ok block) = after_giving cache (record { number = number; size = size; handle = handle; sum = sum; block = block.now })
cache_after cache number size handle sum (Err fault) = cache

-- It ends as after this answer, and what it keeps is the tables' again.
abbrev pub EndsAfter : MutBor CacheSeen → ℕ → ℕ → Handle → SumKind → Result (Bor (List ℕ)) CacheFault → Option Directory → Fml
EndsAfter cache number size handle sum result told =
    follows_so the_row the_row cache.ghost_name none (λ _ _. ⊤) (λ new. (new ≡ cache_after cache.now number size handle sum result) × IfSome told (HoldsFor new.kept))
