-- What a cache gives of a disk's tables.
use Rattle.std.specs.Prelude.{◌≡◌, ℕ, List, [], take, Option, IfSome, unwrap_or, Result, Ok, Err}
use Rattle.std.specs.List.{AllByRecursion}
use Rattle.std.specs.FinMap.{get}
use Rattle.rk_bytes.specs.declared.model.block.Handle.{Handle}
use Rattle.rk_bytes.specs.declared.model.table.SumKind.{SumKind}
use Rattle.rk_bytes.specs.declared.model.table.TrailerFault.{TrailerFault}
use Rattle.rk_bytes.specs.Model.DiskImages.{Directory}
use Rattle.rk_bytes.specs.Model.FileNames.{table_name}
use Rattle.rk_bytes.specs.Model.TableFooter.{checked_block}
use Rattle.rk_cache.specs.declared.fault.CacheFault.{CacheFault}
use Rattle.rk_cache.specs.declared.fault.CacheFault.TheVariants.{Trailer, Disk, Memory}
use Rattle.rk_cache.specs.declared.key.BlockKey.{BlockKey}
use Rattle.rk_cache.specs.Kept.{Kept, CacheSeen, kept_under, after_giving}

-- the bytes of the table with this number; none where it isn't there
abbrev pub table_in : Directory → ℕ → List ℕ
table_in files number = unwrap_or (get files (table_name number)) []

-- a handle's block in the first so many bytes of a table, or in all of them where there are fewer
abbrev pub block_in : Directory → ℕ → ℕ → Handle → SumKind → Result (List ℕ) TrailerFault
block_in files number size handle sum = checked_block (take size (table_in files number)) handle sum

-- each block that is kept is that of the table
abbrev pub HoldsFor : List Kept → Directory → Type 0
HoldsFor kept files = AllByRecursion (λ one. block_in files one.number one.size one.handle one.sum ≡ Ok one.block) kept

-- An answer is this block or this fault. Of a fault of the disk, and of want of memory, nothing is said.
abbrev pub Gives : {T : Type 0} → (T → List ℕ) → Result (List ℕ) TrailerFault → Result T CacheFault → Type 0
Gives bytes_of block (Ok x) = block ≡ Ok (bytes_of x)
Gives bytes_of block (Err (Trailer fault)) = block ≡ Err fault
Gives bytes_of block (Err Disk) = Unit {0}
Gives bytes_of block (Err Memory) = Unit {0}

-- A block was given: it is that of the table, the cache is as after that, and what it keeps is the tables' again.
pub record IsGiven (old : CacheSeen) (key : BlockKey) (told : Option Directory) (new : CacheSeen) : Type 0 where
  pub block : List ℕ
  pub is : IfSome told (λ files. block_in files key.number key.size key.handle key.sum ≡ Ok block)
  pub now : new ≡ after_giving old (kept_under key block)
  pub holds : IfSome told (HoldsFor new.kept)
