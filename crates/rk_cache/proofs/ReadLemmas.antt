-- What a block that was read is of its table.
use Rattle.std.proofs.Common.{◌≡◌, ℕ, ◌+◌, ◌^◌, ◌<◌, ◌≤◌, List, [], Option, Some, None, IfSome, unwrap_or, Result, ap, ◌∙◌, subst, arith}
use Rattle.std.proofs.lemmas.Option.{IfSome_then}
use Rattle.std.specs.FinMap.{get}
use Rattle.rk_bytes.specs.declared.model.block.Handle.{Handle}
use Rattle.rk_bytes.specs.declared.model.table.SumKind.{SumKind}
use Rattle.rk_bytes.specs.declared.model.table.TrailerFault.{TrailerFault}
use Rattle.rk_bytes.specs.Model.DiskImages.{Directory, part_of_file}
use Rattle.rk_bytes.specs.Model.FileNames.{table_name}
use Rattle.rk_bytes.specs.Model.TableFooter.{checked_block}
use Rattle.rk_cache.specs.declared.fault.CacheFault.{CacheFault}
use Rattle.rk_cache.specs.Answers.{table_in, block_in, Gives}
use Rattle.rk_cache.proofs.TrailerLemmas.{same_alone}

-- what holds of each holds of the one that is there
pub each : {A : Type 0} {P : A → Type 0} (o : Option A) → ((x : A) → P x) → IfSome o P
each None holds = tt
each (Some x) holds = holds x

-- what is read of the block and its trailer alone is what the table gives
pub given_alone : (told : Option Directory) (name stored : List ℕ) (number len size : ℕ) (handle : Handle) (sum : SumKind) (result : Result (List ℕ) CacheFault) → name ≡ table_name number
    → (len ≡ handle.size + 5) × (handle.offset + len ≤ size) × (handle.offset + len < 2 ^ 64)
    → IfSome told (λ files. stored ≡ part_of_file handle.offset len (unwrap_or (get files name) []))
    → Gives (λ block. block) (checked_block stored (record { offset = 0; size = handle.size }) sum) result
    → IfSome told (λ files. Gives (λ block. block) (block_in files number size handle sum) result)
given_alone told name stored number len size handle sum result named lens read gives = IfSome_then told read (λ files read.
    let table = table_in files number in
    let is : stored ≡ part_of_file handle.offset (handle.size + 5) table = read ∙ (λ i. part_of_file handle.offset (lens.0 i) (unwrap_or (get files (named i)) [])) in
    subst (λ (answer : Result (List ℕ) TrailerFault). Gives (λ block. block) answer result)
    (ap (λ part. checked_block part (record { offset = 0; size = handle.size }) sum) is ∙ same_alone table handle size (omega arith) (omega arith) sum) gives)
