use Rattle.std.proofs.Common.{◌≡◌, List, ℕ, Ok, Err, IfErr, sym, ap, ◌∙◌, subst}
use Rattle.std.proofs.lemmas.Result.{err_from_is_err_and}
use Rattle.rk_bytes.specs.Model.BlockEntries.{block_parts, block_entries}
use Rattle.rk_block.specs.Restarts.{RestartsSeen}
use Rattle.rk_block.specs.Walked.{IsWalked}
use Rattle.rk_block.proofs.ReadLemmas.{faulty_parts}
use Rattle.rk_block.proofs.WalkLemmas.{IsWalked-start}
use Rattle.rk_block.proofs.TestedLemmas.{begins}
use Rattle.rk_block.proofs.tested.TestedEntries.new.Goals as goal

pub returns-in_err-entries-clause-fault : goal.returns-in_err-entries-clause-fault
returns-in_err-entries-clause-fault c =
    let told = err_from_is_err_and c.from_residual.result c.from_residual.ensures.1 in
    subst (λ result. IfErr result (λ fault. block_entries c.args.block.now ≡ Err fault)) (sym (told.1 ∙ ap Err told.2))
    (sym (faulty_parts c.args.block.now c.in_err-entries.field-0.0 c.in_err-entries.ensures.parts))

pub invariant_of-result : goal.invariant_of-result
invariant_of-result c =
    let part = c.in_ok-entries.field-0.entries.now in
    let restarts = c.in_ok-entries.field-0.restarts in
    let offsets = ap (λ (r : RestartsSeen). r.left) (sym c.again.ensures) in
    subst (λ (offsets : List ℕ). IsWalked part offsets 0 0 restarts) offsets
    (subst (λ (r : RestartsSeen). IsWalked part restarts.left 0 0 r) (sym c.in_ok-entries.ensures.restarts) (IsWalked-start part restarts.left))

pub returns-clause-begun : goal.returns-clause-begun
returns-clause-begun c =
    let part = c.in_ok-entries.field-0.entries.now in
    let offsets = ap (λ (r : RestartsSeen). r.left) (sym c.again.ensures) in
    begins c.args.block.now part c.again.result.left (subst (λ (offsets : List ℕ). Ok (part, offsets) ≡ block_parts c.args.block.now) offsets c.in_ok-entries.ensures.parts)
