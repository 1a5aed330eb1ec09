use Rattle.std.proofs.Common.{◌≡◌, ◌-◌, ℕ, suc, Some, sym, ◌∙◌, ap, arith, drop-cons}
use Rattle.rk_table.specs.Stages.{separator_before}
use Rattle.rk_table.proofs.DataLemmas.{later_suc}
use Rattle.rk_table.proofs.data.separator_before.Goals as goal

pub returns-clause-value : goal.returns-clause-value
returns-clause-value c =
    let at = c.index-index-number.result in
    let n : ℕ = c.args.number - 1 in
    let number : suc n ≡ c.args.number = omega arith in
    let last = (later_suc n c.args.index.now _ _ (drop-cons c.args.index.now n at (omega arith))).1 in
    (λ i. Some (c.as_slice.ensures i)) ∙ sym last ∙ ap (λ (n : ℕ). separator_before n c.args.index.now) number
