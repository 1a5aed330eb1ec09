use Rattle.std.proofs.Common.{◌≡◌, ◌∙◌, ℕ, ◌+◌, ◌<◌, Bool, List, true, None, length, get_or, refl, sym, ap, subst, arith, inl, inr}
use Rattle.std.proofs.lemmas.Bool.{cases_lt}
use Rattle.std.proofs.lemmas.List.{get_or_read, get_or-set_same, get_or-set_other, length-set}
use Rattle.std.specs.Prelude.{slice_set}
use Rattle.std.specs.List.{All}
use Rattle.rk_bytes.specs.declared.model.key.Record.{Record}
use Rattle.rk_bytes.specs.Model.Records.{slot_of}
use Rattle.rk_view.specs.Maps.{look}
use Rattle.rk_view.proofs.runs.apart_from.Goals as goal

pub loop-index-init : goal.loop-index-init
loop-index-init c = record { len = refl; marks = λ k mark run low _. absurd (omega (arith, low)) }

pub loop-index-preserved : goal.loop-index-preserved
loop-index-preserved c =
    let i = c.loop-index.index in
    let marks = c.loop-index.apart in
    let gap = c.has_gap.result in
    let runs = c.args.runs.now in
    let list = c.args.records.now in
    let inv = c.loop-index.invariant in
    let wide : i < length marks = omega (arith, inv.len, c.loop-index-test.true, c.requires.few) in
    record {
      len = length-set marks i gap ∙ inv.len;
      marks = λ (k : ℕ) (mark : Bool) (run : List Record) (low : k < i + 1) (marked : get_or (slice_set marks i gap) k mark ≡ true). elim (cases_lt k i) [
        | inl less ↦ inv.marks k mark run less (sym (get_or-set_other marks i k gap mark (λ e. omega (arith, less, e))) ∙ marked)
        | inr upto ↦
            let same : k ≡ i = omega (arith, low, upto) in
            let yes : gap ≡ true = sym (ap (λ j. get_or (slice_set marks i gap) j mark) same ∙ get_or-set_same marks i gap mark wide) ∙ marked in
            let here : c.index-runs-index.result ≡ get_or runs k run = get_or_read runs i c.index-runs-index.result c.loop-index-test.true c.index-runs-index.is run ∙ ap (λ j. get_or runs j run) (sym same) in
            subst (λ rs. All (λ (r : Record). look (slot_of r) rs ≡ None) list) here (c.has_gap.ensures yes)
      ];
    }
