use Rattle.std.proofs.Common.{◌≡◌, ◌∙◌, ℕ, ◌+◌, ◌<◌, true, false, get_or, sym, ap, min, take, take_all, arith, inl, inr}
use Rattle.std.proofs.lemmas.Bool.{cases_lt}
use Rattle.std.proofs.lemmas.List.{get_or_read}
use Rattle.std.specs.Prelude.{if◌then◌else◌}
use Rattle.std.specs.FinMap.{contains_key, len}
use Rattle.rk_bytes.specs.declared.model.key.Record.{Record}
use Rattle.rk_bytes.specs.Model.Records.{over, slot_of}
use Rattle.rk_view.specs.Maps.{map_of, run_map}
use Rattle.rk_view.specs.Kept.{most}
use Rattle.rk_view.proofs.RunsLemmas.{over-none, count_up, counted-more, last_records-run}
use Rattle.rk_view.proofs.runs.counted.Goals as goal
use Rattle.rk_view.proofs.runs.counted.Goals.{then-some, else-some}

pub loop-sought-init : goal.loop-sought-init
loop-sought-init c = record {
  total = c.requires.runs.count ∙ ap (λ m. min (len m) most) (sym (over-none (map_of c.args.runs.now)));
  free = λ _ k d low. absurd (omega (arith, low));
}

pub loop-sought-preserved : goal.loop-sought-preserved
loop-sought-preserved c =
    let m = map_of c.args.runs.now in
    let list = c.args.records.now in
    let i = c.loop-sought.sought-index in
    let r = c.sought-item.result in
    let one_more : c.holds-held.result ≡ false → ((k : ℕ) (d : Record) → k < i → contains_key m (slot_of (get_or list k d)) ≡ false) → (k : ℕ) (d : Record) → k < i + 1 → contains_key m (slot_of (get_or list k d)) ≡ false =
    λ unheld before k d low. elim (cases_lt k i) [
      | inl less ↦ before k d less
      | inr upto ↦ let same : k ≡ i = omega arith in ap (λ j. contains_key m (slot_of (get_or list j d))) same ∙ ap (λ x. contains_key m (slot_of x)) (sym (get_or_read list i r c.loop-sought-test.true c.sought-item.is d)) ∙ sym c.holds-held.ensures ∙ unheld
    ] in
    record {
      total =
          c.more_unless-total.ensures ∙ ap (λ b. if b then c.loop-sought.total else min (c.loop-sought.total + 1) most) c.holds-held.ensures
          ∙ count_up _ (len (over m (run_map (take i list)))) c.loop-sought.total c.loop-sought.invariant.total
          ∙ ap (λ n. min n most) (sym (counted-more m list i r c.requires.run.rises c.loop-sought-test.true c.sought-item.is));
      free = λ e. elim c.if-some.branch [
        | then-some w ↦ let no : true ≡ false = sym w.if-some.true ∙ sym w.some-is ∙ e in absurd cc
        | else-some w ↦ one_more (sym w.some-is ∙ e) (c.loop-sought.invariant.free w.if-some.false)
      ];
    }

pub returns-clause-count : goal.returns-clause-count
returns-clause-count c =
    c.loop-sought.invariant.total ∙ ap (λ rs. min (len (over (map_of c.args.runs.now) (run_map rs))) most) (take_all c.loop-sought.sought-index c.args.records.now c.loop-sought-test.false)
    ∙ ap (λ n. min (len (over (map_of c.args.runs.now) n)) most) (sym (last_records-run c.args.records.now c.requires.run.rises))
