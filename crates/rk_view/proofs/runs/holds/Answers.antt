use Rattle.std.proofs.Common.{◌≡◌, ◌∙◌, ◌+◌, ◌++◌, ◌∷◌, [], sym, ap, take}
use Rattle.std.specs.Prelude.{Bool, ◌||◌, is_some}
use Rattle.std.specs.FinMap.{contains_key}
use Rattle.rk_bytes.specs.Model.Records.{slot_of}
use Rattle.rk_view.specs.Maps.{look, map_of}
use Rattle.rk_view.proofs.FirstLemmas.{held-more, held-none}
use Rattle.rk_view.proofs.RunsLemmas.{runs-more, or_first, or_second}
use Rattle.rk_view.proofs.runs.holds.Goals as goal
use Rattle.rk_view.proofs.runs.holds.Goals.{then-held, else-held}

pub loop-index-init : goal.loop-index-init
loop-index-init c = sym (held-none (slot_of c.args.sought.now))

pub loop-index-preserved : goal.loop-index-preserved
loop-index-preserved c =
    let i = c.loop-index.index in
    let runs = c.args.runs.now in
    let run = c.index-runs-index.result in
    let more : take (i + 1) runs ≡ take i runs ++ run ∷ [] = runs-more runs i run c.loop-index-test.true c.index-runs-index.is in
    let q = slot_of c.args.sought.now in
    let before : Bool = contains_key (map_of (take i runs)) q in
    let here : Bool = is_some (look q run) in
    let all : contains_key (map_of (take (i + 1) runs)) q ≡ (before || here) = ap (λ rs. contains_key (map_of rs) q) more ∙ held-more (take i runs) run q in
    elim c.if-held.branch [
      | then-held w ↦ w.held-is ∙ c.loop-index.invariant ∙ or_first before here (sym c.loop-index.invariant ∙ w.if-held.true) ∙ sym all
      | else-held w ↦ w.held-is ∙ w.holds_unless-held.ensures ∙ or_second before here (sym c.loop-index.invariant ∙ w.if-held.false) ∙ sym all
    ]
