use Rattle.std.proofs.Common.{◌≡◌, ℕ, List, [], sym, ap, ◌∙◌}
use Rattle.rk_bytes.specs.declared.model.key.Record.{Record}
use Rattle.rk_bytes.specs.declared.model.view.Tomb.{Tomb}
use Rattle.rk_bytes.specs.Model.KeyView.{covering}
use Rattle.rk_tomb.specs.declared.index.Node.{Node}
use Rattle.rk_tomb.specs.Weights.{newest}
use Rattle.rk_tomb.specs.Index.{tombs_of}
use Rattle.rk_tomb.proofs.IndexLemmas.{newest-index}
use Rattle.rk_tomb.proofs.NewestLemmas.{above, covering-newest, covering-value, above-yes, above-no}
use Rattle.rk_tomb.proofs.set.TombSet.covering.Goals as goal
use Rattle.rk_tomb.proofs.set.TombSet.covering.Goals.{After-newest_in_runs-newest}

-- what covers the record, by the number that the index gives
by_number : (c : After-newest_in_runs-newest) (value : List ℕ)
    → covering c.args.self.now (record { family = c.args.family; key = c.args.user.now; sequence = c.args.sequence; kind = c.args.kind; value = value }) ≡ above c.args.sequence c.newest_in_runs-newest.result
by_number c value =
    let r : Record = record { family = c.args.family; key = c.args.user.now; sequence = c.args.sequence; kind = c.args.kind; value = [] } in
    let tombs : List Tomb = c.self.inside.tombs.items in
    let nodes : List Node = c.self.inside.nodes.items in
    let number : c.newest_in_runs-newest.result ≡ newest r r.sequence tombs =
    c.newest_in_runs-newest.ensures
    ∙ (λ i. newest r r.sequence (tombs_of (c.as_slice.ensures.value i) (c.as_slice-2.ensures.value i)))
    ∙ newest-index r r.sequence tombs nodes c.self.invariant.0 in
    covering-value c.args.self.now c.args.family c.args.user.now c.args.sequence c.args.kind value
    ∙ ap (λ ts. covering ts r) (sym c.self.view_is)
    ∙ covering-newest r tombs ∙ ap (above c.args.sequence) (sym number)

pub returns-then-newest-sequence : goal.returns-then-newest-sequence
returns-then-newest-sequence c = λ value. sym (by_number (goal.at.returns-then-newest-sequence c).After-newest_in_runs-newest value ∙ above-yes _ _ c.if-newest-sequence.true)

pub returns-else-newest-sequence : goal.returns-else-newest-sequence
returns-else-newest-sequence c = λ value. sym (by_number (goal.at.returns-else-newest-sequence c).After-newest_in_runs-newest value ∙ above-no _ _ c.if-newest-sequence.false)
