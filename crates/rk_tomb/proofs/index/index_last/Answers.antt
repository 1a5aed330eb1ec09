use Rattle.std.proofs.Common.{◌≡◌, ◌-◌, List, [], ◌∷◌, ◌++◌, length, take, drop, sym, ◌∙◌, subst, arith, length-append, length-take}
use Rattle.std.specs.List.{All}
use Rattle.std.specs.List.Sorted.{IsPermutation}
use Rattle.std.proofs.lemmas.List.{take_at, length-map}
use Rattle.std.proofs.lemmas.List.Sorted.{length_permutation}
use Rattle.rk_bytes.specs.declared.model.view.Tomb.{Tomb}
use Rattle.rk_tomb.specs.declared.index.Node.{Node}
use Rattle.rk_tomb.specs.Spans.{tomb_at}
use Rattle.rk_tomb.specs.Index.{places, IsPlaced, AreRuns, IsIndex}
use Rattle.rk_tomb.proofs.IndexLemmas.{last_tomb, IsIndex-more}
use Rattle.rk_tomb.proofs.PartLemmas.{AreRuns-more}
use Rattle.rk_tomb.proofs.index.index_last.Goals as goal

pub settle-requires-clause-runs : goal.settle-requires-clause-runs
settle-requires-clause-runs c =
    let tombs : List Tomb = c.args.tombs.now in
    let before : List Tomb = take (length tombs - 1) tombs in
    let last : Tomb = tomb_at tombs (length tombs - 1) in
    let old : List Node = c.args.nodes.now.items in
    let node : Node = record { place = length tombs - 1; span = c.of-span.result } in
    let nodes : c.as_mut_slice.result.now ≡ old ++ node ∷ [] = c.as_mut_slice.ensures.value ∙ c.in_ok-push.ensures.items in
    let runs : AreRuns tombs old = subst (λ all. AreRuns all old) (last_tomb tombs c.requires.some) (AreRuns-more before last old c.requires.index.placed c.requires.index.runs) in
    let front : take (length (old ++ node ∷ []) - 1) (old ++ node ∷ []) ≡ old = take_at old (node ∷ []) (length (old ++ node ∷ []) - 1) (omega (arith, length-append old (node ∷ []))) in
    subst (λ xs. AreRuns tombs (take (length xs - 1) xs)) (sym nodes) (subst (λ xs. AreRuns tombs xs) (sym front) runs)

pub returns-in-Ok-clause-ok : goal.returns-in-Ok-clause-ok
returns-in-Ok-clause-ok c =
    let tombs : List Tomb = c.args.tombs.now in
    let before : List Tomb = take (length tombs - 1) tombs in
    let last : Tomb = tomb_at tombs (length tombs - 1) in
    let old : List Node = c.args.nodes.now.items in
    let new : List Node = c.settle.new.nodes in
    let node : Node = record { place = length tombs - 1; span = c.of-span.result } in
    let nodes : c.as_mut_slice.result.now ≡ old ++ node ∷ [] = c.as_mut_slice.ensures.value ∙ c.in_ok-push.ensures.items in
    let all : before ++ last ∷ [] ≡ tombs = last_tomb tombs c.requires.some in
    let place : length tombs - 1 ≡ length before = omega (arith, length-take (length tombs - 1) tombs) in
    let moved : IsPermutation (places (old ++ node ∷ [])) (places new) = subst (λ xs. IsPermutation (places xs) (places new)) nodes c.settle.ensures.same in
    let index : IsIndex tombs new =
    subst (λ ts. IsIndex ts new) all
    (IsIndex-more before last old new node place c.requires.index
    (subst (λ ts. All (IsPlaced (length ts)) new) (sym all) c.settle.ensures.placed) moved
    (subst (λ ts. AreRuns ts new) (sym all) c.in-Ok.ensures.ok)) in
    let len : length new ≡ c.push.new.self.len =
    sym (length-map new (λ (other : Node). other.place)) ∙ length_permutation (places c.as_mut_slice.result.now) (places new) c.settle.ensures.same
    ∙ length-map c.as_mut_slice.result.now (λ (other : Node). other.place) ∙ c.as_mut_slice.ensures.len in
    subst (λ xs. IsIndex tombs xs) (sym (take_at new (drop (length new) c.push.new.self.items) c.push.new.self.len len)) index
