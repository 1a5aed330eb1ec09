use Rattle.std.proofs.Common.{◌≡◌, ℕ, ◌-◌, List, length, take, drop, sym, ap, ◌∙◌, subst, arith, length-drop}
use Rattle.std.specs.Prelude.{Result, Ok, Err, OnOk}
use Rattle.std.specs.List.Sorted.{IsPermutation}
use Rattle.std.proofs.lemmas.List.{take_rest, length-map}
use Rattle.std.proofs.lemmas.List.Elements.{All-drop}
use Rattle.std.proofs.lemmas.List.Sorted.{IsPermutation-map, length_permutation, All-permutation}
use Rattle.rk_tomb.specs.declared.index.Node.{Node}
use Rattle.rk_tomb.specs.Index.{places, IsPlaced, run_len}
use Rattle.rk_tomb.proofs.IndexLemmas.{rest_moved, rest_of_runs, runs_with_rest}
use Rattle.rk_tomb.proofs.PartLemmas.{AreRuns-one}
use Rattle.rk_tomb.proofs.RunLemmas.{run_len-le, run_len-positive}
use Rattle.rk_tomb.proofs.SummaryLemmas.{length-places}
use Rattle.rk_tomb.proofs.index.+settle.Goals as goal

pub settle-requires : goal.settle-requires
settle-requires t c =
    let nodes : List Node = c.args.nodes.now in
    let first : ℕ = c.run_len-first.result in
    let positive = run_len-positive (length nodes) c.requires.some in
    rw (take_rest nodes first) (
      omega (arith, length-drop first nodes, positive, c.run_len-first.ensures),
      (omega (arith, length-drop first nodes), (All-drop (IsPlaced (length c.args.tombs.now)) first nodes c.requires.placed, rest_of_runs c.args.tombs.now nodes first c.run_len-first.ensures c.if-first-nodes.true c.requires.runs)),
    )

pub returns-then-first-nodes-clause-same : goal.returns-then-first-nodes-clause-same
returns-then-first-nodes-clause-same t c =
    let nodes : List Node = c.args.nodes.now in
    let first : ℕ = c.run_len-first.result in
    let rest : take (length nodes - first) (drop first nodes) ≡ drop first nodes = take_rest nodes first in
    rest_moved nodes c.settle.new.nodes first (subst (λ xs. IsPermutation (places xs) (places c.settle.new.nodes)) rest c.settle.ensures.same)

kept : {T E P Q : Type 0} (r : Result T E) → (P → Q) → OnOk r P → OnOk r Q
kept (Ok value) wider h = wider h
kept (Err error) wider h = tt

pub returns-then-first-nodes-clause-ok : goal.returns-then-first-nodes-clause-ok
returns-then-first-nodes-clause-ok t c =
    let nodes : List Node = c.args.nodes.now in
    let first : ℕ = c.run_len-first.result in
    let rest : List Node = c.settle.new.nodes in
    let whole : take (length nodes - first) (drop first nodes) ≡ drop first nodes = take_rest nodes first in
    let len : length rest ≡ length nodes - first =
    sym (length-map rest (λ (node : Node). node.place)) ∙ length_permutation (places (take (length nodes - first) (drop first nodes))) (places rest) c.settle.ensures.same
    ∙ length-map (take (length nodes - first) (drop first nodes)) (λ (node : Node). node.place) ∙ ap length whole ∙ length-drop first nodes in
    kept c.settle.result (λ runs. runs_with_rest c.args.tombs.now nodes first c.run_len-first.ensures c.if-first-nodes.true c.requires.runs rest len runs) c.settle.ensures.ok

pub summarize-requires : goal.summarize-requires
summarize-requires t c = All-permutation (IsPlaced (length c.args.tombs.now)) c.args.nodes.now c.sort_by.new.self c.sort_by.ensures.permutation c.requires.placed

pub returns-clause-same : goal.returns-clause-same
returns-clause-same t c =
    subst (λ xs. IsPermutation (places c.args.nodes.now) xs) (sym c.summarize.ensures.same)
    (IsPermutation-map (λ (node : Node). node.place) c.args.nodes.now c.sort_by.new.self c.sort_by.ensures.permutation)

pub returns-clause-ok : goal.returns-clause-ok
returns-clause-ok t c =
    let nodes : List Node = c.args.nodes.now in
    let new : List Node = c.summarize.new.run in
    let len : length new ≡ length nodes = length-places new c.sort_by.new.self c.summarize.ensures.same ∙ c.sort_by.ensures.len in
    let full : run_len (length nodes) ≡ length nodes = omega (arith, c.run_len-first.ensures, c.if-first-nodes.false, run_len-le (length nodes)) in
    AreRuns-one c.args.tombs.now new (ap run_len len ∙ full ∙ sym len) c.summarize.ensures.run
