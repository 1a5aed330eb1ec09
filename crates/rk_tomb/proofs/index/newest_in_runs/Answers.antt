use Rattle.std.proofs.Common.{◌≡◌, ℕ, ◌<◌, List, ◌++◌, length, take, drop, get_or, take-append-drop, sym, ap, ◌∙◌, subst, arith}
use Rattle.std.proofs.lemmas.List.Elements.{All-drop}
use Rattle.rk_bytes.specs.declared.model.view.Tomb.{Tomb}
use Rattle.rk_tomb.specs.declared.index.Node.{Node}
use Rattle.rk_tomb.specs.Weights.{record_of, newest}
use Rattle.rk_tomb.specs.Index.{tombs_of, run_len, IsPlaced, IsRun, AreRuns}
use Rattle.rk_tomb.proofs.IndexLemmas.{newest-nodes}
use Rattle.rk_tomb.proofs.PartLemmas.{AreRuns-first, AreRuns-rest}
use Rattle.rk_tomb.proofs.RunLemmas.{run_len-le}
use Rattle.rk_tomb.proofs.index.newest_in_runs.Goals as goal

pub split_at-requires : goal.split_at-requires
split_at-requires c = omega (arith, c.run_len.ensures, run_len-le (length c.loop-rest.rest.now))

pub newest_in-newest-requires-clause-run : goal.newest_in-newest-requires-clause-run
newest_in-newest-requires-clause-run c =
    let rest : List Node = c.loop-rest.rest.now in
    let front : c.split_at.result.0.now ≡ take (run_len (length rest)) rest = c.split_at.ensures.front ∙ ap (λ n. take n rest) c.run_len.ensures in
    subst (λ run. IsRun c.args.tombs.now run) (sym front) (AreRuns-first c.args.tombs.now rest c.loop-rest.invariant.1)

pub loop-rest-preserved : goal.loop-rest-preserved
loop-rest-preserved c =
    let r = record_of c.args.lookup.now in
    let tombs : List Tomb = c.args.tombs.now in
    let rest : List Node = c.loop-rest.rest.now in
    let back : c.split_at.result.1.now ≡ drop (run_len (length rest)) rest = c.split_at.ensures.back ∙ ap (λ n. drop n rest) c.run_len.ensures in
    let front : c.split_at.result.0.now ≡ take (run_len (length rest)) rest = c.split_at.ensures.front ∙ ap (λ n. take n rest) c.run_len.ensures in
    let both : take (run_len (length rest)) rest ++ drop (run_len (length rest)) rest ≡ rest = take-append-drop (run_len (length rest)) rest in
    let step : c.newest_in-newest.result ≡ newest r c.loop-rest.newest (tombs_of tombs (take (run_len (length rest)) rest)) = c.newest_in-newest.ensures ∙ ap (λ run. newest r c.loop-rest.newest (tombs_of tombs run)) front in
    let whole : newest r c.newest_in-newest.result (tombs_of tombs c.split_at.result.1.now) ≡ newest r c.args.floor (tombs_of tombs c.args.nodes.now) =
    (λ i. newest r (step i) (tombs_of tombs (back i))) ∙ sym (newest-nodes r c.loop-rest.newest tombs (take (run_len (length rest)) rest) (drop (run_len (length rest)) rest)) ∙ ap (λ nodes. newest r c.loop-rest.newest (tombs_of tombs nodes)) both ∙ c.loop-rest.invariant.2 in (
      subst (λ xs. (k : ℕ) → (d : Node) → k < length xs → IsPlaced (length tombs) (get_or xs k d)) (sym back) (All-drop (IsPlaced (length tombs)) (run_len (length rest)) rest c.loop-rest.invariant.0),
      subst (λ xs. AreRuns tombs xs) (sym back) (AreRuns-rest tombs rest c.loop-rest.invariant.1),
      whole,
    )
