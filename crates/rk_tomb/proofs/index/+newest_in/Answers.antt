use Rattle.std.proofs.Common.{◌≡◌, ℕ, ◌+◌, ◌-◌, ◌/◌, ◌<◌, List, length, take, drop, get_or, sym, ◌∙◌, arith, length-take, length-drop}
use Rattle.std.specs.Prelude.{max}
use Rattle.std.proofs.lemmas.List.{take_rest}
use Rattle.std.proofs.lemmas.List.Elements.{All-take, All-drop}
use Rattle.rk_bytes.specs.declared.model.view.Tomb.{Tomb}
use Rattle.rk_tomb.specs.declared.index.Node.{Node}
use Rattle.rk_tomb.specs.Weights.{record_of, weight, newest}
use Rattle.rk_tomb.specs.Spans.{tomb_at}
use Rattle.rk_tomb.specs.Index.{tombs_of, IsPlaced}
use Rattle.rk_tomb.proofs.EdgeLemmas.{tomb_at-read}
use Rattle.rk_tomb.proofs.IndexLemmas.{newest-missed, newest-split}
use Rattle.rk_tomb.proofs.PartLemmas.{IsRun-before, IsRun-after}
use Rattle.rk_tomb.proofs.RunLemmas.{some_from_test}
use Rattle.rk_tomb.proofs.index.+newest_in.Goals as goal

pub returns-then-is_missed_by : goal.returns-then-is_missed_by
returns-then-is_missed_by t c =
    sym (newest-missed (record_of c.args.lookup.now) c.args.floor c.args.tombs.now c.args.run.now _ c.requires.run (c.is_missed_by.ensures c.if-is_missed_by.true))

pub newest_in-before-requires : goal.newest_in-before-requires
newest_in-before-requires t c =
    let run : List Node = c.args.run.now in
    let some : 0 < length run = some_from_test (length run) c.is_empty.result c.is_empty.ensures c.if-is_empty.false in (
      omega (arith, length-take (length run / 2) run),
      (c.requires.sequence, (c.requires.bounds, (All-take (IsPlaced (length c.args.tombs.now)) (length run / 2) run c.requires.placed, IsRun-before c.args.tombs.now run c.requires.run))),
    )

pub newest_in-requires : goal.newest_in-requires
newest_in-requires t c =
    let run : List Node = c.args.run.now in
    let some : 0 < length run = some_from_test (length run) c.is_empty.result c.is_empty.ensures c.if-is_empty.false in
    rw (take_rest run (length run / 2 + 1)) (
      omega (arith, length-drop (length run / 2 + 1) run),
      (c.requires.sequence, (c.requires.bounds, (All-drop (IsPlaced (length c.args.tombs.now)) (length run / 2 + 1) run c.requires.placed, IsRun-after c.args.tombs.now run c.requires.run))),
    )

pub returns : goal.returns
returns t c =
    let r = record_of c.args.lookup.now in
    let tombs : List Tomb = c.args.tombs.now in
    let run : List Node = c.args.run.now in
    let m : ℕ = length run / 2 in
    let some : 0 < length run = some_from_test (length run) c.is_empty.result c.is_empty.ensures c.if-is_empty.false in
    let in_run : m < length run = omega arith in
    let rest : take (length run - (m + 1)) (drop (m + 1) run) ≡ drop (m + 1) run = take_rest run (m + 1) in
    let read : c.index-tombs-node.result ≡ tomb_at tombs (get_or run m _).place = tomb_at-read tombs (get_or run m _).place c.index-tombs-node.result (c.requires.placed m _ in_run).place c.index-tombs-node.is in
    let own : c.newest_of-own.result ≡ max (newest r c.args.floor (tombs_of tombs (take m run))) (weight r (tomb_at tombs (get_or run m _).place)) = c.newest_of-own.ensures ∙ (λ i. max (c.newest_in-before.ensures i) (weight r (read i))) in
    c.newest_in.ensures ∙ (λ i. newest r (own i) (tombs_of tombs (rest i))) ∙ sym (newest-split r c.args.floor tombs run m _ in_run)
