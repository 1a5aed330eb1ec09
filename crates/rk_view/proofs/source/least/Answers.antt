use Rattle.std.proofs.Common.{◌≡◌, ◌∙◌, ◌+◌, ◌<◌, sym, ap, subst, map, take, get_or, length, take_all, List, arith, []}
use Rattle.std.proofs.lemmas.List.{get_or-map, length-map}
use Rattle.std.specs.Prelude.{slice_get, if◌then◌else◌}
use Rattle.std.specs.Option.{option_copied}
use Rattle.rk_bytes.specs.declared.model.key.Record.{Record}
use Rattle.rk_view.specs.Maps.{first_of}
use Rattle.rk_view.specs.Sources.{merged}
use Rattle.rk_view.proofs.SourceLemmas.{IsHeldAt, first_of_more, first_of_none, held_new, held_still, least_held}
use Rattle.rk_view.proofs.source.least.Goals as goal
use Rattle.rk_view.proofs.source.least.Goals.{then-comes_first, else-comes_first}

pub loop-index-init : goal.loop-index-init
loop-index-init g c = record { first = sym first_of_none; held = tt }

pub loop-index-preserved : goal.loop-index-preserved
loop-index-preserved g c =
    let sources = c.args.sources.now in
    let i = c.loop-index.index in
    let lefts : List (List Record) = map g.S.Source.left sources in
    let within : i < length lefts = subst (λ n. i < n) (sym (length-map sources g.S.Source.left)) c.loop-index-test.true in
    let next : option_copied c.head-next.result ≡ slice_get (get_or lefts i []) 0 = c.head-next.ensures ∙ ap (λ s. slice_get (g.S.Source.left s) 0) c.index-sources-index.is ∙ ap (λ l. slice_get l 0) (sym (get_or-map g.S.Source.left sources i c.index-sources-index.result [] c.loop-index-test.true)) in
    let more : slice_get (merged (take (i + 1) lefts)) 0 ≡ first_of (option_copied c.loop-index.first) (option_copied c.head-next.result) = first_of_more lefts i within c.requires ∙ (λ j. first_of (sym c.loop-index.invariant.first j) (sym next j)) in
    elim c.if-comes_first.branch [
      | then-comes_first w ↦ record {
        first = sym (more ∙ c.comes_first.ensures.first ∙ ap (λ b. if b then option_copied c.head-next.result else option_copied c.loop-index.first) w.if-comes_first.true ∙ ap option_copied (sym w.first-is));
        held = rw (w.least-is, w.first-is) (held_new lefts i (option_copied c.head-next.result) (c.comes_first.ensures.some w.if-comes_first.true) next);
      }
      | else-comes_first w ↦ record {
        first = sym (more ∙ c.comes_first.ensures.first ∙ ap (λ b. if b then option_copied c.head-next.result else option_copied c.loop-index.first) w.if-comes_first.false ∙ ap option_copied (sym w.first-is));
        held = rw (w.least-is, w.first-is) (held_still lefts i c.loop-index.least (option_copied c.loop-index.first) c.loop-index.invariant.held);
      }
    ]

pub returns : goal.returns
returns g c =
    let lefts : List (List Record) = map g.S.Source.left c.args.sources.now in
    let all : c.loop-index.index ≡ length lefts = omega (arith, length-map c.args.sources.now g.S.Source.left) in
    least_held lefts c.loop-index.least (option_copied c.loop-index.first)
    (subst (λ n. IsHeldAt lefts n c.loop-index.least (option_copied c.loop-index.first)) all c.loop-index.invariant.held)
    (c.loop-index.invariant.first ∙ ap (λ n. slice_get (merged (take n lefts)) 0) all ∙ ap (λ ls. slice_get (merged ls) 0) (take_all (length lefts) lefts (omega arith)))
