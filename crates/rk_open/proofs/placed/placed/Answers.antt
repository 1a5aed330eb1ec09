use Rattle.std.proofs.Common.{◌≡◌, ◌∷◌, ◌++◌, [], length, map, drop, refl, sym, ap, ◌∙◌, rules}
use Rattle.std.proofs.lemmas.List.{map-id}
use Rattle.std.proofs.lemmas.Iterator.Adapters.{YieldsList-from_vec}
use Rattle.std.proofs.lemmas.Iterator.Consumers.{YieldsList-end}
use Rattle.rk_version.specs.Units.{meaning}
use Rattle.rk_open.proofs.PlacedLemmas.{given, given_none, given_more, rest_more, given_placed}
use Rattle.rk_open.proofs.placed.placed.Goals as goal

pub loop-own-init : goal.loop-own-init
loop-own-init c = record { each = c.new-each.ensures ∙ sym (given_none c.args.families.now); left = refl }

pub loop-own-preserved : goal.loop-own-preserved
loop-own-preserved c =
    let families = c.args.families.now in
    let live = c.in-Some-split_first.live.now in
    let more = c.in-Some-split_first.more.now in
    let parts : drop (length c.loop-own.yielded) families ≡ live ∷ more = sym c.loop-own.invariant.left ∙ c.in-Some-split_first.ensures.cases.0 in
    record {
      each = c.in_ok-push.ensures.ok ∙ (λ i. c.loop-own.invariant.each i ++ c.in_ok-with_files.ensures i ∷ []) ∙ sym (given_more families c.loop-own.yielded live more c.in-Some.own parts);
      left = rest_more families c.loop-own.yielded live more c.in-Some.own parts;
    }

pub returns : goal.returns
returns c =
    let all : c.loop-own.yielded ≡ c.in_ok-files.files =
    sym (map-id _) ∙ (YieldsList-end (YieldsList-from_vec c.into_vec-own-items.result.items (search rules) (search rules)) c.loop-own.yielded _ c.loop-own.yielded_by _ c.next.new.self c.in-None.is c.next.ensures.steps).0
    ∙ c.into_vec-own-items.ensures in
    c.loop-own.invariant.each ∙ ap (given c.args.families.now) (all ∙ c.in_ok-files.ensures) ∙ given_placed (map meaning c.args.units.now) c.args.families.now c.args.points.now
