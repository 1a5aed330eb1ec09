use Rattle.std.proofs.Common.{◌≡◌, refl, sym, ap, ◌∙◌, arith}
use Rattle.std.specs.List.{sum_by}
use Rattle.std.proofs.lemmas.Bool.{false≢true, true≢false}
use Rattle.std.proofs.lemmas.List.{nil_from_length}
use Rattle.rk_points.specs.declared.descent.Stand.{Stand}
use Rattle.rk_points.specs.Descents.{passed}
use Rattle.rk_points.proofs.StandLemmas.{next_group}
use Rattle.rk_points.proofs.descent.pass.Goals as goal

pub loop-place-init : goal.loop-place-init
loop-place-init c =
    let all : c.into_iter-place-iterator.result.iter.rest.now ≡ c.args.groups.now =
    ap (λ iterator. iterator.iter.rest.now) c.into_iter-place-iterator.ensures.into_iter_gives ∙ ap (λ iterator. iterator.rest.now) c.rev-place-items.ensures.source ∙ c.iter.ensures.rest in
    record {
      passed = λ sound. (sound, ap (λ places. passed places c.args.stands.now) all);
      most = omega arith;
      lower = λ lowered. absurd (false≢true lowered);
      same = λ not. refl;
    }

pub loop-place-preserved-then-hold : goal.loop-place-preserved-then-hold
loop-place-preserved-then-hold c =
    let before = c.loop-place.invariant in
    let less = c.hold.ensures.lower c.if-hold.true in
    record {
      passed = next_group c.loop-place.place-iterator.iter.rest.now c.next.new.self.iter.rest.now c.args.groups.now c.in-Some.place.now c.args.stands.now c.loop-place.stands c.hold.new.stands c.in-Some.ensures.steps c.hold.ensures.held before.passed;
      most = omega (arith, less, before.most);
      lower = λ lowered. omega (arith, less, before.most);
      same = λ not. absurd (true≢false not);
    }

pub loop-place-preserved : goal.loop-place-preserved
loop-place-preserved c =
    let before = c.loop-place.invariant in
    let same = c.hold.ensures.same c.if-hold.false in
    let sum = ap (sum_by (λ (stand : Stand). stand.at)) same in
    record {
      passed = next_group c.loop-place.place-iterator.iter.rest.now c.next.new.self.iter.rest.now c.args.groups.now c.in-Some.place.now c.args.stands.now c.loop-place.stands c.hold.new.stands c.in-Some.ensures.steps c.hold.ensures.held before.passed;
      most = omega (arith, sum, before.most);
      lower = λ lowered. omega (arith, sum, before.lower lowered);
      same = λ not. same ∙ before.same not;
    }

pub returns-clause-passed : goal.returns-clause-passed
returns-clause-passed c sound =
    let none = nil_from_length c.loop-place.place-iterator.iter.rest.now c.in-None.ensures.steps.0 in
    sym (ap (λ places. passed places c.loop-place.stands) none) ∙ (c.loop-place.invariant.passed sound).1
