use Rattle.std.proofs.Common.{◌≡◌, ◌+◌, [], length, map, filter, ap, subst, ◌∙◌, arith}
use Rattle.std.proofs.lemmas.List.{length-map}
use Rattle.std.proofs.lemmas.Result.{IfOk-weaker}
use Rattle.rk_bytes.specs.Model.Manifest.{version_at}
use Rattle.rk_version.specs.Units.{edits_of, meaning}
use Rattle.rk_points.specs.Courses.{Follows}
use Rattle.rk_points.specs.Tallies.{course_of}
use Rattle.rk_points.specs.Walks.{Reaches}
use Rattle.rk_points.specs.declared.tally.Tally.{Tally}
use Rattle.rk_points.proofs.FollowLemmas.{enough_answers, first_standing, standing_more, is_there}
use Rattle.rk_points.proofs.CourseLemmas.{all_followed}
use Rattle.rk_points.proofs.walk.follow.Goals as goal

pub loop-i-init : goal.loop-i-init
loop-i-init c = λ last applies.
    let means = map meaning c.args.units.now in
    first_standing means c.args.whole.now (enough_answers means c.args.whole.now c.requires.answers) last c.in_ok-walk.walk
    (ap (version_at means) (length-map c.args.units.now meaning) ∙ applies) c.in_ok-walk.ensures.tallies c.in_ok-walk.ensures.left

pub loop-i-preserved : goal.loop-i-preserved
loop-i-preserved c = λ last applies.
    standing_more c.args.units.now c.args.whole.now last c.loop-i.i c.index-units-i.result c.loop-i.walk c.take_edits.new.self c.requires.answers c.loop-i-test.true c.index-units-i.is
    (subst (λ pieces. Reaches (c.loop-i.i + 1) (edits_of pieces) c.loop-i.walk [] c.take_edits.new.self) c.as_slice.ensures c.in_ok-take_edits.ensures) (c.loop-i.invariant last applies)

pub returns : goal.returns
returns c =
    let means = map meaning c.args.units.now in
    let (last, applies) = is_there (version_at means (length c.args.units.now)) c.requires.applies in
    let all : c.loop-i.i ≡ length means = omega (arith, c.loop-i-test.false, c.loop-i.auto.i-end, length-map c.args.units.now meaning) in
    IfOk-weaker c.into_courses.result (λ courses. courses ≡ map course_of (filter (λ (tally : Tally). tally.now.live) c.loop-i.walk.tallies)) (Follows means c.args.whole.now)
    (λ courses is. all_followed means c.args.whole.now last c.loop-i.i c.loop-i.walk courses all (c.loop-i.invariant last applies) c.into_courses.ensures.order is) c.into_courses.ensures.courses
