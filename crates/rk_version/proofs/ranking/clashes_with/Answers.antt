use Rattle.std.proofs.Common.{rules, Some, length, slice_get, refl, sym, ap, Fits, w64, ◌∙◌, arith}
use Rattle.rk_version.specs.Bounds.{HasWholeBounds}
use Rattle.rk_version.specs.Rankings.{ranked, meeting}
use Rattle.rk_version.proofs.ClashCounts.{parted_small, sum_with, sum_with_small}
use Rattle.rk_version.proofs.RankPlaces.{as_long, each_ranked, before_holds, some_holds}
use Rattle.rk_version.proofs.ranking.clashes_with.Goals as goal

pub meeting-requires-clause-first : goal.meeting-requires-clause-first
meeting-requires-clause-first c x is =
    before_holds HasWholeBounds (ranked c.args.files.now) c.args.place (each_ranked HasWholeBounds c.args.files.now c.requires.bounds) x (sym c.file_in_front-front.ensures ∙ is)

pub meeting-requires-clause-second : goal.meeting-requires-clause-second
meeting-requires-clause-second c x is =
    some_holds HasWholeBounds (ranked c.args.files.now) c.args.place (each_ranked HasWholeBounds c.args.files.now c.requires.bounds) x (sym c.ranked_file-behind.ensures ∙ is)

pub overflow_sub-result : goal.overflow_sub-result
overflow_sub-result c =
    let zs = ranked c.args.files.now in
    let place = c.args.place in
    let front = c.file_in_front-front.ensures in
    let behind = c.ranked_file-behind.ensures in
    parted_small zs place c.args.file.now c.requires.place.within c.args.clashes c.meeting.result _ _ c.requires.counted (c.meeting.ensures ∙ (λ i. meeting (front i) (behind i))) refl refl

pub meeting-requires-2-clause-first : goal.meeting-requires-2-clause-first
meeting-requires-2-clause-first c x is =
    before_holds HasWholeBounds (ranked c.args.files.now) c.args.place (each_ranked HasWholeBounds c.args.files.now c.requires.bounds) x (sym c.file_in_front-front.ensures ∙ is)

pub overflow_add-result : goal.overflow_add-result
overflow_add-result c =
    let zs = ranked c.args.files.now in
    let x = c.args.file.now in
    let place = c.args.place in
    let front = c.file_in_front-front.ensures in
    let behind = c.ranked_file-behind.ensures in
    let long = as_long c.args.files.now c.args.numbers.now c.requires.ranked in
    let fits : Fits w64 (length c.args.numbers.now) = search rules in
    let bound = fits.fits in
    let small = sum_with_small zs place x c.requires.place.within c.args.clashes c.meeting.result c.meeting-2.result (meeting (Some x) (slice_get zs place)) c.requires.counted
    (c.meeting.ensures ∙ (λ i. meeting (front i) (behind i))) (c.meeting-2.ensures ∙ ap (λ front. meeting front (Some x)) front) refl in
    record { fits = omega (arith, small, long, bound) }

pub meeting-requires-3-clause-second : goal.meeting-requires-3-clause-second
meeting-requires-3-clause-second c x is =
    some_holds HasWholeBounds (ranked c.args.files.now) c.args.place (each_ranked HasWholeBounds c.args.files.now c.requires.bounds) x (sym c.ranked_file-behind.ensures ∙ is)

pub overflow_add-result-2 : goal.overflow_add-result-2
overflow_add-result-2 c =
    let zs = ranked c.args.files.now in
    let x = c.args.file.now in
    let place = c.args.place in
    let front = c.file_in_front-front.ensures in
    let behind = c.ranked_file-behind.ensures in
    let long = as_long c.args.files.now c.args.numbers.now c.requires.ranked in
    let fits : Fits w64 (length c.args.numbers.now) = search rules in
    let bound = fits.fits in
    let small = sum_with_small zs place x c.requires.place.within c.args.clashes c.meeting.result c.meeting-2.result c.meeting-3.result c.requires.counted
    (c.meeting.ensures ∙ (λ i. meeting (front i) (behind i))) (c.meeting-2.ensures ∙ ap (λ front. meeting front (Some x)) front) (c.meeting-3.ensures ∙ ap (meeting (Some x)) behind) in
    record { fits = omega (arith, small, long, bound) }

pub returns : goal.returns
returns c =
    let zs = ranked c.args.files.now in
    let x = c.args.file.now in
    let place = c.args.place in
    let front = c.file_in_front-front.ensures in
    let behind = c.ranked_file-behind.ensures in
    sum_with zs place x c.requires.place.within c.args.clashes c.meeting.result c.meeting-2.result c.meeting-3.result c.requires.counted
    (c.meeting.ensures ∙ (λ i. meeting (front i) (behind i))) (c.meeting-2.ensures ∙ ap (λ front. meeting front (Some x)) front) (c.meeting-3.ensures ∙ ap (meeting (Some x)) behind)
