use Rattle.std.proofs.Common.{rules, ◌<◌, suc, ◌+◌, Some, length, slice_get, refl, sym, ap, Fits, w64, add-one, ◌∙◌, arith}
use Rattle.rk_version.specs.Bounds.{HasWholeBounds}
use Rattle.rk_version.specs.Rankings.{ranked, meeting, file_before}
use Rattle.rk_version.proofs.ClashCounts.{both_small, sum_without, sum_without_small}
use Rattle.rk_version.proofs.RankPlaces.{as_long, each_ranked, before_holds, some_holds}
use Rattle.rk_version.proofs.ranking.clashes_without.Goals as goal

pub meeting-requires-clause-first : goal.meeting-requires-clause-first
meeting-requires-clause-first c x is =
    before_holds HasWholeBounds (ranked c.args.files.now) c.args.place (each_ranked HasWholeBounds c.args.files.now c.requires.bounds) x (sym c.file_in_front-front.ensures ∙ is)

pub overflow_sub-result : goal.overflow_sub-result
overflow_sub-result c =
    let zs = ranked c.args.files.now in
    let x = c.args.file.now in
    let place = c.args.place in
    let front = c.file_in_front-front.ensures in
    let within = c.requires.within in
    let long = as_long c.args.files.now c.args.numbers.now c.requires.ranked in
    let there : place < length zs = omega (arith, long, within) in
    let both = both_small zs place x there c.requires.there c.args.clashes c.meeting.result (meeting (Some x) (slice_get zs (suc place))) (meeting (file_before zs place) (slice_get zs (suc place))) c.requires.counted
    (c.meeting.ensures ∙ ap (λ front. meeting front (Some x)) front) refl refl in
    omega (arith, both)

pub meeting-requires-2-clause-second : goal.meeting-requires-2-clause-second
meeting-requires-2-clause-second c x is =
    some_holds HasWholeBounds (ranked c.args.files.now) (c.args.place + 1) (each_ranked HasWholeBounds c.args.files.now c.requires.bounds) x (sym c.ranked_file-behind.ensures ∙ is)

pub overflow_sub-result-2 : goal.overflow_sub-result-2
overflow_sub-result-2 c =
    let zs = ranked c.args.files.now in
    let x = c.args.file.now in
    let place = c.args.place in
    let front = c.file_in_front-front.ensures in
    let behind = c.ranked_file-behind.ensures ∙ ap (slice_get zs) (add-one place) in
    let within = c.requires.within in
    let long = as_long c.args.files.now c.args.numbers.now c.requires.ranked in
    let there : place < length zs = omega (arith, long, within) in
    let both = both_small zs place x there c.requires.there c.args.clashes c.meeting.result c.meeting-2.result (meeting (file_before zs place) (slice_get zs (suc place))) c.requires.counted
    (c.meeting.ensures ∙ ap (λ front. meeting front (Some x)) front) (c.meeting-2.ensures ∙ ap (meeting (Some x)) behind) refl in
    omega (arith, both)

pub meeting-requires-3-clause-first : goal.meeting-requires-3-clause-first
meeting-requires-3-clause-first c x is =
    before_holds HasWholeBounds (ranked c.args.files.now) c.args.place (each_ranked HasWholeBounds c.args.files.now c.requires.bounds) x (sym c.file_in_front-front.ensures ∙ is)

pub meeting-requires-3-clause-second : goal.meeting-requires-3-clause-second
meeting-requires-3-clause-second c x is =
    some_holds HasWholeBounds (ranked c.args.files.now) (c.args.place + 1) (each_ranked HasWholeBounds c.args.files.now c.requires.bounds) x (sym c.ranked_file-behind.ensures ∙ is)

pub overflow_add-result : goal.overflow_add-result
overflow_add-result c =
    let zs = ranked c.args.files.now in
    let x = c.args.file.now in
    let place = c.args.place in
    let front = c.file_in_front-front.ensures in
    let behind = c.ranked_file-behind.ensures ∙ ap (slice_get zs) (add-one place) in
    let within = c.requires.within in
    let long = as_long c.args.files.now c.args.numbers.now c.requires.ranked in
    let there : place < length zs = omega (arith, long, within) in
    let fits : Fits w64 (length c.args.numbers.now) = search rules in
    let bound = fits.fits in
    let small = sum_without_small zs place x there c.requires.there c.args.clashes c.meeting.result c.meeting-2.result c.meeting-3.result c.requires.counted
    (c.meeting.ensures ∙ ap (λ front. meeting front (Some x)) front) (c.meeting-2.ensures ∙ ap (meeting (Some x)) behind) (c.meeting-3.ensures ∙ (λ i. meeting (front i) (behind i))) in
    record { fits = omega (arith, small, long, bound) }

pub returns : goal.returns
returns c =
    let zs = ranked c.args.files.now in
    let x = c.args.file.now in
    let place = c.args.place in
    let front = c.file_in_front-front.ensures in
    let behind = c.ranked_file-behind.ensures ∙ ap (slice_get zs) (add-one place) in
    let within = c.requires.within in
    let long = as_long c.args.files.now c.args.numbers.now c.requires.ranked in
    let there : place < length zs = omega (arith, long, within) in
    sum_without zs place x there c.requires.there c.args.clashes c.meeting.result c.meeting-2.result c.meeting-3.result c.requires.counted
    (c.meeting.ensures ∙ ap (λ front. meeting front (Some x)) front) (c.meeting-2.ensures ∙ ap (meeting (Some x)) behind) (c.meeting-3.ensures ∙ (λ i. meeting (front i) (behind i)))
