use Rattle.std.proofs.Common.{length, map, sym, ◌∙◌, subst}
use Rattle.rk_bytes.specs.Model.DiskImages.{contents_told}
use Rattle.rk_version.specs.Places.{Rises}
use Rattle.rk_version.specs.Units.{meaning}
use Rattle.rk_open.specs.Best.{placed}
use Rattle.rk_open.specs.Tables.{HaveWholeBounds}
use Rattle.rk_open.proofs.PlacedLemmas.{Loaded, Refused, each_rises, placed_whole, points_loaded, points_refused, units_meant}
use Rattle.rk_open.proofs.UsableLemmas.{length-map, version_whole}
use Rattle.rk_open.proofs.VersionLemmas.{at_whole}
use Rattle.rk_open.proofs.best_manifest.open_points.Goals as goal

pub load-requires-clause-rising : goal.load-requires-clause-rising
load-requires-clause-rising g c =
    let units = map meaning c.args.units.now in
    let version = c.args.version.now in
    let whole = version_whole units version c.requires.version in
    let each_is = c.in-Ok.ensures ∙ (λ i. placed units (c.as_slice-families.ensures i) (c.as_slice.ensures i)) in
    subst (Rises (λ live. live.id)) (sym c.as_slice-2.ensures)
    (each_rises c.args.number units version c.args.whole.points whole c.requires.vector.families (at_whole units (units_meant c.args.units.now) (length units) version whole).0 c.in-Ok.families each_is)

pub load-requires-clause-bounds : goal.load-requires-clause-bounds
load-requires-clause-bounds g c =
    let units = map meaning c.args.units.now in
    let each_is = c.in-Ok.ensures ∙ (λ i. placed units (c.as_slice-families.ensures i) (c.as_slice.ensures i)) in
    subst HaveWholeBounds (sym (c.as_slice-2.ensures ∙ each_is)) (placed_whole units (units_meant c.args.units.now) c.args.version.now.families c.args.whole.points)

pub returns-in-Ok-load-clause-best : goal.returns-in-Ok-load-clause-best
returns-in-Ok-load-clause-best g c =
    let o = contents_told (g.D.Disk.told c.args.disk.now) in
    let units = map meaning c.args.units.now in
    let version = c.args.version.now in
    let whole = version_whole units version c.requires.version in
    let each_is = c.in-Ok.ensures ∙ (λ i. placed units (c.as_slice-families.ensures i) (c.as_slice.ensures i)) in
    let loaded = subst (λ families. Loaded o families c.in-Ok-load.state.state) c.as_slice-2.ensures c.in-Ok-load.ensures.loaded in
    points_loaded c.args.number units version c.args.whole.points whole c.requires.vector.families (at_whole units (units_meant c.args.units.now) (length units) version whole).0 c.in-Ok.families each_is o c.in-Ok-load.state.state loaded
    (length c.args.units.now) (length-map meaning c.args.units.now)

pub returns-in-Err-clause-best : goal.returns-in-Err-clause-best
returns-in-Err-clause-best g c =
    let o = contents_told (g.D.Disk.told c.args.disk.now) in
    let units = map meaning c.args.units.now in
    let version = c.args.version.now in
    let whole = version_whole units version c.requires.version in
    let each_is = c.in-Ok.ensures ∙ (λ i. placed units (c.as_slice-families.ensures i) (c.as_slice.ensures i)) in
    let refused = subst (λ families. Refused o families c.in-Err.why) c.as_slice-2.ensures c.in-Err.ensures.loaded in
    points_refused c.args.number units version c.args.whole.points whole c.requires.vector.families (at_whole units (units_meant c.args.units.now) (length units) version whole).0 c.in-Ok.families each_is o c.in-Err.why refused
