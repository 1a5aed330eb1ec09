use Rattle.std.proofs.Common.{◌∙◌, subst, sym, ap, find}
use Rattle.std.specs.Prelude.{slice_get}
use Rattle.rk_bytes.specs.Model.Records.{slot_of}
use Rattle.rk_view.specs.Maps.{IsRun}
use Rattle.rk_view.specs.Places.{is_from}
use Rattle.rk_view.proofs.RunLemmas.{lent_at}
use Rattle.rk_view.proofs.SeekLemmas.{from_upward}
use Rattle.rk_view.proofs.PartLemmas.{part_run_at, found_part, found_from, no_part}
use Rattle.rk_view.proofs.parts.first_of_all.Goals as goal

pub seek-hint-requires : goal.seek-hint-requires
seek-hint-requires c =
    let here = c.in-Some.ensures.lookup.3 in
    subst IsRun (sym c.as_slice.ensures.value) (part_run_at c.args.parts.now _ c.in-Some.part.now here.0 here.1 c.requires.run)

pub returns-in-Some : goal.returns-in-Some
returns-in-Some c =
    let q = slot_of c.args.sought.now in
    let p = is_from q in
    let here = c.in-Some.ensures.lookup.3 in
    let k = c.seek-hint.result in
    let xs = c.as_slice.result.now in
    let same = c.as_slice-in-Some.ensures.value ∙ sym c.as_slice.ensures.value in
    lent_at c.get-in-Some.result c.as_slice-in-Some.result.now k c.get-in-Some.ensures.lookup.3
    ∙ ap (λ ys. slice_get ys k) same ∙ found_from p (from_upward q) xs k c.seek-hint.ensures.bound c.seek-hint.ensures.before c.seek-hint.ensures.after
    ∙ ap (find p) c.as_slice.ensures.value ∙ sym (found_part p (from_upward q) c.args.parts.now c.part_from-hint.result c.in-Some.part.now c.requires.run.rises c.part_from-hint.ensures.at here.0 here.1)

pub returns-in-None : goal.returns-in-None
returns-in-None c =
    let q = slot_of c.args.sought.now in
    sym (no_part (is_from q) (from_upward q) c.args.parts.now c.part_from-hint.result c.requires.run.rises c.part_from-hint.ensures.at c.in-None.ensures.lookup.3)
