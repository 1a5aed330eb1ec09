use Rattle.std.proofs.Common.{◌≡◌, ◌-◌, get_or, Some, None, Ok, refl, rules, subst, arith}
use Rattle.std.specs.Prelude.{IfSome}
use Rattle.std.specs.FinMap.{get}
use Rattle.std.specs.Option.{option_map}
use Rattle.rk_bytes.specs.Model.BestEfforts.{usable_units}
use Rattle.rk_bytes.specs.Model.DiskImages.{contents_told}
use Rattle.rk_open.specs.Answers.{RefusesAs}
use Rattle.rk_open.specs.Best.{best_of, best_if}
use Rattle.rk_open.proofs.BestLemmas.{last_found, last_none, last_refused}
use Rattle.rk_open.proofs.best.open_last.Goals as goal

pub returns-in-Ok-Some-clause-best : goal.returns-in-Ok-Some-clause-best
returns-in-Ok-Some-clause-best g c =
    let inv = c.loop-left.invariant in
    let left = c.loop-left.left in
    let number = get_or c.args.numbers.now (left - 1) 0 in
    let best = best_of c.in-Ok-Some.best in
    let here = subst (λ one. IfSome (contents_told (g.D.Disk.told c.loop-left.disk)) (λ d. best_if (get d) number (usable_units (get d) number) ≡ Ok (option_map best_of one))) c.in-Ok-Some.field-0-is c.in-Ok-Some.ensures.best in
    let found = subst (λ told. IfSome (contents_told told) (λ d. best_if (get d) number (usable_units (get d) number) ≡ Ok (Some best))) inv.left here in
    last_found c.args.numbers.now left (left - 1) number (omega (arith, c.loop-left-test.true)) refl (omega (arith, c.loop-left-test.true, inv.within)) (contents_told (g.D.Disk.told c.args.disk.now)) best inv.behind found

pub loop-left-preserved : goal.loop-left-preserved
loop-left-preserved g c =
    let inv = c.loop-left.invariant in
    let left = c.loop-left.left in
    let number = get_or c.args.numbers.now (left - 1) 0 in
    let here = subst (λ one. IfSome (contents_told (g.D.Disk.told c.loop-left.disk)) (λ d. best_if (get d) number (usable_units (get d) number) ≡ Ok (option_map best_of one))) c.in-Ok-None.field-0-is c.in-Ok-None.ensures.best in
    let none = subst (λ told. IfSome (contents_told told) (λ d. best_if (get d) number (usable_units (get d) number) ≡ Ok None)) inv.left here in record {
      within = omega (arith, inv.within);
      left = search rules;
      faults = search rules;
      behind = last_none c.args.numbers.now left (left - 1) number (omega (arith, c.loop-left-test.true)) refl (omega (arith, c.loop-left-test.true, inv.within)) (contents_told (g.D.Disk.told c.args.disk.now)) inv.behind none;
    }

pub returns-in-Err-clause-best : goal.returns-in-Err-clause-best
returns-in-Err-clause-best g c =
    let inv = c.loop-left.invariant in
    let left = c.loop-left.left in
    let number = get_or c.args.numbers.now (left - 1) 0 in
    let refused = subst (λ told. IfSome (contents_told told) (λ d. RefusesAs (best_if (get d) number (usable_units (get d) number)) c.in-Err.why)) inv.left c.in-Err.ensures.best in
    last_refused c.args.numbers.now left (left - 1) number (omega (arith, c.loop-left-test.true)) refl (omega (arith, c.loop-left-test.true, inv.within)) (contents_told (g.D.Disk.told c.args.disk.now)) c.in-Err.why inv.behind refused
