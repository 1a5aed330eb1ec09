use Rattle.std.proofs.Common.{sym, subst}
use Rattle.rk_version.specs.Stated.{Continues}
use Rattle.rk_version.specs.declared.stated.Stated.{Stated}
use Rattle.rk_version.proofs.StatedLemmas.{one_more, all_kept}
use Rattle.rk_version.proofs.stated.Stated.of.Goals as goal

pub loop-field-preserved : goal.loop-field-preserved
loop-field-preserved c =
    let now = c.loop-field.stated in
    subst (λ (kept : Stated). Continues kept c.next_field.new.self c.args.view) (sym c.with-stated.ensures)
    (one_more now c.in-Some.field c.next_field.new.self c.args.view (rw c.in-Some.ensures.given at c.loop-field.invariant))

pub returns : goal.returns
returns c = all_kept c.loop-field.stated c.args.view (rw c.in_default.ensures.none.0 at c.loop-field.invariant)
