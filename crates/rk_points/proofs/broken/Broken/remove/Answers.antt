use Rattle.std.proofs.Common.{ℕ, sym, ap, subst, ◌∙◌}
use Rattle.rk_version.specs.Places.{Rises, IsAt, IsFree}
use Rattle.rk_version.proofs.PlaceLemmas.{removed, none_removed}
use Rattle.rk_version.proofs.Rising.{rises_filter}
use Rattle.rk_points.specs.Tallies.{without}
use Rattle.rk_points.proofs.broken.Broken.remove.Goals as goal

pub invariant_of-self : goal.invariant_of-self
invariant_of-self c =
    let numbers = c.self.inside.numbers.items in
    let at = subst (λ numbers. IsAt (λ (number : ℕ). number) c.args.number numbers c.in-Ok.place) c.deref.ensures.value c.in-Ok.ensures in
    subst (Rises (λ (number : ℕ). number)) (sym (c.remove.ensures.items ∙ sym (removed (λ (number : ℕ). number) c.args.number c.in-Ok.place numbers at)))
    (rises_filter (λ (number : ℕ). number) _ numbers c.self.invariant)

pub returns-in-Ok : goal.returns-in-Ok
returns-in-Ok c =
    let numbers = c.self.inside.numbers.items in
    let at = subst (λ numbers. IsAt (λ (number : ℕ). number) c.args.number numbers c.in-Ok.place) c.deref.ensures.value c.in-Ok.ensures in
    c.remove.ensures.items ∙ sym (removed (λ (number : ℕ). number) c.args.number c.in-Ok.place numbers at) ∙ ap (without c.args.number) c.self.view_is

pub returns-in_default : goal.returns-in_default
returns-in_default c =
    let numbers = c.self.inside.numbers.items in
    let free = subst (λ numbers. IsFree (λ (number : ℕ). number) c.args.number numbers c.in_default.field-0) c.deref.ensures.value c.in_default.ensures in
    sym c.self.view_is ∙ sym (none_removed (λ (number : ℕ). number) c.args.number c.in_default.field-0 numbers free) ∙ ap (without c.args.number) c.self.view_is
