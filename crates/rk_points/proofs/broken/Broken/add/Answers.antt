use Rattle.std.proofs.Common.{ℕ, sym, ap, subst, ◌∙◌}
use Rattle.rk_version.specs.Keyed.{put}
use Rattle.rk_version.specs.Places.{Rises, IsAt, IsFree}
use Rattle.rk_version.proofs.PlaceLemmas.{replaced, inserted}
use Rattle.rk_version.proofs.Rising.{rises_with}
use Rattle.rk_points.proofs.broken.Broken.add.Goals as goal

pub invariant_of-self-in-Continue-1 : goal.invariant_of-self-in-Continue-1
invariant_of-self-in-Continue-1 c =
    let numbers = c.self.inside.numbers.items in
    let free = subst (λ numbers. IsFree (λ (number : ℕ). number) c.args.number numbers c.in-Err.place) c.deref.ensures.value c.in-Err.ensures in
    subst (Rises (λ (number : ℕ). number)) (sym (c.in_ok-insert-in-Err.ensures.items ∙ inserted (λ (number : ℕ). number) c.args.number c.in-Err.place numbers c.args.number free))
    (rises_with (λ (number : ℕ). number) c.args.number numbers c.self.invariant)

pub returns-in-Ok : goal.returns-in-Ok
returns-in-Ok c =
    let numbers = c.self.inside.numbers.items in
    let at = subst (λ numbers. IsAt (λ (number : ℕ). number) c.args.number numbers c.in-Ok.place) c.deref.ensures.value c.in-Ok.ensures in
    replaced (λ (number : ℕ). number) c.args.number c.in-Ok.place numbers c.args.number at ∙ ap (put (λ (number : ℕ). number) c.args.number) c.self.view_is

pub returns-in_ok-insert-in-Err : goal.returns-in_ok-insert-in-Err
returns-in_ok-insert-in-Err c =
    let numbers = c.self.inside.numbers.items in
    let free = subst (λ numbers. IsFree (λ (number : ℕ). number) c.args.number numbers c.in-Err.place) c.deref.ensures.value c.in-Err.ensures in
    c.in_ok-insert-in-Err.ensures.items ∙ inserted (λ (number : ℕ). number) c.args.number c.in-Err.place numbers c.args.number free ∙ ap (put (λ (number : ℕ). number) c.args.number) c.self.view_is
