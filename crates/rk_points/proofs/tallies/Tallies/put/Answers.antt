use Rattle.std.proofs.Common.{sym, ap, subst, ◌∙◌}
use Rattle.rk_version.specs.Keyed.{put}
use Rattle.rk_version.specs.Places.{Rises, IsAt, IsFree}
use Rattle.rk_version.proofs.PlaceLemmas.{replaced, inserted}
use Rattle.rk_version.proofs.Rising.{rises_with}
use Rattle.rk_points.specs.declared.tally.Tally.{Tally}
use Rattle.rk_points.proofs.tallies.Tallies.put.Goals as goal

pub invariant_of-self : goal.invariant_of-self
invariant_of-self c =
    let tallies = c.self.inside.tallies.items in
    let at = subst (λ tallies. IsAt (λ (tally : Tally). tally.family) c.args.tally.family tallies c.in-Ok.place) c.deref.ensures.value c.in-Ok.ensures in
    subst (Rises (λ (tally : Tally). tally.family)) (sym (replaced (λ (tally : Tally). tally.family) c.args.tally.family c.in-Ok.place tallies c.args.tally at))
    (rises_with (λ (tally : Tally). tally.family) c.args.tally tallies c.self.invariant)

pub invariant_of-self-in-Continue-1 : goal.invariant_of-self-in-Continue-1
invariant_of-self-in-Continue-1 c =
    let tallies = c.self.inside.tallies.items in
    let free = subst (λ tallies. IsFree (λ (tally : Tally). tally.family) c.args.tally.family tallies c.in-Err.place) c.deref.ensures.value c.in-Err.ensures in
    subst (Rises (λ (tally : Tally). tally.family)) (sym (c.in_ok-insert-in-Err.ensures.items ∙ inserted (λ (tally : Tally). tally.family) c.args.tally.family c.in-Err.place tallies c.args.tally free))
    (rises_with (λ (tally : Tally). tally.family) c.args.tally tallies c.self.invariant)

pub returns-in-Ok : goal.returns-in-Ok
returns-in-Ok c =
    let tallies = c.self.inside.tallies.items in
    let at = subst (λ tallies. IsAt (λ (tally : Tally). tally.family) c.args.tally.family tallies c.in-Ok.place) c.deref.ensures.value c.in-Ok.ensures in
    replaced (λ (tally : Tally). tally.family) c.args.tally.family c.in-Ok.place tallies c.args.tally at ∙ ap (put (λ (tally : Tally). tally.family) c.args.tally) c.self.view_is

pub returns-in_ok-insert-in-Err : goal.returns-in_ok-insert-in-Err
returns-in_ok-insert-in-Err c =
    let tallies = c.self.inside.tallies.items in
    let free = subst (λ tallies. IsFree (λ (tally : Tally). tally.family) c.args.tally.family tallies c.in-Err.place) c.deref.ensures.value c.in-Err.ensures in
    c.in_ok-insert-in-Err.ensures.items ∙ inserted (λ (tally : Tally). tally.family) c.args.tally.family c.in-Err.place tallies c.args.tally free ∙ ap (put (λ (tally : Tally). tally.family) c.args.tally) c.self.view_is
