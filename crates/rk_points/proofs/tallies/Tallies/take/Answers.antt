use Rattle.std.proofs.Common.{◌≡◌, set, sym, ap, subst, ◌∙◌}
use Rattle.std.specs.Prelude.{unwrap_or}
use Rattle.rk_version.specs.Places.{Rises, IsAt, IsFree}
use Rattle.rk_version.proofs.PlaceLemmas.{replaced, found_at, not_found}
use Rattle.rk_version.proofs.Rising.{rises_with}
use Rattle.rk_points.specs.declared.tally.Tally.{Tally}
use Rattle.rk_points.specs.Tallies.{blank, tally_of}
use Rattle.rk_points.proofs.TallyLemmas.{other_put}
use Rattle.rk_points.proofs.tallies.Tallies.take.Goals as goal

pub invariant_of-self : goal.invariant_of-self
invariant_of-self c =
    let tallies = c.self.inside.tallies.items in
    let at = subst (λ tallies. IsAt (λ (tally : Tally). tally.family) c.args.id tallies c.in-Ok.place) c.deref.ensures.value c.in-Ok.ensures in
    let new_is : c.replace.new.dest ≡ blank c.args.id = c.replace.ensures.after ∙ c.blank-blank.ensures in
    subst (Rises (λ (tally : Tally). tally.family)) (sym (ap (set tallies c.in-Ok.place) new_is ∙ replaced (λ (tally : Tally). tally.family) c.args.id c.in-Ok.place tallies (blank c.args.id) at))
    (rises_with (λ (tally : Tally). tally.family) (blank c.args.id) tallies c.self.invariant)

pub returns-in-Ok-clause-own : goal.returns-in-Ok-clause-own
returns-in-Ok-clause-own c =
    let tallies = c.self.inside.tallies.items in
    let at = subst (λ tallies. IsAt (λ (tally : Tally). tally.family) c.args.id tallies c.in-Ok.place) c.deref.ensures.value c.in-Ok.ensures in
    c.replace.ensures.value ∙ c.index_mut.ensures.value ∙ ap (λ o. unwrap_or o (blank c.args.id)) (sym (found_at (λ (tally : Tally). tally.family) c.args.id c.in-Ok.place tallies _ at)) ∙ ap (tally_of c.args.id) c.self.view_is

pub returns-in-Ok-clause-others : goal.returns-in-Ok-clause-others
returns-in-Ok-clause-others c = λ other apart.
    let tallies = c.self.inside.tallies.items in
    let at = subst (λ tallies. IsAt (λ (tally : Tally). tally.family) c.args.id tallies c.in-Ok.place) c.deref.ensures.value c.in-Ok.ensures in
    let new_is : c.replace.new.dest ≡ blank c.args.id = c.replace.ensures.after ∙ c.blank-blank.ensures in
    ap (tally_of other) (ap (set tallies c.in-Ok.place) new_is ∙ replaced (λ (tally : Tally). tally.family) c.args.id c.in-Ok.place tallies (blank c.args.id) at)
    ∙ other_put (blank c.args.id) tallies other apart ∙ ap (tally_of other) c.self.view_is

pub returns-in-Err-clause-own : goal.returns-in-Err-clause-own
returns-in-Err-clause-own c =
    let tallies = c.self.inside.tallies.items in
    let free = subst (λ tallies. IsFree (λ (tally : Tally). tally.family) c.args.id tallies c.in-Err.field-0) c.deref.ensures.value c.in-Err.ensures in
    c.blank-blank.ensures ∙ ap (λ o. unwrap_or o (blank c.args.id)) (sym (not_found (λ (tally : Tally). tally.family) c.args.id c.in-Err.field-0 tallies free)) ∙ ap (tally_of c.args.id) c.self.view_is
