use Rattle.std.proofs.Common.{◌∷◌, ◌++◌, filter, nat_lt, sym, ap, ◌∙◌}
use Rattle.std.specs.List.{list_any, insert}
use Rattle.std.proofs.lemmas.Bool.{both_ways}
use Rattle.rk_bytes.specs.declared.model.manifest.FamilyState.{FamilyState}
use Rattle.rk_bytes.specs.Model.Manifest.{has_id}
use Rattle.rk_version.proofs.PlaceLemmas.{there_at, inserted}
use Rattle.rk_version.proofs.families.with_family.Goals as goal

pub unreachable-requires : goal.unreachable-requires
unreachable-requires c =
    let there = there_at (λ live. live.id) c.args.id c.in-Ok.field-0 c.deref.result.now c.in-Ok.ensures in
    both_ways (list_any (has_id c.args.id) c.args.families) c.requires.free (sym (ap (list_any (has_id c.args.id)) (c.deref.ensures.value ∙ c.into_vec-families.ensures)) ∙ there)

pub returns : goal.returns
returns c =
    let new : FamilyState = record { id = c.args.id; name = c.in_ok-name.name; log = 0; files = c.new.result } in
    c.from_vec.ensures ∙ c.in_ok-insert-in-Err.ensures.items ∙ ap (λ xs. insert xs c.in-Err.place new) (sym c.deref.ensures.value)
    ∙ inserted (λ live. live.id) c.args.id c.in-Err.place c.deref.result.now new c.in-Err.ensures
    ∙ (λ i.
    let families = (c.deref.ensures.value ∙ c.into_vec-families.ensures) i in
    filter (λ live. nat_lt live.id c.args.id) families ++ record { id = c.args.id; name = c.in_ok-name.ensures i; log = 0; files = c.new.ensures i } ∷ filter (λ live. nat_lt c.args.id live.id) families)
