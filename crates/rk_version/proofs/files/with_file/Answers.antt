use Rattle.std.proofs.Common.{sym, ap, ◌∙◌}
use Rattle.std.specs.List.{list_any, insert}
use Rattle.std.proofs.lemmas.Bool.{both_ways}
use Rattle.rk_bytes.specs.Model.Manifest.{has_number, add_meta}
use Rattle.rk_version.proofs.PlaceLemmas.{there_at, inserted}
use Rattle.rk_version.proofs.files.with_file.Goals as goal

pub unreachable-requires : goal.unreachable-requires
unreachable-requires c =
    let there = there_at (λ file. file.number) c.args.file.number c.in-Ok.field-0 c.deref.result.now c.in-Ok.ensures in
    both_ways (list_any (has_number c.args.file.number) c.args.files) c.requires.free (sym (ap (list_any (has_number c.args.file.number)) (c.deref.ensures.value ∙ c.into_vec-files.ensures)) ∙ there)

pub returns : goal.returns
returns c =
    let inside = c.in_ok-insert-in-Err.ensures.items in
    c.from_vec.ensures ∙ inside ∙ ap (λ xs. insert xs c.in-Err.place c.args.file) (sym c.deref.ensures.value)
    ∙ inserted (λ file. file.number) c.args.file.number c.in-Err.place c.deref.result.now c.args.file c.in-Err.ensures
    ∙ ap (add_meta c.args.file) (c.deref.ensures.value ∙ c.into_vec-files.ensures)
