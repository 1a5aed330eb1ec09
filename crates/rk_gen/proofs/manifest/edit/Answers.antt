use Rattle.std.proofs.Common.{◌++◌, List, ℕ, ap, ◌∙◌}
use Rattle.rk_bytes.specs.Model.VersionEdit.{add_file}
use Rattle.rk_bytes.specs.Model.Writers.{field_bytes}
use Rattle.rk_gen.specs.Edits.{stated_numbers, file_with_size}
use Rattle.rk_gen.proofs.EditLemmas.{edit_more}
use Rattle.rk_gen.proofs.manifest.edit.Goals as goal

pub returns : goal.returns
returns c =
    let table = add_file (file_with_size c.args.number c.args.size) in
    c.in_ok-put_table.ensures.ok ∙ ap (λ (edit : List ℕ). edit ++ field_bytes table) c.in_ok-edit.ensures ∙ edit_more (stated_numbers c.args.number) table
