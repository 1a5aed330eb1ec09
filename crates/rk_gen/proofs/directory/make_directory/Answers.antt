use Rattle.std.proofs.Common.{◌≡◌, List, ℕ, IfOk, ap, ◌∙◌, subst}
use Rattle.rk_bytes.specs.Model.DiskImages.{Directory}
use Rattle.rk_gen.specs.Files.{directory_with}
use Rattle.rk_gen.proofs.DirectoryLemmas.{with_its_table}
use Rattle.rk_gen.proofs.directory.make_directory.Goals as goal

pub returns : goal.returns
returns c =
    let n = c.args.number in
    subst (λ (files : Directory). IfOk c.directory_with.result (λ disk. disk ≡ files)) (ap (λ (table : List ℕ). directory_with n table) c.in_ok-table.ensures ∙ with_its_table n) c.directory_with.ensures
