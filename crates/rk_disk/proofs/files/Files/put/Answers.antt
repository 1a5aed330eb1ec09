use Rattle.std.proofs.Common.{ap, ◌∙◌}
use Rattle.rk_disk.specs.declared.files.Entry.{Entry}
use Rattle.rk_disk.specs.Named.{parts_by_name}
use Rattle.rk_disk.specs.InMemory.{NumberedFiles, with_file}
use Rattle.rk_disk.proofs.ByName.{parts_by_name-insert_entry}
use Rattle.rk_disk.proofs.files.Files.put.Goals as goal

pub returns-clause-ok : goal.returns-clause-ok
returns-clause-ok c =
    let entry : Entry = record { bytes = c.in_ok-bytes.bytes; number = c.args.number } in
    let before = c.self.inside.by_name.entries in
    ap (λ es. let files : NumberedFiles = record { contents = parts_by_name (λ e. e.bytes.items) es; numbers = parts_by_name (λ e. e.number) es } in files) c.in_ok-insert.ensures.entries
    ∙ (λ i. record { contents = parts_by_name-insert_entry (λ e. e.bytes.items) c.in_ok-name.name entry before i; numbers = parts_by_name-insert_entry (λ e. e.number) c.in_ok-name.name entry before i })
    ∙ (λ i. with_file (c.in_ok-name.ensures.ok i) (c.in_ok-bytes.ensures.items i) c.args.number (c.self.view_is i))
