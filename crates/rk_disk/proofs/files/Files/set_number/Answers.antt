use Rattle.std.proofs.Common.{◌≡◌, ℕ, List, None, Some, ap, sym, ◌∙◌}
use Rattle.std.specs.FinMap as map
use Rattle.std.specs.Option.{option_map}
use Rattle.rk_disk.specs.declared.files.Entry.{Entry}
use Rattle.rk_disk.specs.Named.{ByName, parts_by_name}
use Rattle.rk_disk.specs.InMemory.{renumbered, with_number}
use Rattle.rk_disk.proofs.ByName.{get-parts_by_name, parts_by_name-set_value, parts_by_name-set_value_same}
use Rattle.rk_disk.proofs.files.Files.set_number.Goals as goal
use Rattle.rk_disk.proofs.files.Files.set_number.Goals.{in-Some, in_default}

pub returns-clause-contents : goal.returns-clause-contents
returns-clause-contents c = elim c.match-get_mut.branch [
  | in-Some w ↦
      let entry : Entry = record { bytes = w.in-Some.entry.now.bytes; number = c.args.number } in
      ap (λ files. parts_by_name (λ e. e.bytes.items) files.by_name.entries) w.self-inside-is
      ∙ ap (parts_by_name (λ e. e.bytes.items)) (c.get_mut.follows.holds entry).0
      ∙ parts_by_name-set_value_same (λ e. e.bytes.items) c.args.name.now entry c.self.inside.by_name.entries (sym (ap (option_map (λ e. e.bytes.items)) w.in-Some.ensures.value))
      ∙ ap (λ files. files.contents) c.self.view_is
  | in_default w ↦
      ap (λ files. parts_by_name (λ e. e.bytes.items) files.by_name.entries) w.self-inside-is
      ∙ ap (λ tree. parts_by_name (λ e. e.bytes.items) tree.entries) c.get_mut.follows.holds-at-none
      ∙ ap (λ files. files.contents) c.self.view_is
]

module _ (name : List ℕ) (number : ℕ) where
  there : (numbers : ByName ℕ) (before : ℕ) → map.get numbers name ≡ Some before → map.insert numbers name number ≡ with_number name number numbers
  there numbers before is = sym (ap (λ o. renumbered name number o numbers) is)

  nowhere : (numbers : ByName ℕ) → map.get numbers name ≡ None → numbers ≡ with_number name number numbers
  nowhere numbers is = sym (ap (λ o. renumbered name number o numbers) is)

pub returns-clause-numbers : goal.returns-clause-numbers
returns-clause-numbers c =
    let number_of : Entry → ℕ = λ e. e.number in
    let entries = c.self.inside.by_name.entries in
    elim c.match-get_mut.branch [
      | in-Some w ↦
          let entry : Entry = record { bytes = w.in-Some.entry.now.bytes; number = c.args.number } in
          ap (λ files. parts_by_name number_of files.by_name.entries) w.self-inside-is
          ∙ ap (parts_by_name number_of) (c.get_mut.follows.holds entry).0
          ∙ parts_by_name-set_value number_of c.args.name.now entry entries _ (sym w.in-Some.ensures.value)
          ∙ there c.args.name.now c.args.number (parts_by_name number_of entries) _ (get-parts_by_name number_of c.args.name.now entries ∙ sym (ap (option_map number_of) w.in-Some.ensures.value))
          ∙ ap (λ files. with_number c.args.name.now c.args.number files.numbers) c.self.view_is
      | in_default w ↦
          ap (λ files. parts_by_name number_of files.by_name.entries) w.self-inside-is
          ∙ ap (λ tree. parts_by_name number_of tree.entries) c.get_mut.follows.holds-at-none
          ∙ nowhere c.args.name.now c.args.number (parts_by_name number_of entries) (get-parts_by_name number_of c.args.name.now entries ∙ sym (ap (option_map number_of) w.in_default.ensures.value))
          ∙ ap (λ files. with_number c.args.name.now c.args.number files.numbers) c.self.view_is
    ]
