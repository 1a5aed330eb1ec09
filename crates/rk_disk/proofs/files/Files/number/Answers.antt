use Rattle.std.proofs.Common.{ap, sym, ◌∙◌}
use Rattle.std.specs.FinMap as map
use Rattle.std.specs.Option.{option_map}
use Rattle.rk_disk.proofs.ByName.{get-parts_by_name}
use Rattle.rk_disk.proofs.files.Files.number.Goals as goal

pub returns-in-Some : goal.returns-in-Some
returns-in-Some c =
    ap (option_map (λ e. e.number)) c.in-Some.ensures.value
    ∙ sym (get-parts_by_name _ c.args.name.now c.self.inside.by_name.entries)
    ∙ ap (λ files. map.get files.numbers c.args.name.now) c.self.view_is

pub returns-in-None : goal.returns-in-None
returns-in-None c =
    ap (option_map (λ e. e.number)) c.in-None.ensures.value
    ∙ sym (get-parts_by_name _ c.args.name.now c.self.inside.by_name.entries)
    ∙ ap (λ files. map.get files.numbers c.args.name.now) c.self.view_is
