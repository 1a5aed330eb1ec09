use Rattle.std.proofs.Common.{Some, ap, sym, ◌∙◌}
use Rattle.std.specs.FinMap as map
use Rattle.std.specs.Option.{option_map}
use Rattle.rk_disk.proofs.ByName.{get-parts_by_name}
use Rattle.rk_disk.proofs.files.Files.get.Goals as goal

pub returns-in-Some : goal.returns-in-Some
returns-in-Some c =
    ap Some c.as_slice.ensures.value
    ∙ ap (option_map (λ e. e.bytes.items)) c.in-Some.ensures.value
    ∙ sym (get-parts_by_name _ c.args.name.now c.self.inside.by_name.entries)
    ∙ ap (λ files. map.get files.contents c.args.name.now) c.self.view_is

pub returns-in-None : goal.returns-in-None
returns-in-None c =
    ap (option_map (λ e. e.bytes.items)) c.in-None.ensures.value
    ∙ sym (get-parts_by_name _ c.args.name.now c.self.inside.by_name.entries)
    ∙ ap (λ files. map.get files.contents c.args.name.now) c.self.view_is
