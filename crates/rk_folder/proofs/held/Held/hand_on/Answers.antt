use Rattle.std.proofs.Common.{◌++◌, take, sym, ap, ◌∙◌, rules}
use Rattle.std.proofs.lemmas.List.{take-append-drop}
use Rattle.rk_folder.proofs.Waiting.{part_of, part_behind}
use Rattle.rk_folder.proofs.held.Held.hand_on.Goals as goal

pub returns-in-Err-clause-handed : goal.returns-in-Err-clause-handed
returns-in-Err-clause-handed g c =
    let held = part_of c.self.inside.start c.self.inside.end c.self.inside.room in
    let n = c.in-Err.stopped.taken in
    (take n held, c.in-Err.ensures.err.1, sym c.self.view_is ∙ sym (take-append-drop n held) ∙ ap (λ rest. take n held ++ rest) (sym (part_behind c.self.inside.start c.self.inside.end n c.self.inside.room (search rules))))
