use Rattle.std.proofs.Common.{◌≡◌, ◌++◌, None, take, drop, subst}
use Rattle.std.specs.List.{All}
use Rattle.rk_bytes.specs.declared.model.key.Record.{Record}
use Rattle.rk_bytes.specs.Model.Records.{slot_of}
use Rattle.rk_view.specs.Maps.{IsRun, look}
use Rattle.rk_view.specs.Parts.{joined}
use Rattle.rk_view.proofs.PartLemmas.{gap_apart}
use Rattle.rk_view.proofs.run.Run.has_gap.Goals as goal

pub returns-in-Some : goal.returns-in-Some
returns-in-Some c = λ _.
    let list = c.args.records.now in
    subst (λ rs. All (λ (r : Record). look (slot_of r) rs ≡ None) list) c.self.view_is
    (gap_apart c.self.inside.parts.items list c.in-Some.field-0 (subst (λ ps. IsRun (joined (take c.in-Some.field-0 ps) ++ (list ++ joined (drop c.in-Some.field-0 ps)))) c.as_slice.ensures.value c.in-Some.ensures.2))
