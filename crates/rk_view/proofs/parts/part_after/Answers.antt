use Rattle.std.proofs.Common.{◌<◌, length, rules, of_calls}
use Rattle.std.specs.Prelude.{Vec, not}
use Rattle.std.specs.declared.alloc.Global.{Global}
use Rattle.std.proofs.lemmas.Fn.{always_returns_same}
use Rattle.std.proofs.lemmas.List.Elements.{recursion_from_All}
use Rattle.rk_bytes.specs.declared.model.key.Record.{Record}
use Rattle.rk_view.specs.Parts.{last_is}
use Rattle.rk_view.specs.Places.{is_after}
use Rattle.rk_view.proofs.SlotOrder.{after_rises}
use Rattle.rk_view.proofs.PartLemmas.{parts_parted, part_at}
use Rattle.rk_view.proofs.parts.part_after.Goals as goal

pub returns-clause-at : goal.returns-clause-at
returns-clause-at c =
    let place = c.args.place.now in
    let p = is_after place.family place.user.now place.below in
    let up = after_rises place.family place.user.now place.below in
    let full = recursion_from_All (λ (part : Vec Record Global). 0 < length part.items) c.args.parts.now c.requires.filled in
    part_at p up c.args.parts.now c.partition_point.result
    (c.partition_point.ensures.partitioned (λ part. not (last_is p part.items)) (always_returns_same _ _ _ (λ a r f k. search (rules, of_calls))) (parts_parted p up c.args.parts.now c.requires.run.rises full))
