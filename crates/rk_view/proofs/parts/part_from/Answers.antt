use Rattle.std.proofs.Common.{◌<◌, length, rules, of_calls}
use Rattle.std.specs.Prelude.{Vec, not}
use Rattle.std.specs.declared.alloc.Global.{Global}
use Rattle.std.proofs.lemmas.Fn.{always_returns_same}
use Rattle.std.proofs.lemmas.List.Elements.{recursion_from_All}
use Rattle.rk_bytes.specs.declared.model.key.Record.{Record}
use Rattle.rk_bytes.specs.Model.Records.{slot_of}
use Rattle.rk_view.specs.Parts.{last_is}
use Rattle.rk_view.specs.Places.{is_from}
use Rattle.rk_view.proofs.SeekLemmas.{from_upward}
use Rattle.rk_view.proofs.PartLemmas.{parts_parted, part_at}
use Rattle.rk_view.proofs.parts.part_from.Goals as goal

pub returns-clause-at : goal.returns-clause-at
returns-clause-at c =
    let q = slot_of c.args.sought.now in
    let full = recursion_from_All (λ (part : Vec Record Global). 0 < length part.items) c.args.parts.now c.requires.filled in
    part_at (is_from q) (from_upward q) c.args.parts.now c.partition_point.result
    (c.partition_point.ensures.partitioned (λ part. not (last_is (is_from q) part.items)) (always_returns_same _ _ _ (λ a r f k. search (rules, of_calls))) (parts_parted (is_from q) (from_upward q) c.args.parts.now c.requires.run.rises full))
