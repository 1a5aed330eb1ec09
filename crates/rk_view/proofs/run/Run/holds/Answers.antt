use Rattle.std.proofs.Common.{◌∙◌, sym, ap, false, find}
use Rattle.std.specs.Prelude.{Option, is_some}
use Rattle.std.specs.Option.{option_map_or}
use Rattle.std.specs.Ordering.{is_eq}
use Rattle.rk_bytes.specs.declared.model.key.Record.{Record}
use Rattle.rk_bytes.specs.Model.Records.{slot_cmp, slot_of}
use Rattle.rk_view.specs.Maps.{look}
use Rattle.rk_view.specs.Parts.{joined}
use Rattle.rk_view.specs.Places.{is_from}
use Rattle.rk_view.proofs.PartLemmas.{held_first}
use Rattle.rk_view.proofs.run.Run.holds.Goals as goal

pub returns-in-Some : goal.returns-in-Some
returns-in-Some c =
    let q = slot_of c.args.sought.now in
    let test = λ (o : Option Record). option_map_or (λ r. is_eq (slot_cmp (slot_of r) q)) o false in
    let parts = c.self.inside.parts.items in
    let first = c.in-Some.ensures ∙ ap (λ ps. find (is_from q) (joined ps)) c.as_slice.ensures.value in
    c.is_eq.ensures ∙ ap is_eq c.cmp_slots.ensures ∙ ap test first ∙ sym (held_first q (joined parts) c.self.invariant.run.rises) ∙ ap (λ rs. is_some (look q rs)) c.self.view_is

pub returns-in-None : goal.returns-in-None
returns-in-None c =
    let q = slot_of c.args.sought.now in
    let test = λ (o : Option Record). option_map_or (λ r. is_eq (slot_cmp (slot_of r) q)) o false in
    let parts = c.self.inside.parts.items in
    let first = c.in-None.ensures ∙ ap (λ ps. find (is_from q) (joined ps)) c.as_slice.ensures.value in
    ap test first ∙ sym (held_first q (joined parts) c.self.invariant.run.rises) ∙ ap (λ rs. is_some (look q rs)) c.self.view_is
