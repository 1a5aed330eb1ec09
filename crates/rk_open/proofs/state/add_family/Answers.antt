use Rattle.std.proofs.Common.{◌≡◌, Err, length, ap, ◌∙◌}
use Rattle.rk_bytes.specs.declared.model.view.FamilyLine.{FamilyLine}
use Rattle.rk_bytes.specs.Model.Opening.{family_line}
use Rattle.rk_view.specs.Kept.{Kept, with_family}
use Rattle.rk_open.proofs.LineLemmas.{family_absent, family_last}
use Rattle.rk_open.proofs.state.add_family.Goals as goal

pub unreachable-requires : goal.unreachable-requires
unreachable-requires c =
    let live = c.args.live.now in
    let absent = family_absent (family_line live) c.args.state.now.state.families c.requires.above in
    let present = c.add_family.ensures.present.0 (c.in-Err-Present.is ∙ ap Err c.in-Err-Present.field-0-is) in
    cc

pub returns-in-Ok : goal.returns-in-Ok
returns-in-Ok c =
    let live = c.args.live.now in
    let old = c.args.state.now.state in
    let line : ◌≡◌ {A = FamilyLine} (record { id = live.id; name = c.as_slice-2.result.now; log = live.log; files = length c.as_slice.result.now }) (family_line live) =
    λ i. record { id = live.id; name = c.as_slice-2.ensures i; log = live.log; files = length (c.as_slice.ensures i) } in record {
      state = ap (λ (kept : Kept). kept.state) c.in-Ok.ensures.ok
          ∙ ap (λ families. record old { families = families }) (ap (λ line. with_family line old.families) line ∙ family_last (family_line live) old.families c.requires.above);
    }
