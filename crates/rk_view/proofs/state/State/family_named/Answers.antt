use Rattle.std.proofs.Common.{◌∙◌, ap, option_map, find}
use Rattle.std.specs.Prelude.{bytes_eq}
use Rattle.rk_bytes.specs.Model.KeyView.{family_named}
use Rattle.rk_view.specs.Kept.{Kept}
use Rattle.rk_view.proofs.FamilyLemmas.{first_named}
use Rattle.rk_view.proofs.state.State.family_named.Goals as goal

pub returns : goal.returns
returns c =
    let lines = c.self.inside.families.items in
    c.named.ensures ∙ ap (λ ls. option_map (λ line. line.id) (find (λ line. bytes_eq line.name c.args.name.now) ls)) c.as_slice.ensures.value
    ∙ first_named (λ line. bytes_eq line.name c.args.name.now) lines c.self.invariant.rising ∙ ap (λ (k : Kept). family_named k.state c.args.name.now) c.self.view_is
