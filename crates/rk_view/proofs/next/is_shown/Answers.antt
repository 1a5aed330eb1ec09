use Rattle.std.proofs.Common.{◌≡◌, ◌∙◌, ap, sym}
use Rattle.std.specs.Prelude.{◌&&◌, max, not, is_some}
use Rattle.rk_bytes.specs.declared.model.view.Tomb.{Tomb}
use Rattle.rk_bytes.specs.Model.KeyView.{covers, covering, is_covered}
use Rattle.rk_view.proofs.ViewLemmas.{some_reduced, turned_not, point_kind}
use Rattle.rk_view.proofs.next.is_shown.Goals as goal

pub returns-in_default : goal.returns-in_default
returns-in_default c =
    let r = c.args.next.now in
    let tombs = c.args.tombs.now in
    let covered : is_some c.covering.result ≡ is_covered tombs r =
    ap is_some (c.covering.ensures r.value ∙ ap (λ key. covering tombs (record { family = r.family; key = key; sequence = r.sequence; kind = r.kind; value = r.value })) c.as_slice.ensures)
    ∙ some_reduced max (λ (tomb : Tomb). tomb.sequence) (λ tomb. covers tomb r) tombs in
    turned_not (is_some c.covering.result) c.is_none.result c.is_none.ensures ∙ ap not covered
    ∙ ap (λ b. b && not (is_covered tombs r)) (sym (point_kind r.kind c.in_default.not-RangeDeletion))
