use Rattle.std.proofs.Common.{sym, ap, ◌∙◌}
use Rattle.std.specs.Prelude.{◌==◌}
use Rattle.std.specs.List.{list_all}
use Rattle.rk_bytes.specs.declared.model.manifest.Version.{Version}
use Rattle.rk_bytes.specs.Model.Manifest.{overlap}
use Rattle.rk_version.specs.declared.ranking.Ranking.{Ranking}
use Rattle.rk_version.proofs.RankingsLemmas.{no_overlap}
use Rattle.rk_version.proofs.draft.Draft.check_overlap.Goals as goal

pub returns-then-are_apart : goal.returns-then-are_apart
returns-then-are_apart c =
    let families = c.self.inside.version.families in
    let apart = ap (list_all (λ (ranking : Ranking). ranking.clashes == 0)) (sym (c.as_slice.ensures ∙ c.self.invariant.kept)) ∙ sym c.are_apart.ensures ∙ c.if-are_apart.true in
    ap (λ (version : Version). overlap version.families) (sym c.self.view_is) ∙ no_overlap families c.self.invariant.order.files apart
