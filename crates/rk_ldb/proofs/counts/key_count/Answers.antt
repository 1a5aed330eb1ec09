use Rattle.std.proofs.Common.{◌≡◌, ◌<◌, length, get_or, None, List, subst, arith}
use Rattle.rk_bytes.specs.declared.model.view.FamilyLine.{FamilyLine}
use Rattle.rk_bytes.specs.Model.KeyView.{rows}
use Rattle.rk_ldb.proofs.DrillLemmas.{more_counted}
use Rattle.rk_ldb.proofs.counts.key_count.Goals as goal

pub loop-line-preserved : goal.loop-line-preserved
loop-line-preserved c =
    let state = c.args.state.now.state in
    let i = c.loop-line.line-index in
    let line = c.line-item.result in
    let same = c.families-line-items.ensures.families in
    let within = subst (λ (lines : List FamilyLine). i < length lines) same c.loop-line-test.true in (
      more_counted (λ (line : FamilyLine). length (rows state line.id None None)) state.families i c.loop-line.count c.in_ok-more.more c.saturating_add-count.result line within
          (subst (λ (lines : List FamilyLine). line ≡ get_or lines i line) same c.line-item.is) c.loop-line.invariant.0 c.in_ok-more.ensures c.saturating_add-count.ensures,
      omega (arith, within),
    )
