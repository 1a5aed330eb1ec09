use Rattle.std.proofs.Common.{◌≡◌, ◌∙◌, sym, ap, map}
use Rattle.std.specs.Prelude.{Some}
use Rattle.rk_bytes.specs.declared.model.key.Record.{Record}
use Rattle.rk_view.specs.Sources.{merged, IsLeast}
use Rattle.rk_view.proofs.SourceLemmas.{lent_first}
use Rattle.rk_view.proofs.ViewLemmas.{at_key, not_at, same_record}
use Rattle.rk_view.proofs.NextLemmas.{elsewhere}
use Rattle.rk_view.proofs.next.least_at.Goals as goal

pub returns-then-is_at : goal.returns-then-is_at
returns-then-is_at g c =
    let is : IsLeast (map g.S.Source.left c.args.sources.now) c.in-Some.index = c.in-Some.ensures in
    let lent : Record = c.in-Some-head.first.now in
    let same : lent ≡ is.first = same_record lent is.first (lent_first g.S.Source.left c.args.sources.now c.in-Some.index c.index-sources-index.result (Some lent) is.first is.within c.index-sources-index.is c.in-Some-head.ensures is.head) in
    let at = at_key c.args.family c.args.key.now lent (sym c.is_at.ensures ∙ c.if-is_at.true) in
    record {
      first = is.first;
      within = is.within;
      head = is.head;
      least = is.least;
      family_is = ap (λ (r : Record). r.family) (sym same) ∙ at.0;
      key_is = ap (λ (r : Record). r.key) (sym same) ∙ at.1;
    }

pub returns-else-is_at : goal.returns-else-is_at
returns-else-is_at g c =
    let is : IsLeast (map g.S.Source.left c.args.sources.now) c.in-Some.index = c.in-Some.ensures in
    let lent : Record = c.in-Some-head.first.now in
    let same : lent ≡ is.first = same_record lent is.first (lent_first g.S.Source.left c.args.sources.now c.in-Some.index c.index-sources-index.result (Some lent) is.first is.within c.index-sources-index.is c.in-Some-head.ensures is.head) in
    elsewhere c.args.family c.args.key.now (merged (map g.S.Source.left c.args.sources.now)) lent (is.least ∙ ap (λ (r : Record). Some r) (sym same)) (not_at c.args.family c.args.key.now lent (sym c.is_at.ensures ∙ c.if-is_at.false))
