use Rattle.std.proofs.Common.{◌≡◌, ap, arith}
use Rattle.rk_bytes.specs.declared.model.view.Tomb.{Tomb}
use Rattle.rk_tomb.specs.Spans.{start_of, end_of, tomb_at}
use Rattle.rk_tomb.proofs.EdgeLemmas.{IsUpTo-refl, tomb_at-read}
use Rattle.rk_tomb.proofs.span.Span.of.Goals as goal

pub returns-clause-within : goal.returns-clause-within
returns-clause-within c =
    let tombs = c.args.tombs.now in
    let own : Tomb = tomb_at tombs c.args.place in
    let same : c.index-tombs-place.result ≡ own = tomb_at-read tombs c.args.place c.index-tombs-place.result c.requires c.index-tombs-place.is in
    let sequence : c.index-tombs-place.result.sequence ≡ own.sequence = ap (λ (tomb : Tomb). tomb.sequence) same in
    let read = ap (λ (tomb : Tomb). tomb.sequence) c.index-tombs-place.is in
    record {
      first = IsUpTo-refl (start_of own);
      last = IsUpTo-refl (end_of own);
      newest = omega (arith, sequence, read);
    }
