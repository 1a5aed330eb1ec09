use Rattle.std.proofs.Common.{arith}
use Rattle.rk_tomb.specs.Spans.{start_of, end_of, tomb_at}
use Rattle.rk_tomb.proofs.EdgeLemmas.{IsUpTo-trans}
use Rattle.rk_tomb.proofs.span.Span.joined.Goals as goal

pub returns-clause-within : goal.returns-clause-within
returns-clause-within c = λ tomb h.
    let tombs = c.args.tombs.now in
    record {
      first = IsUpTo-trans (start_of (tomb_at tombs c.first_of.result)) (start_of (tomb_at tombs c.args.self.now.first)) (start_of tomb) c.first_of.ensures.a h.first;
      last = IsUpTo-trans (end_of tomb) (end_of (tomb_at tombs c.args.self.now.last)) (end_of (tomb_at tombs c.last_of.result)) h.last c.last_of.ensures.a;
      newest = omega (arith, h.newest);
    }

pub returns-clause-other_within : goal.returns-clause-other_within
returns-clause-other_within c = λ tomb h.
    let tombs = c.args.tombs.now in
    record {
      first = IsUpTo-trans (start_of (tomb_at tombs c.first_of.result)) (start_of (tomb_at tombs c.args.other.now.first)) (start_of tomb) c.first_of.ensures.b h.first;
      last = IsUpTo-trans (end_of tomb) (end_of (tomb_at tombs c.args.other.now.last)) (end_of (tomb_at tombs c.last_of.result)) h.last c.last_of.ensures.b;
      newest = omega (arith, h.newest);
    }
