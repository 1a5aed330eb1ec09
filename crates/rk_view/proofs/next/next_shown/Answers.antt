use Rattle.std.proofs.Common.{◌<◌, ◌∙◌, sym, ap, map, get_or, arith, List}
use Rattle.rk_bytes.specs.declared.model.key.Record.{Record}
use Rattle.rk_bytes.specs.Model.InternalKey.{packed_of}
use Rattle.rk_view.specs.Sources.{merged}
use Rattle.rk_view.specs.Shown.{shown_below, StandsAtNext}
use Rattle.rk_view.proofs.SourceLemmas.{head_in}
use Rattle.rk_view.proofs.NextLemmas.{stands_shown, stands_hidden, first_shown, first_hidden}
use Rattle.rk_view.proofs.next.next_shown.Goals as goal

pub loop-index-preserved : goal.loop-index-preserved
loop-index-preserved g c =
    let before : List (List Record) = map g.S.Source.left c.loop-index.sources in
    let lefts : List (List Record) = map g.S.Source.left c.next_at.new.sources in
    let tombs = c.args.tombs.now in
    let is : StandsAtNext c.args.family c.args.key.now c.loop-index.limit (merged before) lefts c.in-Some.index = rw c.in-Some.is at c.in_ok-index.ensures.next in
    let hidden = first_hidden tombs (g.S.Source.left (get_or c.next_at.new.sources c.in-Some.index c.index-sources-index.result)) is.next c.in-Some-hidden_number.hidden
    (head_in g.S.Source.left c.next_at.new.sources c.in-Some.index c.index-sources-index.result is.next is.within is.head) c.in-Some-hidden_number.ensures in
    let lower : packed_of is.next.sequence is.next.kind < c.loop-index.limit = is.lower in
    record {
      runs = c.in_ok-index.ensures.runs;
      same = c.loop-index.invariant.same ∙ stands_hidden c.args.family c.args.key.now c.loop-index.limit before lefts c.loop-index.invariant.runs c.in_ok-index.ensures.ok tombs c.in-Some.index is hidden.0
          ∙ ap (λ n. shown_below tombs c.args.family c.args.key.now n (merged lefts)) (sym hidden.1);
      lower = omega (arith, hidden.1);
    }

pub returns-in-None-clause-next : goal.returns-in-None-clause-next
returns-in-None-clause-next g c =
    let before : List (List Record) = map g.S.Source.left c.loop-index.sources in
    let lefts : List (List Record) = map g.S.Source.left c.next_at.new.sources in
    let tombs = c.args.tombs.now in
    let is : StandsAtNext c.args.family c.args.key.now c.loop-index.limit (merged before) lefts c.in-Some.index = rw c.in-Some.is at c.in_ok-index.ensures.next in
    let shown = first_shown tombs (g.S.Source.left (get_or c.next_at.new.sources c.in-Some.index c.index-sources-index.result)) is.next
    (head_in g.S.Source.left c.next_at.new.sources c.in-Some.index c.index-sources-index.result is.next is.within is.head) c.in-None.ensures in
    let lower : packed_of is.next.sequence is.next.kind < c.loop-index.limit = is.lower in
    record {
      next = is.next;
      within = is.within;
      head = is.head;
      is_next = record {
        family_is = is.family_is;
        key_is = is.key_is;
        lower = omega arith;
        rest = c.loop-index.invariant.same ∙ stands_shown c.args.family c.args.key.now c.loop-index.limit before lefts c.loop-index.invariant.runs c.in_ok-index.ensures.ok tombs c.in-Some.index is shown;
      };
    }
