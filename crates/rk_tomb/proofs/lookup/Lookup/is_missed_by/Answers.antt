use Rattle.std.proofs.Common.{◌≡◌, Bool, true, false, not, IsTrue, refl}
use Rattle.std.proofs.lemmas.Bool.{false≢true}
use Rattle.std.specs.Ordering.{is_gt}
use Rattle.rk_tomb.specs.Weights.{record_of}
use Rattle.rk_tomb.specs.Spans.{start_of, end_of, edge_cmp, tomb_at}
use Rattle.rk_tomb.proofs.EdgeLemmas.{tomb_at-read}
use Rattle.rk_tomb.proofs.NewestLemmas.{missed_newer, missed_before, missed_after}
use Rattle.rk_tomb.proofs.lookup.Lookup.is_missed_by.Goals as goal
use Rattle.rk_tomb.proofs.lookup.Lookup.is_missed_by.Goals.{then-span-floor, else-span-floor}

false_from_not : (b : Bool) → IsTrue (not b) → b ≡ false
false_from_not true h = absurd (false≢true h)
false_from_not false h = refl

pub returns-then-is_before : goal.returns-then-is_before
returns-then-is_before c = λ yes.
    let self = c.args.self.now in
    let tombs = c.args.tombs.now in
    let span = c.args.span.now in
    let r = record_of self in
    elim c.if-span-floor.branch [
      | then-span-floor w ↦ missed_newer r tombs span c.args.floor w.if-span-floor.true
      | else-span-floor w ↦
          let first = tomb_at-read tombs span.first w.index-tombs-span.result c.requires.first w.index-tombs-span.is in
          let above : is_gt (edge_cmp (start_of (tomb_at tombs span.first)) (r.family, r.key)) ≡ true = cc in
          missed_before r tombs span c.args.floor above
    ]

pub returns-else-is_before : goal.returns-else-is_before
returns-else-is_before c = λ yes.
    let self = c.args.self.now in
    let tombs = c.args.tombs.now in
    let span = c.args.span.now in
    let r = record_of self in
    let last = tomb_at-read tombs span.last c.index-tombs-span-else-is_before.result c.requires.last c.index-tombs-span-else-is_before.is in
    let answer : c.is_before-else-is_before.result ≡ false = false_from_not _ yes in
    let up_to : is_gt (edge_cmp (end_of (tomb_at tombs span.last)) (r.family, r.key)) ≡ false = cc in
    missed_after r tombs span c.args.floor up_to
