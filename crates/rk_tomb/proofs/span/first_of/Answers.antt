use Rattle.std.proofs.Common.{◌≡◌, true}
use Rattle.std.specs.Ordering.{is_gt}
use Rattle.rk_tomb.specs.Spans.{start_of, tomb_at, edge_cmp}
use Rattle.rk_tomb.proofs.EdgeLemmas.{IsUpTo-refl, IsUpTo-turned, tomb_at-read}
use Rattle.rk_tomb.proofs.span.first_of.Goals as goal

pub returns-then-is_gt-clause-a : goal.returns-then-is_gt-clause-a
returns-then-is_gt-clause-a c =
    let tombs = c.args.tombs.now in
    let a = tomb_at-read tombs c.args.a c.index-tombs-a.result c.requires.a_in c.index-tombs-a.is in
    let b = tomb_at-read tombs c.args.b c.index-tombs-b.result c.requires.b_in c.index-tombs-b.is in
    let above : is_gt (edge_cmp (start_of (tomb_at tombs c.args.a)) (start_of (tomb_at tombs c.args.b))) ≡ true = cc in
    IsUpTo-turned (start_of (tomb_at tombs c.args.a)) (start_of (tomb_at tombs c.args.b)) above

pub returns-then-is_gt-clause-b : goal.returns-then-is_gt-clause-b
returns-then-is_gt-clause-b c = IsUpTo-refl (start_of (tomb_at c.args.tombs.now c.args.b))

pub returns-else-is_gt-clause-a : goal.returns-else-is_gt-clause-a
returns-else-is_gt-clause-a c = IsUpTo-refl (start_of (tomb_at c.args.tombs.now c.args.a))

pub returns-else-is_gt-clause-b : goal.returns-else-is_gt-clause-b
returns-else-is_gt-clause-b c =
    let tombs = c.args.tombs.now in
    let a = tomb_at-read tombs c.args.a c.index-tombs-a.result c.requires.a_in c.index-tombs-a.is in
    let b = tomb_at-read tombs c.args.b c.index-tombs-b.result c.requires.b_in c.index-tombs-b.is in
    cc
