use Rattle.std.proofs.Common.{◌≡◌, ◌<◌, ◌≤◌, ◌+◌, ℕ, Bool, false, List, ◌∷◌, length, drop, subst, sym, ap, ◌∙◌, arith}
use Rattle.std.specs.Prelude.{◌==◌}
use Rattle.std.proofs.lemmas.Bool.{eqb-true, eqb-false}
use Rattle.rk_bytes.specs.Model.LogMarks.{LogFile, Found, found, block_len, nothing}
use Rattle.rk_log.specs.Fragments.{mark_at}
use Rattle.rk_log.specs.Left.{rest_marks}
use Rattle.rk_log.proofs.BlockLemmas.{block_len-value, rest_marks-none, rest_marks-nothing, rest_marks-whole, rest_marks-fragment}
use Rattle.rk_log.proofs.feed.LogFeed.mark_in.Goals as goal

pub returns-then-is_empty : goal.returns-then-is_empty
returns-then-is_empty c = rest_marks-none _ c.args.self.now.before c.args.self.now.at c.args.block.now
    (ap length (sym c.behind-rest.ensures) ∙ eqb-true _ _ (sym c.is_empty.ensures ∙ c.if-is_empty.true))

-- what is found, as the block's rest has it
in_rest : (file : LogFile) (block rest : List ℕ) (before at : ℕ) (one : Found) → rest ≡ drop at block
    → found file (length block == 32768) (before + at) rest ≡ one → found file (length block == block_len) (before + at) (drop at block) ≡ one
in_rest file block rest before at one is there = (λ i. found file (length block == block_len-value i) (before + at) (sym is i)) ∙ there

some_left : (rest left : List ℕ) (empty : Bool) → rest ≡ left → empty ≡ (length rest == 0) → empty ≡ false → 0 < length left
some_left rest left empty is test not_empty = let some = eqb-false _ _ (sym test ∙ not_empty) in let same = ap length is in omega arith

pub returns-in-Nothing : goal.returns-in-Nothing
returns-in-Nothing c =
    let self = c.args.self.now in
    rest_marks-nothing _ self.before self.at c.args.block.now (some_left _ _ _ c.behind-rest.ensures c.is_empty.ensures c.if-is_empty.false)
    (in_rest _ c.args.block.now _ self.before self.at nothing c.behind-rest.ensures (c.in-Nothing.ensures (self.before + self.at)))

pub returns-in-WholeRest : goal.returns-in-WholeRest
returns-in-WholeRest c =
    let self = c.args.self.now in
    let some = some_left _ _ _ c.behind-rest.ensures c.is_empty.ensures c.if-is_empty.false in
    let there = rest_marks-whole _ self.before self.at c.args.block.now (mark_at (self.before + self.at) c.in-WholeRest.mark) some
    (in_rest _ c.args.block.now _ self.before self.at _ c.behind-rest.ensures (c.in-WholeRest.ensures (self.before + self.at))) in
    subst (λ n. (0 < n) × (self.at + n ≤ length c.args.block.now)
    × (rest_marks (record { number = self.number; recycled = c.args.recycled }) self.before self.at c.args.block.now
    ≡ mark_at (self.before + self.at) c.in-WholeRest.mark ∷ rest_marks (record { number = self.number; recycled = c.args.recycled }) self.before (self.at + n) c.args.block.now))
    (ap length (sym c.behind-rest.ensures)) (some, there.0, there.1)

pub returns-in-Fragment : goal.returns-in-Fragment
returns-in-Fragment c =
    let self = c.args.self.now in
    let some = some_left _ _ _ c.behind-rest.ensures c.is_empty.ensures c.if-is_empty.false in
    rest_marks-fragment _ self.before self.at c.args.block.now (mark_at (self.before + self.at) c.in-Fragment.mark) c.in-Fragment.len some
    (in_rest _ c.args.block.now _ self.before self.at _ c.behind-rest.ensures (c.in-Fragment.ensures (self.before + self.at)))
