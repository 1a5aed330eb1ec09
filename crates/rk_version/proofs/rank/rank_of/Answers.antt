use Rattle.std.proofs.Common.{◌≡◌, ℕ, ◌+◌, ◌-◌, ◌<◌, ◌≤◌, ◌/◌, take, sym, subst, add-one, ◌∙◌, arith}
use Rattle.std.specs.List.{AllByRecursion}
use Rattle.std.specs.declared.cmp.Ordering.TheVariants.{Less}
use Rattle.rk_version.specs.Rankings.{ranked}
use Rattle.rk_version.specs.Spots.{file_cmp}
use Rattle.rk_version.proofs.FileOrder.{is_less}
use Rattle.rk_version.proofs.RankOrder.{ranked_turn}
use Rattle.rk_version.proofs.RankPlaces.{all_before, as_long, none_after}
use Rattle.rk_version.proofs.rank.rank_of.Goals as goal

between : (low high : ℕ) → low < high → (low ≤ low + (high - low) / 2) × (low + (high - low) / 2 < high)
between low high less = (omega arith, omega arith)

pub loop-low-preserved-then-stands_before : goal.loop-low-preserved-then-stands_before
loop-low-preserved-then-stands_before c =
    let zs = ranked c.args.files.now in
    let file = c.args.file.now in
    let low = c.loop-low.low in
    let high = c.loop-low.high in
    let (up, down) = between low high c.loop-low-test.true in
    let long = as_long c.args.files.now c.args.numbers.now c.requires.ranked in
    let end = c.loop-low.invariant.1 in
    let all = all_before file zs (low + (high - low) / 2) file (ranked_turn c.args.files.now c.requires.rise) (omega (arith, long, end, down))
    (is_less _ (sym c.stands_before.ensures ∙ c.if-stands_before.true)) in
    (omega (arith, down), end, subst (λ n. AllByRecursion (λ other. file_cmp other file ≡ Less) (take n zs)) (sym (add-one (low + (high - low) / 2))) all, c.loop-low.invariant.3)

pub loop-low-preserved : goal.loop-low-preserved
loop-low-preserved c =
    let zs = ranked c.args.files.now in
    let file = c.args.file.now in
    let low = c.loop-low.low in
    let high = c.loop-low.high in
    let (up, down) = between low high c.loop-low-test.true in
    let long = as_long c.args.files.now c.args.numbers.now c.requires.ranked in
    let end = c.loop-low.invariant.1 in
    let all = none_after file zs (low + (high - low) / 2) file (ranked_turn c.args.files.now c.requires.rise) (omega (arith, long, end, down)) (sym c.stands_before.ensures ∙ c.if-stands_before.false) in
    (up, omega (arith, down, end), c.loop-low.invariant.2, all)
