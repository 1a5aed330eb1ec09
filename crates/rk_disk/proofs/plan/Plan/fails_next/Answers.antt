use Rattle.std.proofs.Common.{◌≡◌, ℕ, List, ◌+◌, ◌<◌, ◌≤◌, ◌^◌, get_or, false, sym, ap, ◌∙◌, arith, rules}
use Rattle.std.proofs.lemmas.Bool.{ne_eqb}
use Rattle.std.proofs.lemmas.Grind.{get_or_default_zero}
use Rattle.std.proofs.lemmas.List.Folds.{list_any_none}
use Rattle.std.specs.Prelude.{nat_eq}
use Rattle.std.specs.List.{list_any}
use Rattle.rk_disk.specs.CallPlan.{fails_next}
use Rattle.rk_disk.proofs.plan.Plan.fails_next.Goals as goal

-- a number above all of a list is none of them
past_all : (xs : List ℕ) (top c : ℕ) → ((k : ℕ) → get_or xs k 0 < top) → top ≤ c → list_any (λ x. nat_eq x c) xs ≡ false
past_all xs top c below past = list_any_none _ xs (λ k d l. ne_eqb (get_or xs k d) c (λ same. omega (arith, below k, get_or_default_zero xs k d l, same, past)))

pub returns-in-None : goal.returns-in-None
returns-in-None c =
    let fit : (k : ℕ) → get_or c.as_slice-failing.result.now k 0 < 2 ^ 64 = λ k. search rules in
    let past : 2 ^ 64 ≤ c.self.inside.calls + 1 = omega (arith, c.in-None.ensures) in
    sym (ap fails_next (sym c.self.view_is)
    ∙ ap (list_any (λ x. nat_eq x (c.self.inside.calls + 1))) (sym c.as_slice-failing.ensures.value)
    ∙ past_all c.as_slice-failing.result.now (2 ^ 64) _ fit past)
