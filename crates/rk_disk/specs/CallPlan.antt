-- Which calls of a disk or an output in memory are to fail, how many were made, and how many of these failed.
-- This project's own rule.
use Rattle.std.specs.Prelude.{ℕ, ◌+◌, ◌-◌, ◌^◌, min, Bool, nat_eq, if◌then◌else◌, List, [], ◌∷◌, ◌++◌, refl}
use Rattle.std.specs.List.{list_any}
use Rattle.std.specs.Coded.{Coded, code_by, coded×, coded_ℕ, coded_list}

-- The numbers of the calls that are set to fail, counted from 1; how many calls were made, and how many failed.
pub record CallPlan : Type 0 where
  pub failing : List ℕ
  pub calls : ℕ
  pub failed : ℕ

-- no call was made, and none is set to fail
abbrev pub unused_plan : CallPlan
unused_plan = record { failing = []; calls = 0; failed = 0 }

-- whether the next call is set to fail
abbrev pub fails_next : CallPlan → Bool
fails_next plan = list_any (λ call. nat_eq call (plan.calls + 1)) plan.failing

-- a count after one more, which stands still at the last value of a u64
abbrev pub counted : ℕ → ℕ
counted count = min (count + 1) (2 ^ 64 - 1)

-- after one more call, which failed or not
abbrev pub after_call : Bool → CallPlan → CallPlan
after_call fails plan = record plan { calls = counted plan.calls; failed = if fails then counted plan.failed else plan.failed }

-- one more call is set to fail
abbrev pub with_failing : ℕ → CallPlan → CallPlan
with_failing call plan = record plan { failing = plan.failing ++ call ∷ [] }

-- as the triple of its fields
abbrev pub coded_plan : Coded CallPlan
coded_plan = code_by (List ℕ × (ℕ × ℕ)) (coded× (coded_list coded_ℕ) (coded× coded_ℕ coded_ℕ)) (λ plan. (plan.failing, (plan.calls, plan.failed))) (λ p. record { failing = p.0; calls = p.1.0; failed = p.1.1 }) (λ _. refl)
