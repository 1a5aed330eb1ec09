-- Steps one after another, and what ends them.
use Rattle.std.proofs.Common.{◌≡◌, List, [], ◌∷◌, filter_map, Option, Some, Result, Ok, Err, sym, ap, ◌∙◌}
use Rattle.std.specs.List.{cons_option}
use Rattle.rk_bytes.specs.declared.model.manifest.ApplyFault.{ApplyFault}
use Rattle.rk_bytes.specs.declared.model.manifest.Version.{Version}
use Rattle.rk_bytes.specs.Model.Numbers.{◌>>=◌}
use Rattle.rk_bytes.specs.Model.Manifest.{steps_in_order}

module _ {A X : Type 0} (step : A → Version → Result Version ApplyFault) (part : X → Option A) where
  -- a step is taken
  pub one_step : (x : X) (left : List X) (a : A) (now new : Version) (all : Result Version ApplyFault) → part x ≡ Some a → step a now ≡ Ok new
      → steps_in_order step (filter_map part (x ∷ left)) now ≡ all → steps_in_order step (filter_map part left) new ≡ all
  unfolding steps_in_order
  one_step x left a now new all is e so =
      sym (ap (λ o. steps_in_order step (cons_option o (filter_map part left)) now) is ∙ ap (λ r. r >>= λ next. steps_in_order step (filter_map part left) next) e) ∙ so

  -- a step is refused
  pub bad_step : (x : X) (left : List X) (a : A) (now : Version) (all : Result Version ApplyFault) (why : ApplyFault) → part x ≡ Some a → step a now ≡ Err why
      → steps_in_order step (filter_map part (x ∷ left)) now ≡ all → all ≡ Err why
  unfolding steps_in_order
  bad_step x left a now all why is e so =
      sym so ∙ ap (λ o. steps_in_order step (cons_option o (filter_map part left)) now) is ∙ ap (λ r. r >>= λ next. steps_in_order step (filter_map part left) next) e

  -- nothing is left
  pub last_step : (left : List X) (now : Version) (all : Result Version ApplyFault) → left ≡ [] → steps_in_order step (filter_map part left) now ≡ all → all ≡ Ok now
  unfolding steps_in_order
  last_step left now all is so = sym so ∙ ap (λ xs. steps_in_order step (filter_map part xs) now) is
