-- The lines of things that are taken one after another.
use Rattle.std.proofs.Common.{◌≡◌, ℕ, ◌+◌, ◌<◌, List, ◌∷◌, length, map, drop, get_or, sym, ap, ◌∙◌, add-one, drop-cons}

pub next_shown : {A : Type 0} (shown : A → List ℕ) (things : List A) (i : ℕ) (thing : A) → i < length things → thing ≡ get_or things i thing
    → map shown (drop i things) ≡ shown thing ∷ map shown (drop (i + 1) things)
next_shown shown things i thing within is = ap (map shown) (drop-cons things i thing within ∙ (λ j. sym is j ∷ drop (sym (add-one i) j) things))
