-- What is written of a live family, and of one that isn't.
use Rattle.std.proofs.Common.{◌≡◌, ℕ, List, Option, Some, None, ap, ◌∙◌, subst}
use Rattle.std.specs.Prelude.{codes, unwrap_or}
use Rattle.rk_bytes.specs.Model.KeyView.{State, family_named}
use Rattle.rk_bytes.specs.Model.Lines.{no_family_words}
use Rattle.rk_bytes.specs.Model.Output.{Output, refused, for_family}

module _ (named : Option (List ℕ)) (write : ℕ → Output) (state : State) (name : List ℕ) (P : Output → Type 0) (is : name ≡ unwrap_or named (codes "default")) where
  pub of_live : (id : ℕ) → Some id ≡ family_named state name → P (write id) → P (for_family named write state)
  of_live id found h =
      subst P (ap (λ (found : Option ℕ). elim found [ Some id ↦ write id | None ↦ refused (no_family_words (unwrap_or named (codes "default"))) ]) (found ∙ ap (family_named state) is)) h

  pub of_absent : ◌≡◌ {A = Option ℕ} None (family_named state name) → P (refused (no_family_words name)) → P (for_family named write state)
  of_absent found h =
      subst P (ap (λ name. refused (no_family_words name)) is
      ∙ ap (λ (found : Option ℕ). elim found [ Some id ↦ write id | None ↦ refused (no_family_words (unwrap_or named (codes "default"))) ]) (found ∙ ap (family_named state) is)) h
