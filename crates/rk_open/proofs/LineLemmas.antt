-- The lines of families that are added in rising id.
use Rattle.std.specs.Prelude.{◌||◌, if◌then◌else◌}
use Rattle.std.proofs.Common.{◌≡◌, ℕ, zero, suc, ◌+◌, ◌<◌, false, List, [], ◌∷◌, ◌++◌, length, get_or, take, map, refl, sym, ap, ◌∙◌, subst, arith}
use Rattle.std.specs.List.{AllByRecursion}
use Rattle.std.proofs.lemmas.Bool.{le-ltb, ne_eqb}
use Rattle.std.proofs.lemmas.List.{take_more, map-append}
use Rattle.rk_bytes.specs.declared.model.manifest.FamilyState.{FamilyState}
use Rattle.rk_bytes.specs.declared.model.view.FamilyLine.{FamilyLine}
use Rattle.rk_bytes.specs.Model.Opening.{family_line}
use Rattle.rk_version.specs.Places.{Rises}
use Rattle.rk_version.proofs.Each.{each_map}
use Rattle.rk_version.proofs.PlaceLemmas.{each_at}
use Rattle.rk_view.specs.Kept.{with_family, has_family}

-- a family whose id is above those of the others
module _ (line : FamilyLine) where
  pub family_absent : (lines : List FamilyLine) → AllByRecursion (λ other. other.id < line.id) lines → has_family line.id lines ≡ false
  family_absent [] below = refl
  family_absent (other ∷ lines) below =
      ap (λ told. told || has_family line.id lines) (ne_eqb other.id line.id (λ same. absurd (omega (arith, same, below.0)))) ∙ family_absent lines below.1

  pub family_last : (lines : List FamilyLine) → AllByRecursion (λ other. other.id < line.id) lines → with_family line lines ≡ lines ++ line ∷ []
  family_last [] below = refl
  family_last (other ∷ lines) below =
      ap (λ told. if told then line ∷ other ∷ lines else other ∷ with_family line lines) (le-ltb line.id other.id (omega (arith, below.0)))
      ∙ ap (λ lines. other ∷ lines) (family_last lines below.1)

front_below : {A : Type 0} (number : A → ℕ) (xs : List A) (i : ℕ) (x : A) → Rises number xs → i < length xs → x ≡ get_or xs i x → AllByRecursion (λ y. number y < number x) (take i xs)
front_below number [] i x rises in' is = absurd (omega arith)
front_below number (y ∷ xs) zero x rises in' is = tt
front_below number (y ∷ xs) (suc i) x rises in' is = (
  subst (λ x. number y < number x) (sym is) (each_at number (λ z. number y < number z) i xs x (omega arith) rises.0),
  front_below number xs i x rises.1 (omega arith) is,
)

-- the lines of the families before one
pub lines_below : (families : List FamilyState) (i : ℕ) (live : FamilyState) → Rises (λ live. live.id) families → i < length families → live ≡ get_or families i live
    → AllByRecursion (λ line. line.id < live.id) (map family_line (take i families))
lines_below families i live rises in' is =
    each_map (λ other. other.id < live.id) (λ line. line.id < live.id) family_line (take i families) (λ other less. less) (front_below (λ live. live.id) families i live rises in' is)

pub lines_more : (families : List FamilyState) (i : ℕ) (live : FamilyState) → i < length families → live ≡ get_or families i live
    → map family_line (take i families) ++ family_line live ∷ [] ≡ map family_line (take (i + 1) families)
lines_more families i live in' is =
    sym (ap (map family_line) (take_more families i live in' ∙ ap (λ x. take i families ++ x ∷ []) (sym is)) ∙ map-append family_line (take i families) (live ∷ []))
