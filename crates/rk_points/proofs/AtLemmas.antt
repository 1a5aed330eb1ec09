-- The files of points, filled in one unit after another.
use Rattle.std.proofs.Common.{◌≡◌, ℕ, zero, suc, ◌+◌, ◌<◌, ◌≤◌, Bool, List, [], ◌∷◌, ◌++◌, length, map, flat_map, filter, take, drop, get_or, set, Result, Ok, Err, refl, sym, ap, ◌∙◌, arith, inl, inr}
use Rattle.std.specs.Prelude.{nat_lt, if◌then◌else◌}
use Rattle.std.specs.List.{AllByRecursion}
use Rattle.std.proofs.lemmas.Bool.{cond-true, lt-ltb, le-ltb, ltb-true, ltb-false, cases_Bool}
use Rattle.rk_bytes.specs.declared.model.manifest.FamilyState.{FamilyState}
use Rattle.rk_bytes.specs.declared.model.manifest.FileMeta.{FileMeta}
use Rattle.rk_bytes.specs.declared.model.manifest.ManifestFault.{ManifestFault}
use Rattle.rk_bytes.specs.declared.model.manifest.Version.{Version}
use Rattle.rk_bytes.specs.declared.model.view.Point.{Point}
use Rattle.rk_bytes.specs.Model.Manifest.{ManifestUnit, has_id, version_at}
use Rattle.rk_bytes.specs.Model.BestEfforts.{files_at}
use Rattle.rk_points.specs.Lists.{files_before}

-- the first so many as one function gives them, and the others as another does
abbrev pub partly : {A B : Type 0} (f g : A → B) → ℕ → List A → List B
partly f g k xs = map f (take k xs) ++ map g (drop k xs)

pub partly_set : {A B : Type 0} (f g : A → B) (xs : List A) (k : ℕ) (d : A) → k < length xs → set (partly f g k xs) k (f (get_or xs k d)) ≡ partly f g (suc k) xs
partly_set f g [] k d inside = absurd (omega arith)
partly_set f g (x ∷ xs) zero d inside = refl
partly_set f g (x ∷ xs) (suc k) d inside = ap (λ rest. f x ∷ rest) (partly_set f g xs k d (omega arith))

pub partly_same : {A B : Type 0} (f g : A → B) (xs : List A) (k : ℕ) (d : A) → k < length xs → f (get_or xs k d) ≡ g (get_or xs k d) → partly f g k xs ≡ partly f g (suc k) xs
partly_same f g [] k d inside same = absurd (omega arith)
partly_same f g (x ∷ xs) zero d inside same = ap (λ b. b ∷ map g xs) (sym same)
partly_same f g (x ∷ xs) (suc k) d inside same = ap (λ rest. f x ∷ rest) (partly_same f g xs k d (omega arith) same)

pub partly_all : {A B : Type 0} (f g : A → B) (xs : List A) (k : ℕ) → length xs ≤ k → partly f g k xs ≡ map f xs
partly_all f g [] zero past = refl
partly_all f g [] (suc k) past = refl
partly_all f g (x ∷ xs) zero past = absurd (omega arith)
partly_all f g (x ∷ xs) (suc k) past = ap (λ rest. f x ∷ rest) (partly_all f g xs k (omega arith))

-- a point at this number of units, and one that isn't
pub point_there : (units : List ManifestUnit) (at : ℕ) (point : Point) (version : Version) (files : List FileMeta) → point.at ≡ at → version_at units at ≡ Ok version
    → files ≡ flat_map (λ (live : FamilyState). live.files) (filter (has_id point.family) version.families) → files ≡ files_before units (at + 1) point
point_there units at point version files here is told =
    told
    ∙ sym (ap (λ (r : Result Version ManifestFault). flat_map (λ (live : FamilyState). live.files) (filter (has_id point.family) (elim r [ Ok version ↦ version.families | Err why ↦ [] ]))) (ap (version_at units) here ∙ is))
    ∙ sym (cond-true (nat_lt point.at (at + 1)) (files_at units point.family point.at) [] (lt-ltb point.at (at + 1) (omega (arith, here))))

pub point_elsewhere : (units : List ManifestUnit) (at : ℕ) (point : Point) → (point.at ≡ at → ⊥) → files_before units (at + 1) point ≡ files_before units at point
point_elsewhere units at point other = ap (λ (b : Bool). if b then files_at units point.family point.at else []) (elim (cases_Bool (nat_lt point.at at)) [
  | inl below ↦ lt-ltb point.at (at + 1) (omega (arith, ltb-true point.at at below)) ∙ sym below
  | inr not_below ↦ le-ltb point.at (at + 1) (omega (arith, other, ltb-false point.at at not_below)) ∙ sym not_below
])

-- none is there before the first unit, and all are after the last
pub none_before : (units : List ManifestUnit) (points : List Point) → map (λ (point : Point). let none : List FileMeta = [] in none) points ≡ map (files_before units 0) points
none_before units [] = refl
none_before units (point ∷ points) =
    λ i. sym (ap (λ (b : Bool). if b then files_at units point.family point.at else []) (le-ltb point.at 0 (omega arith))) i ∷ none_before units points i

pub all_before : (units : List ManifestUnit) (at : ℕ) (points : List Point) → AllByRecursion (λ (point : Point). point.at ≤ at) points → map (files_before units (at + 1)) points ≡ map (λ (point : Point). files_at units point.family point.at) points
all_before units at [] within = refl
all_before units at (point ∷ points) within =
    λ i. cond-true (nat_lt point.at (at + 1)) (files_at units point.family point.at) [] (lt-ltb point.at (at + 1) (omega (arith, within.0))) i ∷ all_before units at points within.1 i
