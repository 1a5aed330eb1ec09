-- Things in rising number, and the place of a number among them.
use Rattle.std.specs.Prelude.{◌≡◌, ℕ, suc, ◌<◌, ◌≤◌, List, [], ◌∷◌, length, take, drop, Result, Ok, Err, slice_index_or}
use Rattle.std.specs.List.{AllByRecursion}

-- their numbers rise
abbrev pub Rises : {A : Type 0} → (A → ℕ) → List A → Type 0
Rises number [] = Unit {0}
Rises number (x ∷ xs) = AllByRecursion (λ y. number x < number y) xs × Rises number xs

-- a thing in this place has this number, and no other
pub record IsAt {A : Type 0} (number : A → ℕ) (n : ℕ) (xs : List A) (place : ℕ) : Type 0 where
  pub within : place < length xs
  pub before : AllByRecursion (λ x. number x < n) (take place xs)
  pub here : (d : A) → number (slice_index_or xs place d) ≡ n
  pub after : AllByRecursion (λ x. n < number x) (drop (suc place) xs)

-- no thing has this number, and one that had it would belong in this place
pub record IsFree {A : Type 0} (number : A → ℕ) (n : ℕ) (xs : List A) (place : ℕ) : Type 0 where
  pub within : place ≤ length xs
  pub before : AllByRecursion (λ x. number x < n) (take place xs)
  pub after : AllByRecursion (λ x. n < number x) (drop place xs)

-- either of them
abbrev pub IsPlace : {A : Type 0} → (A → ℕ) → ℕ → List A → Result ℕ ℕ → Type 0
IsPlace number n xs (Ok place) = IsAt number n xs place
IsPlace number n xs (Err place) = IsFree number n xs place
