-- Things with numbers: some put among others, and some taken out.
use Rattle.std.specs.Prelude.{ℕ, Bool, not, ◌==◌, List, [], ◌∷◌, ◌++◌, filter, filter_map, find, nat_lt, Option}
use Rattle.std.specs.List.{list_any}

-- the things with one more, which takes the place of one that has its number
abbrev pub put : {A : Type 0} → (A → ℕ) → A → List A → List A
put number new xs = filter (λ x. nat_lt (number x) (number new)) xs ++ new ∷ filter (λ x. nat_lt (number new) (number x)) xs

-- with more of them, one after another
abbrev pub put_all : {A : Type 0} → (A → ℕ) → List A → List A → List A
put_all number [] xs = xs
put_all number (new ∷ more) xs = put_all number more (put number new xs)

-- the number is one of these
abbrev pub is_among : List ℕ → ℕ → Bool
is_among numbers n = list_any (λ m. n == m) numbers

-- the things without those that have these numbers
abbrev pub without_all : {A : Type 0} → (A → ℕ) → List ℕ → List A → List A
without_all number gone xs = filter (λ x. not (is_among gone (number x))) xs

-- the thing that has this number
abbrev pub with_number : {A : Type 0} → (A → ℕ) → ℕ → List A → Option A
with_number number n xs = find (λ x. number x == n) xs

-- the things that have these numbers, number by number
abbrev pub found_all : {A : Type 0} → (A → ℕ) → List A → List ℕ → List A
found_all number xs numbers = filter_map (λ n. with_number number n xs) numbers
