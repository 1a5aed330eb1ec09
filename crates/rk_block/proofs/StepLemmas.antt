-- Steps of a reading.
use Rattle.std.proofs.Common.{◌≡◌, Result, Ok, Err, refl, ap}
use Rattle.rk_bytes.specs.Model.Numbers.{◌>>=◌}

-- where the first step gives a fault, that is all
pub first_fault : {A B F : Type 0} (r : Result A F) (f : A → Result B F) (why : F) → r ≡ Err why → (r >>= f) ≡ Err why
first_fault r f why e = ap (λ r. r >>= f) e

-- three steps in a row
pub then_then : {A B C F : Type 0} (r : Result A F) (f : A → Result B F) (g : B → Result C F) → ((r >>= f) >>= g) ≡ (r >>= λ a. f a >>= g)
then_then (Ok a) f g = refl
then_then (Err why) f g = refl

-- two ways to go on that agree
pub same_then : {A B F : Type 0} (r : Result A F) (f g : A → Result B F) → ((a : A) → f a ≡ g a) → (r >>= f) ≡ (r >>= g)
same_then (Ok a) f g same = same a
same_then (Err why) f g same = refl
