-- What is read in turn doesn't depend on how much more room there is than bytes.
use Rattle.std.proofs.Common.{◌≡◌, ℕ, zero, suc, ◌<◌, ◌≤◌, List, [], ◌∷◌, length, refl, ap, arith}
use Rattle.std.specs.Prelude.{Result, Ok, Err}
use Rattle.rk_bytes.specs.Model.Numbers.{◌>>=◌, in_turn}

-- whatever is read takes a byte at least
pub record Shortens {A F : Type 0} (read : List A → List ℕ → Result (A × List ℕ) F) : Type 0 where
  pub shorter : (before : List A) (bytes : List ℕ) (one : A × List ℕ) → read before bytes ≡ Ok one → length one.1 < length bytes

pub in_turn-room : {A F : Type 0} (read : List A → List ℕ → Result (A × List ℕ) F) → Shortens read → (n m : ℕ) (before : List A) (bytes : List ℕ) → length bytes ≤ n → length bytes ≤ m → in_turn read n before bytes ≡ in_turn read m before bytes
unfolding in_turn
in_turn-room read s zero zero before bytes fits fits' = refl
in_turn-room read s zero (suc m) before [] fits fits' = refl
in_turn-room read s zero (suc m) before (b ∷ bytes) fits fits' = absurd (omega arith)
in_turn-room read s (suc n) zero before [] fits fits' = refl
in_turn-room read s (suc n) zero before (b ∷ bytes) fits fits' = absurd (omega arith)
in_turn-room read s (suc n) (suc m) before [] fits fits' = refl
in_turn-room {A} {F} read s (suc n) (suc m) before (b ∷ bytes) fits fits' =
    by (read before (b ∷ bytes)) refl (λ one shorter. in_turn-room read s n m (one.0 ∷ before) one.1 (omega arith) (omega arith))
  where
    by : (told : Result (A × List ℕ) F) → read before (b ∷ bytes) ≡ told
        → ((one : A × List ℕ) → length one.1 < length (b ∷ bytes) → in_turn read n (one.0 ∷ before) one.1 ≡ in_turn read m (one.0 ∷ before) one.1)
        → told >>= (λ one. in_turn read n (one.0 ∷ before) one.1 >>= (λ more. Ok (one.0 ∷ more)))
        ≡ told >>= (λ one. in_turn read m (one.0 ∷ before) one.1 >>= (λ more. Ok (one.0 ∷ more)))
    by (Ok one) told same = ap (λ rest. rest >>= (λ more. Ok (one.0 ∷ more))) (same one (s.shorter before (b ∷ bytes) one told))
    by (Err why) told same = refl
