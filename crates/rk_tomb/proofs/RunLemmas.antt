-- How long the first run is.
use Rattle.std.proofs.Common.{◌≡◌, ℕ, zero, suc, ◌+◌, ◌*◌, ◌^◌, ◌<◌, ◌≤◌, ◌⊎◌, inl, inr, Bool, true, false, cond, refl, sym, ap, ◌∙◌, subst, arith}
use Rattle.std.specs.Prelude.{nat_le, ◌==◌}
use Rattle.std.proofs.Math.Nat.{pow-succ'}
use Rattle.std.proofs.lemmas.Bool.{false≢true, eqb-true, lt-leb, le-leb, cases_lt}
use Rattle.std.proofs.lemmas.Nat.{pow_pos}
use Rattle.rk_tomb.specs.Index.{run_len}

-- the next length is the number, or stays
pub run_len-next : (n : ℕ) → (run_len (suc n) ≡ suc n) ⊎ (run_len (suc n) ≡ run_len n)
run_len-next n = by (nat_le (2 * run_len n) (suc n))
  where
    by : (b : Bool) → (cond b (suc n) (run_len n) ≡ suc n) ⊎ (cond b (suc n) (run_len n) ≡ run_len n)
    by true = inl refl
    by false = inr refl

pub run_len-le : (n : ℕ) → run_len n ≤ n
run_len-le zero = omega arith
run_len-le (suc n) = by (run_len-le n) (run_len-next n)
  where
    by : run_len n ≤ n → (run_len (suc n) ≡ suc n) ⊎ (run_len (suc n) ≡ run_len n) → run_len (suc n) ≤ suc n
    by before (inl e) = omega arith
    by before (inr e) = omega arith

pub run_len-positive : (n : ℕ) → 0 < n → 0 < run_len n
run_len-positive zero some = absurd (omega arith)
run_len-positive (suc zero) some = omega arith
run_len-positive (suc (suc n)) some = by (run_len-positive (suc n) (omega arith)) (run_len-next (suc n))
  where
    by : 0 < run_len (suc n) → (run_len (suc (suc n)) ≡ suc (suc n)) ⊎ (run_len (suc (suc n)) ≡ run_len (suc n)) → 0 < run_len (suc (suc n))
    by before (inl e) = omega arith
    by before (inr e) = omega arith

stays : (n : ℕ) → suc n < 2 * run_len n → run_len (suc n) ≡ run_len n
stays n few = ap (λ b. cond b (suc n) (run_len n)) (lt-leb (2 * run_len n) (suc n) few)

doubles : (n : ℕ) → 2 * run_len n ≤ suc n → run_len (suc n) ≡ suc n
doubles n many = ap (λ b. cond b (suc n) (run_len n)) (le-leb (2 * run_len n) (suc n) many)

-- the greatest power up to a number is that up to another which is less than twice as far
pub run_len-within : (power n : ℕ) → run_len power ≡ power → power ≤ n → n < 2 * power → run_len n ≡ power
run_len-within power zero fixed low high = absurd (omega arith)
run_len-within power (suc n) fixed low high = by (run_len-within power n fixed) (cases_lt power (suc n))
  where
    by : (power ≤ n → n < 2 * power → run_len n ≡ power) → (power < suc n) ⊎ (suc n ≤ power) → run_len (suc n) ≡ power
    by before (inr all) = let same : power ≡ suc n = omega arith in subst (λ m. run_len m ≡ power) same fixed
    by before (inl more) =
        let smaller : run_len n ≡ power = before (omega arith) (omega arith) in
        stays n (omega arith) ∙ smaller

pub run_len-double : (power : ℕ) → 0 < power → run_len power ≡ power → run_len (2 * power) ≡ 2 * power
run_len-double zero some fixed = absurd (omega arith)
run_len-double (suc p) some fixed =
    let before : run_len (2 * p + 1) ≡ suc p = run_len-within (suc p) (2 * p + 1) fixed (omega arith) (omega arith) in
    let at : suc (2 * p + 1) ≡ 2 * suc p = omega arith in
    subst (λ m. run_len m ≡ m) at (doubles (2 * p + 1) (omega arith))

pub run_len-power : (k : ℕ) → run_len (2 ^ k) ≡ 2 ^ k
run_len-power zero = refl
run_len-power (suc k) =
    let twice : 2 ^ suc k ≡ 2 * 2 ^ k = pow-succ' 2 k in
    subst (λ m. run_len m ≡ m) (sym twice) (run_len-double (2 ^ k) (pow_pos k) (run_len-power k))

-- a list that isn't empty, and one that is, as a test tells
pub some_from_test : (n : ℕ) (b : Bool) → b ≡ (n == 0) → b ≡ false → 0 < n
some_from_test zero b is fails = absurd (false≢true (sym fails ∙ is))
some_from_test (suc n) b is fails = omega arith

pub none_from_test : (n : ℕ) (b : Bool) → b ≡ (n == 0) → b ≡ true → n ≡ 0
none_from_test n b is passes = eqb-true n 0 (sym is ∙ passes)
