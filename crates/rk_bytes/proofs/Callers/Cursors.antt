-- Where a cursor stands, and whether bytes are left.
use Rattle.std.specs.Prelude.{◌==◌}
use Rattle.std.proofs.Common.{◌≡◌, ℕ, ◌-◌, ◌<◌, ◌≤◌, Bool, true, false, List, [], ◌∷◌, length, refl, ap, ◌∙◌, arith, length-drop}
use Rattle.std.proofs.Math.Dec.{eqb-suc-zero}
use Rattle.rk_bytes.specs.Reading.{Reading, rest_of}

-- the place, by what is left
pub place_of_rest : (cursor : Reading) → cursor.place ≤ length cursor.bytes → length cursor.bytes - length (rest_of cursor) ≡ cursor.place
place_of_rest cursor within = omega (arith, length-drop cursor.place cursor.bytes)

-- a test of whether bytes are left
pub some_left : (bytes rest : List ℕ) (test : Bool) → bytes ≡ rest → test ≡ (length bytes == 0) → test ≡ false → 0 < length rest
some_left bytes [] test same is passed = absurd (let other : test ≡ true = is ∙ ap (λ bytes. length bytes == 0) same in cc)
some_left bytes (b ∷ rest) test same is passed = omega arith

pub none_left : (bytes rest : List ℕ) (test : Bool) → bytes ≡ rest → test ≡ (length bytes == 0) → test ≡ true → length rest ≡ 0
none_left bytes [] test same is passed = refl
none_left bytes (b ∷ rest) test same is passed = absurd (let other : test ≡ false = is ∙ ap (λ bytes. length bytes == 0) same ∙ eqb-suc-zero (length rest) in cc)
