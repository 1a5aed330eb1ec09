-- A number in six digits at least, and the digits that write one.
use Rattle.std.proofs.Common.{◌≡◌, ◌≢◌, ◌⊎◌, inl, inr, ℕ, zero, suc, ◌+◌, ◌-◌, ◌^◌, ◌<◌, ◌≤◌, List, [], ◌∷◌, ◌++◌, length, get_or, refl, sym, subst, ◌∙◌, ap, arith}
use Rattle.std.specs.Prelude.{replicate, decimal}
use Rattle.std.specs.Str.{IsUtf8}
use Rattle.std.specs.Str.Parse.{IsNumeral, AllDigits, digits_value}
use Rattle.std.proofs.lemmas.Bool.{cases_eq, cases_lt}
use Rattle.std.proofs.lemmas.List.{length-append, length-replicate}
use Rattle.std.proofs.lemmas.Str.{IsUtf8-from_ascii}
use Rattle.std.proofs.lemmas.Str.Parse.{digit_at, IsNumeralModel, numerals_by_value, tells_digits}
use Rattle.std.proofs.lemmas.Fmt.{decimal_is_IsNumeral, decimal-digits_value, decimal_digit, first_decimal, IsAscii-from_digits}
use Rattle.rk_bytes.specs.Model.FileNames.{six_digits}

-- zeros before digits change nothing of their number
zeros : (k : ℕ) (ds : List ℕ) → IsNumeral 10 ds → IsNumeral 10 (replicate k 48 ++ ds) × (digits_value 10 (replicate k 48 ++ ds) ≡ digits_value 10 ds)
zeros zero ds is = (is, refl)
zeros (suc k) ds is = let (more, value) = zeros k ds is in ((omega arith, (omega arith, more.1)), value)

-- The digits are a number's in six digits at least.
pub record IsSixDigits (ds : List ℕ) : Type 0 where
  pub numeral : IsNumeral 10 ds
  pub long : 6 ≤ length ds
  pub first : 6 < length ds → get_or ds 0 0 ≢ 48

pub six_digits-value : (n : ℕ) → n < 2 ^ 64 → digits_value 10 (six_digits n) ≡ n
six_digits-value n fits =
    let (is, value) = decimal_is_IsNumeral n fits in
    (zeros (6 - length (decimal n)) (decimal n) is).1 ∙ value

length-six_digits : (n : ℕ) → length (six_digits n) ≡ 6 - length (decimal n) + length (decimal n)
length-six_digits n =
    length-append (replicate (6 - length (decimal n)) 48) (decimal n) ∙ ap (λ k. k + length (decimal n)) (length-replicate (6 - length (decimal n)) 48)

first_of_long : (n : ℕ) → n < 2 ^ 64 → 6 < length (decimal n) → get_or (decimal n) 0 0 ≢ 48
first_of_long zero fits long = absurd (omega (arith, ap length (decimal_digit 0 (omega arith))))
first_of_long (suc n) fits long = λ same. absurd (omega (arith, first_decimal (suc n) (omega arith) fits))

pub six_digits-is : (n : ℕ) → n < 2 ^ 64 → IsSixDigits (six_digits n)
six_digits-is n fits = record {
  numeral = (zeros (6 - length (decimal n)) (decimal n) (decimal_is_IsNumeral n fits).0).0;
  long = omega (arith, length-six_digits n);
  first = λ long.
      let more : 6 < length (decimal n) = omega (arith, length-six_digits n) in
      let none : 6 - length (decimal n) ≡ 0 = omega arith in
      subst (λ k. get_or (replicate k 48 ++ decimal n) 0 0 ≢ 48) (sym none) (first_of_long n fits more);
}

pub own : IsNumeralModel (AllDigits 10) (digits_value 10)
own = numerals_by_value (AllDigits 10) tells_digits

-- digits are zeros and then their number in decimal
record IsPadded (ds : List ℕ) : Type 0 where
  shorter : length (decimal (digits_value 10 ds)) ≤ length ds
  is : replicate (length ds - length (decimal (digits_value 10 ds))) 48 ++ decimal (digits_value 10 ds) ≡ ds

unpadded : (ds : List ℕ) → decimal (digits_value 10 ds) ≡ ds → IsPadded ds
unpadded ds same =
    let none : length ds - length (decimal (digits_value 10 ds)) ≡ 0 = omega (arith, ap length same) in record {
      shorter = omega (arith, ap length same);
      is = ap (λ k. replicate k 48 ++ decimal (digits_value 10 ds)) none ∙ same;
    }

one_zero_more : (ds : List ℕ) → IsPadded ds → IsPadded (48 ∷ ds)
one_zero_more ds padded =
    let count : suc (length ds) - length (decimal (digits_value 10 ds)) ≡ suc (length ds - length (decimal (digits_value 10 ds))) = omega (arith, padded.shorter) in record {
      shorter = omega (arith, padded.shorter);
      is = ap (λ k. replicate k 48 ++ decimal (digits_value 10 ds)) count ∙ ap (λ ds. 48 ∷ ds) padded.is;
    }

digits_padded : (ds : List ℕ) → AllDigits 10 ds → 0 < length ds → digits_value 10 ds < 2 ^ 64 → IsPadded ds
digits_padded [] all some fits = absurd (omega (arith, some))
digits_padded (c ∷ []) all some fits = unpadded (c ∷ []) (decimal-digits_value own (c ∷ []) all some (λ _. refl) fits)
digits_padded (c ∷ d ∷ ds) all some fits = by (cases_eq c 48) (λ fits. digits_padded (d ∷ ds) all.1 (omega arith) fits)
  where
    by : (c ≡ 48) ⊎ (c ≡ 48 → ⊥) → (digits_value 10 (d ∷ ds) < 2 ^ 64 → IsPadded (d ∷ ds)) → IsPadded (c ∷ d ∷ ds)
    by (inl same) later = subst (λ c. IsPadded (c ∷ d ∷ ds)) (sym same) (one_zero_more (d ∷ ds) (later (subst (λ c. digits_value 10 (c ∷ d ∷ ds) < 2 ^ 64) same fits)))
    by (inr other) later = unpadded (c ∷ d ∷ ds) (decimal-digits_value own (c ∷ d ∷ ds) all some (λ same. absurd (other same)) fits)

pub six_digits-of_value : (ds : List ℕ) → IsSixDigits ds → digits_value 10 ds < 2 ^ 64 → six_digits (digits_value 10 ds) ≡ ds
six_digits-of_value ds is fits = by (cases_lt 6 (length ds))
  where
    by : (6 < length ds) ⊎ (length ds ≤ 6) → six_digits (digits_value 10 ds) ≡ ds
    by (inl longer) =
        let same : decimal (digits_value 10 ds) ≡ ds = decimal-digits_value own ds is.numeral.1 is.numeral.0 (λ zero_first. absurd (is.first longer zero_first)) fits in
        let none : 6 - length (decimal (digits_value 10 ds)) ≡ 0 = omega (arith, ap length same) in
        ap (λ k. replicate k 48 ++ decimal (digits_value 10 ds)) none ∙ same
    by (inr six) =
        let padded = digits_padded ds is.numeral.1 is.numeral.0 fits in
        let count : 6 - length (decimal (digits_value 10 ds)) ≡ length ds - length (decimal (digits_value 10 ds)) = omega (arith, is.long) in
        ap (λ k. replicate k 48 ++ decimal (digits_value 10 ds)) count ∙ padded.is

pub six_digits-utf8 : (ds : List ℕ) → IsSixDigits ds → IsUtf8 ds
six_digits-utf8 ds is = IsUtf8-from_ascii ds (IsAscii-from_digits ds is.numeral.1)

pub no_plus_first : (ds : List ℕ) → IsSixDigits ds → get_or ds 0 0 ≢ 43
no_plus_first ds is same = absurd (omega (arith, digit_at ds 0 is.numeral.1 is.numeral.0))
