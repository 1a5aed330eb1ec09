-- The words that spell a number in decimal.
use Rattle.std.proofs.Common.{◌≡◌, ◌⊎◌, ℕ, ◌<◌, ◌^◌, List, [], ◌∷◌, length, get_or, Result, Ok, Err, MatchOption, sym, ap, subst, ◌∙◌, inl, inr, arith}
use Rattle.std.specs.Prelude.{decimal}
use Rattle.std.specs.Result.{result_ok}
use Rattle.std.specs.Str.Parse.{ParsesUnsigned, AllDigits, digits_value}
use Rattle.std.proofs.lemmas.Str.Parse.{IsNumeralModel, numerals_by_value, tells_digits, parse_plain}
use Rattle.std.proofs.lemmas.Fmt.{decimal_digit, first_decimal, decimal_nonempty, digits_decimal, digits_value-decimal, decimal-digits_value}
use Rattle.std.proofs.lemmas.Bool.{cases_lt}

-- what no decimal number begins with: a sign, or a zero before other bytes
abbrev pub BeginsOtherwise : List ℕ → Type 0
BeginsOtherwise word = (get_or word 0 0 ≡ 43) ⊎ ((get_or word 0 0 ≡ 48) × (1 < length word))

pub decimal_begins : (n : ℕ) → n < 2 ^ 64 → BeginsOtherwise (decimal n) → ⊥
decimal_begins n fits begins = elim (cases_lt 0 n) [
  | inl positive ↦
      let first = first_decimal n positive fits in
      elim begins [ inl sign ↦ omega arith | inr blank ↦ omega (arith, blank.0) ]
  | inr none ↦
      let nothing : n ≡ 0 = omega arith in
      let one : decimal n ≡ 48 ∷ [] = ap decimal nothing ∙ decimal_digit 0 (omega arith) in
      elim begins [
        | inl sign ↦ omega (arith, sign, ap (λ w. get_or w 0 0) one)
        | inr blank ↦ omega (arith, blank.1, ap length one)
      ]
]

digits : IsNumeralModel (AllDigits 10) (digits_value 10)
digits = numerals_by_value (AllDigits 10) tells_digits

one_zero : (word : List ℕ) → (BeginsOtherwise word → ⊥) → 0 < length word → get_or word 0 0 ≡ 48 → length word ≡ 1
one_zero word plain some blank = elim (cases_lt 1 (length word)) [ inl long ↦ absurd (plain (inr (blank, long))) | inr short ↦ omega arith ]

pub parsed_number : {E : Type 0} (word : List ℕ) (r : Result ℕ E) → ParsesUnsigned 64 10 word r → (BeginsOtherwise word → ⊥)
    → MatchOption (result_ok r) ((n : ℕ) → n < 2 ^ 64 → word ≡ decimal n → ⊥) (λ n. (n < 2 ^ 64) × (word ≡ decimal n))
parsed_number {E = E} word (Ok n) parses plain =
    let h = parse_plain digits {E = E} 64 word (Ok n) parses (λ sign. plain (inl sign)) in (
      subst (λ v. v < 2 ^ 64) (sym h.1) h.0.2,
      sym (decimal-digits_value digits word h.0.0 h.0.1 (one_zero word plain h.0.1) h.0.2) ∙ ap decimal (sym h.1),
    )
parsed_number {E = E} word (Err e) parses plain = λ n fits is.
    let h = parse_plain digits {E = E} 64 word (Err e) parses (λ sign. plain (inl sign)) in
    let all : AllDigits 10 word = subst (AllDigits 10) (sym is) (digits_decimal digits n fits) in
    let some : 0 < length word = subst (λ w. 0 < length w) (sym is) (decimal_nonempty n fits) in
    let value : digits_value 10 word ≡ n = ap (digits_value 10) is ∙ digits_value-decimal digits n fits in
    h (all, some, subst (λ v. v < 2 ^ 64) (sym value) fits)
