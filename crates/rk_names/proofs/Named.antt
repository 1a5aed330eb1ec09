-- The number in a name.
use Rattle.std.proofs.Common.{◌≡◌, ◌≢◌, ◌⊎◌, inl, inr, ℕ, ◌-◌, ◌^◌, ◌<◌, ◌≤◌, true, false, List, ◌++◌, length, get_or, take, drop, Some, None, Result, Ok, Err, refl, sym, subst, ◌∙◌, ap, arith}
use Rattle.std.specs.Prelude.{nat_lt, ◌&&◌, bytes_eq, codes, cond}
use Rattle.std.specs.Result.{result_ok}
use Rattle.std.specs.Str.Parse.{digits_value, ParsesUnsigned}
use Rattle.std.proofs.lemmas.Bool.{lt-ltb, cond-true, cond-false, and_from, and_left, and_right, false_from_ne_true, false≢true, ltb-true, cases_Bool}
use Rattle.std.proofs.lemmas.List.{append_cancel_left, append_cancel_right, take_at, drop_at, length-append}
use Rattle.std.proofs.lemmas.Slice.Eq.{bytes_eq-Decides}
use Rattle.std.proofs.lemmas.Str.Parse.{parse_plain}
use Rattle.rk_bytes.specs.Model.FileNames.{six_digits, manifest_name, named_number, manifest_number, number_with_ending}
use Rattle.rk_names.proofs.SixDigits.{IsSixDigits, six_digits-value, six_digits-is, six_digits-of_value, own}

-- no number's name is the text
pub no_number : (name : ℕ → List ℕ) (number text : List ℕ) → ((m : ℕ) → m < 2 ^ 64 → name m ≢ text) → named_number name number text ≡ None
no_number name number text none =
    let m = digits_value 10 number in
    cond-false _ _ _ (by (cases_Bool (nat_lt m (2 ^ 64))))
  where
    by : (nat_lt (digits_value 10 number) (2 ^ 64) ≡ true) ⊎ (nat_lt (digits_value 10 number) (2 ^ 64) ≡ false) → (nat_lt (digits_value 10 number) (2 ^ 64) && bytes_eq (name (digits_value 10 number)) text) ≡ false
    by (inl fits) = and_right _ _ (false_from_ne_true (bytes_eq (name (digits_value 10 number)) text) (λ same. none (digits_value 10 number) (ltb-true _ _ fits) ((bytes_eq-Decides (name (digits_value 10 number)) text).0 same)))
    by (inr large) = and_left _ _ large

-- the digits' number has the text as its name
pub right_number : (name : ℕ → List ℕ) (number text : List ℕ) (n : ℕ) → digits_value 10 number ≡ n → n < 2 ^ 64 → name n ≡ text → named_number name number text ≡ Some n
right_number name number text n value fits is =
    subst (λ m. cond (nat_lt m (2 ^ 64) && bytes_eq (name m) text) (Some m) None ≡ Some n) (sym value)
    (cond-true _ _ _ (and_from _ _ (lt-ltb n (2 ^ 64) fits) ((bytes_eq-Decides (name n) text).1 is)))

pub no_digits : (ds : List ℕ) → ¬ (IsSixDigits ds) → named_number six_digits ds ds ≡ None
no_digits ds none = no_number six_digits ds ds (λ m fits same. none (subst IsSixDigits same (six_digits-is m fits)))

-- what `parse` reads
pub parsed : {E : Type 0} (ds : List ℕ) (r : Result ℕ E) → ParsesUnsigned 64 10 ds r → 6 ≤ length ds → (6 < length ds → get_or ds 0 0 ≢ 48) → get_or ds 0 0 ≢ 43
    → result_ok r ≡ named_number six_digits ds ds
parsed {E} ds (Ok n) parses long first no_plus =
    let read = parse_plain own {E = E} 64 ds (Ok n) parses no_plus in
    let is : IsSixDigits ds = record { numeral = (read.0.1, read.0.0); long = long; first = first } in
    let fits : n < 2 ^ 64 = omega (arith, read.0.2, read.1) in
    sym (right_number six_digits ds ds n (sym read.1) fits (ap six_digits read.1 ∙ six_digits-of_value ds is read.0.2))
parsed {E} ds (Err e) parses long first no_plus =
    let unread = parse_plain own {E = E} 64 ds (Err e) parses no_plus in
    sym (no_number six_digits ds ds (λ m fits same.
    let is : IsSixDigits ds = subst IsSixDigits same (six_digits-is m fits) in
    let value : digits_value 10 ds ≡ m = ap (digits_value 10) (sym same) ∙ six_digits-value m fits in
    unread (is.numeral.1, is.numeral.0, omega (arith, value, fits))))

-- one part more on both sides changes nothing of a test
same_test : (a b c d : List ℕ) → (a ≡ b → c ≡ d) → (c ≡ d → a ≡ b) → bytes_eq c d ≡ bytes_eq a b
same_test a b c d there back = by (cases_Bool (bytes_eq a b))
  where
    by : (bytes_eq a b ≡ true) ⊎ (bytes_eq a b ≡ false) → bytes_eq c d ≡ bytes_eq a b
    by (inl is) = (bytes_eq-Decides c d).1 (there ((bytes_eq-Decides a b).0 is)) ∙ sym is
    by (inr is) = false_from_ne_true (bytes_eq c d) (λ told. false≢true (sym is ∙ (bytes_eq-Decides a b).1 (back ((bytes_eq-Decides c d).0 told)))) ∙ sym is

with_test : (name : ℕ → List ℕ) (digits text : List ℕ) → bytes_eq (name (digits_value 10 digits)) text ≡ bytes_eq (six_digits (digits_value 10 digits)) digits
    → named_number name digits text ≡ named_number six_digits digits digits
with_test name digits text same = ap (λ test. cond (nat_lt (digits_value 10 digits) (2 ^ 64) && test) (Some (digits_value 10 digits)) None) same

-- a number before an ending
pub before_ending : (ending text digits : List ℕ) → digits ≡ take (length text - length ending) text → text ≡ digits ++ ending
    → named_number six_digits digits digits ≡ number_with_ending (length ending) (λ n. six_digits n ++ ending) text
before_ending ending text digits front is =
    let n = digits_value 10 digits in
    let test : bytes_eq (six_digits n ++ ending) text ≡ bytes_eq (six_digits n) digits =
    same_test (six_digits n) digits (six_digits n ++ ending) text (λ same. ap (λ ds. ds ++ ending) same ∙ sym is) (λ same. append_cancel_right (six_digits n) digits ending (same ∙ is)) in
    sym (with_test (λ n. six_digits n ++ ending) digits text test) ∙ ap (λ digits. named_number (λ n. six_digits n ++ ending) digits text) front

pub other_ending : (ending text : List ℕ) → drop (length text - length ending) text ≢ ending → number_with_ending (length ending) (λ n. six_digits n ++ ending) text ≡ None
other_ending ending text other =
    no_number (λ n. six_digits n ++ ending) (take (length text - length ending) text) text (λ m fits same.
    let front : length (six_digits m) ≡ length text - length ending = omega (arith, ap length same, length-append (six_digits m) ending) in
    other (ap (drop (length text - length ending)) (sym same) ∙ drop_at (six_digits m) ending (length text - length ending) front))

-- a number after what a manifest's name begins with
abbrev manifest_prefix : List ℕ
manifest_prefix = codes "MANIFEST-"

pub after_manifest : (text digits : List ℕ) → digits ≡ drop 9 text → text ≡ manifest_prefix ++ digits → named_number six_digits digits digits ≡ manifest_number text
after_manifest text digits back is =
    let n = digits_value 10 digits in
    let test : bytes_eq (manifest_name n) text ≡ bytes_eq (six_digits n) digits =
    same_test (six_digits n) digits (manifest_name n) text (λ same. ap (λ ds. manifest_prefix ++ ds) same ∙ sym is) (λ same. append_cancel_left manifest_prefix (six_digits n) digits (same ∙ is)) in
    sym (with_test manifest_name digits text test) ∙ ap (λ digits. named_number manifest_name digits text) back

pub no_manifest : (text : List ℕ) → take 9 text ≢ manifest_prefix → manifest_number text ≡ None
no_manifest text other =
    no_number manifest_name (drop 9 text) text (λ m fits same. other (ap (take 9) (sym same) ∙ take_at manifest_prefix (six_digits m) 9 refl))
