use Rattle.std.proofs.Common.{◌≡◌, ◌≢◌, ◌<◌, ◌≤◌, length, get_or, Ok, Err, Some, None, sym, subst, ◌∙◌, arith}
use Rattle.std.specs.Prelude.{Result, MatchResult}
use Rattle.std.specs.Result.{result_ok}
use Rattle.std.specs.Str.Parse.{ParsesUnsigned}
use Rattle.rk_names.proofs.SixDigits.{six_digits-utf8, no_plus_first}
use Rattle.rk_names.proofs.Named.{no_digits, parsed}
use Rattle.rk_names.proofs.number.read_number.Goals as goal
use Rattle.rk_names.proofs.number.read_number.Goals.{then-digits-lt-LEAST_DIGITS-via-then-digits-lt-LEAST_DIGITS, then-digits-lt-LEAST_DIGITS-via-else-digits-lt-LEAST_DIGITS+then-digits-eq43}
use Rattle.rk_names.proofs.number.read_number.Goals.{else-digits-gt-LEAST_DIGITS-via-then-digits-gt-LEAST_DIGITS+else-digits-eq48, else-digits-gt-LEAST_DIGITS-via-else-digits-gt-LEAST_DIGITS}

pub returns-then-digits-lt-LEAST_DIGITS : goal.returns-then-digits-lt-LEAST_DIGITS
returns-then-digits-lt-LEAST_DIGITS c =
    let ds = c.args.digits.now in
    sym (no_digits ds (λ is. elim c.then-digits-lt-LEAST_DIGITS.branch [
      | then-digits-lt-LEAST_DIGITS-via-then-digits-lt-LEAST_DIGITS w ↦ absurd (omega (arith, is.long, w.if-digits-lt-LEAST_DIGITS.true))
      | then-digits-lt-LEAST_DIGITS-via-else-digits-lt-LEAST_DIGITS+then-digits-eq43 w ↦ no_plus_first ds is w.if-digits-eq43.true
    ]))

pub returns-then-digits-eq48 : goal.returns-then-digits-eq48
returns-then-digits-eq48 c = sym (no_digits c.args.digits.now (λ is. is.first c.if-digits-gt-LEAST_DIGITS.true c.if-digits-eq48.true))

-- a result that is no value holds an error, and one that is holds it
error_of : {S E : Type 0} (P : S → Type 0) (Q : E → Type 0) (r : Result S E) → MatchResult r P Q → None ≡ result_ok r → (e : E) × Q e
error_of P Q (Ok x) told none = cc
error_of P Q (Err e) told none = (e, told)

value_of : {S E : Type 0} (P : S → Type 0) (Q : E → Type 0) (r : Result S E) (x : S) → MatchResult r P Q → Some x ≡ result_ok r → P x
value_of P Q (Ok y) x told some = let same : y ≡ x = cc in subst P same told
value_of P Q (Err e) x told some = cc

pub returns-in_err-digits : goal.returns-in_err-digits
returns-in_err-digits c =
    let fault = error_of _ _ c.from_utf8.result c.from_utf8.ensures.cases c.in_err-digits.ensures.value in
    c.from_residual.ensures ∙ sym (no_digits c.args.digits.now (λ is. fault.1.0 (six_digits-utf8 c.args.digits.now is)))

pub returns : goal.returns
returns c =
    let ds = c.args.digits.now in
    let long : 6 ≤ length ds = omega arith in
    let first : 6 < length ds → get_or ds 0 0 ≢ 48 = λ longer. elim c.else-digits-gt-LEAST_DIGITS.branch [
      | else-digits-gt-LEAST_DIGITS-via-then-digits-gt-LEAST_DIGITS+else-digits-eq48 w ↦ w.if-digits-eq48.false
      | else-digits-gt-LEAST_DIGITS-via-else-digits-gt-LEAST_DIGITS w ↦ absurd (omega (arith, longer, w.if-digits-gt-LEAST_DIGITS.false))
    ] in
    let same = value_of _ _ c.from_utf8.result c.in_ok-digits.digits c.from_utf8.ensures.cases c.in_ok-digits.ensures.value in
    c.ok-2.ensures.value ∙ parsed ds c.parse.result (subst (λ ds. ParsesUnsigned 64 10 ds c.parse.result) same.0 c.parse.ensures.value.0) long first c.if-digits-eq43.false
