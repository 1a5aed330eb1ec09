use Rattle.std.proofs.Common.{◌≡◌, ℕ, ◌+◌, ◌≤◌, List, length, get_or, Some, None, Err, ap, subst, ◌∙◌, refl, arith}
use Rattle.std.specs.Prelude.{◌==◌, position, ok_or}
use Rattle.std.specs.List.{position_or_len}
use Rattle.std.proofs.lemmas.Bool.{lt-ltb, le-ltb, cond-true, cond-false, false_from_ne_true}
use Rattle.std.proofs.lemmas.List.Sums.{position_or_len_is}
use Rattle.std.proofs.lemmas.Result.{err_from_is_err_and}
use Rattle.memchr.specs.Find.{IsFirstByte, is_byte}
use Rattle.rk_bytes.specs.Model.FileNames.{current_manifest}
use Rattle.rk_bytes.specs.declared.model.name.CurrentFault.TheVariants.{NoNewline, NotManifest}
use Rattle.rk_names.proofs.current.read_current.Goals as goal

-- the first place of a byte
first_place : (b : ℕ) (bytes : List ℕ) (at : ℕ) → IsFirstByte (is_byte b) bytes (Some at) → position (λ x. x == b) bytes ≡ Some at
first_place b bytes at found =
    let place : position_or_len (λ x. x == b) bytes ≡ at =
    position_or_len_is (λ x. x == b) bytes at 0 (omega (arith, found.0.high)) (λ k before. false_from_ne_true (get_or bytes k 0 == b) (found.0.before k (let low : 0 ≤ k = omega arith in low) before)) (λ _. found.1) in
    cond-true _ _ _ (lt-ltb (position_or_len (λ x. x == b) bytes) (length bytes) (omega (arith, place, found.0.high))) ∙ ap Some place

no_place : (b : ℕ) (bytes : List ℕ) → IsFirstByte (is_byte b) bytes None → position (λ x. x == b) bytes ≡ None
no_place b bytes none =
    let place : position_or_len (λ x. x == b) bytes ≡ length bytes =
    position_or_len_is (λ x. x == b) bytes (length bytes) 0 (omega arith) (λ k before. false_from_ne_true (get_or bytes k 0 == b) (none k (let low : 0 ≤ k = omega arith in low) before)) (λ within. absurd (omega (arith, within))) in
    cond-false _ _ _ (le-ltb (position_or_len (λ x. x == b) bytes) (length bytes) (omega (arith, place)))

pub returns-in_err-newline : goal.returns-in_err-newline
unfolding current_manifest
returns-in_err-newline c =
    let none = c.in_err-newline.ensures.ok_part in
    let place = no_place 10 c.args.bytes.now (subst (IsFirstByte (is_byte 10) c.args.bytes.now) none c.memchr.ensures) in
    let told = err_from_is_err_and c.from_residual.result c.from_residual.ensures.1 in
    rw place (told.1 ∙ ap Err told.2 ∙ c.in_err-newline.ensures.value ∙ ap (λ found. ok_or found NoNewline) none)

pub returns-then-newline-bytes : goal.returns-then-newline-bytes
unfolding current_manifest
returns-then-newline-bytes c =
    let place = first_place 10 c.args.bytes.now c.in_ok-newline.newline (subst (IsFirstByte (is_byte 10) c.args.bytes.now) c.in_ok-newline.ensures.ok_part c.memchr.ensures) in
    let more = lt-ltb (c.in_ok-newline.newline + 1) (length c.args.bytes.now) c.if-newline-bytes.true in
    rw (place, more) refl

pub returns : goal.returns
unfolding current_manifest
returns c =
    let place = first_place 10 c.args.bytes.now c.in_ok-newline.newline (subst (IsFirstByte (is_byte 10) c.args.bytes.now) c.in_ok-newline.ensures.ok_part c.memchr.ensures) in
    let last = le-ltb (c.in_ok-newline.newline + 1) (length c.args.bytes.now) c.if-newline-bytes.false in
    rw (place, last) (c.ok_or-2.ensures.value ∙ ap (λ number. ok_or number NotManifest) c.manifest_number.ensures)
