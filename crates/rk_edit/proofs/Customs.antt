-- Custom fields are passed over one after another.
use Rattle.std.specs.Prelude.{◌==◌}
use Rattle.std.proofs.Common.{◌≡◌, ℕ, zero, suc, ◌-◌, ◌<◌, ◌≤◌, cond, List, [], ◌∷◌, length, Result, Ok, Err, refl, sym, ap, ◌∙◌, arith}
use Rattle.std.proofs.lemmas.Bool.{cond-true, cond-false, ne_eqb}
use Rattle.rk_bytes.specs.declared.model.edit.EditFault.{EditFault}
use Rattle.rk_bytes.specs.declared.model.edit.EditFault.TheVariants.{BadField}
use Rattle.rk_bytes.specs.Model.Numbers.{◌>>=◌, varint32_at, reads_or}
use Rattle.rk_bytes.specs.Model.VersionEdit.{after_custom, after_customs}
use Rattle.rk_bytes.specs.Reading.{Reading, IsFurther, rest_of}
use Rattle.rk_edit.proofs.Shorter.{custom_shorter, tag_shorter}

-- what follows one custom field's tag
abbrev pub after_tag : ℕ → ℕ → ℕ × List ℕ → Result (List ℕ) EditFault
after_tag n place tag = cond (tag.0 == 1) (Ok tag.1) (after_custom place tag.0 tag.1 >>= (λ rest. after_customs (n - 1) place rest))

customs_step : (n place : ℕ) (bytes : List ℕ) → length bytes ≤ n → after_customs n place bytes ≡ reads_or (BadField 103 place) (varint32_at bytes) >>= after_tag n place
unfolding after_customs
customs_step zero place [] fits = refl
customs_step zero place (b ∷ bytes) fits = absurd (omega arith)
customs_step (suc n) place bytes fits =
    let less : n ≡ suc n - 1 = omega arith in
    ap (λ m. reads_or (BadField 103 place) (varint32_at bytes) >>= (λ tag. cond (tag.0 == 1) (Ok tag.1) (after_custom place tag.0 tag.1 >>= (λ rest. after_customs m place rest)))) less

-- From one place the custom fields end where they do from another.
pub record Skips (place : ℕ) (start now : Reading) : Type 0 where
  pub further : IsFurther start now
  pub room : ℕ
  pub fits : length (rest_of now) ≤ room
  pub same : after_customs room place (rest_of now) ≡ after_customs (length (rest_of start)) place (rest_of start)

pub Skips-start : (place : ℕ) (start : Reading) → Skips place start start
Skips-start place start = record {
  further = record { same = refl; within = λ within. within };
  room = length (rest_of start);
  fits = omega arith;
  same = refl;
}

step : (place : ℕ) (start now : Reading) (s : Skips place start now) → after_customs (length (rest_of start)) place (rest_of start) ≡ reads_or (BadField 103 place) (varint32_at (rest_of now)) >>= after_tag s.room place
step place start now s = sym s.same ∙ customs_step s.room place (rest_of now) s.fits

-- a tag that doesn't read
pub Skips-bad_tag : (place : ℕ) (start now : Reading) (why : EditFault) → Skips place start now → ◌≡◌ {A = Result (ℕ × List ℕ) EditFault} (Err why) (reads_or (BadField 103 place) (varint32_at (rest_of now)))
    → ◌≡◌ {A = Result (List ℕ) EditFault} (Err why) (after_customs (length (rest_of start)) place (rest_of start))
Skips-bad_tag place start now why s is = ap (λ r. r >>= after_tag s.room place) is ∙ sym (step place start now s)

module _ (place : ℕ) (start now mid : Reading) (tag : ℕ) (s : Skips place start now)
    (is : ◌≡◌ {A = Result (ℕ × List ℕ) EditFault} (Ok (tag, rest_of mid)) (reads_or (BadField 103 place) (varint32_at (rest_of now)))) where
  read_tag : after_customs (length (rest_of start)) place (rest_of start) ≡ after_tag s.room place (tag, rest_of mid)
  read_tag = step place start now s ∙ ap (λ r. r >>= after_tag s.room place) (sym is)

  pub Skips-end : tag ≡ 1 → ◌≡◌ {A = Result (List ℕ) EditFault} (Ok (rest_of mid)) (after_customs (length (rest_of start)) place (rest_of start))
  Skips-end ends = sym (read_tag ∙ cond-true (tag == 1) _ _ (ap (λ tag. tag == 1) ends))

  next_custom : (tag ≡ 1 → ⊥) → after_customs (length (rest_of start)) place (rest_of start) ≡ after_custom place tag (rest_of mid) >>= (λ rest. after_customs (s.room - 1) place rest)
  next_custom more = read_tag ∙ cond-false (tag == 1) _ _ (ne_eqb tag 1 more)

  pub Skips-bad_custom : (why : EditFault) → (tag ≡ 1 → ⊥) → ◌≡◌ {A = Result (List ℕ) EditFault} (Err why) (after_custom place tag (rest_of mid))
      → ◌≡◌ {A = Result (List ℕ) EditFault} (Err why) (after_customs (length (rest_of start)) place (rest_of start))
  Skips-bad_custom why more bad = ap (λ r. r >>= (λ rest. after_customs (s.room - 1) place rest)) bad ∙ sym (next_custom more)

  -- a custom field that is passed over
  pub Skips-more : (then : Reading) → (tag ≡ 1 → ⊥) → ◌≡◌ {A = Result (List ℕ) EditFault} (Ok (rest_of then)) (after_custom place tag (rest_of mid)) → IsFurther now mid → IsFurther mid then
      → Skips place start then × (length (rest_of then) < length (rest_of now))
  Skips-more then more passes first second =
      let shorter = tag_shorter (BadField 103 place) (rest_of now) (tag, rest_of mid) (sym is) in
      let short = custom_shorter place tag (rest_of mid) (rest_of then) (sym passes) in
      let further : IsFurther start then = record {
        same = second.same ∙ first.same ∙ s.further.same;
        within = λ within. second.within (first.within (s.further.within within));
      } in
      let fits = s.fits in (
        record {
          further = further;
          room = s.room - 1;
          fits = omega arith;
          same = ap (λ r. r >>= (λ rest. after_customs (s.room - 1) place rest)) passes ∙ sym (next_custom more);
        },
        omega arith,
      )
