-- The synced sizes of a tracked log are read one after another.
use Rattle.std.specs.Prelude.{◌==◌, not}
use Rattle.std.specs.List.{last_or}
use Rattle.std.proofs.Common.{◌≡◌, ℕ, zero, suc, ◌-◌, ◌<◌, ◌≤◌, cond, List, [], ◌∷◌, length, Option, Some, None, Ok, Err, refl, sym, ap, ◌∙◌, arith}
use Rattle.std.proofs.lemmas.Bool.{cond-true, cond-false, ne_eqb, eq-eqb}
use Rattle.rk_bytes.specs.declared.model.number.NumFault.{NumFault}
use Rattle.rk_bytes.specs.declared.model.number.NumFault.TheVariants.{TooLarge}
use Rattle.rk_bytes.specs.Model.Numbers.{Read, ◌>>=◌, varint32_at, varint64_at}
use Rattle.rk_bytes.specs.Model.VersionEdit.{synced_sizes_at}
use Rattle.rk_bytes.specs.Reading.{Reading, IsFurther, rest_of}
use Rattle.rk_edit.specs.Read.{synced_at}
use Rattle.rk_bytes.proofs.Callers.Leaving.{varint_shorter}

-- the size that is stated last, or this one where none is
abbrev pub last_size : Option ℕ → Read (List ℕ) → Read (Option ℕ)
last_size synced (Ok sizes) = Ok (last_or synced sizes.0, sizes.1)
last_size synced (Err fault) = Err fault

-- what follows a tag
abbrev pub after_tag : ℕ → ℕ × List ℕ → Read (List ℕ)
after_tag n tag = cond (tag.0 == 1) (Ok ([], tag.1)) (cond (not (tag.0 == 2)) (Err TooLarge) (varint64_at tag.1 >>= (λ size. synced_sizes_at (n - 1) size.1 >>= (λ more. Ok (size.0 ∷ more.0, more.1)))))

sizes_step : (n : ℕ) (bytes : List ℕ) → length bytes ≤ n → synced_sizes_at n bytes ≡ varint32_at bytes >>= after_tag n
unfolding synced_sizes_at
sizes_step zero [] fits = refl
sizes_step zero (b ∷ bytes) fits = absurd (omega arith)
sizes_step (suc n) bytes fits =
    let less : n ≡ suc n - 1 = omega arith in
    ap (λ m. varint32_at bytes >>= (λ tag. cond (tag.0 == 1) (Ok ([], tag.1)) (cond (not (tag.0 == 2)) (Err TooLarge) (varint64_at tag.1 >>= (λ size. synced_sizes_at m size.1 >>= (λ more. Ok (size.0 ∷ more.0, more.1))))))) less

synced_is : (bytes : List ℕ) → synced_at bytes ≡ last_size None (synced_sizes_at (length bytes) bytes)
synced_is bytes = by (synced_sizes_at (length bytes) bytes)
  where
    by : (sizes : Read (List ℕ)) → sizes >>= (λ sizes. Ok (last_or None sizes.0, sizes.1)) ≡ last_size None sizes
    by (Ok sizes) = refl
    by (Err fault) = refl

-- From one place the synced size is read as it is from another.
pub record Tracks (start now : Reading) (synced : Option ℕ) : Type 0 where
  pub further : IsFurther start now
  pub room : ℕ
  pub fits : length (rest_of now) ≤ room
  pub same : last_size synced (synced_sizes_at room (rest_of now)) ≡ synced_at (rest_of start)

pub Tracks-start : (start : Reading) → Tracks start start None
Tracks-start start = record {
  further = record { same = refl; within = λ within. within };
  room = length (rest_of start);
  fits = omega arith;
  same = sym (synced_is (rest_of start));
}

step : (start now : Reading) (synced : Option ℕ) (t : Tracks start now synced) → synced_at (rest_of start) ≡ last_size synced (varint32_at (rest_of now) >>= after_tag t.room)
step start now synced t = sym t.same ∙ ap (last_size synced) (sizes_step t.room (rest_of now) t.fits)

-- a tag that doesn't read
pub Tracks-bad_tag : (start now : Reading) (synced : Option ℕ) (why : NumFault) → Tracks start now synced → ◌≡◌ {A = Read ℕ} (Err why) (varint32_at (rest_of now)) → ◌≡◌ {A = Read (Option ℕ)} (Err why) (synced_at (rest_of start))
Tracks-bad_tag start now synced why t is = ap (λ r. last_size synced (r >>= after_tag t.room)) is ∙ sym (step start now synced t)

module _ (start now mid : Reading) (synced : Option ℕ) (tag : ℕ) (t : Tracks start now synced) (is : ◌≡◌ {A = Read ℕ} (Ok (tag, rest_of mid)) (varint32_at (rest_of now))) where
  read_tag : synced_at (rest_of start) ≡ last_size synced (after_tag t.room (tag, rest_of mid))
  read_tag = step start now synced t ∙ ap (λ r. last_size synced (r >>= after_tag t.room)) (sym is)

  pub Tracks-end : tag ≡ 1 → ◌≡◌ {A = Read (Option ℕ)} (Ok (synced, rest_of mid)) (synced_at (rest_of start))
  Tracks-end ends = sym (read_tag ∙ ap (last_size synced) (cond-true (tag == 1) _ _ (eq-eqb tag 1 ends)))

  pub Tracks-other_tag : (tag ≡ 1 → ⊥) → (tag ≡ 2 → ⊥) → ◌≡◌ {A = Read (Option ℕ)} (Err TooLarge) (synced_at (rest_of start))
  Tracks-other_tag not_end not_size =
      sym (read_tag ∙ ap (last_size synced) (cond-false (tag == 1) _ _ (ne_eqb tag 1 not_end) ∙ cond-true (not (tag == 2)) _ _ (ap not (ne_eqb tag 2 not_size))))

  next_size : tag ≡ 2 → synced_at (rest_of start) ≡ last_size synced (varint64_at (rest_of mid) >>= (λ size. synced_sizes_at (t.room - 1) size.1 >>= (λ more. Ok (size.0 ∷ more.0, more.1))))
  next_size is_size =
      read_tag ∙ ap (last_size synced) (cond-false (tag == 1) _ _ (ap (λ tag. tag == 1) is_size) ∙ cond-false (not (tag == 2)) _ _ (ap (λ tag. not (tag == 2)) is_size))

  pub Tracks-bad_size : (why : NumFault) → tag ≡ 2 → ◌≡◌ {A = Read ℕ} (Err why) (varint64_at (rest_of mid)) → ◌≡◌ {A = Read (Option ℕ)} (Err why) (synced_at (rest_of start))
  Tracks-bad_size why is_size bad = ap (λ r. last_size synced (r >>= (λ size. synced_sizes_at (t.room - 1) size.1 >>= (λ more. Ok (size.0 ∷ more.0, more.1))))) bad ∙ sym (next_size is_size)

  last_more : (size : ℕ) (r : Read (List ℕ)) → last_size synced (r >>= (λ more. Ok (size ∷ more.0, more.1))) ≡ last_size (Some size) r
  last_more size (Ok more) = refl
  last_more size (Err why) = refl

  -- one more size
  pub Tracks-more : (then : Reading) (size : ℕ) → tag ≡ 2 → ◌≡◌ {A = Read ℕ} (Ok (size, rest_of then)) (varint64_at (rest_of mid)) → IsFurther now mid → IsFurther mid then
      → Tracks start then (Some size) × (length (rest_of then) < length (rest_of now))
  Tracks-more then size is_size reads first second =
      let shorter = varint_shorter 5 32 (rest_of now) (tag, rest_of mid) (sym is) in
      let short = varint_shorter 10 64 (rest_of mid) (size, rest_of then) (sym reads) in
      let fits = t.fits in (
        record {
          further = record { same = second.same ∙ first.same ∙ t.further.same; within = λ within. second.within (first.within (t.further.within within)) };
          room = t.room - 1;
          fits = omega arith;
          same = sym (next_size is_size ∙ ap (λ r. last_size synced (r >>= (λ size. synced_sizes_at (t.room - 1) size.1 >>= (λ more. Ok (size.0 ∷ more.0, more.1))))) (sym reads) ∙ last_more size (synced_sizes_at (t.room - 1) (rest_of then)));
        },
        omega arith,
      )
