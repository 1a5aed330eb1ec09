-- What a reading gives is what its bytes spell.
use Rattle.std.specs.Prelude.{nat_lt, nat_le, find, Some}
use Rattle.std.proofs.Common.{◌≡◌, ℕ, suc, ◌+◌, ◌^◌, ◌<◌, ◌≤◌, Bool, true, false, cond, List, [], ◌∷◌, ◌++◌, length, take, drop, Result, Ok, Err, refl, sym, ◌∙◌, add-one, ap, subst, arith, inl, inr, append_assoc}
use Rattle.std.specs.List.{AllByRecursion}
use Rattle.std.proofs.lemmas.Bool.{lt-ltb, ltb-true, le-ltb, ltb-false, le-leb, lt-leb, cases_lt}
use Rattle.std.proofs.lemmas.List.{take-append-drop, length-take-le, length-append}
use Rattle.std.proofs.lemmas.List.Sums.{take_while-cons}
use Rattle.std.proofs.Math.Seq.{take-append_seam, drop-append_seam}
use Rattle.rk_bytes.specs.Model.Numbers.{AreBytes, ◌>>=◌, part_of, high_count, groups_value, IsVarint, IsVarint32, IsVarint64, IsPrefixed, varint_at, varint32_at, varint64_at, prefixed_at}
use Rattle.rk_bytes.specs.Model.BlockEntries.{with_fault}

-- where a reading of two steps gives a value, both do
pub both_steps : {A B F C : Type 0} (r : Result A F) (f : A → Result B F) (b : B) → (r >>= f) ≡ Ok b → ((a : A) → r ≡ Ok a → f a ≡ Ok b → C) → C
both_steps (Ok a) f b e so = so a refl e
both_steps (Err fault) f b e so = absurd cc

-- where the first step gives a value, the second goes on from it
pub first_step : {A B F : Type 0} (r : Result A F) (f : A → Result B F) (a : A) → r ≡ Ok a → (r >>= f) ≡ f a
first_step r f a e = ap (λ r. r >>= f) e

pub with_fault_ok : {A F G : Type 0} (word : F → G) (r : Result A F) (a : A) → with_fault word r ≡ Ok a → r ≡ Ok a
with_fault_ok word (Ok x) a e = cc
with_fault_ok word (Err fault) a e = absurd cc

-- a test that has passed
pub passed : {A F : Type 0} (b : Bool) (fault : F) (r : Result A F) (a : A) → cond b (Err fault) r ≡ Ok a → (b ≡ false) × (r ≡ Ok a)
passed true fault r a e = absurd cc
passed false fault r a e = (refl, e)

pub taken : {A F : Type 0} (b : Bool) (fault : F) (x a : A) → cond b (Ok x) (Err fault) ≡ Ok a → (b ≡ true) × (x ≡ a)
taken true fault x a e = (refl, cc)
taken false fault x a e = absurd cc

-- what is found passes the test
pub found_passes : {A : Type 0} (test : A → Bool) (items : List A) (item : A) → find test items ≡ Some item → test item ≡ true
found_passes test [] item e = absurd cc
found_passes {A} test (first ∷ items) item e = by (test first) refl e (found_passes test items item)
  where
    by : (told : Bool) → test first ≡ told → cond told (Some first) (find test items) ≡ Some item → (find test items ≡ Some item → test item ≡ true) → test item ≡ true
    by true told e later = let same : first ≡ item = cc in ap test (sym same) ∙ told
    by false told e later = later e

-- numbers that are bytes
pub rest_of_bytes : (part rest : List ℕ) → AreBytes (part ++ rest) → AreBytes rest
rest_of_bytes [] rest are = are
rest_of_bytes (b ∷ part) rest are = rest_of_bytes part rest are.1

-- what follows a part of bytes is bytes
pub bytes_after : (bytes part rest : List ℕ) → AreBytes bytes → bytes ≡ part ++ rest → AreBytes rest
bytes_after bytes part rest are e = rest_of_bytes part rest (subst (λ bytes. AreBytes bytes) e are)

pub front_of_bytes : (part rest : List ℕ) → AreBytes (part ++ rest) → AreBytes part
front_of_bytes [] rest are = tt
front_of_bytes (b ∷ part) rest are = (are.0, front_of_bytes part rest are.1)

pub bytes_before : (bytes part rest : List ℕ) → AreBytes bytes → bytes ≡ part ++ rest → AreBytes part
bytes_before bytes part rest are e = front_of_bytes part rest (subst (λ bytes. AreBytes bytes) e are)

pub part_of_ok : (n : ℕ) (bytes : List ℕ) (r : List ℕ × List ℕ) → part_of n bytes ≡ Ok r → (bytes ≡ r.0 ++ r.1) × (length r.0 ≡ n)
part_of_ok n bytes r e =
    let test = passed (nat_lt (length bytes) n) _ _ r e in
    let enough : n ≤ length bytes = ltb-false (length bytes) n test.0 in
    let same : (take n bytes, drop n bytes) ≡ r = cc in
    subst (λ (r : List ℕ × List ℕ). (bytes ≡ r.0 ++ r.1) × (length r.0 ≡ n)) same (sym (take-append-drop n bytes), length-take-le n bytes enough)

pub part_of-append : (part rest : List ℕ) → part_of (length part) (part ++ rest) ≡ Ok (part, rest)
part_of-append part rest =
    let fits : length part ≤ length (part ++ rest) = omega (arith, length-append part rest) in
    rw (le-ltb (length (part ++ rest)) (length part) fits, take-append_seam, drop-append_seam)

pub part_of-within : (n : ℕ) (bytes : List ℕ) → n ≤ length bytes → part_of n bytes ≡ Ok (take n bytes, drop n bytes)
part_of-within n bytes h = rw (le-ltb (length bytes) n h)

high_more : (b : ℕ) (bytes : List ℕ) → 128 ≤ b → high_count (b ∷ bytes) ≡ suc (high_count bytes)
high_more b bytes h = rw (take_while-cons (λ b. nat_le 128 b) b bytes, le-leb 128 b h)

high_none : (b : ℕ) (bytes : List ℕ) → b < 128 → high_count (b ∷ bytes) ≡ 0
high_none b bytes h = rw (take_while-cons (λ b. nat_le 128 b) b bytes, lt-leb 128 b h)

-- a group before a varint
pub one_more_group : (b : ℕ) (bytes : List ℕ) → 128 ≤ b → b < 256 → IsVarint bytes → IsVarint (b ∷ bytes)
one_more_group b [] high fits groups = absurd groups
one_more_group b (next ∷ bytes) high fits groups = (high, fits, groups)

-- the bytes up to the first one without its top bit
varint_front : (bytes : List ℕ) → AllByRecursion (λ b. b < 256) bytes → suc (high_count bytes) ≤ length bytes → IsVarint (take (suc (high_count bytes)) bytes)
varint_front [] are h = absurd (omega arith)
varint_front (b ∷ bytes) are h =
    elim (cases_lt b 128) [
      | inl low ↦ rw (high_none b bytes low) low
      | inr high ↦
          let enough : suc (high_count bytes) ≤ length bytes = omega (arith, high_more b bytes high) in
          rw (high_more b bytes high) (one_more_group b _ high are.0 (varint_front bytes are.1 enough))
    ]

high_count-varint : (part rest : List ℕ) → IsVarint part → suc (high_count (part ++ rest)) ≡ length part
high_count-varint [] rest groups = absurd groups
high_count-varint (b ∷ []) rest groups = rw (high_none b rest groups)
high_count-varint (b ∷ next ∷ bytes) rest groups = rw (high_more b ((next ∷ bytes) ++ rest) groups.0) (ap suc (high_count-varint (next ∷ bytes) rest groups.2))

pub varint_len : (part : List ℕ) → IsVarint part → 1 ≤ length part
varint_len [] groups = absurd groups
varint_len (b ∷ part) groups = omega arith

-- A varint of at most so many bytes and bits.
record SpellsVarint (most bits : ℕ) (part : List ℕ) (n : ℕ) : Type 0 where
  groups : IsVarint part
  short : length part ≤ most
  fits : n < 2 ^ bits
  value : n ≡ groups_value part

varint_at_ok : (most bits : ℕ) (bytes : List ℕ) (r : ℕ × List ℕ) → AllByRecursion (λ b. b < 256) bytes → varint_at most bits bytes ≡ Ok r → (part : List ℕ) × (bytes ≡ part ++ r.1) × SpellsVarint most bits part r.0
varint_at_ok most bits bytes r are e =
    let len = high_count bytes + 1 in
    let short = passed (nat_lt most len) _ _ r e in
    let whole = passed (nat_lt (length bytes) len) _ _ r short.1 in
    let fitting = taken (nat_lt (groups_value (take len bytes)) (2 ^ bits)) _ _ r whole.1 in
    let enough : len ≤ length bytes = ltb-false (length bytes) len whole.0 in
    subst (λ (r : ℕ × List ℕ). (part : List ℕ) × (bytes ≡ part ++ r.1) × SpellsVarint most bits part r.0) fitting.1 (
      take len bytes,
      sym (take-append-drop len bytes),
      record {
        groups = rw add-one (varint_front bytes are (omega arith));
        short = rw (length-take-le len bytes enough) (ltb-false most len short.0);
        fits = ltb-true (groups_value (take len bytes)) (2 ^ bits) fitting.0;
        value = refl;
      },
    )

varint_at-append : (most bits : ℕ) (part rest : List ℕ) (n : ℕ) → SpellsVarint most bits part n → varint_at most bits (part ++ rest) ≡ Ok (n, rest)
varint_at-append most bits part rest n v =
    let len : high_count (part ++ rest) + 1 ≡ length part = add-one (high_count (part ++ rest)) ∙ high_count-varint part rest v.groups in
    let fits : length part ≤ length (part ++ rest) = omega (arith, length-append part rest) in
    let value : groups_value part < 2 ^ bits = subst (λ n. n < 2 ^ bits) v.value v.fits in
    rw (len, le-ltb most (length part) v.short, le-ltb (length (part ++ rest)) (length part) fits, take-append_seam, drop-append_seam, lt-ltb (groups_value part) (2 ^ bits) value, ← v.value)

pub varint32_ok : (bytes : List ℕ) (r : ℕ × List ℕ) → AreBytes bytes → varint32_at bytes ≡ Ok r → (part : List ℕ) × (bytes ≡ part ++ r.1) × IsVarint32 part r.0 × AreBytes r.1
varint32_ok bytes r are e =
    let (part, whole, v) = varint_at_ok 5 32 bytes r are e in
    (part, whole, record { groups = v.groups; short = v.short; fits = v.fits; value = v.value }, bytes_after bytes part r.1 are whole)

pub varint32-append : (part rest : List ℕ) (n : ℕ) → IsVarint32 part n → varint32_at (part ++ rest) ≡ Ok (n, rest)
varint32-append part rest n v = varint_at-append 5 32 part rest n (record { groups = v.groups; short = v.short; fits = v.fits; value = v.value })

pub varint64_ok : (bytes : List ℕ) (r : ℕ × List ℕ) → AreBytes bytes → varint64_at bytes ≡ Ok r → (part : List ℕ) × (bytes ≡ part ++ r.1) × IsVarint64 part r.0 × AreBytes r.1
varint64_ok bytes r are e =
    let (part, whole, v) = varint_at_ok 10 64 bytes r are e in
    (part, whole, record { groups = v.groups; short = v.short; fits = v.fits; value = v.value }, bytes_after bytes part r.1 are whole)

pub varint64-append : (part rest : List ℕ) (n : ℕ) → IsVarint64 part n → varint64_at (part ++ rest) ≡ Ok (n, rest)
varint64-append part rest n v = varint_at-append 10 64 part rest n (record { groups = v.groups; short = v.short; fits = v.fits; value = v.value })

pub prefixed_ok : (bytes : List ℕ) (r : List ℕ × List ℕ) → AreBytes bytes → prefixed_at bytes ≡ Ok r → (part : List ℕ) × (bytes ≡ part ++ r.1) × IsPrefixed part r.0 × AreBytes r.1
prefixed_ok bytes r are e =
    both_steps (varint32_at bytes) _ r e λ len len_read e1.
    let (len_bytes, w, is_len, are1) = varint32_ok bytes len are len_read in
    let (w1, same_len) = part_of_ok len.0 len.1 r e1 in
    let whole : bytes ≡ (len_bytes ++ r.0) ++ r.1 = w ∙ ap (λ x. len_bytes ++ x) w1 ∙ sym (append_assoc len_bytes r.0 r.1) in (
      len_bytes ++ r.0,
      whole,
      record { len_bytes = len_bytes; len = subst (λ n. IsVarint32 len_bytes n) (sym same_len) is_len; parts = refl },
      bytes_after bytes (len_bytes ++ r.0) r.1 are whole,
    )

pub prefixed-append : (part rest slice : List ℕ) → IsPrefixed part slice → prefixed_at (part ++ rest) ≡ Ok (slice, rest)
prefixed-append part rest slice p =
    let whole : part ++ rest ≡ p.len_bytes ++ (slice ++ rest) = ap (λ x. x ++ rest) p.parts ∙ append_assoc p.len_bytes slice rest in
    ap prefixed_at whole
    ∙ first_step (varint32_at (p.len_bytes ++ (slice ++ rest))) _ _ (varint32-append p.len_bytes (slice ++ rest) (length slice) p.len)
    ∙ part_of-append slice rest
