-- The marks of a block and of the blocks behind it.
use Rattle.std.proofs.Common.{◌≡◌, ℕ, zero, suc, ◌+◌, ◌-◌, ◌/◌, ◌<◌, ◌≤◌, Bool, true, false, cond, not, List, [], ◌∷◌, ◌++◌, length, take, drop, Option, Some, None, refl, sym, ap, subst, ◌∙◌, inl, inr, arith, length-drop, length-take, drop-drop, add-zero}
use Rattle.std.specs.Prelude.{nat_lt, ◌==◌}
use Rattle.std.proofs.lemmas.Bool.{cases_lt, ltb-false}
use Rattle.rk_bytes.specs.Model.Checksums.{pieces}
use Rattle.rk_bytes.specs.Model.LogMarks.{Mark, LogFile, Found, nothing, whole_rest, fragment, type_of, fragment_len, is_of_another_life, is_zero_header, has_right_sum, is_unsupported, fragment_found, found, marks_from, block_len, block_marks, blocks_marks, file_blocks, block_type, first_type}
use Rattle.rk_log.specs.Left.{rest_marks}
use Rattle.rk_log.proofs.FoundLemmas.{fragment_long}

pub block_len-value : block_len ≡ 32768
unfolding block_len
block_len-value = refl

-- a fragment that is found is a header at least, and stands within the bytes
pub Within : List ℕ → Found → Type 0
Within bytes nothing = Unit {0}
Within bytes (whole_rest mark) = Unit {0}
Within bytes (fragment mark len) = (7 ≤ len) × (len ≤ length bytes)

Within-cond : (bytes : List ℕ) (test : Bool) (this other : Found) → (test ≡ true → Within bytes this) → (test ≡ false → Within bytes other) → Within bytes (cond test this other)
Within-cond bytes true this other whole rest = whole refl
Within-cond bytes false this other whole rest = rest refl

Within-fragment_found : (file : LogFile) (place : ℕ) (bytes : List ℕ) → fragment_len bytes ≤ length bytes → Within bytes (fragment_found file place bytes)
unfolding fragment_found Within
Within-fragment_found file place bytes fits =
    Within-cond bytes (is_of_another_life file bytes) _ _ (λ _. tt) (λ _.
    Within-cond bytes (is_zero_header bytes) _ _ (λ _. tt) (λ _.
    Within-cond bytes (not (has_right_sum bytes)) _ _ (λ _. tt) (λ _.
    Within-cond bytes (is_unsupported (type_of bytes)) _ _ (λ _. tt) (λ _. (fragment_long bytes, fits)))))

pub Within-found : (file : LogFile) (is_full : Bool) (place : ℕ) (bytes : List ℕ) → Within bytes (found file is_full place bytes)
unfolding found Within
Within-found file is_full place bytes =
    Within-cond bytes (nat_lt (length bytes) 7) _ _ (λ _. Within-cond bytes is_full _ _ (λ _. tt) (λ _. tt)) (λ _.
    Within-cond bytes (nat_lt (length bytes) (fragment_len bytes)) _ _ (λ _. tt)
    (λ fits. Within-fragment_found file place bytes (ltb-false _ _ fits)))

-- the marks of bytes, by what is found at their front
unfoldable pub marks_by : LogFile → Bool → ℕ → ℕ → List ℕ → Found → List Mark
marks_by file is_full n place bytes nothing = []
marks_by file is_full n place bytes (whole_rest mark) = mark ∷ []
marks_by file is_full n place bytes (fragment mark len) = mark ∷ marks_from file is_full n (place + len) (drop len bytes)

marks_from-found : (file : LogFile) (is_full : Bool) (n place b : ℕ) (bytes : List ℕ)
    → marks_from file is_full (suc n) place (b ∷ bytes) ≡ marks_by file is_full n place (b ∷ bytes) (found file is_full place (b ∷ bytes))
unfolding marks_from marks_by
marks_from-found file is_full n place b bytes =
    elim (found file is_full place (b ∷ bytes)) as (λ one. (elim one [
      | nothing ↦ []
      | whole_rest mark ↦ mark ∷ []
      | fragment mark len ↦ mark ∷ marks_from file is_full n (place + len) (drop len (b ∷ bytes))
    ]) ≡ marks_by file is_full n place (b ∷ bytes) one) [ nothing ↦ refl | whole_rest mark ↦ refl | fragment mark len ↦ refl ]

pub marks_from-none : (file : LogFile) (is_full : Bool) (n place : ℕ) (bytes : List ℕ) → length bytes ≡ 0 → marks_from file is_full n place bytes ≡ []
unfolding marks_from
marks_from-none file is_full zero place [] none = refl
marks_from-none file is_full (suc n) place [] none = refl
marks_from-none file is_full n place (b ∷ bytes) none = absurd (omega arith)

-- how great the bound is doesn't matter, as long as the bytes aren't more
same_marks_by : (file : LogFile) (is_full : Bool) (n m place : ℕ) (bytes : List ℕ) (one : Found) → Within bytes one
    → ((mark : Mark) (len : ℕ) → 7 ≤ len → marks_from file is_full n (place + len) (drop len bytes) ≡ marks_from file is_full m (place + len) (drop len bytes))
    → marks_by file is_full n place bytes one ≡ marks_by file is_full m place bytes one
unfolding marks_by Within
same_marks_by file is_full n m place bytes nothing within later = refl
same_marks_by file is_full n m place bytes (whole_rest mark) within later = refl
same_marks_by file is_full n m place bytes (fragment mark len) within later = ap (λ marks. mark ∷ marks) (later mark len within.0)

pub marks_from-bound : (file : LogFile) (is_full : Bool) (n m place : ℕ) (bytes : List ℕ) → length bytes ≤ n → length bytes ≤ m → marks_from file is_full n place bytes ≡ marks_from file is_full m place bytes
marks_from-bound file is_full n m place [] enough also = marks_from-none file is_full n place [] refl ∙ sym (marks_from-none file is_full m place [] refl)
marks_from-bound file is_full zero m place (b ∷ bytes) enough also = absurd (omega arith)
marks_from-bound file is_full (suc n) zero place (b ∷ bytes) enough also = absurd (omega arith)
marks_from-bound file is_full (suc n) (suc m) place (b ∷ bytes) enough also =
    marks_from-found file is_full n place b bytes
    ∙ same_marks_by file is_full n m place (b ∷ bytes) (found file is_full place (b ∷ bytes)) (Within-found file is_full place (b ∷ bytes))
    (λ mark len long. marks_from-bound file is_full n m (place + len) (drop len (b ∷ bytes))
    (omega (arith, length-drop len (b ∷ bytes))) (omega (arith, length-drop len (b ∷ bytes))))
    ∙ sym (marks_from-found file is_full m place b bytes)

pub marks_at : (file : LogFile) (is_full : Bool) (place : ℕ) (bytes : List ℕ) (one : Found) → 0 < length bytes → found file is_full place bytes ≡ one
    → marks_from file is_full (length bytes) place bytes ≡ marks_by file is_full (length bytes - 1) place bytes one
marks_at file is_full place [] one some is = absurd (omega arith)
marks_at file is_full place (b ∷ bytes) one some is =
    marks_from-bound file is_full (length (b ∷ bytes)) (suc (length bytes)) place (b ∷ bytes) (omega arith) (omega arith)
    ∙ (marks_from-found file is_full (length bytes) place b bytes
    ∙ (λ i. marks_by file is_full (let less : length bytes ≡ length (b ∷ bytes) - 1 = omega arith in less i) place (b ∷ bytes) (is i)))

pub rest_marks-none : (file : LogFile) (before at : ℕ) (block : List ℕ) → length (drop at block) ≡ 0 → rest_marks file before at block ≡ []
unfolding rest_marks
rest_marks-none file before at block none = marks_from-none file _ _ _ (drop at block) none

pub rest_marks-nothing : (file : LogFile) (before at : ℕ) (block : List ℕ) → 0 < length (drop at block) → found file (length block == block_len) (before + at) (drop at block) ≡ nothing
    → rest_marks file before at block ≡ []
unfolding rest_marks marks_by
rest_marks-nothing file before at block some is = marks_at file _ (before + at) (drop at block) nothing some is

pub rest_marks-whole : (file : LogFile) (before at : ℕ) (block : List ℕ) (mark : Mark) → 0 < length (drop at block)
    → found file (length block == block_len) (before + at) (drop at block) ≡ whole_rest mark
    → (at + length (drop at block) ≤ length block) × (rest_marks file before at block ≡ mark ∷ rest_marks file before (at + length (drop at block)) block)
unfolding rest_marks marks_by
rest_marks-whole file before at block mark some is =
    let left = length-drop at block in
    let behind = length-drop (at + length (drop at block)) block in (
      omega arith,
      marks_at file _ (before + at) (drop at block) (whole_rest mark) some is
          ∙ ap (λ marks. mark ∷ marks) (sym (rest_marks-none file before (at + length (drop at block)) block (omega arith))),
    )

pub rest_marks-fragment : (file : LogFile) (before at : ℕ) (block : List ℕ) (mark : Mark) (len : ℕ) → 0 < length (drop at block)
    → found file (length block == block_len) (before + at) (drop at block) ≡ fragment mark len
    → (0 < len) × (at + len ≤ length block) × (rest_marks file before at block ≡ mark ∷ rest_marks file before (at + len) block)
unfolding rest_marks marks_by Within
rest_marks-fragment file before at block mark len some is =
    let is_full = length block == block_len in
    let left = length-drop at block in
    let behind = length-drop len (drop at block) in
    let within : (7 ≤ len) × (len ≤ length (drop at block)) = subst (Within (drop at block)) is (Within-found file is_full (before + at) (drop at block)) in
    let same : before + at + len ≡ before + (at + len) = omega arith in
    let further : drop len (drop at block) ≡ drop (at + len) block = drop-drop len at block in (
      omega arith,
      omega arith,
      marks_at file is_full (before + at) (drop at block) (fragment mark len) some is
          ∙ ap (λ marks. mark ∷ marks) (marks_from-bound file is_full (length (drop at block) - 1) (length (drop len (drop at block))) (before + at + len) (drop len (drop at block)) (omega arith) (omega arith)
          ∙ (λ i. marks_from file is_full (length (further i)) (same i) (further i))),
    )

-- ---- the blocks of a file

-- one block more than the bytes behind the first block fill
block_count-first : (len n : ℕ) → len ≡ 32768 → 0 < n → (n + (len - 1)) / len ≡ suc ((n - len + (len - 1)) / len)
block_count-first len n is some =
    subst (λ l. (n + (l - 1)) / l ≡ suc ((n - l + (l - 1)) / l)) (sym is) (omega arith)

block_count-empty : (len n : ℕ) → len ≡ 32768 → n ≡ 0 → (n + (len - 1)) / len ≡ 0
block_count-empty len n is none =
    subst (λ l. (n + (l - 1)) / l ≡ 0) (sym is) (omega arith)

pub file_blocks-none : (bytes : List ℕ) → length bytes ≡ 0 → file_blocks bytes ≡ []
unfolding pieces
file_blocks-none bytes none = ap (λ n. pieces n block_len bytes) (block_count-empty block_len (length bytes) block_len-value none)

file_blocks-some : (bytes : List ℕ) → 0 < length bytes → file_blocks bytes ≡ take block_len bytes ∷ file_blocks (drop block_len bytes)
unfolding pieces
file_blocks-some bytes some =
    let left : length (drop block_len bytes) ≡ length bytes - block_len = length-drop block_len bytes in
    ap (λ n. pieces n block_len bytes) (block_count-first block_len (length bytes) block_len-value some
    ∙ ap (λ n. suc ((n + (block_len - 1)) / block_len)) (sym left))

none_taken : (n : ℕ) (bytes : List ℕ) → length bytes ≡ 0 → length (take n bytes) ≡ 0
none_taken n bytes none = length-take n bytes ∙ omega arith

none_dropped : (n : ℕ) (bytes : List ℕ) → length bytes ≡ 0 → length (drop n bytes) ≡ 0
none_dropped n bytes none = length-drop n bytes ∙ omega arith

rest_marks-start : (file : LogFile) (place : ℕ) (block : List ℕ) → rest_marks file place 0 block ≡ block_marks file place block
unfolding rest_marks
rest_marks-start file place block =
    let whole : drop 0 block ≡ block = refl in
    λ i. marks_from file (length block == block_len) (length (whole i)) (add-zero place i) (whole i)

-- the marks of blocks are those of the first block and of the others
pub blocks_marks-first : (file : LogFile) (place : ℕ) (bytes : List ℕ)
    → blocks_marks file place (file_blocks bytes) ≡ rest_marks file place 0 (take block_len bytes) ++ blocks_marks file (place + block_len) (file_blocks (drop block_len bytes))
unfolding blocks_marks
blocks_marks-first file place bytes = elim (cases_lt 0 (length bytes)) [
  | inl some ↦
      ap (blocks_marks file place) (file_blocks-some bytes some)
      ∙ ap (λ marks. marks ++ blocks_marks file (place + block_len) (file_blocks (drop block_len bytes))) (sym (rest_marks-start file place (take block_len bytes)))
  | inr none ↦
      let empty : length bytes ≡ 0 = omega arith in
      ap (blocks_marks file place) (file_blocks-none bytes empty)
      ∙ sym (λ i. rest_marks-none file place 0 (take block_len bytes) (none_dropped 0 _ (none_taken block_len bytes empty)) i
      ++ blocks_marks file (place + block_len) (file_blocks-none (drop block_len bytes) (none_dropped block_len bytes empty) i))
]

unfoldable pub type_or : Option ℕ → Option ℕ → Option ℕ
type_or (Some kind) later = Some kind
type_or None later = later

block_type-none : (block : List ℕ) → length block ≡ 0 → block_type block ≡ None
block_type-none [] none = refl
block_type-none (b ∷ block) none = absurd (omega arith)

type_or-elim : (one later : Option ℕ) → (elim one as (λ _. Option ℕ) [ Some kind ↦ Some kind | None ↦ later ]) ≡ type_or one later
unfolding type_or
type_or-elim (Some kind) later = refl
type_or-elim None later = refl

pub first_type-first : (bytes : List ℕ) → first_type (file_blocks bytes) ≡ type_or (block_type (take block_len bytes)) (first_type (file_blocks (drop block_len bytes)))
unfolding type_or
first_type-first bytes = elim (cases_lt 0 (length bytes)) [
  | inl some ↦ ap first_type (file_blocks-some bytes some) ∙ type_or-elim (block_type (take block_len bytes)) (first_type (file_blocks (drop block_len bytes)))
  | inr none ↦
      let empty : length bytes ≡ 0 = omega arith in
      ap first_type (file_blocks-none bytes empty)
      ∙ sym (λ i. type_or (block_type-none (take block_len bytes) (none_taken block_len bytes empty) i) (first_type (file_blocks-none (drop block_len bytes) (none_dropped block_len bytes empty) i)))
]
