-- The marks of a log from any place on.
use Rattle.std.proofs.Common.{◌≡◌, ℕ, zero, suc, ◌+◌, ◌-◌, ◌%◌, ◌<◌, ◌≤◌, Bool, true, List, [], ◌∷◌, ◌++◌, length, take, drop, refl, sym, ap, ◌∙◌, arith, inl, inr, length-append, length-drop, length-take, drop-drop, add-zero}
use Rattle.std.specs.Prelude.{nat_le, ◌==◌, replicate}
use Rattle.std.proofs.Math.Seq.{take-append_seam, drop-append_seam, take-append-add}
use Rattle.std.proofs.lemmas.List.{length-replicate}
use Rattle.std.proofs.lemmas.Bool.{le-leb, lt-leb, lt-ltb, eq-eqb, ne_eqb, cases_lt}
use Rattle.rk_bytes.specs.Model.LogMarks.{Mark, LogFile, nothing, fragment, found, marks_from, block_len, blocks_marks, file_blocks, is_zero_header}
use Rattle.rk_log.specs.Left.{rest_marks}
use Rattle.rk_log.proofs.FoundLemmas.{found_by, found-blank}
use Rattle.rk_log.proofs.BlockLemmas.{block_len-value, blocks_marks-first, file_blocks-none, marks_by, marks_at, marks_from-none, marks_from-bound}

-- how many bytes are left in the block at a place
abbrev pub left_at : ℕ → ℕ
left_at pos = 32768 - pos % 32768

-- the marks of the bytes from a place on
unfoldable pub ahead : LogFile → ℕ → List ℕ → List Mark
ahead file pos bytes =
    marks_from file (nat_le (left_at pos) (length bytes)) (length (take (left_at pos) bytes)) pos (take (left_at pos) bytes)
    ++ blocks_marks file (pos + left_at pos) (file_blocks (drop (left_at pos) bytes))

is_full-at : (n : ℕ) (bytes : List ℕ) → (length (take n bytes) == n) ≡ nat_le n (length bytes)
is_full-at n bytes = elim (cases_lt (length bytes) n) [
  | inl short ↦ ne_eqb _ _ (λ e. omega (arith, length-take n bytes, e, short)) ∙ sym (lt-leb _ _ short)
  | inr long ↦ eq-eqb _ _ (length-take n bytes ∙ omega arith) ∙ sym (le-leb _ _ long)
]

-- from a block's begin on
pub ahead-start : (file : LogFile) (pos : ℕ) (bytes : List ℕ) → pos % 32768 ≡ 0 → ahead file pos bytes ≡ blocks_marks file pos (file_blocks bytes)
unfolding ahead rest_marks
ahead-start file pos bytes start =
    let whole : left_at pos ≡ block_len = omega (arith, start, block_len-value) in
    (λ i. marks_from file (nat_le (whole i) (length bytes)) (length (take (whole i) bytes)) pos (take (whole i) bytes) ++ blocks_marks file (pos + whole i) (file_blocks (drop (whole i) bytes)))
    ∙ ((λ i. marks_from file (sym (is_full-at block_len bytes) i) (length (take block_len bytes)) (sym (add-zero pos) i) (take block_len bytes) ++ blocks_marks file (pos + block_len) (file_blocks (drop block_len bytes)))
    ∙ sym (blocks_marks-first file pos bytes))

-- behind the last byte
pub ahead-none : (file : LogFile) (pos : ℕ) → ahead file pos [] ≡ []
unfolding ahead
ahead-none file pos =
    let taken : length {A = ℕ} (take (left_at pos) []) ≡ 0 = length-take (left_at pos) [] ∙ omega arith in
    let dropped : length {A = ℕ} (drop (left_at pos) []) ≡ 0 = length-drop (left_at pos) [] ∙ omega arith in
    (λ i. marks_from-none file (nat_le (left_at pos) 0) (length {A = ℕ} (take (left_at pos) [])) pos (take (left_at pos) []) taken i
    ++ blocks_marks file (pos + left_at pos) (file_blocks-none (drop (left_at pos) []) dropped i))
    ∙ (unfold blocks_marks in refl)

-- the rest of a fragment's block
behind_fragment : (file : LogFile) (is_full : Bool) (pos len : ℕ) (front more : List ℕ) (mark : Mark) → length front ≡ len → 0 < len
    → found file is_full pos (front ++ more) ≡ fragment mark len
    → marks_from file is_full (length (front ++ more)) pos (front ++ more) ≡ mark ∷ marks_from file is_full (length more) (pos + len) more
unfolding marks_by
behind_fragment file is_full pos len front more mark len_is some is =
    let whole = length-append front more in
    let dropped : drop len (front ++ more) ≡ more = ap (λ n. drop n (front ++ more)) (sym len_is) ∙ drop-append_seam front more in
    marks_at file is_full pos (front ++ more) (fragment mark len) (omega (arith, whole)) is
    ∙ ap (λ marks. mark ∷ marks) (ap (λ bytes. marks_from file is_full (length (front ++ more) - 1) (pos + len) bytes) dropped
    ∙ marks_from-bound file is_full (length (front ++ more) - 1) (length more) (pos + len) more (omega (arith, whole)) (omega arith))

same_test : (a b c d : ℕ) → (a ≤ b → c ≤ d) → (c ≤ d → a ≤ b) → nat_le a b ≡ nat_le c d
same_test a b c d there back = elim (cases_lt b a) [
  | inl less ↦ lt-leb _ _ less ∙ sym (lt-leb _ _ (let other : d < c = elim (cases_lt d c) [ inl below ↦ below | inr above ↦ absurd (let h = back above in omega arith) ] in other))
  | inr more ↦ le-leb _ _ more ∙ sym (le-leb _ _ (there more))
]

-- behind a fragment, within its block or at its end
ahead-behind : (file : LogFile) (pos len : ℕ) (rest : List ℕ) → len ≤ left_at pos
    → marks_from file (nat_le (left_at pos - len) (length rest)) (length (take (left_at pos - len) rest)) (pos + len) (take (left_at pos - len) rest)
    ++ blocks_marks file (pos + left_at pos) (file_blocks (drop (left_at pos - len) rest)) ≡ ahead file (pos + len) rest
ahead-behind file pos len rest fits = elim (cases_lt len (left_at pos)) [
  | inl less ↦
      let left : left_at pos - len ≡ left_at (pos + len) = omega arith in
      let next : pos + left_at pos ≡ pos + len + left_at (pos + len) = omega arith in
      (λ i. marks_from file (nat_le (left i) (length rest)) (length (take (left i) rest)) (pos + len) (take (left i) rest) ++ blocks_marks file (next i) (file_blocks (drop (left i) rest)))
      ∙ (unfold ahead in refl)
  | inr more ↦
      let none : left_at pos - len ≡ 0 = omega arith in
      let same : pos + left_at pos ≡ pos + len = omega arith in
      let nothing_left : length (take (left_at pos - len) rest) ≡ 0 = length-take (left_at pos - len) rest ∙ omega arith in
      (λ i. marks_from-none file (nat_le (left_at pos - len) (length rest)) (length (take (left_at pos - len) rest)) (pos + len) (take (left_at pos - len) rest) nothing_left i
      ++ blocks_marks file (same i) (file_blocks (drop (none i) rest)))
      ∙ sym (ahead-start file (pos + len) rest (omega arith))
]

pub ahead-fragment : (file : LogFile) (pos len : ℕ) (front rest : List ℕ) (mark : Mark) → length front ≡ len → 0 < len → len ≤ left_at pos
    → ((is_full : Bool) (more : List ℕ) → found file is_full pos (front ++ more) ≡ fragment mark len)
    → ahead file pos (front ++ rest) ≡ mark ∷ ahead file (pos + len) rest
unfolding ahead
ahead-fragment file pos len front rest mark len_is some fits is =
    let r = left_at pos in
    let more = take (r - len) rest in
    let parts : r ≡ length front + (r - len) = omega (arith, len_is) in
    let taken : take r (front ++ rest) ≡ front ++ more = ap (λ n. take n (front ++ rest)) parts ∙ take-append-add front rest (r - len) in
    let dropped : drop r (front ++ rest) ≡ drop (r - len) rest =
    ap (λ n. drop n (front ++ rest)) parts ∙ (sym (drop-drop (r - len) (length front) (front ++ rest)) ∙ ap (drop (r - len)) (drop-append_seam front rest)) in
    let full : nat_le r (length (front ++ rest)) ≡ nat_le (r - len) (length rest) =
    same_test _ _ _ _ (λ h. omega (arith, len_is, length-append front rest)) (λ h. omega (arith, len_is, length-append front rest)) in
    (λ i. marks_from file (full i) (length (taken i)) pos (taken i) ++ blocks_marks file (pos + r) (file_blocks (dropped i)))
    ∙ (ap (λ marks. marks ++ blocks_marks file (pos + r) (file_blocks (drop (r - len) rest))) (behind_fragment file (nat_le (r - len) (length rest)) pos len front more mark len_is some (is (nat_le (r - len) (length rest)) more))
    ∙ ap (λ marks. mark ∷ marks) (ahead-behind file pos len rest fits))

-- zeros that fill a block
pub zero_header : (n : ℕ) → 7 ≤ n → is_zero_header (replicate n 0) ≡ true
zero_header zero low = absurd (omega arith)
zero_header (suc zero) low = absurd (omega arith)
zero_header (suc (suc zero)) low = absurd (omega arith)
zero_header (suc (suc (suc zero))) low = absurd (omega arith)
zero_header (suc (suc (suc (suc zero)))) low = absurd (omega arith)
zero_header (suc (suc (suc (suc (suc zero))))) low = absurd (omega arith)
zero_header (suc (suc (suc (suc (suc (suc zero)))))) low = absurd (omega arith)
zero_header (suc (suc (suc (suc (suc (suc (suc n))))))) low = refl

pub found-zeros : (file : LogFile) (pos n : ℕ) → n < 12 → found file true pos (replicate n 0) ≡ nothing
found-zeros file pos n high = elim (cases_lt n 7) [
  | inl short ↦ found_by file true pos (replicate n 0) (lt-ltb _ _ (omega (arith, length-replicate {A = ℕ} n 0, short))) refl
  | inr long ↦ found-blank file true pos (replicate n 0) (omega (arith, length-replicate {A = ℕ} n 0)) (zero_header n long)
]

pub ahead-padding : (file : LogFile) (pos : ℕ) (rest : List ℕ) → left_at pos < 12 → 0 < left_at pos → ahead file pos (replicate (left_at pos) 0 ++ rest) ≡ ahead file (pos + left_at pos) rest
unfolding ahead marks_by
ahead-padding file pos rest short some =
    let r = left_at pos in
    let zeros : List ℕ = replicate r 0 in
    let zeros_len : length zeros ≡ r = length-replicate r 0 in
    let full : nat_le r (length (zeros ++ rest)) ≡ true = le-leb _ _ (omega (arith, length-append zeros rest, zeros_len)) in
    let taken : take r (zeros ++ rest) ≡ zeros = ap (λ n. take n (zeros ++ rest)) (sym zeros_len) ∙ take-append_seam zeros rest in
    let dropped : drop r (zeros ++ rest) ≡ rest = ap (λ n. drop n (zeros ++ rest)) (sym zeros_len) ∙ drop-append_seam zeros rest in
    (λ i. marks_from file (full i) (length (taken i)) pos (taken i) ++ blocks_marks file (pos + r) (file_blocks (dropped i)))
    ∙ (ap (λ marks. marks ++ blocks_marks file (pos + r) (file_blocks rest)) (marks_at file true pos zeros nothing (omega (arith, zeros_len)) (found-zeros file pos r short))
    ∙ sym (ahead-start file (pos + r) rest (omega arith)))
