-- Whole pieces of bytes, and what is left after them.
use Rattle.std.proofs.Common.{◌≡◌, ℕ, zero, suc, ◌+◌, ◌-◌, ◌*◌, ◌/◌, ◌%◌, ◌<◌, ◌≤◌, List, [], ◌∷◌, ◌++◌, length, get_or, take, drop, zero-add, refl, sym, ap, ◌∙◌, arith}
use Rattle.std.proofs.Math.Nat.{suc-add, mod-add-div', mul-add-div_right}
use Rattle.std.proofs.lemmas.List.{length-append, length-drop, drop-drop, drop-append-le, take-append-le}
use Rattle.std.specs.Simd.{first_chunks}
use Rattle.rk_bytes.specs.Model.Checksums.{pieces, whole_pieces, after_pieces}

pub pieces-are_chunks : (n size : ℕ) (bytes : List ℕ) → first_chunks size n bytes ≡ pieces n size bytes
unfolding pieces
pieces-are_chunks zero size bytes = refl
pieces-are_chunks (suc n) size bytes = ap (λ later. take size bytes ∷ later) (pieces-are_chunks n size (drop size bytes))

-- the bytes of all whole pieces
whole_len : (size n : ℕ) → n - n % size ≡ n / size * size
whole_len size n = let parts = mod-add-div' n size in omega arith

pub after_chunks : (size : ℕ) (bytes : List ℕ) → drop (length bytes / size * size) bytes ≡ after_pieces size bytes
after_chunks size bytes = ap (λ n. drop n bytes) (sym (whole_len size (length bytes)))

pieces-add : (m n size : ℕ) (bytes : List ℕ) → pieces (m + n) size bytes ≡ pieces m size bytes ++ pieces n size (drop (m * size) bytes)
unfolding pieces
pieces-add zero n size bytes =
    let none : zero * size ≡ 0 = omega arith in
    rw (zero-add n, none) refl
pieces-add (suc m) n size bytes =
    let count : size + m * size ≡ suc m * size = omega arith in
    rw suc-add (ap (λ later. take size bytes ∷ later)
    (pieces-add m n size (drop size bytes) ∙ ap (λ rest. pieces m size (drop size bytes) ++ pieces n size rest) (drop-drop (m * size) size bytes ∙ ap (λ n. drop n bytes) count)))

pieces-front : (m size : ℕ) (front back : List ℕ) → m * size ≤ length front → pieces m size (front ++ back) ≡ pieces m size front
unfolding pieces
pieces-front zero size front back within = refl
pieces-front (suc m) size front back within =
    let first : size ≤ length front = omega (arith, within) in
    let later : m * size ≤ length (drop size front) = omega (arith, within, length-drop size front) in
    rw (take-append-le size front back, drop-append-le size front back)
    (ap (λ later. take size front ∷ later) (pieces-front m size (drop size front) back later))

-- what is left of the front, and the back
length-left : (size : ℕ) (front back : List ℕ) → length (after_pieces size front ++ back) ≡ length front % size + length back
length-left size front back =
    omega (arith, length-append (after_pieces size front) back, length-drop (length front - length front % size) front, mod-add-div' (length front) size)

length-both : (size : ℕ) (front back : List ℕ) → length (front ++ back) ≡ length front / size * size + length (after_pieces size front ++ back)
length-both size front back =
    omega (arith, length-append front back, length-left size front back, mod-add-div' (length front) size)

left_of_both : (size : ℕ) (front back : List ℕ) → drop (length front / size * size) (front ++ back) ≡ after_pieces size front ++ back
left_of_both size front back =
    let within : length front / size * size ≤ length front = omega (arith, mod-add-div' (length front) size) in
    drop-append-le (length front / size * size) front back within ∙ ap (λ rest. rest ++ back) (after_chunks size front)

pub whole_pieces-append : (size : ℕ) (front back : List ℕ) → 0 < size
    → whole_pieces size (front ++ back) ≡ whole_pieces size front ++ whole_pieces size (after_pieces size front ++ back)
whole_pieces-append size front back some =
    let q = length front / size in
    let left = after_pieces size front ++ back in
    let within : q * size ≤ length front = omega (arith, mod-add-div' (length front) size) in
    let count : length (front ++ back) / size ≡ q + length left / size =
    ap (λ n. n / size) (length-both size front back) ∙ mul-add-div_right some q (length left) in
    ap (λ n. pieces n size (front ++ back)) count ∙ pieces-add q (length left / size) size (front ++ back)
    ∙ ap (λ whole. whole ++ pieces (length left / size) size (drop (q * size) (front ++ back))) (pieces-front q size front back within)
    ∙ ap (λ rest. pieces q size front ++ pieces (length left / size) size rest) (left_of_both size front back)

pub after_pieces-append : (size : ℕ) (front back : List ℕ) → 0 < size → after_pieces size (front ++ back) ≡ after_pieces size (after_pieces size front ++ back)
after_pieces-append size front back some =
    let q = length front / size in
    let left = after_pieces size front ++ back in
    let turn : (q * size + length left) / size * size ≡ q * size + (length left - length left % size) =
    ap (λ n. n * size) (mul-add-div_right some q (length left)) ∙ omega (arith, whole_len size (length left)) in
    let count : length (front ++ back) - length (front ++ back) % size ≡ q * size + (length left - length left % size) =
    whole_len size (length (front ++ back)) ∙ ap (λ n. n / size * size) (length-both size front back) ∙ turn in
    ap (λ n. drop n (front ++ back)) count ∙ sym (drop-drop (length left - length left % size) (q * size) (front ++ back)) ∙ ap (drop (length left - length left % size)) (left_of_both size front back)

-- a piece of a stripe
pub chunk_at : (size n k : ℕ) (stripe : List ℕ) → k < n → get_or (first_chunks size n stripe) k [] ≡ take size (drop (size * k) stripe)
chunk_at size zero k stripe before = absurd (omega (arith, before))
chunk_at size (suc n) zero stripe before = let none : size * zero ≡ 0 = omega arith in rw none refl
chunk_at size (suc n) (suc k) stripe before =
    let count : size + size * k ≡ size * suc k = omega arith in
    chunk_at size n k (drop size stripe) (omega (arith, before)) ∙ ap (take size) (drop-drop (size * k) size stripe ∙ ap (λ n. drop n stripe) count)
