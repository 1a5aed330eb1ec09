-- The hashes of bytes from the sums of their stripes and what is left after them.
use Rattle.std.proofs.Common.{◌≡◌, ℕ, ◌+◌, ◌*◌, ◌/◌, ◌%◌, ◌^◌, ◌<◌, List, [], ◌++◌, length, get_or, take, drop, cond, refl, sym, ap, ◌∙◌, arith}
use Rattle.std.specs.Prelude.{nat_le, fold}
use Rattle.std.specs.Int.{w32, rotate_left}
use Rattle.std.specs.Simd.{first_chunks}
use Rattle.std.proofs.lemmas.List.Sums.{fold-append, fold_more}
use Rattle.rk_bytes.specs.Model.Checksums.{whole_pieces, after_pieces, lane_at, xxh32_round, xxh32_sum, xxh32_of_stripes, xxh32_with_word, xxh32_with_byte, xxh32_with_rest, xxh32_mixed, xxh32, xxh64_round, xxh64_sum, xxh64_of_sums, xxh64_of_stripes, xxh64_with_lane, xxh64_with_word, xxh64_with_byte, xxh64_with_rest, xxh64_mixed, xxh64}
use Rattle.rk_sum.proofs.Stripes.{pieces-are_chunks, after_chunks, whole_pieces-append}

-- the sums of the stripes of a front, and then of those that its rest and a back make
pub sum32_of_both : (index start : ℕ) (front back : List ℕ)
    → xxh32_sum index (xxh32_sum index start (whole_pieces 16 front)) (whole_pieces 16 (after_pieces 16 front ++ back)) ≡ xxh32_sum index start (whole_pieces 16 (front ++ back))
unfolding xxh32_sum
sum32_of_both index start front back =
    sym (fold-append (λ sum stripe. xxh32_round sum (lane_at 4 index stripe)) start (whole_pieces 16 front) (whole_pieces 16 (after_pieces 16 front ++ back)))
    ∙ ap (fold (λ sum stripe. xxh32_round sum (lane_at 4 index stripe)) start) (sym (whole_pieces-append 16 front back (omega arith)))

pub sum64_of_both : (index start : ℕ) (front back : List ℕ)
    → xxh64_sum index (xxh64_sum index start (whole_pieces 32 front)) (whole_pieces 32 (after_pieces 32 front ++ back)) ≡ xxh64_sum index start (whole_pieces 32 (front ++ back))
unfolding xxh64_sum
sum64_of_both index start front back =
    sym (fold-append (λ sum stripe. xxh64_round sum (lane_at 8 index stripe)) start (whole_pieces 32 front) (whole_pieces 32 (after_pieces 32 front ++ back)))
    ∙ ap (fold (λ sum stripe. xxh64_round sum (lane_at 8 index stripe)) start) (sym (whole_pieces-append 32 front back (omega arith)))

-- the hash of so many bytes with these sums, of which this is left
abbrev pub hash32_from : ℕ → ℕ → ℕ → ℕ → ℕ → List ℕ → ℕ
hash32_from a b c d len rest =
    let start = cond (nat_le 16 len) ((rotate_left w32 a 1 + rotate_left w32 b 7 + rotate_left w32 c 12 + rotate_left w32 d 18) % 2 ^ 32) 0x165667B1 in
    xxh32_mixed (xxh32_with_rest ((start + len) % 2 ^ 32) rest)

pub hash32_of : (bytes rest : List ℕ) (len a b c d : ℕ) → len ≡ length bytes
    → a ≡ xxh32_sum 0 0x24234428 (whole_pieces 16 bytes) → b ≡ xxh32_sum 1 0x85EBCA77 (whole_pieces 16 bytes)
    → c ≡ xxh32_sum 2 0 (whole_pieces 16 bytes) → d ≡ xxh32_sum 3 0x61C8864F (whole_pieces 16 bytes)
    → rest ≡ after_pieces 16 bytes → hash32_from a b c d len rest ≡ xxh32 bytes
unfolding xxh32 xxh32_of_stripes
hash32_of bytes rest len a b c d count first second third fourth left = λ i. hash32_from (first i) (second i) (third i) (fourth i) (count i) (left i)

abbrev pub hash64_from : ℕ → ℕ → ℕ → ℕ → ℕ → List ℕ → ℕ
hash64_from a b c d len rest =
    let start = cond (nat_le 32 len) (xxh64_of_sums a b c d) 0x27D4EB2F165667C5 in
    xxh64_mixed (xxh64_with_rest ((start + len) % 2 ^ 64) rest)

pub hash64_of : (bytes rest : List ℕ) (len a b c d : ℕ) → len ≡ length bytes
    → a ≡ xxh64_sum 0 0x60EA27EEADC0B5D6 (whole_pieces 32 bytes) → b ≡ xxh64_sum 1 0xC2B2AE3D27D4EB4F (whole_pieces 32 bytes)
    → c ≡ xxh64_sum 2 0 (whole_pieces 32 bytes) → d ≡ xxh64_sum 3 0x61C8864E7A143579 (whole_pieces 32 bytes)
    → rest ≡ after_pieces 32 bytes → hash64_from a b c d len rest ≡ xxh64 bytes
unfolding xxh64 xxh64_of_stripes
hash64_of bytes rest len a b c d count first second third fourth left = λ i. hash64_from (first i) (second i) (third i) (fourth i) (count i) (left i)

-- the sum of one stripe more
pub sum32_more : (index start : ℕ) (stripes : List (List ℕ)) (i sum : ℕ) → i < length stripes → sum ≡ xxh32_sum index start (take i stripes)
    → xxh32_round sum (lane_at 4 index (get_or stripes i [])) ≡ xxh32_sum index start (take (i + 1) stripes)
unfolding xxh32_sum
sum32_more index start stripes i sum within is =
    ap (λ sum. xxh32_round sum (lane_at 4 index (get_or stripes i []))) is ∙ sym (fold_more (λ sum stripe. xxh32_round sum (lane_at 4 index stripe)) start stripes i [] within)

pub sum32_none : (index start : ℕ) → start ≡ xxh32_sum index start []
unfolding xxh32_sum
sum32_none index start = refl

-- the sum of one stripe more
pub sum64_more : (index start : ℕ) (stripes : List (List ℕ)) (i sum : ℕ) → i < length stripes → sum ≡ xxh64_sum index start (take i stripes)
    → xxh64_round sum (lane_at 8 index (get_or stripes i [])) ≡ xxh64_sum index start (take (i + 1) stripes)
unfolding xxh64_sum
sum64_more index start stripes i sum within is =
    ap (λ sum. xxh64_round sum (lane_at 8 index (get_or stripes i []))) is ∙ sym (fold_more (λ sum stripe. xxh64_round sum (lane_at 8 index stripe)) start stripes i [] within)

pub sum64_none : (index start : ℕ) → start ≡ xxh64_sum index start []
unfolding xxh64_sum
sum64_none index start = refl

-- words and then bytes
pub rest32_of : (hash : ℕ) (rest : List ℕ) (words : List (List ℕ)) (bytes : List ℕ) → words ≡ first_chunks 4 (length rest / 4) rest → bytes ≡ drop (length rest / 4 * 4) rest
    → fold xxh32_with_byte (fold xxh32_with_word hash words) bytes ≡ xxh32_with_rest hash rest
unfolding xxh32_with_rest
rest32_of hash rest words bytes front back =
    let words_are = front ∙ pieces-are_chunks (length rest / 4) 4 rest in
    let bytes_are = back ∙ after_chunks 4 rest in
    λ i. fold xxh32_with_byte (fold xxh32_with_word hash (words_are i)) (bytes_are i)

pub rest64_of : (hash : ℕ) (rest : List ℕ) (lanes : List (List ℕ)) (tail : List ℕ) (words : List (List ℕ)) (bytes : List ℕ)
    → lanes ≡ first_chunks 8 (length rest / 8) rest → tail ≡ drop (length rest / 8 * 8) rest
    → words ≡ first_chunks 4 (length tail / 4) tail → bytes ≡ drop (length tail / 4 * 4) tail
    → fold xxh64_with_byte (fold xxh64_with_word (fold xxh64_with_lane hash lanes) words) bytes ≡ xxh64_with_rest hash rest
unfolding xxh64_with_rest
rest64_of hash rest lanes tail words bytes lanes_front tail_back words_front bytes_back =
    let lanes_are = lanes_front ∙ pieces-are_chunks (length rest / 8) 8 rest in
    let tail_is = tail_back ∙ after_chunks 8 rest in
    let words_are = words_front ∙ pieces-are_chunks (length tail / 4) 4 tail ∙ ap (whole_pieces 4) tail_is in
    let bytes_are = bytes_back ∙ after_chunks 4 tail ∙ ap (after_pieces 4) tail_is in
    λ i. fold xxh64_with_byte (fold xxh64_with_word (fold xxh64_with_lane hash (lanes_are i)) (words_are i)) (bytes_are i)
