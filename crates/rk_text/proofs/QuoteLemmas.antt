-- Bytes as they are shown, chunk by chunk.
use Rattle.std.proofs.Common.{◌≡◌, ℕ, ◌+◌, ◌*◌, ◌/◌, ◌%◌, ◌<◌, ◌≤◌, ◌&&◌, Bool, true, false, List, [], ◌∷◌, ◌++◌, length, take, get_or, set, refl, sym, ap, ◌∙◌, append_assoc, length-take-le, arith}
use Rattle.std.specs.Prelude.{flat_map, slice_index, codes}
use Rattle.std.specs.List.{list_all}
use Rattle.std.proofs.Math.Seq.{take-append-add}
use Rattle.std.proofs.lemmas.Bool.{false≢true, cond-true}
use Rattle.std.proofs.lemmas.List.{append-nil, take_more, take_more_set, take_at, length-set, take-append-le}
use Rattle.std.proofs.lemmas.Grind.{flat_map-append}
use borrow.Rule.Slice.PartMut.{put_mid, post_of}
use Rattle.hex.specs.Hex.{encode_with, encode_lower, lower_digits}
use Rattle.rk_bytes.specs.Model.Lines.{quoted, shown_byte, stands_for_itself}

pub encode_with-append : (table xs ys : List ℕ) → encode_with table (xs ++ ys) ≡ encode_with table xs ++ encode_with table ys
unfolding encode_with
encode_with-append table [] ys = refl
encode_with-append table (x ∷ xs) ys = ap (λ rest. slice_index table (x / 16) ∷ slice_index table (x % 16) ∷ rest) (encode_with-append table xs ys)

-- what is written of the bytes of a chunk and of others, by a writing that goes byte by byte
pub chunk_step : (written : List ℕ → List ℕ) → ((xs ys : List ℕ) → written (xs ++ ys) ≡ written xs ++ written ys)
    → (start line next bytes rest chunk others : List ℕ) → start ++ written bytes ≡ line ++ written rest
    → rest ≡ chunk ++ others → next ≡ line ++ written chunk → start ++ written bytes ≡ next ++ written others
chunk_step written joined start line next bytes rest chunk others so_far parts is =
    so_far ∙ ap (λ text. line ++ text) (ap written parts ∙ joined chunk others)
    ∙ sym (append_assoc line (written chunk) (written others)) ∙ ap (λ line. line ++ written others) (sym is)

pub chunk_end : (written : List ℕ → List ℕ) → written [] ≡ []
    → (start line bytes rest : List ℕ) → start ++ written bytes ≡ line ++ written rest → rest ≡ [] → line ≡ start ++ written bytes
chunk_end written nothing start line bytes rest so_far none =
    sym (so_far ∙ ap (λ text. line ++ text) (ap written none ∙ nothing) ∙ append-nil line)

itself : (b : ℕ) → stands_for_itself b ≡ true → shown_byte b ≡ b ∷ []
itself b is = cond-true _ _ _ is

-- bytes that stand for themselves are shown as they are
pub shown_plain : (bytes : List ℕ) → list_all stands_for_itself bytes ≡ true → flat_map shown_byte bytes ≡ bytes
shown_plain [] _ = refl
shown_plain (b ∷ bytes) all = by (stands_for_itself b) (list_all stands_for_itself bytes) refl refl (shown_plain bytes) all
  where
    by : (this others : Bool) → stands_for_itself b ≡ this → list_all stands_for_itself bytes ≡ others → (list_all stands_for_itself bytes ≡ true → flat_map shown_byte bytes ≡ bytes) → (this && others) ≡ true
        → flat_map shown_byte (b ∷ bytes) ≡ b ∷ bytes
    by true true is others more _ = ap (λ shown. shown ++ flat_map shown_byte bytes) (itself b is) ∙ ap (λ rest. b ∷ rest) (more others)
    by true false _ _ _ both = absurd (false≢true both)
    by false others _ _ _ both = absurd (false≢true both)

-- the text of one more byte, of which a front is kept, behind those that were written
pub shown_more : (len count k i : ℕ) (buffer text chunk : List ℕ) → len ≤ length buffer → count ≤ length text → i < length chunk
    → take len buffer ≡ flat_map shown_byte (take i chunk) → take count text ≡ shown_byte (get_or chunk i 0)
    → take (len + count) (put_mid len k buffer text) ≡ flat_map shown_byte (take (i + 1) chunk)
shown_more len count k i buffer text chunk within whole here so_far is =
    let front = take len buffer in
    let long : length front ≡ len = length-take-le len buffer within in
    ap (λ n. take (n + count) (front ++ (text ++ post_of len k buffer))) (sym long)
    ∙ take-append-add front (text ++ post_of len k buffer) count
    ∙ ap (λ more. front ++ more) (take-append-le count text (post_of len k buffer) whole ∙ is)
    ∙ ap (λ front. front ++ shown_byte (get_or chunk i 0)) so_far
    ∙ sym (ap (λ front. flat_map shown_byte front) (take_more chunk i 0 here) ∙ flat_map-append shown_byte (take i chunk) (get_or chunk i 0 ∷ []) ∙ ap (λ last. flat_map shown_byte (take i chunk) ++ last) (append-nil (shown_byte (get_or chunk i 0))))

pub quoted_hex : (start front line bytes : List ℕ) (hex : Bool) → hex ≡ true → front ≡ start ++ codes "0x" → line ≡ front ++ encode_lower bytes → line ≡ start ++ quoted hex bytes
unfolding quoted
quoted_hex start front line bytes hex is first then =
    then ∙ ap (λ front. front ++ encode_lower bytes) first ∙ append_assoc start (codes "0x") (encode_lower bytes) ∙ ap (λ hex. start ++ quoted hex bytes) (sym is)

pub quoted_shown : (start front middle line bytes : List ℕ) (hex : Bool) → hex ≡ false → front ≡ start ++ codes "\"" → middle ≡ front ++ flat_map shown_byte bytes → line ≡ middle ++ codes "\""
    → line ≡ start ++ quoted hex bytes
unfolding quoted
quoted_shown start front middle line bytes hex is first then last =
    last ∙ ap (λ middle. middle ++ codes "\"") (then ∙ ap (λ front. front ++ flat_map shown_byte bytes) first ∙ append_assoc start (codes "\"") (flat_map shown_byte bytes))
    ∙ append_assoc start (codes "\"" ++ flat_map shown_byte bytes) (codes "\"") ∙ ap (λ hex. start ++ quoted hex bytes) (sym is)

-- the text of one more byte, of two digits, behind those that were written
pub digits_more : (i high low : ℕ) (text bytes : List ℕ) → i < length bytes → 2 * i + 1 < length text
    → high ≡ slice_index lower_digits (get_or bytes i 0 / 16) → low ≡ slice_index lower_digits (get_or bytes i 0 % 16)
    → take (2 * i) text ≡ encode_lower (take i bytes)
    → take (2 * (i + 1)) (set (set text (2 * i) high) (2 * i + 1) low) ≡ encode_lower (take (i + 1) bytes)
unfolding encode_with
digits_more i high low text bytes here room is_high is_low so_far =
    let after : 2 * (i + 1) ≡ 2 * i + 1 + 1 = omega arith in
    let first : 2 * i < length text = omega (arith, room) in
    let one = set text (2 * i) high in
    let long : 2 * i + 1 < length one = rw (length-set text (2 * i) high) room in
    let written : List ℕ → List ℕ = encode_with lower_digits in
    ap (λ n. take n (set one (2 * i + 1) low)) after
    ∙ take_more_set one (2 * i + 1) low long
    ∙ ap (λ front. front ++ low ∷ []) (take_more_set text (2 * i) high first)
    ∙ append_assoc (take (2 * i) text) (high ∷ []) (low ∷ [])
    ∙ ap (λ front. front ++ high ∷ low ∷ []) so_far
    ∙ ap (λ high. written (take i bytes) ++ high ∷ low ∷ []) is_high
    ∙ ap (λ low. written (take i bytes) ++ slice_index lower_digits (get_or bytes i 0 / 16) ∷ low ∷ []) is_low
    ∙ sym (ap written (take_more bytes i 0 here) ∙ encode_with-append lower_digits (take i bytes) (get_or bytes i 0 ∷ []))

length-spelled : (bytes : List ℕ) → length (encode_lower bytes) ≡ 2 * length bytes
unfolding encode_with
length-spelled [] = refl
length-spelled (b ∷ bytes) = let more = length-spelled bytes in omega (arith, more)

-- the digits of the bytes at the front of others
pub front_spelled : (copy chunk rest digits : List ℕ) → digits ≡ encode_lower (copy ++ rest) → copy ≡ chunk
    → take (2 * length chunk) digits ≡ encode_lower chunk
front_spelled copy chunk rest digits are is =
    ap (λ text. take (2 * length chunk) text) (are ∙ ap (λ front. encode_lower (front ++ rest)) is ∙ encode_with-append lower_digits chunk rest)
    ∙ take_at (encode_lower chunk) (encode_lower rest) (2 * length chunk) (length-spelled chunk)
