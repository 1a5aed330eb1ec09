-- The bytes of a log that is written.
use Rattle.std.proofs.Common.{◌≡◌, ℕ, zero, suc, ◌+◌, ◌-◌, ◌/◌, ◌%◌, ◌<◌, ◌≤◌, Bool, true, false, cond, List, [], ◌∷◌, ◌++◌, length, take, drop, Option, Some, None, Result, Ok, Err, refl, sym, ap, subst, ◌∙◌, arith, length-append, length-drop, length-take, append_assoc, add-zero, inl, inr}
use Rattle.std.proofs.lemmas.Bool.{lt-ltb, le-ltb, cases_lt, false≢true}
use Rattle.std.specs.Prelude.{nat_lt, replicate, OnOk, OnErr}
use Rattle.std.proofs.lemmas.List.{append-nil, length-replicate, take_all}
use Rattle.rk_bytes.specs.declared.memory.Memory.{Memory}
use Rattle.rk_bytes.specs.Model.Numbers.{fixed_of}
use Rattle.rk_bytes.specs.Model.Checksums.{crc32c, mask, pieces}
use Rattle.rk_bytes.specs.Model.LogMarks.{block_len}
use Rattle.rk_bytes.specs.Model.WrittenLogs.{written_header_len, written_type, number_bytes, fragment_bytes, later_fragments, record_fragments, pieces_of, record_pieces, left_in_block, written_record}
use Rattle.rk_log.specs.Writing.{Extends, part_type, padding}

pub four_bytes : (a b c d n : ℕ) (rest : List ℕ) → a ≡ n % 256 → b ≡ n / 256 % 256 → c ≡ n / 65536 % 256 → d ≡ n / 16777216 % 256 → a ∷ b ∷ c ∷ d ∷ rest ≡ fixed_of 4 n ++ rest
four_bytes a b c d n rest first second third fourth =
    let third_is : c ≡ n / 256 / 256 % 256 = omega (arith, third) in
    let fourth_is : d ≡ n / 256 / 256 / 256 % 256 = omega (arith, fourth) in
    λ i. first i ∷ second i ∷ third_is i ∷ fourth_is i ∷ rest

pub two_bytes : (a b n : ℕ) (rest : List ℕ) → a ≡ n % 256 → b ≡ n / 256 % 256 → a ∷ b ∷ rest ≡ fixed_of 2 n ++ rest
two_bytes a b n rest first second = λ i. first i ∷ second i ∷ rest

-- a fragment of its parts, as the code puts them together
pub fragment_parts : (number : Option ℕ) (kind sum stored : ℕ) (payload : List ℕ)
    → sum ≡ crc32c (written_type number kind ∷ (number_bytes number ++ payload)) → stored ≡ mask sum
    → fixed_of 4 stored ++ (fixed_of 2 (length payload) ++ (written_type number kind ∷ (number_bytes number ++ payload))) ≡ fragment_bytes number kind payload
unfolding fragment_bytes
fragment_parts number kind sum stored payload sum_is stored_is =
    ap (λ s. fixed_of 4 s ++ (fixed_of 2 (length payload) ++ (written_type number kind ∷ (number_bytes number ++ payload)))) (stored_is ∙ ap mask sum_is)

pub block_len-is : block_len ≡ 32768
unfolding block_len
block_len-is = refl

pub header_len-range : (number : Option ℕ) → (7 ≤ written_header_len number) × (written_header_len number ≤ 11)
header_len-range None = (omega arith, omega arith)
header_len-range (Some number) = (omega arith, omega arith)

length-fixed_of : (len n : ℕ) → length (fixed_of len n) ≡ len
length-fixed_of zero n = refl
length-fixed_of (suc len) n = ap suc (length-fixed_of len (n / 256))

pub length-fragment_bytes : (number : Option ℕ) (kind : ℕ) (payload : List ℕ) → length (fragment_bytes number kind payload) ≡ written_header_len number + length payload
unfolding fragment_bytes
length-fragment_bytes None kind payload = omega arith
length-fragment_bytes (Some number) kind payload = omega arith

-- how much payload a whole block holds, in one fragment
abbrev pub whole_room : Option ℕ → ℕ
whole_room number = block_len - written_header_len number

piece_count-first : (number : Option ℕ) (n : ℕ) → 0 < n → (n + (whole_room number - 1)) / whole_room number ≡ suc ((n - whole_room number + (whole_room number - 1)) / whole_room number)
unfolding block_len
piece_count-first None n some = omega arith
piece_count-first (Some number) n some = omega arith

piece_count-none : (number : Option ℕ) (n : ℕ) → n ≡ 0 → (n + (whole_room number - 1)) / whole_room number ≡ 0
unfolding block_len
piece_count-none None n none = omega arith
piece_count-none (Some number) n none = omega arith

pieces_of-none : (number : Option ℕ) (bytes : List ℕ) → length bytes ≡ 0 → pieces_of (whole_room number) bytes ≡ []
unfolding pieces
pieces_of-none number bytes none = ap (λ n. pieces n (whole_room number) bytes) (piece_count-none number (length bytes) none)

pieces_of-some : (number : Option ℕ) (bytes : List ℕ) → 0 < length bytes → pieces_of (whole_room number) bytes ≡ take (whole_room number) bytes ∷ pieces_of (whole_room number) (drop (whole_room number) bytes)
unfolding pieces
pieces_of-some number bytes some =
    ap (λ n. pieces n (whole_room number) bytes) (piece_count-first number (length bytes) some
    ∙ ap (λ n. suc ((n + (whole_room number - 1)) / whole_room number)) (sym (length-drop (whole_room number) bytes)))

-- the fragments of what is left of a payload, where the log has this length
unfoldable pub left_fragments : Option ℕ → Bool → ℕ → List ℕ → List ℕ
left_fragments number true len payload = record_fragments number (record_pieces number (left_in_block len) payload)
left_fragments number false len payload = later_fragments number (pieces_of (whole_room number) payload)

-- how much payload fits behind a header that stands where the log has this length
abbrev pub payload_room : Option ℕ → ℕ → ℕ
payload_room number len = left_in_block len - written_header_len number

whole_room-at : (number : Option ℕ) (len : ℕ) → len % 32768 ≡ 0 → whole_room number ≡ payload_room number len
unfolding block_len
whole_room-at number len start = omega arith

-- the last fragment
pub left_fragments-last : (number : Option ℕ) (begins : Bool) (len : ℕ) (payload : List ℕ) → length payload ≤ payload_room number len → (begins ≡ false → len % 32768 ≡ 0) → (begins ≡ false → 0 < length payload)
    → left_fragments number begins len payload ≡ fragment_bytes number (part_type begins true) payload
unfolding left_fragments record_fragments record_pieces later_fragments
left_fragments-last number true len payload fits filled some =
    let room = payload_room number len in
    let none : length (drop room payload) ≡ 0 = length-drop room payload ∙ omega (arith, fits) in
    λ i. record_fragments number (take_all room payload fits i ∷ pieces_of-none number (drop room payload) none i)
left_fragments-last number false len payload fits filled some =
    let room = whole_room number in
    let all : length payload ≤ room = omega (arith, fits, whole_room-at number len (filled refl)) in
    let none : length (drop room payload) ≡ 0 = length-drop room payload ∙ omega (arith, all) in
    ap (later_fragments number) (pieces_of-some number payload (some refl))
    ∙ (λ i. later_fragments number (take_all room payload all i ∷ pieces_of-none number (drop room payload) none i))

-- a fragment that fills its block, and the others
pub left_fragments-more : (number : Option ℕ) (begins : Bool) (len : ℕ) (payload : List ℕ) → payload_room number len < length payload → (begins ≡ false → len % 32768 ≡ 0)
    → left_fragments number begins len payload
    ≡ fragment_bytes number (part_type begins false) (take (payload_room number len) payload)
    ++ left_fragments number false (len + written_header_len number + payload_room number len) (drop (payload_room number len) payload)
unfolding left_fragments record_fragments record_pieces later_fragments
left_fragments-more number true len payload more filled =
    let room = payload_room number len in
    let is = pieces_of-some number (drop room payload) (omega (arith, length-drop room payload, more)) in
    ap (λ pieces. record_fragments number (take room payload ∷ pieces)) is
    ∙ ap (λ pieces. fragment_bytes number 2 (take room payload) ++ later_fragments number pieces) (sym is)
left_fragments-more number false len payload more filled =
    let whole = whole_room-at number len (filled refl) in
    let room = payload_room number len in
    let is = pieces_of-some number (drop room payload) (omega (arith, length-drop room payload, more)) in
    ap (later_fragments number) (pieces_of-some number payload (omega arith))
    ∙ (λ i. later_fragments number (take (whole i) payload ∷ pieces_of (whole_room number) (drop (whole i) payload)))
    ∙ (ap (λ pieces. later_fragments number (take room payload ∷ pieces)) is
    ∙ ap (λ pieces. fragment_bytes number 3 (take room payload) ++ later_fragments number pieces) (sym is))

-- The fragments of a record are being written: what is left of its payload goes on behind what was written.
pub record IsWriting (number : Option ℕ) (start whole out : List ℕ) (begins : Bool) (rest : List ℕ) : Type 0 where
  pub more : List ℕ
  pub front : out ≡ start ++ more
  pub some : begins ≡ false → 0 < length rest
  pub filled : begins ≡ false → length out % 32768 ≡ 0
  pub same : start ++ whole ≡ out ++ left_fragments number begins (length out) rest
  pub place : written_header_len number ≤ 32768 - length out % 32768

pub room_is : (number : Option ℕ) (len : ℕ) → payload_room number len ≡ 32768 - len % 32768 - written_header_len number
room_is number len = ap (λ b. b - len % b - written_header_len number) block_len-is

-- the last fragment is written
pub IsWriting-last : (number : Option ℕ) (start whole out : List ℕ) (begins : Bool) (rest : List ℕ) → IsWriting number start whole out begins rest
    → length rest ≤ 32768 - length out % 32768 - written_header_len number
    → start ++ whole ≡ out ++ fragment_bytes number (part_type begins true) rest
IsWriting-last number start whole out begins rest h fits =
    h.same ∙ ap (λ bytes. out ++ bytes) (left_fragments-last number begins (length out) rest (omega (arith, room_is number (length out), fits)) h.filled h.some)

-- where a fragment fills the block, the log ends with it
pub fills : (len header room new : ℕ) → room ≡ 32768 - len % 32768 - header → header ≤ 32768 - len % 32768 → new ≡ len + (header + room) → new % 32768 ≡ 0
fills len header room new room_is fits is = omega arith

same_more : (number : Option ℕ) (whole out new : List ℕ) (begins : Bool) (rest later : List ℕ) (room : ℕ)
    → payload_room number (length out) ≡ room → room < length rest → (begins ≡ false → length out % 32768 ≡ 0) → whole ≡ out ++ left_fragments number begins (length out) rest
    → later ≡ drop room rest → new ≡ out ++ fragment_bytes number (part_type begins false) (take room rest)
    → length new ≡ length out + written_header_len number + room
    → whole ≡ new ++ left_fragments number false (length new) later
same_more number whole out new begins rest later room room_is more filled same later_is new_is len =
    let front = fragment_bytes number (part_type begins false) (take room rest) in
    let parts : left_fragments number begins (length out) rest ≡ front ++ left_fragments number false (length new) later =
    left_fragments-more number begins (length out) rest (omega (arith, room_is)) filled
    ∙ (λ i. fragment_bytes number (part_type begins false) (take (room_is i) rest) ++ left_fragments number false (length out + written_header_len number + room_is i) (drop (room_is i) rest))
    ∙ (λ i. front ++ left_fragments number false (sym len i) (sym later_is i)) in
    same ∙ (ap (λ bytes. out ++ bytes) parts
    ∙ (sym (append_assoc out front (left_fragments number false (length new) later)) ∙ ap (λ bytes. bytes ++ left_fragments number false (length new) later) (sym new_is)))

-- a further fragment is written
pub IsWriting-more : (number : Option ℕ) (start whole out new : List ℕ) (begins : Bool) (rest later : List ℕ) (room : ℕ) → IsWriting number start whole out begins rest
    → room ≡ 32768 - length out % 32768 - written_header_len number → room < length rest
    → later ≡ drop room rest → new ≡ out ++ fragment_bytes number (part_type begins false) (take room rest)
    → IsWriting number start whole new false later
IsWriting-more number start whole out new begins rest later room h is more later_is new_is =
    let header = header_len-range number in
    let taken : length (take room rest) ≡ room = length-take room rest ∙ omega arith in
    let len : length new ≡ length out + (written_header_len number + room) =
    ap length new_is ∙ (length-append out _ ∙ ap (λ n. length out + n) (length-fragment_bytes number (part_type begins false) (take room rest) ∙ ap (λ n. written_header_len number + n) taken)) in
    let left : length later ≡ length rest - room = ap length later_is ∙ length-drop room rest in
    let filled : length new % 32768 ≡ 0 = fills (length out) (written_header_len number) room (length new) is h.place len in record {
      more = h.more ++ fragment_bytes number (part_type begins false) (take room rest);
      front = new_is ∙ (ap (λ bytes. bytes ++ fragment_bytes number (part_type begins false) (take room rest)) h.front ∙ append_assoc start h.more _);
      some = λ _. omega (arith, left, more);
      filled = λ _. filled;
      same = same_more number (start ++ whole) out new begins rest later room (room_is number (length out) ∙ sym is) more h.filled h.same later_is new_is (omega (arith, len));
      place = omega (arith, filled, header.1);
    }

-- nothing is written yet
pub IsWriting-start : (number : Option ℕ) (start payload : List ℕ) → written_header_len number ≤ left_in_block (length start)
    → IsWriting number start (record_fragments number (record_pieces number (left_in_block (length start)) payload)) start true payload
unfolding left_fragments
IsWriting-start number start payload place = record {
  more = [];
  front = sym (append-nil start);
  some = λ begins. absurd (false≢true (sym begins));
  filled = λ begins. absurd (false≢true (sym begins));
  same = refl;
  place = subst (λ b. written_header_len number ≤ b - length start % b) block_len-is place;
}

pub Extends-on : (result : Result (Unit {0}) Memory) (start whole out added more new : List ℕ) → out ≡ start ++ more → start ++ whole ≡ out ++ added → Extends out added result new → Extends start whole result new
Extends-on (Ok done) start whole out added more new front same extends = extends ∙ sym same
Extends-on (Err memory) start whole out added more new front same extends =
    (more ++ extends.0, extends.1 ∙ (ap (λ bytes. bytes ++ extends.0) front ∙ append_assoc start more extends.0))

-- ---- the end of a block

pub padding-some : (number : Option ℕ) (len : ℕ) → 32768 - len % 32768 < written_header_len number → padding number len ≡ replicate (32768 - len % 32768) 0
padding-some number len short =
    (λ i. cond (nat_lt (block_len-is i - len % block_len-is i) (written_header_len number)) (replicate (block_len-is i - len % block_len-is i) 0) [])
    ∙ ap (λ test. cond test (replicate (32768 - len % 32768) 0) []) (lt-ltb _ _ short)

pub padding-none : (number : Option ℕ) (len : ℕ) → written_header_len number ≤ 32768 - len % 32768 → padding number len ≡ []
padding-none number len enough =
    (λ i. cond (nat_lt (block_len-is i - len % block_len-is i) (written_header_len number)) (replicate (block_len-is i - len % block_len-is i) 0) [])
    ∙ ap (λ test. cond test (replicate (32768 - len % 32768) 0) []) (le-ltb _ _ enough)

next_block : (place len : ℕ) → len ≡ left_in_block place → left_in_block (place + len) ≡ block_len
unfolding block_len
next_block place len is = omega arith

pub padded_place : (number : Option ℕ) (len : ℕ) → written_header_len number ≤ 32768 - (len + length (padding number len)) % 32768
padded_place number len = elim (cases_lt (32768 - len % 32768) (written_header_len number)) [
  | inl short ↦
      let filled : length (padding number len) ≡ 32768 - len % 32768 = ap length (padding-some number len short) ∙ length-replicate (32768 - len % 32768) 0 in
      let header = header_len-range number in
      omega (arith, filled, header.1)
  | inr enough ↦
      let none : length (padding number len) ≡ 0 = ap length (padding-none number len enough) in
      omega (arith, none, enough)
]

pub padded_place-at : (number : Option ℕ) (start out : List ℕ) → out ≡ start ++ padding number (length start) → written_header_len number ≤ left_in_block (length out)
padded_place-at number start out is =
    let len : length out ≡ length start + length (padding number (length start)) = ap length is ∙ length-append start _ in
    subst (λ b. written_header_len number ≤ b - length out % b) (sym block_len-is)
    (subst (λ n. written_header_len number ≤ 32768 - n % 32768) (sym len) (padded_place number (length start)))

-- behind the zeros a record begins where a header has place
pub padded_record : (number : Option ℕ) (place : ℕ) (payload : List ℕ)
    → padding number place ++ record_fragments number (record_pieces number (left_in_block (place + length (padding number place))) payload) ≡ written_record number place payload
unfolding written_record
padded_record number place payload =
    let left = left_in_block place in
    let zeros : List ℕ = replicate left 0 in
    let fragments = λ (left : ℕ). record_fragments number (record_pieces number left payload) in
    elim (cases_lt left (written_header_len number)) [
      | inl short ↦
          let test = lt-ltb _ _ short in
          let begun : left_in_block (place + length zeros) ≡ block_len = next_block place (length zeros) (length-replicate left 0) in
          (λ i. cond (test i) zeros [] ++ fragments (left_in_block (place + length (cond (test i) zeros []))))
          ∙ ((λ i. zeros ++ fragments (begun i)) ∙ (λ i. cond (sym test i) (zeros ++ fragments block_len) (fragments left)))
      | inr enough ↦
          let test = le-ltb _ _ enough in
          (λ i. cond (test i) zeros [] ++ fragments (left_in_block (place + length (cond (test i) zeros []))))
          ∙ ((λ i. fragments (left_in_block (add-zero place i))) ∙ (λ i. cond (sym test i) (zeros ++ fragments block_len) (fragments left)))
    ]

pub Extends-record : (result : Result (Unit {0}) Memory) (number : Option ℕ) (payload start out new : List ℕ) → out ≡ start ++ padding number (length start)
    → Extends out (record_fragments number (record_pieces number (left_in_block (length out)) payload)) result new → Extends start (written_record number (length start) payload) result new
Extends-record result number payload start out new padded extends =
    let len : length out ≡ length start + length (padding number (length start)) = ap length padded ∙ length-append start _ in
    let fragments = λ (n : ℕ). record_fragments number (record_pieces number (left_in_block n) payload) in
    Extends-on result start _ out _ (padding number (length start)) new padded
    (ap (λ bytes. start ++ bytes) (sym (padded_record number (length start) payload))
    ∙ (sym (append_assoc start (padding number (length start)) _) ∙ (λ i. sym padded i ++ fragments (sym len i))))
    extends

pub Extends-append : (result : Result (Unit {0}) Memory) (old bytes added new : List ℕ) → OnOk result (new ≡ old ++ bytes) → OnErr result (new ≡ old) → bytes ≡ added → Extends old added result new
Extends-append (Ok done) old bytes added new ok err is = ok ∙ ap (λ more. old ++ more) is
Extends-append (Err memory) old bytes added new ok err is = ([], err ∙ sym (append-nil old))
