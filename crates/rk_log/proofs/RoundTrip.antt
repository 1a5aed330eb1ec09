-- A fragment that is written is found again.
use Rattle.std.proofs.Common.{◌≡◌, ℕ, ◌+◌, ◌-◌, ◌%◌, ◌^◌, ◌<◌, ◌≤◌, Bool, true, false, cond, not, ◌&&◌, ◌||◌, List, ◌∷◌, ◌++◌, length, take, drop, Option, Some, None, refl, sym, ap, ◌∙◌, arith, length-append, append_assoc, drop-drop}
use Rattle.std.specs.Prelude.{nat_le, ◌==◌, is_some}
use Rattle.std.proofs.Math.Seq.{take-append_seam}
use Rattle.std.proofs.lemmas.Bool.{le-ltb, eq-eqb}
use Rattle.rk_bytes.specs.declared.model.log.GapWhy.TheVariants.{UnknownType, Mixed}
use Rattle.rk_bytes.specs.Model.Numbers.{little_endian, fixed_of}
use Rattle.rk_bytes.specs.Model.Checksums.{crc32c, mask}
use Rattle.rk_bytes.specs.Model.LogMarks.{Mark, full, first, middle, last, fault, LogFile, fragment, stored_sum, stored_number, type_of, payload_len, fragment_len, payload_of, summed_part, is_recyclable, has_number, header_len, is_zero_header, is_of_another_life, is_unsupported, unless_recycled, fragment_mark, found}
use Rattle.rk_bytes.specs.Model.WrittenLogs.{written_header_len, written_type, number_bytes, fragment_bytes}
use Rattle.rk_log.specs.Writing.{part_type, SameLow}
use Rattle.rk_log.proofs.FoundLemmas.{found_by, fragment_found_by, summed_part-range}
use Rattle.rk_log.proofs.WriteLemmas.{length-fragment_bytes, header_len-range}

-- the file as its reader sees it
unfoldable pub file_with : ℕ → Option ℕ → LogFile
file_with reader number = record { number = reader; recycled = is_some number }

-- the mark of a written part
abbrev pub part_mark : Bool → Bool → List ℕ → ℕ → Mark
part_mark true true payload place = full payload place
part_mark true false payload place = first payload place
part_mark false false payload place = middle payload place
part_mark false true payload place = last payload place

-- a fragment whose tests all pass
found_whole : (file : LogFile) (is_full : Bool) (place : ℕ) (bytes : List ℕ) (mark : Mark) → 7 ≤ length bytes → fragment_len bytes ≤ length bytes
    → is_of_another_life file bytes ≡ false → is_zero_header bytes ≡ false → stored_sum bytes ≡ mask (crc32c (summed_part bytes)) → is_unsupported (type_of bytes) ≡ false
    → fragment_mark file place bytes ≡ mark → found file is_full place bytes ≡ fragment mark (fragment_len bytes)
found_whole file is_full place bytes mark long fits another blank sum supported is =
    found_by file is_full place bytes (le-ltb _ _ long) (le-ltb _ _ fits)
    ∙ (fragment_found_by file place bytes another blank (eq-eqb _ _ sum) supported ∙ ap (λ one. fragment one (fragment_len bytes)) is)

-- the fields of a fragment of these parts
legacy : ℕ → ℕ → List ℕ → List ℕ
legacy stored kind payload = fixed_of 4 stored ++ (fixed_of 2 (length payload) ++ (kind ∷ payload))

two_spell : (n : ℕ) → n < 2 ^ 16 → little_endian (fixed_of 2 n) ≡ n
two_spell n h = omega arith

four_spell : (n : ℕ) → n < 2 ^ 32 → little_endian (fixed_of 4 n) ≡ n
four_spell n h = omega arith

-- a written mark, by the type that is read
mark_by : LogFile → ℕ → List ℕ → ℕ → Mark
mark_by file place payload kind =
    cond (is_recyclable kind && not file.recycled) (fault Mixed place)
    (cond (kind == 1 || kind == 5) (full payload place)
    (cond (kind == 2 || kind == 6) (first payload place)
    (cond (kind == 3 || kind == 7) (middle payload place)
    (cond (kind == 4 || kind == 8) (last payload place)
    (unless_recycled file (fault UnknownType place) place)))))

mark_by-written : (reader : ℕ) (number : Option ℕ) (begins ends : Bool) (payload : List ℕ) (place : ℕ)
    → mark_by (file_with reader number) place payload (written_type number (part_type begins ends)) ≡ part_mark begins ends payload place
unfolding mark_by file_with
mark_by-written reader None true true payload place = refl
mark_by-written reader None true false payload place = refl
mark_by-written reader None false false payload place = refl
mark_by-written reader None false true payload place = refl
mark_by-written reader (Some number) true true payload place = refl
mark_by-written reader (Some number) true false payload place = refl
mark_by-written reader (Some number) false false payload place = refl
mark_by-written reader (Some number) false true payload place = refl

-- what the type that is read says
pub record KindSays (number : Option ℕ) (kind : ℕ) : Type 0 where
  pub header : header_len kind ≡ written_header_len number
  pub numbered : has_number kind ≡ is_some number
  pub not_zero : (kind == 0) ≡ false
  pub supported : is_unsupported kind ≡ false
  pub older : (is_some number && nat_le 1 kind && nat_le kind 4) ≡ false

pub kind_says : (number : Option ℕ) (begins ends : Bool) → KindSays number (written_type number (part_type begins ends))
kind_says None true true = record { header = refl; numbered = refl; not_zero = refl; supported = refl; older = refl }
kind_says None true false = record { header = refl; numbered = refl; not_zero = refl; supported = refl; older = refl }
kind_says None false false = record { header = refl; numbered = refl; not_zero = refl; supported = refl; older = refl }
kind_says None false true = record { header = refl; numbered = refl; not_zero = refl; supported = refl; older = refl }
kind_says (Some number) true true = record { header = refl; numbered = refl; not_zero = refl; supported = refl; older = refl }
kind_says (Some number) true false = record { header = refl; numbered = refl; not_zero = refl; supported = refl; older = refl }
kind_says (Some number) false false = record { header = refl; numbered = refl; not_zero = refl; supported = refl; older = refl }
kind_says (Some number) false true = record { header = refl; numbered = refl; not_zero = refl; supported = refl; older = refl }

-- what the front of a log says, if it is a fragment
pub record Spells (number : Option ℕ) (kind : ℕ) (payload rest bytes : List ℕ) : Type 0 where
  pub stored : stored_sum bytes ≡ mask (crc32c (written_type number kind ∷ (number_bytes number ++ payload)))
  pub len : payload_len bytes ≡ length payload
  pub type_is : type_of bytes ≡ written_type number kind
  pub behind_type : drop 6 bytes ≡ written_type number kind ∷ (number_bytes number ++ (payload ++ rest))
  pub whole : length bytes ≡ written_header_len number + (length payload + length rest)

length-written : (number : Option ℕ) (kind : ℕ) (payload rest : List ℕ) → length (fragment_bytes number kind payload ++ rest) ≡ written_header_len number + (length payload + length rest)
length-written number kind payload rest = omega (arith, length-append (fragment_bytes number kind payload) rest, length-fragment_bytes number kind payload)

pub spells : (number : Option ℕ) (kind : ℕ) (payload rest : List ℕ) → length payload < 2 ^ 16 → Spells number kind payload rest (fragment_bytes number kind payload ++ rest)
unfolding fragment_bytes
spells number kind payload rest short = record {
  stored = four_spell (mask (crc32c (written_type number kind ∷ (number_bytes number ++ payload)))) (omega arith);
  len = two_spell (length payload) short;
  type_is = refl;
  behind_type = ap (λ more. written_type number kind ∷ more) (append_assoc (number_bytes number) payload rest);
  whole = length-written number kind payload rest;
}

length-number_bytes : (number : Option ℕ) → 7 + length (number_bytes number) ≡ written_header_len number
length-number_bytes None = refl
length-number_bytes (Some number) = refl

low_bits : (n : ℕ) → little_endian (fixed_of 4 n) ≡ n % 2 ^ 32
low_bits n = omega arith

stored_number-written : (number kind : ℕ) (payload rest : List ℕ) → stored_number (fragment_bytes (Some number) kind payload ++ rest) ≡ number % 2 ^ 32
unfolding fragment_bytes
stored_number-written number kind payload rest = low_bits number

one_life : (reader : ℕ) (number : Option ℕ) (kind : ℕ) (payload rest : List ℕ) → SameLow reader number → KindSays number (written_type number kind) → type_of (fragment_bytes number kind payload ++ rest) ≡ written_type number kind
    → is_of_another_life (file_with reader number) (fragment_bytes number kind payload ++ rest) ≡ false
unfolding file_with
one_life reader None kind payload rest same says type_is =
    ap (λ one. has_number one && not (stored_number (fragment_bytes None kind payload ++ rest) == reader % 2 ^ 32) || false && nat_le 1 one && nat_le one 4) type_is
    ∙ (λ i. says.numbered i && not (stored_number (fragment_bytes None kind payload ++ rest) == reader % 2 ^ 32) || says.older i)
one_life reader (Some number) kind payload rest same says type_is =
    let bytes = fragment_bytes (Some number) kind payload ++ rest in
    let equal : (stored_number bytes == reader % 2 ^ 32) ≡ true = eq-eqb _ _ (stored_number-written number kind payload rest ∙ sym same) in
    ap (λ one. has_number one && not (stored_number bytes == reader % 2 ^ 32) || true && nat_le 1 one && nat_le one 4) type_is
    ∙ (λ i. says.numbered i && not (equal i) || says.older i)

summed-written : (number : Option ℕ) (kind : ℕ) (payload rest bytes : List ℕ) → Spells number kind payload rest bytes → fragment_len bytes ≡ written_header_len number + length payload
    → summed_part bytes ≡ written_type number kind ∷ (number_bytes number ++ payload)
summed-written number kind payload rest bytes s len =
    let header = header_len-range number in
    let own = written_type number kind ∷ (number_bytes number ++ payload) in
    let count : fragment_len bytes - 6 ≡ length own = omega (arith, len, length-number_bytes number, length-append (number_bytes number) payload) in
    let parts : drop 6 bytes ≡ own ++ rest = s.behind_type ∙ ap (λ more. written_type number kind ∷ more) (sym (append_assoc (number_bytes number) payload rest)) in
    sym (summed_part-range bytes (fragment_len bytes) refl (omega (arith, len, header.0)))
    ∙ ((λ i. take (count i) (parts i)) ∙ take-append_seam own rest)

behind_header : (number : Option ℕ) (kind : ℕ) (payload rest bytes : List ℕ) → Spells number kind payload rest bytes → drop (written_header_len number) bytes ≡ payload ++ rest
behind_header None kind payload rest bytes s = sym (drop-drop 1 6 bytes) ∙ ap (drop 1) s.behind_type
behind_header (Some number) kind payload rest bytes s = sym (drop-drop 5 6 bytes) ∙ ap (drop 5) s.behind_type

pub found_written : (reader : ℕ) (number : Option ℕ) (begins ends is_full : Bool) (place : ℕ) (payload rest : List ℕ) → SameLow reader number → length payload < 2 ^ 16
    → found (file_with reader number) is_full place (fragment_bytes number (part_type begins ends) payload ++ rest)
    ≡ fragment (part_mark begins ends payload place) (written_header_len number + length payload)
unfolding mark_by
found_written reader number begins ends is_full place payload rest same short =
    let kind = part_type begins ends in
    let bytes = fragment_bytes number kind payload ++ rest in
    let file = file_with reader number in
    let s = spells number kind payload rest short in
    let says = kind_says number begins ends in
    let header = header_len-range number in
    let header_is : header_len (type_of bytes) ≡ written_header_len number = ap header_len s.type_is ∙ says.header in
    let len : fragment_len bytes ≡ written_header_len number + length payload = λ i. header_is i + s.len i in
    let payload_is : payload_of bytes ≡ payload = (λ i. take (s.len i) (drop (header_is i) bytes)) ∙ (ap (take (length payload)) (behind_header number kind payload rest bytes s) ∙ take-append_seam payload rest) in
    let mark : fragment_mark file place bytes ≡ part_mark begins ends payload place =
    (λ i. mark_by file place (payload_is i) (s.type_is i)) ∙ mark_by-written reader number begins ends payload place in
    let blank : is_zero_header bytes ≡ false = ap (λ one. one == 0 && payload_len bytes == 0) s.type_is ∙ ap (λ one. one && payload_len bytes == 0) says.not_zero in
    found_whole file is_full place bytes (part_mark begins ends payload place) (omega (arith, s.whole, header.0)) (omega (arith, s.whole, len))
    (one_life reader number kind payload rest same says s.type_is) blank
    (s.stored ∙ ap (λ part. mask (crc32c part)) (sym (summed-written number kind payload rest bytes s len)))
    (ap is_unsupported s.type_is ∙ says.supported) mark
    ∙ ap (fragment (part_mark begins ends payload place)) len
