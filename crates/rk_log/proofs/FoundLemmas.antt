-- What is found at a place of a block, by the results of the tests in their order.
use Rattle.std.proofs.Common.{◌≡◌, ℕ, ◌+◌, ◌-◌, ◌*◌, ◌%◌, ◌^◌, ◌≤◌, Bool, true, false, cond, not, ◌&&◌, ◌||◌, List, [], ◌∷◌, length, get_or, take, drop, refl, sym, ap, ◌∙◌, arith}
use Rattle.std.specs.Prelude.{nat_lt, nat_le, ◌==◌}
use Rattle.std.specs.Cmp.Derive.{both_true}
use Rattle.std.proofs.lemmas.Bool.{ne_eqb, eqb-true, le-ltb, and_parts, leb-true, le-leb, false≢true}
use Rattle.std.proofs.Math.Bool.{and-false}
use Rattle.std.proofs.lemmas.List.{drop-take}
use Rattle.rk_bytes.specs.declared.model.log.GapWhy.TheVariants.{Checksum, Length, UnknownType, Mixed}
use Rattle.rk_bytes.specs.Model.LogMarks.{LogFile, full, first, middle, last, cut, stale, fault, unsupported, nothing, whole_rest, fragment, type_of, payload_len, stored_number, payload_of, stored_sum, is_recyclable, has_number, header_len, fragment_len, summed_part, has_right_sum, is_zero_header, is_of_another_life, is_unsupported, fragment_mark, unless_recycled, fragment_found, found}

pub fragment_found_by : (file : LogFile) (place : ℕ) (bytes : List ℕ) {another zero wrong refused : Bool}
    → is_of_another_life file bytes ≡ another → is_zero_header bytes ≡ zero → has_right_sum bytes ≡ wrong → is_unsupported (type_of bytes) ≡ refused
    → fragment_found file place bytes ≡ cond another (whole_rest (stale place))
    (cond zero nothing
    (cond (not wrong) (whole_rest (unless_recycled file (fault Checksum place) place))
    (cond refused (whole_rest (unsupported (type_of bytes) place))
    (fragment (fragment_mark file place bytes) (fragment_len bytes)))))
unfolding fragment_found
fragment_found_by file place bytes another zero wrong refused = λ i.
    cond (another i) (whole_rest (stale place))
    (cond (zero i) nothing
    (cond (not (wrong i)) (whole_rest (unless_recycled file (fault Checksum place) place))
    (cond (refused i) (whole_rest (unsupported (type_of bytes) place))
    (fragment (fragment_mark file place bytes) (fragment_len bytes)))))

pub found_by : (file : LogFile) (is_full : Bool) (place : ℕ) (bytes : List ℕ) {short long : Bool}
    → nat_lt (length bytes) 7 ≡ short → nat_lt (length bytes) (fragment_len bytes) ≡ long
    → found file is_full place bytes ≡ cond short (cond is_full nothing (whole_rest (unless_recycled file (cut place) place)))
    (cond long (whole_rest (unless_recycled file (cond is_full (fault Length place) (cut place)) place))
    (fragment_found file place bytes))
unfolding found
found_by file is_full place bytes short long = λ i.
    cond (short i) (cond is_full nothing (whole_rest (unless_recycled file (cut place) place)))
    (cond (long i) (whole_rest (unless_recycled file (cond is_full (fault Length place) (cut place)) place))
    (fragment_found file place bytes))

-- the part that the sum covers, as the code takes it
pub summed_part-range : (bytes : List ℕ) (len : ℕ) → len ≡ fragment_len bytes → 6 ≤ len → take (len - 6) (drop 6 bytes) ≡ summed_part bytes
summed_part-range bytes len is long =
    let both : 6 + (len - 6) ≡ fragment_len bytes = omega (arith, is) in
    sym (drop-take 6 (len - 6) bytes) ∙ ap (λ n. drop 6 (take n bytes)) both

pub stored_sum-bytes : (bytes : List ℕ) → 4 ≤ length bytes → stored_sum bytes ≡ get_or bytes 0 0 + 256 * (get_or bytes 1 0 + 256 * (get_or bytes 2 0 + 256 * get_or bytes 3 0))
stored_sum-bytes [] some = absurd (omega arith)
stored_sum-bytes (a ∷ []) some = absurd (omega arith)
stored_sum-bytes (a ∷ b ∷ []) some = absurd (omega arith)
stored_sum-bytes (a ∷ b ∷ c ∷ []) some = absurd (omega arith)
stored_sum-bytes (a ∷ b ∷ c ∷ d ∷ bytes) some = omega arith

pub header_long : (kind : ℕ) → 7 ≤ header_len kind
header_long kind = elim (has_number kind) as (λ numbered. 7 ≤ cond numbered 11 7) [ true ↦ omega arith | false ↦ omega arith ]

pub fragment_long : (bytes : List ℕ) → 7 ≤ fragment_len bytes
fragment_long bytes = omega (arith, header_long (type_of bytes))

pub fragment_mark-unknown : (file : LogFile) (place : ℕ) (bytes : List ℕ) → (is_recyclable (type_of bytes) && not file.recycled) ≡ false
    → (1 ≤ type_of bytes → type_of bytes ≤ 8 → ⊥) → fragment_mark file place bytes ≡ unless_recycled file (fault UnknownType place) place
fragment_mark-unknown file place bytes one_life other =
    let is_not : (n : ℕ) → 1 ≤ n → n ≤ 8 → (type_of bytes == n) ≡ false = λ n low high. ne_eqb _ _ (λ e. other (omega arith) (omega arith)) in
    let neither : (a b : ℕ) → 1 ≤ a → a ≤ 8 → 1 ≤ b → b ≤ 8 → (type_of bytes == a || type_of bytes == b) ≡ false = λ a b la ha lb hb. λ i. is_not a la ha i || is_not b lb hb i in
    λ i. cond (one_life i) (fault Mixed place)
    (cond (neither 1 5 (omega arith) (omega arith) (omega arith) (omega arith) i) (full (payload_of bytes) place)
    (cond (neither 2 6 (omega arith) (omega arith) (omega arith) (omega arith) i) (first (payload_of bytes) place)
    (cond (neither 3 7 (omega arith) (omega arith) (omega arith) (omega arith) i) (middle (payload_of bytes) place)
    (cond (neither 4 8 (omega arith) (omega arith) (omega arith) (omega arith) i) (last (payload_of bytes) place)
    (unless_recycled file (fault UnknownType place) place)))))

pub recyclable_kind : (kind : ℕ) → is_recyclable kind ≡ true → (5 ≤ kind) × (kind ≤ 8)
recyclable_kind kind is = let both = and_parts (nat_le 5 kind) (nat_le kind 8) is in (leb-true _ _ both.0, leb-true _ _ both.1)

pub other_kind : (kind : ℕ) → is_recyclable kind ≡ false → 5 ≤ kind → kind ≤ 8 → ⊥
other_kind kind is low high = false≢true (sym is ∙ both_true (le-leb _ _ low) (le-leb _ _ high))

-- a zero header stands for nothing, whatever the file
pub found-blank : (file : LogFile) (is_full : Bool) (place : ℕ) (bytes : List ℕ) → 7 ≤ length bytes → is_zero_header bytes ≡ true → found file is_full place bytes ≡ nothing
found-blank file is_full place bytes long zero =
    let both = and_parts (type_of bytes == 0) (payload_len bytes == 0) zero in
    let kind : type_of bytes ≡ 0 = eqb-true _ _ both.0 in
    let payload : payload_len bytes ≡ 0 = eqb-true _ _ both.1 in
    let len : fragment_len bytes ≡ 7 = λ i. header_len (kind i) + payload i in
    let another : is_of_another_life file bytes ≡ false =
    ap (λ one. has_number one && not (stored_number bytes == file.number % 2 ^ 32) || file.recycled && nat_le 1 one && nat_le one 4) kind
    ∙ ap (λ one. one && true) (and-false file.recycled) in
    found_by file is_full place bytes (le-ltb _ _ long) (le-ltb _ _ (omega (arith, len)))
    ∙ fragment_found_by file place bytes another zero refl refl
