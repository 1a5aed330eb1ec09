-- An entry is read by its lengths.
use Rattle.std.specs.Prelude.{nat_lt, nat_le}
use Rattle.std.proofs.Common.{◌≡◌, ℕ, ◌+◌, ◌^◌, ◌<◌, ◌≤◌, cond, List, [], ◌∷◌, ◌++◌, length, take, drop, get_or, Some, None, Ok, Err, sym, ap, ◌∙◌, subst, inl, inr, arith, length-drop}
use Rattle.std.proofs.lemmas.Bool.{lt-ltb, le-leb, lt-leb, ltb-false, cases_lt, cond-true, cond-false}
use Rattle.std.proofs.lemmas.List.{drop-drop}
use Rattle.rk_bytes.specs.declared.model.number.NumFault.{NumFault}
use Rattle.rk_bytes.specs.declared.model.number.NumFault.TheVariants.{Cut}
use Rattle.rk_bytes.specs.Model.Numbers.{Read, ◌>>=◌, part_of, high_count, groups_value, varint32_at}
use Rattle.rk_bytes.specs.Model.BlockEntries.{Entry, entry_at}
use Rattle.rk_bytes.specs.Reading.{Reading, rest_of}
use Rattle.rk_bytes.proofs.Callers.Readings.{first_step, passed, taken, part_of-within, varint32-append}
use Rattle.rk_block.specs.Raw.{lengths_at, read_or_none, entry_or_none}
use Rattle.rk_block.proofs.StepLemmas.{first_fault, then_then, same_then}

abbrev pub Lens : Type 0
Lens = (ℕ × ℕ × ℕ) × List ℕ

-- what is read after the lengths
abbrev pub after_lengths : ℕ → List ℕ → Lens → Read (Entry (List ℕ))
after_lengths place key lens =
    part_of lens.0.0 key >>= λ front. part_of lens.0.1 lens.1 >>= λ rest. part_of lens.0.2 rest.1 >>= λ value. Ok (record { place = place; shared = lens.0.0; key = front.0 ++ rest.0; value = value.0 }, value.1)

pub entry_at-lengths : (place : ℕ) (key bytes : List ℕ) → entry_at place key bytes ≡ (lengths_at bytes >>= after_lengths place key)
entry_at-lengths place key bytes = sym (
    then_then (varint32_at bytes) _ (after_lengths place key)
    ∙ same_then (varint32_at bytes) _ _ (λ shared.
    then_then (varint32_at shared.1) _ (after_lengths place key)
    ∙ same_then (varint32_at shared.1) _ _ (λ rest. then_then (varint32_at rest.1) _ (after_lengths place key)))
    )

part_short : (n : ℕ) (bytes : List ℕ) → length bytes < n → part_of n bytes ≡ Err Cut
part_short n bytes short = cond-true _ _ _ (lt-ltb (length bytes) n short)

-- an entry that is whole, where the key before it is long enough
pub entry_whole : (place : ℕ) (key bytes : List ℕ) (shared rest value len : ℕ) → lengths_at bytes ≡ Ok ((shared, rest, value), drop len bytes) → len + rest + value ≤ length bytes
    → cond (nat_le shared (length key)) (Some (record { place = place; shared = shared; key = take shared key ++ take rest (drop len bytes); value = take value (drop (len + rest) bytes) }, drop (len + rest + value) bytes)) None ≡ entry_or_none place key bytes
entry_whole place key bytes shared rest value len is fits =
    elim (cases_lt (length key) shared) [
      | inl short ↦
          cond-false _ _ _ (lt-leb shared (length key) short)
          ∙ sym (ap read_or_none (whole ∙ first_fault (part_of shared key) _ Cut (part_short shared key short)))
      | inr long ↦
          cond-true _ _ _ (le-leb shared (length key) long)
          ∙ sym (ap read_or_none (whole
          ∙ first_step (part_of shared key) _ _ (part_of-within shared key long)
          ∙ first_step (part_of rest (drop len bytes)) _ _ (part_of-within rest (drop len bytes) (omega (arith, length-drop len bytes)))
          ∙ ap (λ (bytes' : List ℕ). part_of value bytes' >>= λ value. Ok (record { place = place; shared = shared; key = take shared key ++ take rest (drop len bytes); value = value.0 }, value.1)) (drop-drop rest len bytes)
          ∙ first_step (part_of value (drop (len + rest) bytes)) _ _ (part_of-within value (drop (len + rest) bytes) (omega (arith, length-drop (len + rest) bytes)))
          ∙ ap (λ after. Ok (record { place = place; shared = shared; key = take shared key ++ take rest (drop len bytes); value = take value (drop (len + rest) bytes) }, after)) (drop-drop value (len + rest) bytes)))
    ]
  where
    whole : entry_at place key bytes ≡ after_lengths place key ((shared, rest, value), drop len bytes)
    whole = entry_at-lengths place key bytes ∙ first_step (lengths_at bytes) (after_lengths place key) _ is

-- the same, where lengths are differences of places
pub entry_whole_at : (place : ℕ) (key bytes : List ℕ) (shared rest value len rest_len value_len : ℕ) → lengths_at bytes ≡ Ok ((shared, rest, value), drop len bytes) → len + rest + value ≤ length bytes → rest_len ≡ rest → value_len ≡ value
    → cond (nat_le shared (length key)) (Some (record { place = place; shared = shared; key = take shared key ++ take rest_len (drop len bytes); value = take value_len (drop (len + rest) bytes) }, drop (len + rest + value) bytes)) None ≡ entry_or_none place key bytes
entry_whole_at place key bytes shared rest value len rest_len value_len is fits rest_is value_is =
    (λ i. cond (nat_le shared (length key)) (Some (record { place = place; shared = shared; key = take shared key ++ take (rest_is i) (drop len bytes); value = take (value_is i) (drop (len + rest) bytes) }, drop (len + rest + value) bytes)) None)
    ∙ entry_whole place key bytes shared rest value len is fits

-- an entry that passes the bytes' end
pub entry_cut : (place : ℕ) (key bytes : List ℕ) (shared rest value len : ℕ) → lengths_at bytes ≡ Ok ((shared, rest, value), drop len bytes) → len ≤ length bytes → length bytes < len + rest + value → None ≡ entry_or_none place key bytes
entry_cut place key bytes shared rest value len is within ended =
    elim (cases_lt (length key) shared) [
      | inl short ↦ sym (ap read_or_none (whole ∙ first_fault (part_of shared key) _ Cut (part_short shared key short)))
      | inr long ↦ elim (cases_lt (length (drop len bytes)) rest) [
        | inl short ↦ sym (ap read_or_none (whole ∙ first_step (part_of shared key) _ _ (part_of-within shared key long) ∙ first_fault (part_of rest (drop len bytes)) _ Cut (part_short rest (drop len bytes) short)))
        | inr fits ↦ sym (ap read_or_none (whole
            ∙ first_step (part_of shared key) _ _ (part_of-within shared key long)
            ∙ first_step (part_of rest (drop len bytes)) _ _ (part_of-within rest (drop len bytes) fits)
            ∙ first_fault (part_of value (drop rest (drop len bytes))) _ Cut (part_short value (drop rest (drop len bytes)) (omega (arith, within, fits, ended, length-drop rest (drop len bytes), length-drop len bytes)))))
      ]
    ]
  where
    whole : entry_at place key bytes ≡ after_lengths place key ((shared, rest, value), drop len bytes)
    whole = entry_at-lengths place key bytes ∙ first_step (lengths_at bytes) (after_lengths place key) _ is

-- an entry of which the lengths don't read
pub entry_without_lengths : (place : ℕ) (key bytes : List ℕ) (why : NumFault) → lengths_at bytes ≡ Err why → None ≡ entry_or_none place key bytes
entry_without_lengths place key bytes why is = sym (ap read_or_none (entry_at-lengths place key bytes ∙ first_fault (lengths_at bytes) (after_lengths place key) why is))

-- a varint of one byte
short_varint : (b : ℕ) (bytes : List ℕ) → b < 128 → varint32_at (b ∷ bytes) ≡ Ok (b, bytes)
short_varint b bytes low = varint32-append (b ∷ []) bytes b (record { groups = low; short = omega arith; fits = omega arith; value = omega arith })

-- three lengths of one byte each
pub short_lengths : (bytes : List ℕ) (a b c : ℕ) → 3 ≤ length bytes → a ≡ get_or bytes 0 0 → b ≡ get_or bytes 1 0 → c ≡ get_or bytes 2 0 → a < 128 → b < 128 → c < 128 → Ok ((a, b, c), drop 3 bytes) ≡ lengths_at bytes
short_lengths [] a b c some a_is b_is c_is a_low b_low c_low = absurd (omega arith)
short_lengths (x ∷ []) a b c some a_is b_is c_is a_low b_low c_low = absurd (omega arith)
short_lengths (x ∷ y ∷ []) a b c some a_is b_is c_is a_low b_low c_low = absurd (omega arith)
short_lengths (x ∷ y ∷ z ∷ bytes) a b c some a_is b_is c_is a_low b_low c_low = sym (
    (λ i. lengths_at (sym a_is i ∷ sym b_is i ∷ sym c_is i ∷ bytes))
    ∙ first_step (varint32_at (a ∷ b ∷ c ∷ bytes)) _ _ (short_varint a (b ∷ c ∷ bytes) a_low)
    ∙ first_step (varint32_at (b ∷ c ∷ bytes)) _ _ (short_varint b (c ∷ bytes) b_low)
    ∙ first_step (varint32_at (c ∷ bytes)) _ _ (short_varint c bytes c_low)
    )

-- a varint takes a byte at least
varint_shorter : (bytes : List ℕ) (r : ℕ × List ℕ) → Ok r ≡ varint32_at bytes → length r.1 < length bytes
varint_shorter bytes r e =
    let len = high_count bytes + 1 in
    let short = passed (nat_lt 5 len) _ _ r (sym e) in
    let whole = passed (nat_lt (length bytes) len) _ _ r short.1 in
    let fitting = taken (nat_lt (groups_value (take len bytes)) (2 ^ 32)) _ _ r whole.1 in
    let enough : len ≤ length bytes = ltb-false (length bytes) len whole.0 in
    subst (λ (r : ℕ × List ℕ). length r.1 < length bytes) fitting.1 (omega (arith, length-drop len bytes, enough))

-- three lengths in any spelling
pub long_lengths : (bytes after_shared after_rest after_value : List ℕ) (shared rest value : ℕ) → Ok (shared, after_shared) ≡ varint32_at bytes → Ok (rest, after_rest) ≡ varint32_at after_shared → Ok (value, after_value) ≡ varint32_at after_rest
    → (Ok ((shared, rest, value), after_value) ≡ lengths_at bytes) × (length after_value + 3 ≤ length bytes)
long_lengths bytes after_shared after_rest after_value shared rest value one two three =
    let a = varint_shorter bytes _ one in
    let b = varint_shorter after_shared _ two in
    let c = varint_shorter after_rest _ three in (
      sym (first_step (varint32_at bytes) _ _ (sym one) ∙ first_step (varint32_at after_shared) _ _ (sym two) ∙ first_step (varint32_at after_rest) _ _ (sym three)),
      omega (arith, a, b, c),
    )

-- how many bytes three lengths take
pub three_spelled : (start now : Reading) → now.bytes ≡ start.bytes → start.place ≡ 0 → now.place ≤ length now.bytes → length (rest_of now) + 3 ≤ length (rest_of start) → 3 ≤ now.place
three_spelled start now same begun within longer = omega (arith, ap length same, begun, within, longer, length-drop now.place now.bytes, length-drop start.place start.bytes)
