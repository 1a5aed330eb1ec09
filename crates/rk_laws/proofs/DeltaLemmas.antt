-- An entry of an index with delta-encoded values is read just where it is spelled.
use Rattle.std.specs.Prelude.{nat_lt, ◌&&◌, ℤ, pos, negsuc, ◌+ℤ◌}
use Rattle.std.proofs.Common.{◌≡◌, ℕ, zero, suc, ◌+◌, ◌^◌, ◌<◌, List, ◌++◌, length, Result, Ok, refl, sym, ◌∙◌, ap, subst, arith}
use Rattle.std.proofs.lemmas.Bool.{lt-ltb, ltb-true, and_parts}
use Rattle.std.proofs.lemmas.List.{length-append}
use Rattle.rk_bytes.specs.declared.model.block.BlockFault.TheVariants.{BadEntry}
use Rattle.rk_bytes.specs.declared.model.block.IndexFault.{IndexFault}
use Rattle.rk_bytes.specs.declared.model.block.IndexFault.TheVariants.{Block, BadHandle}
use Rattle.rk_bytes.specs.declared.model.block.Handle.{Handle}
use Rattle.rk_bytes.specs.Model.Numbers.{AreBytes, part_of, IsVarint32, IsVarint64, from_zigzag, ◌>>=◌, varint32_at, varint64_at}
use Rattle.rk_bytes.specs.Model.BlockEntries.{Entry, with_fault, handle_at, fitting_handle, handle_after, delta_key_at, delta_value_at, next_delta_entry, SpellsHandle, SpellsDifference, SpellsDeltaValue, SpellsDeltaKey, SpellsDeltaEntry}
use Rattle.rk_bytes.proofs.Callers.Readings.{both_steps, first_step, taken, part_of_ok, part_of-within, varint_len}
use Rattle.rk_laws.proofs.Readers.{Front, Exact, read_then, spelled_then, spelled_last, joined, exact_varint32, exact_varint64, IsPart, exact_part, exact_word}
use Rattle.rk_laws.proofs.EntryLemmas.{front_of}
use Rattle.rk_laws.proofs.BlockLemmas.{SpelledAt, Form}

handle_ok : (bytes : List ℕ) (r : Handle × List ℕ) → AreBytes bytes → handle_at bytes ≡ Ok r → Front SpellsHandle bytes r
handle_ok bytes r are e =
    read_then varint64_at IsVarint64 exact_varint64 bytes _ r are e λ offset a e1.
    read_then varint64_at IsVarint64 exact_varint64 offset.1 _ r a.after e1 λ size b e2.
    let same : (record { offset = offset.0; size = size.0 }, size.1) ≡ r = cc in
    subst (λ (r : Handle × List ℕ). Front SpellsHandle bytes r) same (record {
      part = a.part ++ b.part;
      whole = joined _ _ _ a.whole b.whole;
      spells = record { offset_bytes = a.part; size_bytes = b.part; spelled = refl; offset = a.spells; size = b.spells };
      after = b.after;
    })

handle-spelled : (part rest : List ℕ) (handle : Handle) → SpellsHandle part handle → handle_at (part ++ rest) ≡ Ok (handle, rest)
handle-spelled part rest handle s =
    ap (λ part. handle_at (part ++ rest)) s.spelled
    ∙ spelled_then varint64_at IsVarint64 exact_varint64 s.offset_bytes _ rest _ handle.offset s.offset
    ∙ spelled_last varint64_at IsVarint64 exact_varint64 s.size_bytes rest _ handle.size s.size

pub exact_handle : Exact handle_at SpellsHandle
exact_handle = record { reads = handle_ok; spelled = handle-spelled }

-- the handle has this offset and this size, which fit
record Fits (offset : ℕ) (size : ℤ) (handle : Handle) : Type 0 where
  offset_is : handle.offset ≡ offset
  size_is : pos handle.size ≡ size
  offset_fits : handle.offset < 2 ^ 64
  size_fits : handle.size < 2 ^ 64

fitting_handle_ok : (offset : ℕ) (size : ℤ) (handle : Handle) → fitting_handle offset size ≡ Ok handle → Fits offset size handle
fitting_handle_ok offset (pos size) handle e =
    let fits = taken (nat_lt offset (2 ^ 64) && nat_lt size (2 ^ 64)) _ _ handle e in
    let tests = and_parts (nat_lt offset (2 ^ 64)) (nat_lt size (2 ^ 64)) fits.0 in
    subst (λ handle. Fits offset (pos size) handle) fits.1
    (record { offset_is = refl; size_is = refl; offset_fits = ltb-true offset (2 ^ 64) tests.0; size_fits = ltb-true size (2 ^ 64) tests.1 })
fitting_handle_ok offset (negsuc size) handle e = absurd cc

fitting_handle-fits : (offset : ℕ) (size : ℤ) (handle : Handle) → Fits offset size handle → fitting_handle offset size ≡ Ok handle
fitting_handle-fits offset size handle f =
    subst (λ offset. fitting_handle offset size ≡ Ok handle) f.offset_is
    (subst (λ size. fitting_handle handle.offset size ≡ Ok handle) f.size_is
    (rw (lt-ltb handle.offset (2 ^ 64) f.offset_fits, lt-ltb handle.size (2 ^ 64) f.size_fits)))

after_ok : (before : Handle) (bytes : List ℕ) (r : Handle × List ℕ) → AreBytes bytes → handle_after before bytes ≡ Ok r → Front (SpellsDifference before) bytes r
after_ok before bytes r are e =
    read_then varint64_at IsVarint64 exact_varint64 bytes _ r are e λ difference a e1.
    both_steps (fitting_handle (before.offset + before.size + 5) (pos before.size +ℤ from_zigzag difference.0)) _ r e1 λ handle handle_is e2.
    let f = fitting_handle_ok (before.offset + before.size + 5) (pos before.size +ℤ from_zigzag difference.0) handle handle_is in
    let same : (handle, difference.1) ≡ r = cc in
    subst (λ (r : Handle × List ℕ). Front (SpellsDifference before) bytes r) same (record {
      part = a.part;
      whole = a.whole;
      spells = record { zigzag = difference.0; difference = a.spells; size = f.size_is; offset = f.offset_is; size_fits = f.size_fits; offset_fits = f.offset_fits };
      after = a.after;
    })

after-spelled : (before : Handle) (part rest : List ℕ) (handle : Handle) → SpellsDifference before part handle → handle_after before (part ++ rest) ≡ Ok (handle, rest)
after-spelled before part rest handle s =
    spelled_last varint64_at IsVarint64 exact_varint64 part rest _ s.zigzag s.difference
    ∙ first_step _ _ handle (fitting_handle-fits (before.offset + before.size + 5) (pos before.size +ℤ from_zigzag s.zigzag) handle (record { offset_is = s.offset; size_is = s.size; offset_fits = s.offset_fits; size_fits = s.size_fits }))

exact_value : (shared : ℕ) (before : Handle) → Exact (delta_value_at shared before) (SpellsDeltaValue shared before)
exact_value zero before = exact_handle
exact_value (suc shared) before = record { reads = after_ok before; spelled = after-spelled before }

-- what a key shares, and the key
abbrev SpellsKey : List ℕ → List ℕ → ℕ × List ℕ → Type 0
SpellsKey before bytes key = SpellsDeltaKey before bytes key.0 key.1

key_ok : (before bytes : List ℕ) (r : (ℕ × List ℕ) × List ℕ) → AreBytes bytes → delta_key_at before bytes ≡ Ok r → Front (SpellsKey before) bytes r
key_ok before bytes r are e =
    read_then varint32_at IsVarint32 exact_varint32 bytes _ r are e λ shared a e1.
    read_then varint32_at IsVarint32 exact_varint32 shared.1 _ r a.after e1 λ rest_len b e2.
    both_steps (part_of shared.0 before) _ r e2 λ front front_read e3.
    read_then (part_of rest_len.0) (IsPart rest_len.0) (exact_part rest_len.0) rest_len.1 _ r b.after e3 λ rest c e4.
    let (front_whole, front_len) = part_of_ok shared.0 before front front_read in
    let (within, front_is) = front_of before front.0 front.1 shared.0 front_whole front_len in
    let same : ((shared.0, front.0 ++ rest.0), rest.1) ≡ r = cc in
    subst (λ (r : (ℕ × List ℕ) × List ℕ). Front (SpellsKey before) bytes r) same (record {
      part = a.part ++ (b.part ++ c.part);
      whole = joined _ _ _ a.whole (joined _ _ _ b.whole c.whole);
      spells = record {
        shared_len = a.part;
        rest_len = b.part;
        rest = c.part;
        spelled = refl;
        shares = a.spells;
        rests = subst (λ n. IsVarint32 b.part n) (sym c.spells.1) b.spells;
        within = within;
        key_is = λ i. front_is i ++ sym c.spells.0 i;
      };
      after = c.after;
    })

key-spelled : (before part rest : List ℕ) (key : ℕ × List ℕ) → SpellsKey before part key → delta_key_at before (part ++ rest) ≡ Ok (key, rest)
key-spelled before part rest key s =
    ap (λ part. delta_key_at before (part ++ rest)) s.spelled
    ∙ spelled_then varint32_at IsVarint32 exact_varint32 s.shared_len _ rest _ key.0 s.shares
    ∙ spelled_then varint32_at IsVarint32 exact_varint32 s.rest_len _ rest _ (length s.rest) s.rests
    ∙ first_step _ _ _ (part_of-within key.0 before s.within)
    ∙ spelled_last (part_of (length s.rest)) (IsPart (length s.rest)) (exact_part (length s.rest)) s.rest rest _ s.rest (refl, refl)
    ∙ (λ i. Ok ((key.0, sym s.key_is i), rest))

exact_key : (before : List ℕ) → Exact (delta_key_at before) (SpellsKey before)
exact_key before = record { reads = key_ok before; spelled = key-spelled before }

-- the entry at a place
delta_entry_at : ℕ → Entry Handle → List ℕ → Result (Entry Handle × List ℕ) IndexFault
delta_entry_at place before bytes =
    with_fault (λ fault. Block (BadEntry place)) (delta_key_at before.key bytes) >>= λ key.
    with_fault (λ fault. BadHandle) (delta_value_at key.0.0 before.value key.1) >>= λ handle.
    Ok (record { place = place; shared = key.0.0; key = key.0.1; value = handle.0 }, handle.1)

delta_entry_ok : (place : ℕ) (before : Entry Handle) (bytes : List ℕ) (r : Entry Handle × List ℕ) → AreBytes bytes → delta_entry_at place before bytes ≡ Ok r → Front (SpelledAt SpellsDeltaEntry place before) bytes r
unfolding delta_entry_at
delta_entry_ok place before bytes r are e =
    read_then _ _ (exact_word (λ fault. Block (BadEntry place)) (delta_key_at before.key) (SpellsKey before.key) (exact_key before.key)) bytes _ r are e λ key a e1.
    read_then _ _ (exact_word (λ fault. BadHandle) (delta_value_at key.0.0 before.value) (SpellsDeltaValue key.0.0 before.value) (exact_value key.0.0 before.value)) key.1 _ r a.after e1 λ handle b e2.
    let same : (record { place = place; shared = key.0.0; key = key.0.1; value = handle.0 }, handle.1) ≡ r = cc in
    subst (λ (r : Entry Handle × List ℕ). Front (SpelledAt SpellsDeltaEntry place before) bytes r) same (record {
      part = a.part ++ b.part;
      whole = joined _ _ _ a.whole b.whole;
      spells = (refl, record { key_bytes = a.part; handle_bytes = b.part; spelled = refl; key = a.spells; value = b.spells });
      after = b.after;
    })

delta_entry-spelled : (place : ℕ) (before : Entry Handle) (part rest : List ℕ) (entry : Entry Handle) → SpelledAt SpellsDeltaEntry place before part entry → delta_entry_at place before (part ++ rest) ≡ Ok (entry, rest)
unfolding delta_entry_at
delta_entry-spelled place before part rest entry (place_is, s) =
    ap (λ part. delta_entry_at place before (part ++ rest)) s.spelled
    ∙ spelled_then _ _ (exact_word (λ fault. Block (BadEntry place)) (delta_key_at before.key) (SpellsKey before.key) (exact_key before.key)) s.key_bytes _ rest _ (entry.shared, entry.key) s.key
    ∙ spelled_last _ _ (exact_word (λ fault. BadHandle) (delta_value_at entry.shared before.value) (SpellsDeltaValue entry.shared before.value) (exact_value entry.shared before.value)) s.handle_bytes rest _ entry.value s.value
    ∙ (λ i. Ok (record { place = sym place_is i; shared = entry.shared; key = entry.key; value = entry.value }, rest))

pub delta_form : Form next_delta_entry SpellsDeltaEntry
unfolding delta_entry_at
delta_form = record {
  at = delta_entry_at;
  next_is = λ len before bytes. refl;
  exact = λ place before. record { reads = delta_entry_ok place before; spelled = delta_entry-spelled place before };
  some = λ before part entry s. omega (arith, ap length s.spelled, length-append s.key_bytes s.handle_bytes, ap length s.key.spelled, length-append s.key.shared_len (s.key.rest_len ++ s.key.rest), varint_len s.key.shared_len s.key.shares.groups);
}
