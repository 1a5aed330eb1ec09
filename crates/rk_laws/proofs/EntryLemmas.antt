-- An entry is read just where it is spelled.
use Rattle.std.proofs.Common.{◌≡◌, ℕ, ◌≤◌, List, ◌++◌, length, take, Ok, refl, sym, ◌∙◌, ap, subst, arith}
use Rattle.std.proofs.lemmas.List.{length-append}
use Rattle.std.proofs.Math.Seq.{take-append_seam}
use Rattle.rk_bytes.specs.declared.model.block.BlockFault.TheVariants.{BadEntry}
use Rattle.rk_bytes.specs.Model.Numbers.{AreBytes, part_of, IsVarint32, varint32_at}
use Rattle.rk_bytes.specs.Model.BlockEntries.{Entry, with_fault, entry_at, next_entry, SpellsEntry}
use Rattle.rk_bytes.proofs.Callers.Readings.{both_steps, first_step, part_of_ok, part_of-within, varint_len}
use Rattle.rk_laws.proofs.Readers.{Front, Exact, read_then, spelled_then, spelled_last, joined, exact_varint32, IsPart, exact_part, exact_word}
use Rattle.rk_laws.proofs.BlockLemmas.{SpelledAt, Form}

-- the front of a list that was taken
pub front_of : (whole front rest : List ℕ) (n : ℕ) → whole ≡ front ++ rest → length front ≡ n → (n ≤ length whole) × (front ≡ take n whole)
front_of whole front rest n is len =
    (omega (arith, ap length is, length-append front rest), subst (λ n. front ≡ take n whole) len (subst (λ whole. front ≡ take (length front) whole) (sym is) (sym (take-append_seam front rest))))

entry_ok : (place : ℕ) (before : Entry (List ℕ)) (bytes : List ℕ) (r : Entry (List ℕ) × List ℕ) → AreBytes bytes → entry_at place before.key bytes ≡ Ok r → Front (SpelledAt SpellsEntry place before) bytes r
entry_ok place before bytes r are e =
    read_then varint32_at IsVarint32 exact_varint32 bytes _ r are e λ shared a e1.
    read_then varint32_at IsVarint32 exact_varint32 shared.1 _ r a.after e1 λ rest_len b e2.
    read_then varint32_at IsVarint32 exact_varint32 rest_len.1 _ r b.after e2 λ value_len c e3.
    both_steps (part_of shared.0 before.key) _ r e3 λ front front_read e4.
    read_then (part_of rest_len.0) (IsPart rest_len.0) (exact_part rest_len.0) value_len.1 _ r c.after e4 λ rest d e5.
    read_then (part_of value_len.0) (IsPart value_len.0) (exact_part value_len.0) rest.1 _ r d.after e5 λ value v e6.
    let (front_whole, front_len) = part_of_ok shared.0 before.key front front_read in
    let (within, front_is) = front_of before.key front.0 front.1 shared.0 front_whole front_len in
    let same : (record { place = place; shared = shared.0; key = front.0 ++ rest.0; value = value.0 }, value.1) ≡ r = cc in
    subst (λ (r : Entry (List ℕ) × List ℕ). Front (SpelledAt SpellsEntry place before) bytes r) same (record {
      part = a.part ++ (b.part ++ (c.part ++ (d.part ++ v.part)));
      whole = joined _ _ _ a.whole (joined _ _ _ b.whole (joined _ _ _ c.whole (joined _ _ _ d.whole v.whole)));
      spells = (
        refl,
        record {
          shared_len = a.part;
          rest_len = b.part;
          value_len = c.part;
          rest = d.part;
          value_bytes = v.part;
          spelled = refl;
          shares = a.spells;
          rests = subst (λ n. IsVarint32 b.part n) (sym d.spells.1) b.spells;
          holds = subst (λ n. IsVarint32 c.part n) (sym v.spells.1) c.spells;
          within = within;
          key = λ i. front_is i ++ sym d.spells.0 i;
          value = v.spells.0;
        },
      );
      after = v.after;
    })

entry-spelled : (place : ℕ) (before : Entry (List ℕ)) (part rest : List ℕ) (entry : Entry (List ℕ)) → SpelledAt SpellsEntry place before part entry → entry_at place before.key (part ++ rest) ≡ Ok (entry, rest)
entry-spelled place before part rest entry (place_is, s) =
    ap (λ part. entry_at place before.key (part ++ rest)) s.spelled
    ∙ spelled_then varint32_at IsVarint32 exact_varint32 s.shared_len _ rest _ entry.shared s.shares
    ∙ spelled_then varint32_at IsVarint32 exact_varint32 s.rest_len _ rest _ (length s.rest) s.rests
    ∙ spelled_then varint32_at IsVarint32 exact_varint32 s.value_len _ rest _ (length s.value_bytes) s.holds
    ∙ first_step _ _ _ (part_of-within entry.shared before.key s.within)
    ∙ spelled_then (part_of (length s.rest)) (IsPart (length s.rest)) (exact_part (length s.rest)) s.rest _ rest _ s.rest (refl, refl)
    ∙ spelled_last (part_of (length s.value_bytes)) (IsPart (length s.value_bytes)) (exact_part (length s.value_bytes)) s.value_bytes rest _ s.value_bytes (refl, refl)
    ∙ (λ i. Ok (record { place = sym place_is i; shared = entry.shared; key = sym s.key i; value = s.value i }, rest))

pub exact_entry : (place : ℕ) (before : Entry (List ℕ)) → Exact (entry_at place before.key) (SpelledAt SpellsEntry place before)
exact_entry place before = record { reads = entry_ok place before; spelled = entry-spelled place before }

pub entry_form : Form next_entry SpellsEntry
entry_form = record {
  at = λ place before bytes. with_fault (λ fault. BadEntry place) (entry_at place before.key bytes);
  next_is = λ len before bytes. refl;
  exact = λ place before. exact_word (λ fault. BadEntry place) (entry_at place before.key) (SpelledAt SpellsEntry place before) (exact_entry place before);
  some = λ before part entry s. omega (arith, ap length s.spelled, length-append s.shared_len (s.rest_len ++ (s.value_len ++ (s.rest ++ s.value_bytes))), varint_len s.shared_len s.shares.groups);
}
