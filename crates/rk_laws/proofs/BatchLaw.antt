-- A batch is read just where its bytes are it.
use Rattle.std.proofs.Common.{◌≡◌, ℕ, zero, suc, ◌+◌, ◌-◌, ◌≤◌, not, List, [], ◌∷◌, ◌++◌, length, take, drop, Result, Ok, refl, sym, ◌∙◌, ap, subst, arith}
use Rattle.std.specs.Prelude.{◌==◌, nat_lt, slice_index}
use Rattle.std.proofs.lemmas.Bool.{eqb-true, eq-eqb, not-false, ltb-false, le-ltb, or_parts, or_from, cond-false}
use Rattle.std.proofs.lemmas.List.{length-append, take-append-drop, length-take-le, take_at, drop_at}
use Rattle.std.proofs.Math.Seq.{drop-drop}
use Rattle.rk_bytes.specs.declared.model.batch.BatchFault.{BatchFault}
use Rattle.rk_bytes.specs.Model.Numbers.{AreBytes, little_endian, in_turn}
use Rattle.rk_bytes.specs.Model.InternalKey.{top_sequence}
use Rattle.rk_bytes.specs.Model.WriteBatch.{Part, change, log_bytes, noop, change_count, part_of_tag, batch_part_at, batch_sequence, stated_count, parts_after_header, passes_top, Batch, batch_of, SpellsParts, IsBatch}
use Rattle.rk_bytes.proofs.Callers.Readings.{both_steps, first_step, passed, bytes_after}
use Rattle.rk_laws.proofs.BatchLemmas.{some_bytes, exact_part_at}

change_count-more : (part : Part) (parts : List Part) → change_count (part ∷ parts) ≡ change_count parts + change_count (part ∷ [])
change_count-more (change at r) parts = omega arith
change_count-more (log_bytes at slice) parts = omega arith
change_count-more (noop at) parts = omega arith

-- the parts that are read are spelled
parts_ok : (n len sequence place next : ℕ) (before : List Part) (bytes : List ℕ) (parts : List Part) → AreBytes bytes → length bytes ≤ n → len ≡ place + length bytes → next ≡ sequence + change_count before → in_turn (batch_part_at len sequence) n before bytes ≡ Ok parts → SpellsParts place next bytes parts
unfolding in_turn
parts_ok zero len sequence place next before [] parts are few is counted e = let none : [] ≡ parts = cc in subst (λ parts. SpellsParts place next [] parts) none refl
parts_ok zero len sequence place next before (tag ∷ bytes) parts are few is counted e = absurd (omega arith)
parts_ok (suc n) len sequence place next before [] parts are few is counted e = let none : [] ≡ parts = cc in subst (λ parts. SpellsParts place next [] parts) none refl
parts_ok (suc n) len sequence place next before (tag ∷ bytes) parts are few is counted e =
    both_steps (batch_part_at len sequence before (tag ∷ bytes)) _ parts e λ r read e1.
    both_steps (in_turn (batch_part_at len sequence) n (r.0 ∷ before) r.1) _ parts e1 λ more more_read e2.
    let here : len - length (tag ∷ bytes) ≡ place = omega arith in
    let at_place = (λ i. part_of_tag (sym here i) (counted i) tag bytes) ∙ read in
    let f = (exact_part_at place next).reads (tag ∷ bytes) r are at_place in
    let some = some_bytes place next f.part r.0 f.spells in
    let lens : length (tag ∷ bytes) ≡ length f.part + length r.1 = ap length f.whole ∙ length-append f.part r.1 in
    let whole : r.0 ∷ more ≡ parts = cc in
    subst (λ parts. SpellsParts place next (tag ∷ bytes) parts) whole (
      f.part,
      r.1,
      f.whole,
      f.spells,
      parts_ok n len sequence (place + length f.part) (next + change_count (r.0 ∷ [])) (r.0 ∷ before) r.1 more f.after (omega arith) (omega arith) (omega (arith, change_count-more r.0 before)) more_read,
    )

-- the parts that are spelled are read
parts-spelled : (n len sequence place next : ℕ) (before : List Part) (bytes : List ℕ) (parts : List Part) → length bytes ≤ n → len ≡ place + length bytes → next ≡ sequence + change_count before → SpellsParts place next bytes parts → in_turn (batch_part_at len sequence) n before bytes ≡ Ok parts
unfolding in_turn
parts-spelled zero len sequence place next before bytes [] few is counted none = rw none refl
parts-spelled (suc n) len sequence place next before bytes [] few is counted none = rw none refl
parts-spelled n len sequence place next before [] (part ∷ parts) few is counted (spelled, rest, whole, s, more) =
    absurd (omega (arith, some_bytes place next spelled part s, ap length whole, length-append spelled rest))
parts-spelled zero len sequence place next before (tag ∷ bytes) (part ∷ parts) few is counted all = absurd (omega arith)
parts-spelled (suc n) len sequence place next before (tag ∷ bytes) (part ∷ parts) few is counted (spelled, rest, whole, s, more) =
    let some = some_bytes place next spelled part s in
    let lens : length (tag ∷ bytes) ≡ length spelled + length rest = ap length whole ∙ length-append spelled rest in
    let here : len - length (tag ∷ bytes) ≡ place = omega arith in
    let read : batch_part_at len sequence before (tag ∷ bytes) ≡ Ok (part, rest) =
    (λ i. part_of_tag (here i) (sym counted i) tag bytes)
    ∙ ap (λ bytes. part_of_tag place next (slice_index bytes 0) (drop 1 bytes)) whole
    ∙ (exact_part_at place next).spelled spelled rest part s in
    first_step (batch_part_at len sequence before (tag ∷ bytes)) _ _ read
    ∙ first_step _ _ parts (parts-spelled n len sequence (place + length spelled) (next + change_count (part ∷ [])) (part ∷ before) rest parts (omega arith) (omega arith) (omega (arith, change_count-more part before)) more)

-- a header's two parts, and what follows them
record Header (bytes sequence_bytes count_bytes part_bytes : List ℕ) : Type 0 where
  sequence_is : take 8 bytes ≡ sequence_bytes
  count_is : take 4 (drop 8 bytes) ≡ count_bytes
  parts_are : drop 12 bytes ≡ part_bytes
  long : length bytes ≡ 12 + length part_bytes

header_of : (bytes sequence_bytes count_bytes part_bytes : List ℕ) → bytes ≡ sequence_bytes ++ (count_bytes ++ part_bytes) → length sequence_bytes ≡ 8 → length count_bytes ≡ 4 → Header bytes sequence_bytes count_bytes part_bytes
header_of bytes sequence_bytes count_bytes part_bytes whole eight four =
    let after : drop 8 bytes ≡ count_bytes ++ part_bytes = ap (drop 8) whole ∙ drop_at sequence_bytes (count_bytes ++ part_bytes) 8 eight in
    record {
      sequence_is = ap (take 8) whole ∙ take_at sequence_bytes (count_bytes ++ part_bytes) 8 eight;
      count_is = ap (take 4) after ∙ take_at count_bytes part_bytes 4 four;
      parts_are = sym (drop-drop 4 8 bytes) ∙ ap (drop 4) after ∙ drop_at count_bytes part_bytes 4 four;
      long = omega (arith, ap length whole, length-append sequence_bytes (count_bytes ++ part_bytes), length-append count_bytes part_bytes);
    }

-- the bytes of a header and those after it
header_parts : (bytes : List ℕ) → bytes ≡ take 8 bytes ++ (take 4 (drop 8 bytes) ++ drop 12 bytes)
header_parts bytes =
    sym (take-append-drop 8 bytes)
    ∙ ap (λ x. take 8 bytes ++ x) (sym (take-append-drop 4 (drop 8 bytes)) ∙ ap (λ x. take 4 (drop 8 bytes) ++ x) (drop-drop 4 8 bytes))

parts_after : (bytes : List ℕ) (parts : List Part) → AreBytes bytes → 12 ≤ length bytes → parts_after_header bytes ≡ Ok parts → SpellsParts 12 (batch_sequence bytes) (drop 12 bytes) parts
parts_after bytes parts are long e =
    let twelve : length (take 12 bytes) ≡ 12 = length-take-le 12 bytes long in
    let lens : length bytes ≡ 12 + length (drop 12 bytes) = omega (arith, ap length (take-append-drop 12 bytes), length-append (take 12 bytes) (drop 12 bytes)) in
    parts_ok (length bytes) (length bytes) (batch_sequence bytes) 12 (batch_sequence bytes) [] (drop 12 bytes) parts (bytes_after bytes (take 12 bytes) (drop 12 bytes) are (sym (take-append-drop 12 bytes))) (omega arith) lens (omega arith) e

pub batch_of_ok : (bytes : List ℕ) (batch : Batch) → AreBytes bytes → batch_of bytes ≡ Ok batch → IsBatch bytes batch
unfolding batch_of
batch_of_ok bytes batch are e =
    let long_enough = passed (nat_lt (length bytes) 12) _ _ batch e in
    let long : 12 ≤ length bytes = ltb-false (length bytes) 12 long_enough.0 in
    both_steps (parts_after_header bytes) _ batch long_enough.1 λ parts read e1.
    let counted = passed (not (stated_count bytes == change_count parts)) _ _ batch e1 in
    let below = passed (passes_top (batch_sequence bytes) (change_count parts)) _ _ batch counted.1 in
    let tops = or_parts (nat_lt top_sequence (batch_sequence bytes)) (nat_lt (top_sequence + 1) (batch_sequence bytes + change_count parts)) below.0 in
    let same : record { sequence = batch_sequence bytes; parts = parts } ≡ batch = cc in
    subst (λ batch. IsBatch bytes batch) same (record {
      sequence_bytes = take 8 bytes;
      count_bytes = take 4 (drop 8 bytes);
      part_bytes = drop 12 bytes;
      spelled = header_parts bytes;
      sequence = record { eight = length-take-le 8 bytes (omega arith); value = refl };
      count = record { four = length-take-le 4 (drop 8 bytes) (omega (arith, ap length (take-append-drop 8 bytes), length-append (take 8 bytes) (drop 8 bytes), length-take-le 8 bytes (omega arith))); value = sym (eqb-true (stated_count bytes) (change_count parts) (not-false _ counted.0)) };
      parts = parts_after bytes parts are long read;
      below_top = ltb-false top_sequence (batch_sequence bytes) tops.0;
      last_below_top = ltb-false (top_sequence + 1) (batch_sequence bytes + change_count parts) tops.1;
    })

pub batch_of-batch : (bytes : List ℕ) (batch : Batch) → IsBatch bytes batch → batch_of bytes ≡ Ok batch
unfolding batch_of
batch_of-batch bytes batch b =
    let h = header_of bytes b.sequence_bytes b.count_bytes b.part_bytes b.spelled b.sequence.eight b.count.four in
    let sequence_is : batch_sequence bytes ≡ batch.sequence = ap little_endian h.sequence_is ∙ sym b.sequence.value in
    let counted : stated_count bytes ≡ change_count batch.parts = ap little_endian h.count_is ∙ sym b.count.value in
    let read : parts_after_header bytes ≡ Ok batch.parts =
    ap (λ sequence. in_turn (batch_part_at (length bytes) sequence) (length bytes) [] (drop 12 bytes)) sequence_is
    ∙ ap (in_turn (batch_part_at (length bytes) batch.sequence) (length bytes) []) h.parts_are
    ∙ parts-spelled (length bytes) (length bytes) batch.sequence 12 batch.sequence [] b.part_bytes batch.parts (omega (arith, h.long)) h.long (omega arith) b.parts in
    let top : batch_sequence bytes ≤ top_sequence = omega (arith, b.below_top) in
    let last_top : batch_sequence bytes + change_count batch.parts ≤ top_sequence + 1 = omega (arith, b.last_below_top) in
    let long : 12 ≤ length bytes = omega (arith, h.long) in
    cond-false (nat_lt (length bytes) 12) _ _ (le-ltb (length bytes) 12 long)
    ∙ first_step (parts_after_header bytes) _ _ read
    ∙ cond-false (not (stated_count bytes == change_count batch.parts)) _ _ (ap not (eq-eqb (stated_count bytes) (change_count batch.parts) counted))
    ∙ cond-false (passes_top (batch_sequence bytes) (change_count batch.parts)) _ _
    (or_from _ _ (le-ltb top_sequence (batch_sequence bytes) top) (le-ltb (top_sequence + 1) (batch_sequence bytes + change_count batch.parts) last_top))
    ∙ ap (λ (n : ℕ). let r : Result Batch BatchFault = Ok (record { sequence = n; parts = batch.parts }) in r) sequence_is
