-- The sequence numbers of a batch that reads.
use Rattle.std.proofs.Common.{◌≡◌, ℕ, zero, suc, ◌+◌, ◌-◌, ◌≤◌, Bool, true, false, cond, not, List, [], ◌∷◌, length, drop, Option, Some, None, Result, Ok, Err, refl, sym, ap, subst, arith}
use Rattle.std.specs.Prelude.{◌==◌, nat_lt, slice_index}
use Rattle.std.specs.List.{All}
use Rattle.std.proofs.lemmas.Bool.{ltb-false, or_parts}
use Rattle.std.proofs.lemmas.List.Elements.{All-nil, All-cons}
use Rattle.rk_bytes.specs.declared.model.batch.BatchFault.{BatchFault}
use Rattle.rk_bytes.specs.declared.model.batch.BatchFault.TheVariants.{BadRecord}
use Rattle.rk_bytes.specs.declared.model.key.Kind.{Kind}
use Rattle.rk_bytes.specs.declared.model.key.Record.{Record}
use Rattle.rk_bytes.specs.Model.Numbers.{Read, prefixed_at, reads_or, in_turn}
use Rattle.rk_bytes.specs.Model.InternalKey.{top_sequence}
use Rattle.rk_bytes.specs.Model.WriteBatch.{Part, change, log_bytes, noop, Batch, changes, change_count, kind_of_tag, is_unsupported_batch_tag, family_at, value_at, change_at, log_bytes_at, part_of_tag, batch_part_at, batch_sequence, stated_count, parts_after_header, passes_top, batch_of}
use Rattle.rk_bytes.proofs.Callers.Readings.{both_steps, passed}
use Rattle.rk_batch.specs.Seen.{BatchSeen, seen_whole}
use Rattle.rk_batch.specs.Read.{ReadAs}
use Rattle.rk_walmode.specs.Low.{IsLow, IsUnread}

-- the part is no change, or one with this sequence number
abbrev HasSequence : ℕ → Part → Type 0
HasSequence sequence (change place r) = r.sequence ≡ sequence
HasSequence sequence (log_bytes place bytes) = Unit {0}
HasSequence sequence (noop place) = Unit {0}

chosen : {A F C : Type 0} (test : Bool) (x y : Result A F) (r : A) → cond test x y ≡ Ok r → (x ≡ Ok r → C) → (y ≡ Ok r → C) → C
chosen true x y r e first second = first e
chosen false x y r e first second = second e

reads_ok : {A F : Type 0} (fault : F) (read : Read A) (r : A × List ℕ) → reads_or fault read ≡ Ok r → read ≡ Ok r
reads_ok fault (Ok one) r e = cc
reads_ok fault (Err why) r e = absurd cc

change_numbered : (place sequence tag : ℕ) (kind : Kind) (bytes : List ℕ) (r : Part × List ℕ) → change_at place sequence tag kind bytes ≡ Ok r → HasSequence sequence r.0
change_numbered place sequence tag kind bytes r e =
    both_steps (family_at tag bytes) _ r e λ family family_read e1.
    both_steps (prefixed_at family.1) _ r e1 λ key key_read e2.
    both_steps (value_at kind key.1) _ r e2 λ value value_read e3.
    let own : Record = record { family = family.0; key = key.0; sequence = sequence; kind = kind; value = value.0 } in
    let same : (change place own, value.1) ≡ r = cc in
    subst (λ (r : Part × List ℕ). HasSequence sequence r.0) same refl

log_bytes_numbered : (place sequence : ℕ) (bytes : List ℕ) (r : Part × List ℕ) → log_bytes_at place bytes ≡ Ok r → HasSequence sequence r.0
log_bytes_numbered place sequence bytes r e =
    both_steps (prefixed_at bytes) _ r e λ slice read e1.
    let same : (log_bytes place slice.0, slice.1) ≡ r = cc in
    subst (λ (r : Part × List ℕ). HasSequence sequence r.0) same tt

kind_numbered : (place sequence tag : ℕ) (bytes : List ℕ) (r : Part × List ℕ) (found : Option Kind)
    → elim found as (λ _. Result (Part × List ℕ) BatchFault) [ Some kind ↦ reads_or (BadRecord place) (change_at place sequence tag kind bytes) | None ↦ Err (BadRecord place) ] ≡ Ok r → HasSequence sequence r.0
kind_numbered place sequence tag bytes r (Some kind) e = change_numbered place sequence tag kind bytes r (reads_ok (BadRecord place) (change_at place sequence tag kind bytes) r e)
kind_numbered place sequence tag bytes r None e = absurd cc

part_numbered : (place sequence tag : ℕ) (bytes : List ℕ) (r : Part × List ℕ) → part_of_tag place sequence tag bytes ≡ Ok r → HasSequence sequence r.0
part_numbered place sequence tag bytes r e =
    chosen (tag == 0x3) _ _ r e (λ e1. log_bytes_numbered place sequence bytes r (reads_ok (BadRecord place) (log_bytes_at place bytes) r e1)) λ e1.
    chosen (tag == 0xD) _ _ r e1 (λ e2. let same : (noop place, bytes) ≡ r = cc in subst (λ (r : Part × List ℕ). HasSequence sequence r.0) same tt) λ e2.
    chosen (is_unsupported_batch_tag tag) _ _ r e2 (λ e3. absurd cc) λ e3.
    kind_numbered place sequence tag bytes r (kind_of_tag tag) e3

-- a part before others
low_cons : (sequence : ℕ) (part : Part) (parts : List Part) → HasSequence sequence part → sequence + change_count (part ∷ parts) ≤ top_sequence + 1 → All IsLow (changes parts) → All IsLow (changes (part ∷ parts))
low_cons sequence (change place r) parts is fits low = All-cons IsLow r (changes parts) (omega (arith, is, fits)) low
low_cons sequence (log_bytes place bytes) parts is fits low = low
low_cons sequence (noop place) parts is fits low = low

counts_cons : (part : Part) (before : List Part) → change_count (part ∷ before) ≡ change_count (part ∷ []) + change_count before
counts_cons (change place r) before = omega arith
counts_cons (log_bytes place bytes) before = omega arith
counts_cons (noop place) before = omega arith

-- parts one after another
low_parts : (n len sequence : ℕ) (before : List Part) (bytes : List ℕ) (parts : List Part) → in_turn (batch_part_at len sequence) n before bytes ≡ Ok parts → sequence + change_count before + change_count parts ≤ top_sequence + 1
    → All IsLow (changes parts)
unfolding in_turn
low_parts zero len sequence before [] parts e fits = let none : [] ≡ parts = cc in subst (λ (parts : List Part). All IsLow (changes parts)) none (All-nil IsLow)
low_parts zero len sequence before (b ∷ bytes) parts e fits =
    both_steps (batch_part_at len sequence before []) (λ (one : Part × List ℕ). let read : Result (List Part) BatchFault = Ok (one.0 ∷ []) in read) parts e λ one read e1.
    let same : one.0 ∷ [] ≡ parts = cc in
    let is = part_numbered (len - length {A = ℕ} []) (sequence + change_count before) (slice_index [] 0) (drop 1 []) one read in
    subst (λ (parts : List Part). All IsLow (changes parts)) same (low_cons (sequence + change_count before) one.0 [] is (omega (arith, fits, ap change_count same)) (All-nil IsLow))
low_parts (suc n) len sequence before [] parts e fits = let none : [] ≡ parts = cc in subst (λ (parts : List Part). All IsLow (changes parts)) none (All-nil IsLow)
low_parts (suc n) len sequence before (b ∷ bytes) parts e fits =
    both_steps (batch_part_at len sequence before (b ∷ bytes)) _ parts e λ one read e1.
    both_steps (in_turn (batch_part_at len sequence) n (one.0 ∷ before) one.1) _ parts e1 λ more more_read e2.
    let same : one.0 ∷ more ≡ parts = cc in
    let is = part_numbered (len - length (b ∷ bytes)) (sequence + change_count before) b bytes one read in
    let whole = ap change_count same in
    subst (λ (parts : List Part). All IsLow (changes parts)) same (low_cons (sequence + change_count before) one.0 more is (omega (arith, fits, whole))
    (low_parts n len sequence (one.0 ∷ before) one.1 more more_read (omega (arith, fits, whole, counts_cons one.0 before, counts_cons one.0 more))))

-- a batch that reads
unread : (bytes : List ℕ) (batch : Batch) → batch_of bytes ≡ Ok batch → IsUnread (seen_whole batch)
unfolding batch_of
unread bytes batch e =
    let long_enough = passed (nat_lt (length bytes) 12) _ _ batch e in
    both_steps (parts_after_header bytes) _ batch long_enough.1 λ parts read e1.
    let counted = passed (not (stated_count bytes == change_count parts)) _ _ batch e1 in
    let below = passed (passes_top (batch_sequence bytes) (change_count parts)) _ _ batch counted.1 in
    let tops = or_parts (nat_lt top_sequence (batch_sequence bytes)) (nat_lt (top_sequence + 1) (batch_sequence bytes + change_count parts)) below.0 in
    let fits : batch_sequence bytes + change_count parts ≤ top_sequence + 1 = ltb-false (top_sequence + 1) (batch_sequence bytes + change_count parts) tops.1 in
    let same : record { sequence = batch_sequence bytes; parts = parts } ≡ batch = cc in
    subst (λ (batch : Batch). IsUnread (seen_whole batch)) same (record {
      whole = refl;
      fits = fits;
      low = low_parts (length bytes) (length bytes) (batch_sequence bytes) [] (drop 12 bytes) parts read (omega (arith, fits));
    })

pub unread_as : (bytes : List ℕ) (seen : BatchSeen) → ReadAs (Ok seen) (batch_of bytes) → IsUnread seen
unread_as bytes seen reads = by (batch_of bytes) refl reads
  where
    by : (read : Result Batch BatchFault) → batch_of bytes ≡ read → ReadAs (Ok seen) read → IsUnread seen
    by (Ok batch) is reads = subst IsUnread (sym reads) (unread bytes batch is)
    by (Err why) is reads = absurd reads
