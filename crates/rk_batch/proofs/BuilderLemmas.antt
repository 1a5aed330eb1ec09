-- A batch while it is built.
use Rattle.std.specs.Prelude.{flat_map}
use Rattle.std.proofs.Common.{◌≡◌, ◌⊎◌, ℕ, ◌+◌, ◌-◌, ◌^◌, ◌<◌, ◌≤◌, List, [], ◌∷◌, ◌++◌, length, drop, Result, Ok, refl, sym, ap, ◌∙◌, subst, inl, inr, arith, length-append}
use Rattle.std.proofs.lemmas.List.{flat_map_more}
use Rattle.rk_bytes.specs.declared.model.key.Kind.{Kind}
use Rattle.rk_bytes.specs.declared.model.key.Record.{Record}
use Rattle.rk_bytes.specs.Model.Numbers.{fixed_of}
use Rattle.rk_bytes.specs.Model.InternalKey.{top_sequence}
use Rattle.rk_bytes.specs.Model.WriteBatch.{Part, changes, change_count, batch_sequence, stated_count, batch_of}
use Rattle.rk_bytes.specs.Model.Writers.{change_bytes, batch_bytes}
use Rattle.rk_batch.specs.Seen.{parts_left, parts_or_none, counted}
use Rattle.rk_batch.specs.Building.{SuitsKind, AreWritable, IsBuilt, parts_from, record_of, next_record, records_in, with_header}
use Rattle.rk_batch.proofs.ReadLemmas.{good_batch}
use Rattle.rk_bytes.proofs.Callers.FixedNumbers.{little_endian-fixed_of}
use Rattle.rk_batch.proofs.WrittenParts.{changes-parts_from, parts-written}

-- a batch with a count in its header
abbrev pub bytes_with : ℕ → ℕ → List Record → List ℕ
bytes_with sequence count records = with_header sequence count (flat_map change_bytes records)

pub parts_in : (sequence count : ℕ) (records : List Record) → AreWritable sequence records
    → parts_left (length (bytes_with sequence count records)) sequence (drop 12 (bytes_with sequence count records)) ≡ Ok (parts_from 12 records)
parts_in sequence count records w =
    let len : length (bytes_with sequence count records) ≡ 12 + length (flat_map change_bytes records) = omega arith in
    ap (λ len. parts_left len sequence (flat_map change_bytes records)) len ∙ parts-written 12 sequence records w

pub records_in-built : (sequence count : ℕ) (records : List Record) (bytes : List ℕ) → AreWritable sequence records → bytes ≡ bytes_with sequence count records → records_in sequence bytes ≡ records
records_in-built sequence count records bytes w is =
    ap (records_in sequence) is ∙ ap (λ parts. changes (parts_or_none parts)) (parts_in sequence count records w) ∙ changes-parts_from 12 records

built : (sequence count : ℕ) (records : List Record) (bytes : List ℕ) → AreWritable sequence records → bytes ≡ bytes_with sequence 0 records → count ≡ length records → count < 2 ^ 32
    → (count ≡ 0) ⊎ (sequence + count ≤ top_sequence + 1) → IsBuilt sequence count bytes
built sequence count records bytes w is counts few below =
    let same : records ≡ records_in sequence bytes = sym (records_in-built sequence 0 records bytes w is) in record {
      spelled = is ∙ ap (bytes_with sequence 0) same;
      counted = counts ∙ ap length same;
      few = few;
      writable = subst (AreWritable sequence) same w;
      below_top = below;
    }

pub IsBuilt-start : (sequence : ℕ) (bytes : List ℕ) → bytes ≡ fixed_of 8 sequence ++ fixed_of 4 0 → IsBuilt sequence 0 bytes × (records_in sequence bytes ≡ [])
IsBuilt-start sequence bytes is = (built sequence 0 [] bytes tt is refl (omega arith) (inl refl), records_in-built sequence 0 [] bytes tt is)

AreWritable-more : (sequence : ℕ) (records : List Record) (r : Record) → AreWritable sequence records → r.sequence ≡ sequence + length records → r.family < 2 ^ 32 → length r.key < 2 ^ 32 → length r.value < 2 ^ 32
    → SuitsKind r.kind r.value → AreWritable sequence (records ++ r ∷ [])
AreWritable-more sequence [] r w numbered family key value suits = (omega arith, family, key, value, suits, tt)
AreWritable-more sequence (first ∷ records) r w numbered family key value suits =
    (w.0, w.1, w.2, w.3, w.4, AreWritable-more (sequence + 1) records r w.5 (omega arith) family key value suits)

-- one record more
pub IsBuilt-more : (sequence count family : ℕ) (kind : Kind) (key value bytes new : List ℕ) → IsBuilt sequence count bytes → length (records_in sequence bytes) < 2 ^ 32 - 1 → sequence + length (records_in sequence bytes) ≤ top_sequence
    → family < 2 ^ 32 → length key < 2 ^ 32 → length value < 2 ^ 32 → SuitsKind kind value → new ≡ bytes ++ change_bytes (record_of family kind key value)
    → IsBuilt sequence (count + 1) new
    × (records_in sequence new ≡ records_in sequence bytes ++ next_record (record { sequence = sequence; records = records_in sequence bytes }) family kind key value ∷ [])
IsBuilt-more sequence count family kind key value bytes new b few below family_fits key_fits value_fits suits is =
    let before : List Record = records_in sequence bytes in
    let r : Record = next_record (record { sequence = sequence; records = before }) family kind key value in
    let w : AreWritable sequence (before ++ r ∷ []) = AreWritable-more sequence before r b.writable refl family_fits key_fits value_fits suits in
    let whole : new ≡ bytes_with sequence 0 (before ++ r ∷ []) =
    is ∙ ap (λ bytes. bytes ++ change_bytes r) b.spelled ∙ flat_map_more change_bytes (fixed_of 8 sequence ++ fixed_of 4 0) before r in
    let len : count + 1 ≡ length (before ++ r ∷ []) = omega (arith, b.counted, length-append before (r ∷ [])) in
    (built sequence (count + 1) (before ++ r ∷ []) new w whole len (omega (arith, b.counted)) (inr (omega (arith, b.counted))), records_in-built sequence 0 (before ++ r ∷ []) new w whole)

-- the batch with its count is the one that is written
pub finished : (sequence count : ℕ) (bytes result : List ℕ) → IsBuilt sequence count bytes
    → ((first : ℕ) (back : List ℕ) → bytes ≡ with_header first 0 back → result ≡ with_header first count back) → result ≡ batch_bytes sequence (records_in sequence bytes)
unfolding batch_bytes
finished sequence count bytes result b counted =
    let back : List ℕ = flat_map change_bytes (records_in sequence bytes) in
    counted sequence back b.spelled ∙ ap (λ n. with_header sequence n back) b.counted

-- how many changes the parts are that records are
change_count-parts_from : (place : ℕ) (records : List Record) → change_count (parts_from place records) ≡ length records
change_count-parts_from place records = ap length (changes-parts_from place records)

-- what is written is read again
pub batch-written : (sequence count : ℕ) (bytes : List ℕ) → IsBuilt sequence count bytes → sequence ≤ top_sequence
    → batch_of (batch_bytes sequence (records_in sequence bytes)) ≡ Ok (record { sequence = sequence; parts = parts_from 12 (records_in sequence bytes) })
unfolding batch_bytes
batch-written sequence count bytes b below =
    let records : List Record = records_in sequence bytes in
    let written : List ℕ = bytes_with sequence (length records) records in
    let parts = parts_in sequence (length records) records b.writable in
    let first : sequence ≡ batch_sequence written = sym (little_endian-fixed_of 8 sequence (omega arith)) in
    let stated : length records ≡ stated_count written = sym (little_endian-fixed_of 4 (length records) (omega (arith, b.counted, b.few))) in
    let top : sequence + length records ≤ top_sequence + 1 = elim b.below_top [ inl none ↦ omega (arith, b.counted) | inr within ↦ omega (arith, b.counted) ] in
    let counts : Ok (length records) ≡ counted (parts_left (length written) (batch_sequence written) (drop 12 written)) =
    ap Ok (sym (change_count-parts_from 12 records)) ∙ ap counted (sym parts) ∙ ap (λ q. counted (parts_left (length written) q (drop 12 written))) first in
    let good = good_batch written sequence (length records) (length records) (omega arith) first stated refl below top counts in
    let same : ◌≡◌ {A = Result (List Part) _} (Ok good.parts) (Ok (parts_from 12 records)) = sym good.read ∙ parts in
    let parts_are : good.parts ≡ parts_from 12 records = cc in
    good.batch ∙ ap (λ (parts : List Part). Ok (record { sequence = sequence; parts = parts })) parts_are
