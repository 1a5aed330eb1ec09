-- The records of a batch that is built are read again.
use Rattle.std.specs.Prelude.{slice_index, ◌==◌, flat_map}
use Rattle.std.proofs.Common.{◌≡◌, ℕ, ◌+◌, ◌-◌, ◌^◌, ◌<◌, Bool, true, false, cond, List, [], ◌∷◌, ◌++◌, length, drop, Ok, refl, sym, ap, ◌∙◌, subst, arith, length-append, append_assoc}
use Rattle.std.proofs.lemmas.Bool.{eqb-true}
use Rattle.rk_bytes.specs.declared.model.batch.BatchFault.TheVariants.{BadRecord}
use Rattle.rk_bytes.specs.declared.model.key.Kind.{Kind}
use Rattle.rk_bytes.specs.declared.model.key.Kind.TheVariants.{Deletion, Value, Merge, SingleDeletion, RangeDeletion}
use Rattle.rk_bytes.specs.declared.model.key.Record.{Record}
use Rattle.rk_bytes.specs.Model.Numbers.{Read, ◌>>=◌, varint_of, prefixed_of, varint32_at, prefixed_at, reads_or}
use Rattle.rk_bytes.specs.Model.WriteBatch.{Part, change, changes, plain_tag, family_tag, family_at, value_at, change_at, part_of_tag}
use Rattle.rk_bytes.specs.Model.Writers.{family_bytes, value_bytes, change_bytes}
use Rattle.rk_batch.specs.Seen.{parts_left}
use Rattle.rk_batch.specs.Building.{SuitsKind, AreWritable, parts_from}
use Rattle.rk_batch.proofs.ViewLemmas.{parts_left-nothing, parts_left-more}
use Rattle.rk_bytes.proofs.Callers.Readings.{first_step}
use Rattle.rk_bytes.proofs.Callers.Tags.{plain_change, named_change}
use Rattle.rk_bytes.proofs.Callers.Varints.{varint32-written, prefixed-written}

plain_family : (kind : Kind) (bytes : List ℕ) → family_at (plain_tag kind) bytes ≡ Ok (0, bytes)
plain_family Deletion bytes = refl
plain_family Value bytes = refl
plain_family Merge bytes = refl
plain_family SingleDeletion bytes = refl
plain_family RangeDeletion bytes = refl

named_family : (kind : Kind) (bytes : List ℕ) → family_at (family_tag kind) bytes ≡ varint32_at bytes
named_family Deletion bytes = refl
named_family Value bytes = refl
named_family Merge bytes = refl
named_family SingleDeletion bytes = refl
named_family RangeDeletion bytes = refl

-- a tag, the family's bytes after it, and what is read of both
record Tagged (place sequence : ℕ) (kind : Kind) (family : ℕ) (bytes : List ℕ) : Type 0 where
  tag : ℕ
  more : List ℕ
  whole : bytes ≡ tag ∷ more
  family_read : (rest : List ℕ) → family_at tag (more ++ rest) ≡ Ok (family, rest)
  change_read : (after : List ℕ) → part_of_tag place sequence tag after ≡ reads_or (BadRecord place) (change_at place sequence tag kind after)

tagged : (place sequence : ℕ) (kind : Kind) (family : ℕ) → family < 2 ^ 32 → Tagged place sequence kind family (cond (family == 0) (plain_tag kind ∷ []) (family_tag kind ∷ varint_of family))
tagged place sequence kind family fits = by (family == 0) refl
  where
    by : (test : Bool) → (family == 0) ≡ test → Tagged place sequence kind family (cond test (plain_tag kind ∷ []) (family_tag kind ∷ varint_of family))
    by true told = record {
      tag = plain_tag kind;
      more = [];
      whole = refl;
      family_read = λ rest. plain_family kind rest ∙ ap (λ n. Ok (n, rest)) (sym (eqb-true family 0 told));
      change_read = plain_change place sequence kind;
    }
    by false told = record {
      tag = family_tag kind;
      more = varint_of family;
      whole = refl;
      family_read = λ rest. named_family kind (varint_of family ++ rest) ∙ varint32-written family rest fits;
      change_read = named_change place sequence kind;
    }

value-written : (kind : Kind) (value rest : List ℕ) → length value < 2 ^ 32 → SuitsKind kind value → value_at kind (value_bytes kind value ++ rest) ≡ Ok (value, rest)
value-written Deletion value rest short none = ap (λ value. Ok (value, rest)) (sym none)
value-written SingleDeletion value rest short none = ap (λ value. Ok (value, rest)) (sym none)
value-written Value value rest short suits = prefixed-written value rest short
value-written Merge value rest short suits = prefixed-written value rest short
value-written RangeDeletion value rest short suits = prefixed-written value rest short

-- the bytes of a change, whatever follows it, as their tag and what follows that
change_split : (fb more key value rest : List ℕ) (tag : ℕ) → fb ≡ tag ∷ more → ((fb ++ key) ++ value) ++ rest ≡ tag ∷ (more ++ (key ++ (value ++ rest)))
change_split fb more key value rest tag whole = ap (λ fb. ((fb ++ key) ++ value) ++ rest) whole ∙ ap (λ bytes. tag ∷ bytes) (regroup more key value rest)
  where
    regroup : (a b c d : List ℕ) → ((a ++ b) ++ c) ++ d ≡ a ++ (b ++ (c ++ d))
    regroup a b c d = simp append_assoc

change_read : (place sequence tag : ℕ) (r : Record) (more rest : List ℕ) → r.sequence ≡ sequence → length r.key < 2 ^ 32 → length r.value < 2 ^ 32 → SuitsKind r.kind r.value
    → ((rest : List ℕ) → family_at tag (more ++ rest) ≡ Ok (r.family, rest))
    → change_at place sequence tag r.kind (more ++ (prefixed_of r.key ++ (value_bytes r.kind r.value ++ rest))) ≡ Ok (change place r, rest)
change_read place sequence tag r more rest numbered key value suits family =
    first_step (family_at tag (more ++ (prefixed_of r.key ++ (value_bytes r.kind r.value ++ rest)))) _ _ (family (prefixed_of r.key ++ (value_bytes r.kind r.value ++ rest)))
    ∙ first_step (prefixed_at (prefixed_of r.key ++ (value_bytes r.kind r.value ++ rest))) _ _ (prefixed-written r.key (value_bytes r.kind r.value ++ rest) key)
    ∙ first_step (value_at r.kind (value_bytes r.kind r.value ++ rest)) _ _ (value-written r.kind r.value rest value suits)
    ∙ ap (λ (n : ℕ). let read : Read Part = Ok (change place (record { family = r.family; key = r.key; sequence = n; kind = r.kind; value = r.value }), rest) in read) (sym numbered)

-- one record, whatever follows it
pub change-written : (place sequence : ℕ) (r : Record) (rest : List ℕ) → r.sequence ≡ sequence → r.family < 2 ^ 32 → length r.key < 2 ^ 32 → length r.value < 2 ^ 32 → SuitsKind r.kind r.value
    → (part_of_tag place sequence (slice_index (change_bytes r ++ rest) 0) (drop 1 (change_bytes r ++ rest)) ≡ Ok (change place r, rest)) × (0 < length (change_bytes r ++ rest))
change-written place sequence r rest numbered family key value suits =
    let t = tagged place sequence r.kind r.family family in
    let split = change_split (family_bytes r) t.more (prefixed_of r.key) (value_bytes r.kind r.value) rest t.tag t.whole in
    let after : List ℕ = t.more ++ (prefixed_of r.key ++ (value_bytes r.kind r.value ++ rest)) in (
      ap (λ bytes. part_of_tag place sequence (slice_index bytes 0) (drop 1 bytes)) split
          ∙ t.change_read after
          ∙ ap (reads_or (BadRecord place)) (change_read place sequence t.tag r t.more rest numbered key value suits t.family_read),
      subst (λ bytes. 0 < length bytes) (sym split) (omega arith),
    )

pub changes-parts_from : (place : ℕ) (records : List Record) → changes (parts_from place records) ≡ records
changes-parts_from place [] = refl
changes-parts_from place (r ∷ records) = ap (λ records. r ∷ records) (changes-parts_from (place + length (change_bytes r)) records)

pub parts-written : (place sequence : ℕ) (records : List Record) → AreWritable sequence records
    → parts_left (place + length (flat_map change_bytes records)) sequence (flat_map change_bytes records) ≡ Ok (parts_from place records)
parts-written place sequence [] w = parts_left-nothing (place + 0) sequence
parts-written place sequence (r ∷ records) w =
    let rest : List ℕ = flat_map change_bytes records in
    let bytes : List ℕ = change_bytes r ++ rest in
    let one = change-written place sequence r rest w.0 w.1 w.2 w.3 w.4 in
    let here : place + length bytes - length bytes ≡ place = omega arith in
    let len : place + length bytes ≡ place + length (change_bytes r) + length rest = omega (arith, length-append (change_bytes r) rest) in
    parts_left-more (place + length bytes) sequence bytes (change place r) rest one.1
    (ap (λ place. part_of_tag place sequence (slice_index bytes 0) (drop 1 bytes)) here ∙ one.0)
    ∙ ap (λ parts. parts >>= (λ more. Ok (change place r ∷ more)))
    (ap (λ len. parts_left len (sequence + 1) rest) len ∙ parts-written (place + length (change_bytes r)) (sequence + 1) records w.5)
