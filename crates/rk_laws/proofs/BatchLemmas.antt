-- A part of a batch is read just where it is spelled.
use Rattle.std.proofs.Common.{◌≡◌, ◌⊎◌, ℕ, ◌≤◌, Bool, true, false, cond, List, [], ◌∷◌, ◌++◌, length, drop, Option, Some, None, Result, Ok, Err, refl, sym, ◌∙◌, ap, subst, inl, inr, arith}
use Rattle.std.specs.Prelude.{◌==◌, ◌||◌, slice_index}
use Rattle.std.proofs.lemmas.Bool.{false≢true, eqb-true, or_cases}
use Rattle.rk_bytes.specs.declared.model.key.Kind.{Kind}
use Rattle.rk_bytes.specs.declared.model.key.Kind.TheVariants.{Deletion, Value, Merge, SingleDeletion, RangeDeletion}
use Rattle.rk_bytes.specs.declared.model.key.Record.{Record}
use Rattle.rk_bytes.specs.declared.model.batch.BatchFault.{BatchFault}
use Rattle.rk_bytes.specs.declared.model.batch.BatchFault.TheVariants.{BadRecord}
use Rattle.rk_bytes.specs.Model.Numbers.{AreBytes, Read, IsPrefixed, IsVarint32, varint32_at, prefixed_at, reads_or}
use Rattle.rk_bytes.specs.Model.InternalKey.{all_kinds}
use Rattle.rk_bytes.specs.Model.WriteBatch.{Part, change, log_bytes, noop, plain_tag, family_tag, kind_of_tag, names_family, is_unsupported_batch_tag, family_at, value_at, change_at, log_bytes_at, part_of_tag, SpellsFamily, SpellsChangeValue, SpellsChange, SpellsPart}
use Rattle.rk_bytes.proofs.Callers.Readings.{passed, found_passes}
use Rattle.rk_bytes.proofs.Callers.Tags.{plain_change, named_change}
use Rattle.rk_laws.proofs.Readers.{Front, Exact, front_as, read_then, spelled_then, spelled_last, joined, exact_varint32, exact_prefixed, exact_made, Made, reads_or_ok}

no_family : (kind : Kind) → names_family (plain_tag kind) ≡ false
no_family Deletion = refl
no_family Value = refl
no_family Merge = refl
no_family SingleDeletion = refl
no_family RangeDeletion = refl

a_family : (kind : Kind) → names_family (family_tag kind) ≡ true
a_family Deletion = refl
a_family Value = refl
a_family Merge = refl
a_family SingleDeletion = refl
a_family RangeDeletion = refl

-- the tag is one of the two of a kind
abbrev TagOf : ℕ → Kind → Type 0
TagOf tag kind = (tag ≡ plain_tag kind) ⊎ (tag ≡ family_tag kind)

tag_of : (tag : ℕ) (kind : Kind) → kind_of_tag tag ≡ Some kind → TagOf tag kind
tag_of tag kind e =
    elim (or_cases (plain_tag kind == tag) (family_tag kind == tag) (found_passes (λ kind. plain_tag kind == tag || family_tag kind == tag) all_kinds kind e)) [
      | inl plain ↦ inl (sym (eqb-true (plain_tag kind) tag plain))
      | inr named ↦ inr (sym (eqb-true (family_tag kind) tag named))
    ]

-- the family of a change of this kind, after its tag
abbrev SpellsAfterTag : ℕ → Kind → List ℕ → ℕ → Type 0
SpellsAfterTag tag kind part family = SpellsFamily (tag ∷ part) kind family

plain_family : (tag : ℕ) (kind : Kind) → tag ≡ plain_tag kind → Exact (family_at tag) (SpellsAfterTag tag kind)
plain_family tag kind is =
    let none : names_family tag ≡ false = ap names_family is ∙ no_family kind in
    record {
      reads = λ bytes r are e.
          let read : cond false (varint32_at bytes) (Ok (0, bytes)) ≡ Ok r = subst (λ b. cond b (varint32_at bytes) (Ok (0, bytes)) ≡ Ok r) none e in
          let same : (0, bytes) ≡ r = cc in
          subst (λ (r : ℕ × List ℕ). Front (SpellsAfterTag tag kind) bytes r) same (record { part = []; whole = refl; spells = inl (ap (λ t. t ∷ []) is, refl); after = are });
      spelled = λ part rest family s.
          elim s [
            | inl plain ↦ let nothing : part ≡ [] = cc in rw (none, nothing, plain.1) refl
            | inr named ↦ let other : tag ≡ family_tag kind = cc in absurd (false≢true (sym none ∙ (ap names_family other ∙ a_family kind)))
          ];
    }

named_family : (tag : ℕ) (kind : Kind) → tag ≡ family_tag kind → Exact (family_at tag) (SpellsAfterTag tag kind)
named_family tag kind is =
    let some : names_family tag ≡ true = ap names_family is ∙ a_family kind in
    record {
      reads = λ bytes r are e.
          let read : cond true (varint32_at bytes) (Ok (0, bytes)) ≡ Ok r = subst (λ b. cond b (varint32_at bytes) (Ok (0, bytes)) ≡ Ok r) some e in
          front_as IsVarint32 (SpellsAfterTag tag kind) bytes r (λ part family s. inr (part, ap (λ t. t ∷ part) is, s)) (exact_varint32.reads bytes r are read);
      spelled = λ part rest family s.
          elim s [
            | inl plain ↦ let other : tag ≡ plain_tag kind = cc in absurd (false≢true (sym (ap names_family other ∙ no_family kind) ∙ some))
            | inr named ↦
                let (id, whole, is_id) = named in
                let same : part ≡ id = cc in
                rw (some, same) (exact_varint32.spelled id rest family is_id)
          ];
    }

exact_family : (tag : ℕ) (kind : Kind) → TagOf tag kind → Exact (family_at tag) (SpellsAfterTag tag kind)
exact_family tag kind (inl is) = plain_family tag kind is
exact_family tag kind (inr is) = named_family tag kind is

exact_no_value : Exact (λ bytes. let read : Read (List ℕ) = Ok ([], bytes) in read) (λ part value. (part ≡ []) × (value ≡ []))
exact_no_value = record {
  reads = λ bytes r are e.
      let same : ([], bytes) ≡ r = cc in
      subst (λ (r : List ℕ × List ℕ). Front (λ part value. (part ≡ []) × (value ≡ [])) bytes r) same (record { part = []; whole = refl; spells = (refl, refl); after = are });
  spelled = λ part rest value s. rw (s.0, s.1) refl;
}

exact_value : (kind : Kind) → Exact (value_at kind) (λ part value. SpellsChangeValue part kind value)
exact_value Deletion = exact_no_value
exact_value SingleDeletion = exact_no_value
exact_value Value = exact_prefixed
exact_value Merge = exact_prefixed
exact_value RangeDeletion = exact_prefixed

-- the bytes after a tag spell the part together with it
abbrev SpellsTagged : ℕ → ℕ → ℕ → List ℕ → Part → Type 0
SpellsTagged place sequence tag part p = SpellsPart place sequence (tag ∷ part) p

change_ok : (place sequence tag : ℕ) (kind : Kind) (bytes : List ℕ) (r : Part × List ℕ) → AreBytes bytes → TagOf tag kind → change_at place sequence tag kind bytes ≡ Ok r → Front (SpellsTagged place sequence tag) bytes r
change_ok place sequence tag kind bytes r are t e =
    read_then (family_at tag) (SpellsAfterTag tag kind) (exact_family tag kind t) bytes _ r are e λ family a e1.
    read_then prefixed_at IsPrefixed exact_prefixed family.1 _ r a.after e1 λ key b e2.
    read_then (value_at kind) _ (exact_value kind) key.1 _ r b.after e2 λ value v e3.
    let own : Record = record { family = family.0; key = key.0; sequence = sequence; kind = kind; value = value.0 } in
    let same : (change place own, value.1) ≡ r = cc in
    subst (λ (r : Part × List ℕ). Front (SpellsTagged place sequence tag) bytes r) same (record {
      part = a.part ++ (b.part ++ v.part);
      whole = joined _ _ _ a.whole (joined _ _ _ b.whole v.whole);
      spells = (refl, record { family_bytes = tag ∷ a.part; key_bytes = b.part; value_bytes = v.part; spelled = refl; family = a.spells; key = b.spells; value = v.spells; sequence_is = refl });
      after = v.after;
    })

-- the bytes of a family begin with a tag of the kind
family_first : (bytes : List ℕ) (kind : Kind) (family : ℕ) → SpellsFamily bytes kind family → (tag : ℕ) × (id : List ℕ) × (bytes ≡ tag ∷ id) × TagOf tag kind
family_first bytes kind family (inl plain) = (plain_tag kind, [], plain.0, inl refl)
family_first bytes kind family (inr (id, whole, is)) = (family_tag kind, id, whole, inr refl)

-- a change's tag, and what is read after it
change-spelled : (place sequence tag at : ℕ) (part rest : List ℕ) (r : Record) → at ≡ place → SpellsChange sequence (tag ∷ part) r → TagOf tag r.kind × (change_at place sequence tag r.kind (part ++ rest) ≡ Ok (change at r, rest))
change-spelled place sequence tag at part rest r place_is s =
    let (own, id, first, t) = family_first s.family_bytes r.kind r.family s.family in
    let whole : tag ∷ part ≡ own ∷ (id ++ (s.key_bytes ++ s.value_bytes)) = s.spelled ∙ ap (λ x. x ++ (s.key_bytes ++ s.value_bytes)) first in
    let same : own ≡ tag = cc in
    let after : part ≡ id ++ (s.key_bytes ++ s.value_bytes) = cc in
    let tag_is : TagOf tag r.kind = subst (λ own. TagOf own r.kind) same t in
    let family : SpellsAfterTag tag r.kind id r.family = subst (λ bytes. SpellsFamily bytes r.kind r.family) (first ∙ ap (λ own. own ∷ id) same) s.family in (
      tag_is,
      ap (λ part. change_at place sequence tag r.kind (part ++ rest)) after
          ∙ spelled_then (family_at tag) (SpellsAfterTag tag r.kind) (exact_family tag r.kind tag_is) id _ rest _ r.family family
          ∙ spelled_then prefixed_at IsPrefixed exact_prefixed s.key_bytes _ rest _ r.key s.key
          ∙ spelled_last (value_at r.kind) _ (exact_value r.kind) s.value_bytes rest _ r.value s.value
          ∙ (λ i. Ok (change (sym place_is i) (record { family = r.family; key = r.key; sequence = sym s.sequence_is i; kind = r.kind; value = r.value }), rest)),
    )

-- one of two readings
chosen : {A F C : Type 0} (test : Bool) (x y : Result A F) (r : A) → cond test x y ≡ Ok r → (test ≡ true → x ≡ Ok r → C) → (test ≡ false → y ≡ Ok r → C) → C
chosen true x y r e first second = first refl e
chosen false x y r e first second = second refl e

-- what is read after a change's tag, by the kind that has it
abbrev read_by : ℕ → ℕ → ℕ → List ℕ → Option Kind → Result (Part × List ℕ) BatchFault
read_by place sequence tag bytes found =
    elim found [
      | Some kind ↦ reads_or (BadRecord place) (change_at place sequence tag kind bytes)
      | None ↦ Err (BadRecord place)
    ]

read_by_ok : (place sequence tag : ℕ) (bytes : List ℕ) (r : Part × List ℕ) → AreBytes bytes → (found : Option Kind) → kind_of_tag tag ≡ found → read_by place sequence tag bytes found ≡ Ok r → Front (SpellsTagged place sequence tag) bytes r
read_by_ok place sequence tag bytes r are (Some kind) found e = change_ok place sequence tag kind bytes r are (tag_of tag kind found) (reads_or_ok (BadRecord place) _ r e)
read_by_ok place sequence tag bytes r are None found e = absurd cc

exact_log_bytes : (place : ℕ) → Exact (log_bytes_at place) (Made (log_bytes place) IsPrefixed)
exact_log_bytes place = exact_made (log_bytes place) prefixed_at IsPrefixed exact_prefixed

tagged_ok : (place sequence tag : ℕ) (bytes : List ℕ) (r : Part × List ℕ) → AreBytes bytes → part_of_tag place sequence tag bytes ≡ Ok r → Front (SpellsTagged place sequence tag) bytes r
tagged_ok place sequence tag bytes r are e =
    chosen (tag == 0x3) _ _ r e (λ is read.
    front_as (Made (log_bytes place) IsPrefixed) (SpellsTagged place sequence tag) bytes r
    (λ part p s. subst (λ p. SpellsTagged place sequence tag part p) s.is (refl, part, ap (λ tag. tag ∷ part) (eqb-true tag 0x3 is), s.spells))
    ((exact_log_bytes place).reads bytes r are (reads_or_ok (BadRecord place) _ r read))) λ other e1.
    chosen (tag == 0xD) _ _ r e1 (λ is read.
    let same : (noop place, bytes) ≡ r = cc in
    subst (λ (r : Part × List ℕ). Front (SpellsTagged place sequence tag) bytes r) same
    (record { part = []; whole = refl; spells = (refl, ap (λ tag. tag ∷ []) (eqb-true tag 0xD is)); after = are })) λ other e2.
    let supported = passed (is_unsupported_batch_tag tag) _ _ r e2 in
    read_by_ok place sequence tag bytes r are (kind_of_tag tag) refl supported.1

change_read : (place sequence tag : ℕ) (kind : Kind) (bytes : List ℕ) → TagOf tag kind → part_of_tag place sequence tag bytes ≡ reads_or (BadRecord place) (change_at place sequence tag kind bytes)
change_read place sequence tag kind bytes (inl is) =
    subst (λ tag. part_of_tag place sequence tag bytes ≡ reads_or (BadRecord place) (change_at place sequence tag kind bytes)) (sym is) (plain_change place sequence kind bytes)
change_read place sequence tag kind bytes (inr is) =
    subst (λ tag. part_of_tag place sequence tag bytes ≡ reads_or (BadRecord place) (change_at place sequence tag kind bytes)) (sym is) (named_change place sequence kind bytes)

tagged-spelled : (place sequence tag : ℕ) (part rest : List ℕ) (p : Part) → SpellsTagged place sequence tag part p → part_of_tag place sequence tag (part ++ rest) ≡ Ok (p, rest)
tagged-spelled place sequence tag part rest (change at r) (place_is, s) =
    let (t, read) = change-spelled place sequence tag at part rest r place_is s in
    change_read place sequence tag r.kind (part ++ rest) t ∙ ap (reads_or (BadRecord place)) read
tagged-spelled place sequence tag part rest (log_bytes at slice) (place_is, slice_bytes, whole, is) =
    let same : tag ≡ 0x3 = cc in
    let after : part ≡ slice_bytes = cc in
    let made : Made (log_bytes place) IsPrefixed part (log_bytes at slice) = record { of = slice; is = ap (λ place. log_bytes place slice) (sym place_is); spells = subst (λ bytes. IsPrefixed bytes slice) (sym after) is } in
    rw same (ap (reads_or (BadRecord place)) ((exact_log_bytes place).spelled part rest (log_bytes at slice) made))
tagged-spelled place sequence tag part rest (noop at) (place_is, whole) =
    let same : tag ≡ 0xD = cc in
    let after : part ≡ [] = cc in
    rw (same, after, place_is) refl

-- the bytes of a part begin with its tag
pub some_bytes : (place sequence : ℕ) (part : List ℕ) (p : Part) → SpellsPart place sequence part p → 1 ≤ length part
some_bytes place sequence (tag ∷ part) p s = omega arith
some_bytes place sequence [] (change at r) (place_is, s) =
    let (own, id, first, t) = family_first s.family_bytes r.kind r.family s.family in
    let whole : [] ≡ own ∷ (id ++ (s.key_bytes ++ s.value_bytes)) = s.spelled ∙ ap (λ x. x ++ (s.key_bytes ++ s.value_bytes)) first in
    absurd cc
some_bytes place sequence [] (log_bytes at slice) (place_is, slice_bytes, whole, is) = absurd cc
some_bytes place sequence [] (noop at) (place_is, whole) = absurd cc

pub exact_part_at : (place sequence : ℕ) → Exact (λ bytes. part_of_tag place sequence (slice_index bytes 0) (drop 1 bytes)) (SpellsPart place sequence)
exact_part_at place sequence = record { reads = ok; spelled = back }
  where
    ok : (bytes : List ℕ) (r : Part × List ℕ) → AreBytes bytes → part_of_tag place sequence (slice_index bytes 0) (drop 1 bytes) ≡ Ok r → Front (SpellsPart place sequence) bytes r
    ok [] r are e = absurd cc
    ok (tag ∷ bytes) r are e =
        let f = tagged_ok place sequence tag bytes r are.1 e in
        record { part = tag ∷ f.part; whole = ap (λ bytes. tag ∷ bytes) f.whole; spells = f.spells; after = f.after }

    back : (part rest : List ℕ) (p : Part) → SpellsPart place sequence part p → part_of_tag place sequence (slice_index (part ++ rest) 0) (drop 1 (part ++ rest)) ≡ Ok (p, rest)
    back [] rest p s = absurd (omega (arith, some_bytes place sequence [] p s))
    back (tag ∷ part) rest p s = tagged-spelled place sequence tag part rest p s
