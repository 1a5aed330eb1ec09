-- What is left of an edit reads alone as it reads after the fields before it.
use Rattle.std.specs.Prelude.{◌==◌, ◌&&◌, ◌||◌, ◌/◌, ◌%◌, not, slice_index, is_some}
use Rattle.std.specs.List.{list_any}
use Rattle.std.proofs.Common.{◌≡◌, ℕ, zero, suc, ◌-◌, ◌<◌, Bool, true, false, cond, List, [], ◌∷◌, ◌++◌, length, Option, Some, None, Result, Ok, Err, refl, sym, ap, ◌∙◌, subst}
use Rattle.std.proofs.lemmas.List.{nil_from_length}
use Rattle.rk_bytes.specs.declared.model.edit.EditFault.{EditFault}
use Rattle.rk_bytes.specs.declared.model.edit.EditFault.TheVariants.{UnknownTag, BadField}
use Rattle.rk_bytes.specs.Model.Numbers.{Read, ◌>>=◌, varint32_at, prefixed_at, reads_or, in_turn}
use Rattle.rk_bytes.specs.Model.VersionEdit.{Field, ignored, family_add_in, drops_family, sequenced_file_at, after_path, after_custom, after_customs, custom_file_at, reads, value_reader, is_unsupported_edit_tag, is_passed_over, field_of_tag, clashes, field_at, edit_fields}
use Rattle.rk_edit.specs.Read.{fields_or_none}
use Rattle.rk_edit.proofs.Steps.{fields_left, whole_edit, fields_left-nothing, fields_left-more, fields_left-fault}

-- where one reads, the other gives the same
record Keeps {A F : Type 0} (one two : Result A F) : Type 0 where
  same : (x : A) → one ≡ Ok x → two ≡ Ok x

keeps_same : {A F : Type 0} (one : Result A F) → Keeps one one
keeps_same one = record { same = λ x is. is }

keeps_fault : {A F : Type 0} (why : F) (two : Result A F) → Keeps (Err why) two
keeps_fault why two = record { same = λ x is. absurd cc }

keeps_then : {A B F : Type 0} (one two : Result A F) (f g : A → Result B F) → Keeps one two → ((a : A) → Keeps (f a) (g a)) → Keeps (one >>= f) (two >>= g)
keeps_then (Ok a) two f g k next = record { same = λ x is. ap (λ r. r >>= g) (k.same a refl) ∙ (next a).same x is }
keeps_then (Err why) two f g k next = keeps_fault why (two >>= g)

keeps_either : {A F : Type 0} (test : Bool) (a b c d : Result A F) → Keeps a c → Keeps b d → Keeps (cond test a b) (cond test c d)
keeps_either true a b c d first second = first
keeps_either false a b c d first second = second

keeps_or : {A F : Type 0} (why other : F) (read : Read A) → Keeps (reads_or why read) (reads_or other read)
keeps_or why other (Ok one) = record { same = λ x is. let same : one ≡ x = cc in ap Ok same }
keeps_or why other (Err fault) = keeps_fault why (Err other)

-- of two tests the second passes where the first does
keeps_unless : {A F : Type 0} (test easier : Bool) (why other : F) (a b : Result A F) → (test ≡ false → easier ≡ false) → Keeps a b → Keeps (cond test (Err why) a) (cond easier (Err other) b)
keeps_unless true easier why other a b passes k = keeps_fault why (cond easier (Err other) b)
keeps_unless false easier why other a b passes k = subst (λ test. Keeps a (cond test (Err other) b)) (sym (passes refl)) k

-- Only faults have the place.
module _ (place other : ℕ) where
  path_placed : (path bytes : List ℕ) → Keeps (after_path place path bytes) (after_path other path bytes)
  path_placed path bytes =
      keeps_either (not (length path == 1)) _ _ _ _ (keeps_fault _ _)
      (keeps_either (slice_index path 0 == 0) _ _ _ _ (keeps_same _) (keeps_fault _ _))

  custom_placed : (tag : ℕ) (bytes : List ℕ) → Keeps (after_custom place tag bytes) (after_custom other tag bytes)
  custom_placed tag bytes =
      keeps_either (not (tag == 65) && tag / 64 % 2 == 1) _ _ _ _ (keeps_fault _ _)
      (keeps_then (reads_or (BadField 103 place) (prefixed_at bytes)) (reads_or (BadField 103 other) (prefixed_at bytes)) _ _ (keeps_or (BadField 103 place) (BadField 103 other) (prefixed_at bytes))
      λ value. keeps_either (tag == 65) _ _ _ _ (path_placed value.0 value.1) (keeps_same _))

  customs_placed : (n : ℕ) (bytes : List ℕ) → Keeps (after_customs n place bytes) (after_customs n other bytes)
  unfolding after_customs
  customs_placed zero bytes = keeps_fault _ _
  customs_placed (suc n) bytes =
      keeps_then (reads_or (BadField 103 place) (varint32_at bytes)) (reads_or (BadField 103 other) (varint32_at bytes)) _ _ (keeps_or (BadField 103 place) (BadField 103 other) (varint32_at bytes))
      λ tag. keeps_either (tag.0 == 1) _ _ _ _ (keeps_same _)
      (keeps_then (after_custom place tag.0 tag.1) (after_custom other tag.0 tag.1) _ _ (custom_placed tag.0 tag.1) λ rest. customs_placed n rest)

  custom_file_placed : (bytes : List ℕ) → Keeps (custom_file_at place bytes) (custom_file_at other bytes)
  custom_file_placed bytes =
      keeps_then (reads_or (BadField 103 place) (sequenced_file_at bytes)) (reads_or (BadField 103 other) (sequenced_file_at bytes)) _ _ (keeps_or (BadField 103 place) (BadField 103 other) (sequenced_file_at bytes))
      λ file. keeps_then (after_customs (length file.1) place file.1) (after_customs (length file.1) other file.1) _ _ (customs_placed (length file.1) file.1) λ rest. keeps_same _

  row_placed : (tag : ℕ) (bytes : List ℕ) (found : Option (List ℕ → Read Field))
      → Keeps (elim found as (λ found. Result (Field × List ℕ) EditFault) [ Some value_at ↦ reads_or (BadField tag place) (value_at bytes) | None ↦ Err (UnknownTag tag place) ])
      (elim found as (λ found. Result (Field × List ℕ) EditFault) [ Some value_at ↦ reads_or (BadField tag other) (value_at bytes) | None ↦ Err (UnknownTag tag other) ])
  row_placed tag bytes (Some read) = keeps_or (BadField tag place) (BadField tag other) (read bytes)
  row_placed tag bytes None = keeps_fault _ _

  tag_placed : (tag : ℕ) (bytes : List ℕ) → Keeps (field_of_tag place tag bytes) (field_of_tag other tag bytes)
  tag_placed tag bytes =
      keeps_either (tag == 103) _ _ _ _ (custom_file_placed bytes)
      (keeps_either (is_unsupported_edit_tag tag) _ _ _ _ (keeps_fault _ _)
      (keeps_either (is_passed_over tag) _ _ _ _ (keeps_or (BadField tag place) (BadField tag other) (reads (ignored tag) prefixed_at bytes))
      (row_placed tag bytes (value_reader tag))))

-- with fewer fields before there are no more clashes
fewer_tests : (a b c d e f : Bool) → (a && (b || c) || d && (e || f)) ≡ false → (a && b || d && e) ≡ false
fewer_tests false b c false e f is = refl
fewer_tests false b c true false f is = refl
fewer_tests false b c true true f is = is
fewer_tests true true c d e f is = absurd cc
fewer_tests true false c false e f is = refl
fewer_tests true false c true false f is = refl
fewer_tests true false false true true f is = is
fewer_tests true false true true true f is = is

list_any-append : (p : Field → Bool) (xs ys : List Field) → list_any p (xs ++ ys) ≡ (list_any p xs || list_any p ys)
list_any-append p [] ys = refl
list_any-append p (x ∷ xs) ys = by (p x) (list_any-append p xs ys)
  where
    by : (told : Bool) → list_any p (xs ++ ys) ≡ (list_any p xs || list_any p ys) → (told || list_any p (xs ++ ys)) ≡ ((told || list_any p xs) || list_any p ys)
    by true is = refl
    by false is = is

fewer_clashes : (tag : ℕ) (before more : List Field) → clashes tag (before ++ more) ≡ false → clashes tag before ≡ false
fewer_clashes tag before more is =
    let adds = list_any-append (λ field. is_some (family_add_in field)) before more in
    let drops = list_any-append drops_family before more in
    fewer_tests (tag == 202) (list_any (λ field. is_some (family_add_in field)) before) (list_any (λ field. is_some (family_add_in field)) more) (tag == 201) (list_any drops_family before) (list_any drops_family more)
    ((λ i. tag == 202 && sym adds i || tag == 201 && sym drops i) ∙ is)

field_alone : (len other : ℕ) (before more : List Field) (bytes : List ℕ) → Keeps (field_at len (before ++ more) bytes) (field_at other before bytes)
field_alone len other before more bytes =
    let place = len - length bytes in let place' = other - length bytes in
    keeps_then (reads_or (BadField 0 place) (varint32_at bytes)) (reads_or (BadField 0 place') (varint32_at bytes)) _ _ (keeps_or (BadField 0 place) (BadField 0 place') (varint32_at bytes))
    λ tag. keeps_unless (clashes tag.0 (before ++ more)) (clashes tag.0 before) (BadField tag.0 place) (BadField tag.0 place') _ _ (fewer_clashes tag.0 before more) (tag_placed place place' tag.0 tag.1)

fields_alone : (len other n : ℕ) (before more : List Field) (bytes : List ℕ) → Keeps (in_turn (field_at len) n (before ++ more) bytes) (in_turn (field_at other) n before bytes)
unfolding in_turn
fields_alone len other zero before more [] = keeps_same _
fields_alone len other zero before more (b ∷ bytes) = keeps_then (field_at len (before ++ more) []) (field_at other before []) (λ one. Ok (one.0 ∷ [])) (λ one. Ok (one.0 ∷ [])) (field_alone len other before more []) λ one. keeps_same _
fields_alone len other (suc n) before more [] = keeps_same _
fields_alone len other (suc n) before more (b ∷ bytes) =
    keeps_then (field_at len (before ++ more) (b ∷ bytes)) (field_at other before (b ∷ bytes)) (λ one. in_turn (field_at len) n (one.0 ∷ (before ++ more)) one.1 >>= (λ fields. Ok (one.0 ∷ fields))) (λ one. in_turn (field_at other) n (one.0 ∷ before) one.1 >>= (λ fields. Ok (one.0 ∷ fields))) (field_alone len other before more (b ∷ bytes))
    λ one. keeps_then (in_turn (field_at len) n (one.0 ∷ (before ++ more)) one.1) (in_turn (field_at other) n (one.0 ∷ before) one.1) (λ fields. Ok (one.0 ∷ fields)) (λ fields. Ok (one.0 ∷ fields)) (fields_alone len other n (one.0 ∷ before) more one.1) λ fields. keeps_same _

-- A field is handed out of an edit that reads: those that are left read as an edit of their own.
pub record HandsOut (bytes : List ℕ) (field : Field) (rest : List ℕ) : Type 0 where
  pub reads : edit_fields rest ≡ Ok (fields_or_none (edit_fields rest))
  pub first : fields_or_none (edit_fields bytes) ≡ field ∷ fields_or_none (edit_fields rest)

pub hands_out : (bytes : List ℕ) (field : Field) (rest : List ℕ) → 0 < length bytes → edit_fields bytes ≡ Ok (fields_or_none (edit_fields bytes)) → field_at (length bytes) [] bytes ≡ Ok (field, rest) → HandsOut bytes field rest
hands_out bytes field rest some reads is = by (fields_left (length bytes) (field ∷ []) rest) refl (sym (fields_left-more (length bytes) [] bytes field rest some is) ∙ sym (whole_edit bytes) ∙ reads)
  where
    by : (more : Result (List Field) EditFault) → fields_left (length bytes) (field ∷ []) rest ≡ more → more >>= (λ more. Ok (field ∷ more)) ≡ Ok (fields_or_none (edit_fields bytes)) → HandsOut bytes field rest
    by (Err why) told is = absurd cc
    by (Ok more) told is =
        let alone = whole_edit rest ∙ (fields_alone (length bytes) (length rest) (length rest) [] (field ∷ []) rest).same more told in
        let left = ap fields_or_none alone in
        let all : field ∷ more ≡ fields_or_none (edit_fields bytes) = cc in
        record { reads = alone ∙ ap Ok (sym left); first = sym all ∙ ap (λ more. field ∷ more) (sym left) }

-- no field of an edit that reads fails to
pub never_fails : (bytes : List ℕ) (why : EditFault) → 0 < length bytes → edit_fields bytes ≡ Ok (fields_or_none (edit_fields bytes)) → field_at (length bytes) [] bytes ≡ Err why → ⊥
never_fails bytes why some reads is =
    let both : Err why ≡ Ok (fields_or_none (edit_fields bytes)) = sym (fields_left-fault (length bytes) [] bytes why some is) ∙ sym (whole_edit bytes) ∙ reads in cc

-- an edit without bytes has no field
pub nothing_left : (bytes : List ℕ) → length bytes ≡ 0 → fields_or_none (edit_fields bytes) ≡ []
nothing_left bytes none = ap fields_or_none (ap edit_fields (nil_from_length bytes none) ∙ whole_edit [] ∙ fields_left-nothing 0 [])
