-- The levels, bounds and files of an edit are read just where they are spelled.
use Rattle.std.proofs.Common.{◌≡◌, ℕ, zero, suc, ◌/◌, ◌%◌, ◌≤◌, Bool, true, false, not, ◌&&◌, cond, List, [], ◌∷◌, ◌++◌, length, Option, Some, None, Ok, Err, refl, sym, ◌∙◌, ap, subst, arith, inl, inr}
use Rattle.std.specs.Prelude.{◌==◌, nat_le}
use Rattle.std.proofs.lemmas.Bool.{eqb-true, eqb-false, ne_eqb, leb-true, le-leb, not-false, cond-false}
use Rattle.std.proofs.lemmas.List.{length-append}
use Rattle.rk_bytes.specs.declared.model.number.NumFault.TheVariants.{Cut, TooLarge}
use Rattle.rk_bytes.specs.declared.model.edit.Seqs.{Seqs}
use Rattle.rk_bytes.specs.declared.model.edit.EditFault.TheVariants.{UnknownTag, UnsupportedTag, BadField}
use Rattle.rk_bytes.specs.Model.Numbers.{AreBytes, ◌>>=◌, IsVarint32, IsVarint64, IsPrefixed, varint32_at, varint64_at, prefixed_at, reads_or}
use Rattle.rk_bytes.specs.Model.InternalKey.{top_sequence}
use Rattle.rk_bytes.proofs.Callers.Readings.{both_steps, first_step, passed, varint_len, varint32-append, prefixed-append}
use Rattle.rk_laws.proofs.Readers.{Front, Exact, exact_varint32, exact_varint64, exact_prefixed, reads_or_ok, exact_or, exact_as, Both, exact_then, Made, exact_made, exact_tested, regroup}
use Rattle.rk_bytes.specs.Model.VersionEdit.{NewFile, Field, compact_cursor, delete_file, add_file, level_at, bound_at, sequence_at, cursor_at, deleted_at, file_with, file_at, with_sequences, sequenced_file_at, after_path, after_custom, after_customs, custom_file_at, SpellsLevel, SpellsBound, SpellsFile, SpellsSequencedFile, MayPass, SpellsCustoms, no_custom, one_custom}

pub exact_level : Exact level_at SpellsLevel
exact_level = exact_tested (λ level. nat_le level 255) TooLarge varint32_at IsVarint32 SpellsLevel exact_varint32
    (λ part level s right. (s, leb-true level 255 right))
    (λ part level s. (s.0, le-leb level 255 s.1))

pub exact_bound : Exact bound_at SpellsBound
exact_bound = exact_tested (λ key. nat_le 8 (length key)) Cut prefixed_at IsPrefixed SpellsBound exact_prefixed
    (λ part key s right. (s, leb-true 8 (length key) right))
    (λ part key s. (s.0, le-leb 8 (length key) s.1))

abbrev pub SpellsSequence : List ℕ → ℕ → Type 0
SpellsSequence bytes n = IsVarint64 bytes n × (n ≤ top_sequence)

pub exact_sequence : Exact sequence_at SpellsSequence
exact_sequence = exact_tested (λ n. nat_le n top_sequence) TooLarge varint64_at IsVarint64 SpellsSequence exact_varint64
    (λ part n s right. (s, leb-true n top_sequence right))
    (λ part n s. (s.0, le-leb n top_sequence s.1))

pub exact_cursor : Exact cursor_at (Both SpellsLevel (λ level. Made (compact_cursor level) SpellsBound))
exact_cursor = exact_then level_at (λ level bytes. bound_at bytes >>= λ key. Ok (compact_cursor level key.0, key.1)) SpellsLevel _ exact_level
    (λ level. exact_made (compact_cursor level) bound_at SpellsBound exact_bound)

pub exact_deleted : Exact deleted_at (Both SpellsLevel (λ level. Made (delete_file level) IsVarint64))
exact_deleted = exact_then level_at (λ level bytes. varint64_at bytes >>= λ number. Ok (delete_file level number.0, number.1)) SpellsLevel _ exact_level
    (λ level. exact_made (delete_file level) varint64_at IsVarint64 exact_varint64)

-- a file that states no sequence numbers
abbrev pub SpellsPlainFile : List ℕ → NewFile → Type 0
SpellsPlainFile bytes file = SpellsFile bytes file × (file.seqs ≡ None)

exact_file_with : (level number size : ℕ) (smallest : List ℕ) → Exact (λ bytes. bound_at bytes >>= λ largest. Ok (file_with level number size smallest largest.0, largest.1)) (Made (file_with level number size smallest) SpellsBound)
exact_file_with level number size smallest = exact_made (file_with level number size smallest) bound_at SpellsBound exact_bound

-- a file with the sequence numbers that it has
with_seqs : (file : NewFile) (seqs : Option Seqs) → file.seqs ≡ seqs → record (file) { seqs = seqs } ≡ file
with_seqs file seqs e = ap (λ (seqs : Option Seqs). let same : NewFile = record (file) { seqs = seqs } in same) (sym e)

abbrev InARow : List ℕ → NewFile → Type 0
InARow = Both SpellsLevel (λ level. Both IsVarint64 (λ number. Both IsVarint64 (λ size. Both SpellsBound (λ smallest. Made (file_with level number size smallest) SpellsBound))))

exact_in_a_row : Exact file_at InARow
exact_in_a_row =
    exact_then level_at (λ level bytes. varint64_at bytes >>= λ number. varint64_at number.1 >>= λ size. bound_at size.1 >>= λ smallest. bound_at smallest.1 >>= λ largest. Ok (file_with level number.0 size.0 smallest.0 largest.0, largest.1)) SpellsLevel _ exact_level λ level.
    exact_then varint64_at (λ number bytes. varint64_at bytes >>= λ size. bound_at size.1 >>= λ smallest. bound_at smallest.1 >>= λ largest. Ok (file_with level number size.0 smallest.0 largest.0, largest.1)) IsVarint64 _ exact_varint64 λ number.
    exact_then varint64_at (λ size bytes. bound_at bytes >>= λ smallest. bound_at smallest.1 >>= λ largest. Ok (file_with level number size smallest.0 largest.0, largest.1)) IsVarint64 _ exact_varint64 λ size.
    exact_then bound_at (λ smallest bytes. bound_at bytes >>= λ largest. Ok (file_with level number size smallest largest.0, largest.1)) SpellsBound _ exact_bound λ smallest.
    exact_file_with level number size smallest

of_a_row : (part : List ℕ) (file : NewFile) → InARow part file → SpellsPlainFile part file
of_a_row part file a =
    let b = a.second in
    let c = b.second in
    let d = c.second in
    let e = d.second in
    let spelled : SpellsFile part (file_with a.one b.one c.one d.one e.of) = record {
      level_bytes = a.front;
      number_bytes = b.front;
      size_bytes = c.front;
      smallest_bytes = d.front;
      largest_bytes = d.back;
      spelled = a.whole ∙ ap (λ x. a.front ++ x) (b.whole ∙ ap (λ x. b.front ++ x) (c.whole ∙ ap (λ x. c.front ++ x) d.whole));
      level = a.first;
      number = b.first;
      size = c.first;
      smallest = d.first;
      largest = e.spells;
    } in
    subst (λ file. SpellsPlainFile part file) e.is (spelled, refl)

in_a_row : (part : List ℕ) (file : NewFile) → SpellsPlainFile part file → InARow part file
in_a_row part file (f, none) = record {
  one = file.level;
  front = f.level_bytes;
  back = f.number_bytes ++ (f.size_bytes ++ (f.smallest_bytes ++ f.largest_bytes));
  whole = f.spelled;
  first = f.level;
  second = record {
    one = file.number;
    front = f.number_bytes;
    back = f.size_bytes ++ (f.smallest_bytes ++ f.largest_bytes);
    whole = refl;
    first = f.number;
    second = record {
      one = file.size;
      front = f.size_bytes;
      back = f.smallest_bytes ++ f.largest_bytes;
      whole = refl;
      first = f.size;
      second = record {
        one = file.smallest;
        front = f.smallest_bytes;
        back = f.largest_bytes;
        whole = refl;
        first = f.smallest;
        second = record { of = file.largest; is = with_seqs file None none; spells = f.largest };
      };
    };
  };
}

pub exact_file : Exact file_at SpellsPlainFile
exact_file = exact_as file_at InARow SpellsPlainFile exact_in_a_row of_a_row in_a_row

abbrev SequencedInARow : List ℕ → NewFile → Type 0
SequencedInARow = Both SpellsPlainFile (λ file. Both IsVarint64 (λ least. Made (with_sequences file least) IsVarint64))

exact_sequenced_in_a_row : Exact sequenced_file_at SequencedInARow
exact_sequenced_in_a_row =
    exact_then file_at (λ file bytes. varint64_at bytes >>= λ least. varint64_at least.1 >>= λ greatest. Ok (with_sequences file least.0 greatest.0, greatest.1)) SpellsPlainFile _ exact_file λ file.
    exact_then varint64_at (λ least bytes. varint64_at bytes >>= λ greatest. Ok (with_sequences file least greatest.0, greatest.1)) IsVarint64 _ exact_varint64 λ least.
    exact_made (with_sequences file least) varint64_at IsVarint64 exact_varint64

-- Its other parts are spelled the same whatever its sequence numbers are.
other_seqs : (bytes : List ℕ) (file : NewFile) (seqs : Option Seqs) → SpellsFile bytes file → SpellsFile bytes (record (file) { seqs = seqs })
other_seqs bytes file seqs f = record {
  level_bytes = f.level_bytes;
  number_bytes = f.number_bytes;
  size_bytes = f.size_bytes;
  smallest_bytes = f.smallest_bytes;
  largest_bytes = f.largest_bytes;
  spelled = f.spelled;
  level = f.level;
  number = f.number;
  size = f.size;
  smallest = f.smallest;
  largest = f.largest;
}

of_a_sequenced_row : (part : List ℕ) (file : NewFile) → SequencedInARow part file → SpellsSequencedFile part file
of_a_sequenced_row part file a =
    let b = a.second in
    let c = b.second in
    let numbers : Seqs = record { least = b.one; greatest = c.of } in
    let spelled : SpellsSequencedFile part (with_sequences a.one b.one c.of) = record {
      file_bytes = a.front;
      least_bytes = b.front;
      greatest_bytes = b.back;
      numbers = numbers;
      spelled = a.whole ∙ ap (λ x. a.front ++ x) b.whole;
      parts = other_seqs a.front a.one (Some numbers) a.first.0;
      stated = refl;
      least = b.first;
      greatest = c.spells;
    } in
    subst (λ file. SpellsSequencedFile part file) c.is spelled

in_a_sequenced_row : (part : List ℕ) (file : NewFile) → SpellsSequencedFile part file → SequencedInARow part file
in_a_sequenced_row part file s = record {
  one = record (file) { seqs = None };
  front = s.file_bytes;
  back = s.least_bytes ++ s.greatest_bytes;
  whole = s.spelled;
  first = (other_seqs s.file_bytes file None s.parts, refl);
  second = record {
    one = s.numbers.least;
    front = s.least_bytes;
    back = s.greatest_bytes;
    whole = refl;
    first = s.least;
    second = record { of = s.numbers.greatest; is = with_seqs file (Some s.numbers) s.stated; spells = s.greatest };
  };
}

pub exact_sequenced : Exact sequenced_file_at SpellsSequencedFile
exact_sequenced = exact_as sequenced_file_at SequencedInARow SpellsSequencedFile exact_sequenced_in_a_row of_a_sequenced_row in_a_sequenced_row

-- A custom field after its tag is read where it may be passed over.
record PassedOver (tag : ℕ) (bytes rest : List ℕ) : Type 0 where
  part : List ℕ
  value : List ℕ
  whole : bytes ≡ part ++ rest
  is : IsPrefixed part value
  may : MayPass tag value
  after : AreBytes rest

path_of_zero : (place : ℕ) (path bytes rest : List ℕ) → after_path place path bytes ≡ Ok rest → (path ≡ 0 ∷ []) × (bytes ≡ rest)
path_of_zero place [] bytes rest e = absurd cc
path_of_zero place (x ∷ []) bytes rest e = by (x == 0) refl e
  where
    by : (told : Bool) → (x == 0) ≡ told → cond told (Ok bytes) (Err (UnsupportedTag 65 place)) ≡ Ok rest → ((x ∷ []) ≡ 0 ∷ []) × (bytes ≡ rest)
    by true told e = (ap (λ x. x ∷ []) (eqb-true x 0 told), cc)
    by false told e = absurd cc
path_of_zero place (x ∷ y ∷ more) bytes rest e =
    let one = passed (not (length (x ∷ y ∷ more) == 1)) _ _ rest e in
    let len : length (x ∷ y ∷ more) ≡ 1 = eqb-true (length (x ∷ y ∷ more)) 1 (not-false _ one.0) in
    absurd (omega arith)

no_bit : (tag : ℕ) → (tag / 64 % 2 == 1) ≡ false → tag / 64 % 2 ≡ 0
no_bit tag e = let other = eqb-false (tag / 64 % 2) 1 e in omega (arith, other)

after_custom_ok : (place tag : ℕ) (bytes rest : List ℕ) → AreBytes bytes → after_custom place tag bytes ≡ Ok rest → PassedOver tag bytes rest
after_custom_ok place tag bytes rest are e =
    let test = passed (not (tag == 65) && tag / 64 % 2 == 1) (UnknownTag tag place) _ rest e in
    both_steps (reads_or (BadField 103 place) (prefixed_at bytes)) _ rest test.1 λ value value_read e1.
    let f = exact_prefixed.reads bytes value are (reads_or_ok _ (prefixed_at bytes) value value_read) in
    by (tag == 65) refl value f test.0 e1
  where
    by : (told : Bool) → (tag == 65) ≡ told → (value : List ℕ × List ℕ) → Front IsPrefixed bytes value → (not told && tag / 64 % 2 == 1) ≡ false
        → cond told (after_path place value.0 value.1) (Ok value.1) ≡ Ok rest → PassedOver tag bytes rest
    by true told value f test e1 =
        let (zero_path, same) = path_of_zero place value.0 value.1 rest e1 in
        subst (λ rest. PassedOver tag bytes rest) same (record { part = f.part; value = value.0; whole = f.whole; is = f.spells; may = inl (eqb-true tag 65 told, zero_path); after = f.after })
    by false told value f test e1 =
        let same : value.1 ≡ rest = cc in
        subst (λ rest. PassedOver tag bytes rest) same (record { part = f.part; value = value.0; whole = f.whole; is = f.spells; may = inr (no_bit tag test); after = f.after })

after_custom-passed : (place tag : ℕ) (part rest value : List ℕ) → IsPrefixed part value → MayPass tag value → after_custom place tag (part ++ rest) ≡ Ok rest
after_custom-passed place tag part rest value is (inl path) =
    let read : reads_or (BadField 103 place) (prefixed_at (part ++ rest)) ≡ Ok (0 ∷ [], rest) = ap (reads_or (BadField 103 place)) (prefixed-append part rest (0 ∷ []) (subst (λ value. IsPrefixed part value) path.1 is)) in
    ap (λ tag. after_custom place tag (part ++ rest)) path.0
    ∙ first_step (reads_or (BadField 103 place) (prefixed_at (part ++ rest))) _ (0 ∷ [], rest) read
after_custom-passed place tag part rest value is (inr no_bit) =
    let read : reads_or (BadField 103 place) (prefixed_at (part ++ rest)) ≡ Ok (value, rest) = ap (reads_or (BadField 103 place)) (prefixed-append part rest value is) in
    let other : (tag == 65) ≡ false = ne_eqb tag 65 (λ e. absurd (omega (arith, e, no_bit))) in
    let zero_bit : (tag / 64 % 2 == 1) ≡ false = ne_eqb (tag / 64 % 2) 1 (λ e. absurd (omega (arith, e, no_bit))) in
    let may : (not (tag == 65) && tag / 64 % 2 == 1) ≡ false = ap (λ t. not t && tag / 64 % 2 == 1) other ∙ zero_bit in
    cond-false (not (tag == 65) && tag / 64 % 2 == 1) _ _ may
    ∙ first_step (reads_or (BadField 103 place) (prefixed_at (part ++ rest))) _ (value, rest) read
    ∙ cond-false (tag == 65) _ _ other

-- the custom fields that are read are spelled
record CustomsOf (bytes rest : List ℕ) : Type 0 where
  part : List ℕ
  whole : bytes ≡ part ++ rest
  spells : SpellsCustoms part
  after : AreBytes rest

after_customs_ok : (n place : ℕ) (bytes rest : List ℕ) → AreBytes bytes → after_customs n place bytes ≡ Ok rest → CustomsOf bytes rest
unfolding after_customs
after_customs_ok zero place bytes rest are e = absurd cc
after_customs_ok (suc n) place bytes rest are e =
    both_steps (reads_or (BadField 103 place) (varint32_at bytes)) _ rest e λ tag tag_read e1.
    let f = exact_varint32.reads bytes tag are (reads_or_ok _ (varint32_at bytes) tag tag_read) in
    by tag f (tag.0 == 1) refl e1 (λ more after. after_customs_ok n place more rest after)
  where
    by : (tag : ℕ × List ℕ) → Front IsVarint32 bytes tag → (told : Bool) → (tag.0 == 1) ≡ told
        → cond told (Ok tag.1) (after_custom place tag.0 tag.1 >>= λ more. after_customs n place more) ≡ Ok rest
        → ((more : List ℕ) → AreBytes more → after_customs n place more ≡ Ok rest → CustomsOf more rest) → CustomsOf bytes rest
    by tag f true told e1 next =
        let same : tag.1 ≡ rest = cc in
        subst (λ rest. CustomsOf bytes rest) same (record { part = f.part; whole = f.whole; spells = no_custom (subst (λ n. IsVarint32 f.part n) (eqb-true tag.0 1 told) f.spells); after = f.after })
    by tag f false told e1 next =
        both_steps (after_custom place tag.0 tag.1) _ rest e1 λ more more_read e2.
        let p = after_custom_ok place tag.0 tag.1 more f.after more_read in
        let c = next more p.after e2 in
        record {
          part = f.part ++ (p.part ++ c.part);
          whole = f.whole ∙ ap (λ x. f.part ++ x) (p.whole ∙ ap (λ x. p.part ++ x) c.whole) ∙ sym (regroup f.part p.part c.part rest);
          spells = one_custom refl f.spells (eqb-false tag.0 1 told) p.is p.may c.spells;
          after = c.after;
        }

-- the custom fields that are spelled are read
after_customs-spelled : (n place : ℕ) (part rest : List ℕ) → length part ≤ n → SpellsCustoms part → after_customs n place (part ++ rest) ≡ Ok rest
unfolding after_customs
after_customs-spelled zero place part rest few (no_custom is) = absurd (omega (arith, varint_len part is.groups))
after_customs-spelled zero place part rest few (one_custom {tag_bytes = tag_bytes} {value_bytes = value_bytes} {rest = more} whole is other value_is may customs) =
    absurd (omega (arith, varint_len tag_bytes is.groups, ap length whole, length-append tag_bytes (value_bytes ++ more)))
after_customs-spelled (suc n) place part rest few (no_custom is) =
    first_step (reads_or (BadField 103 place) (varint32_at (part ++ rest))) _ (1, rest) (ap (reads_or (BadField 103 place)) (varint32-append part rest 1 is))
after_customs-spelled (suc n) place part rest few (one_custom {tag_bytes = tag_bytes} {value_bytes = value_bytes} {rest = more} {value = value} {tag = tag} whole is other value_is may customs) =
    let all : part ++ rest ≡ tag_bytes ++ (value_bytes ++ (more ++ rest)) = ap (λ x. x ++ rest) whole ∙ regroup tag_bytes value_bytes more rest in
    let fewer : length more ≤ n = omega (arith, varint_len tag_bytes is.groups, ap length whole, length-append tag_bytes (value_bytes ++ more), length-append value_bytes more) in
    ap (λ bytes. after_customs (suc n) place bytes) all
    ∙ first_step (reads_or (BadField 103 place) (varint32_at (tag_bytes ++ (value_bytes ++ (more ++ rest))))) _ (tag, value_bytes ++ (more ++ rest)) (ap (reads_or (BadField 103 place)) (varint32-append tag_bytes (value_bytes ++ (more ++ rest)) tag is))
    ∙ cond-false (tag == 1) _ _ (ne_eqb tag 1 other)
    ∙ first_step (after_custom place tag (value_bytes ++ (more ++ rest))) _ (more ++ rest) (after_custom-passed place tag value_bytes (more ++ rest) value value_is may)
    ∙ after_customs-spelled n place more rest fewer customs

-- a file with its custom fields
abbrev pub SpellsEnd : NewFile → List ℕ → Field → Type 0
SpellsEnd file bytes field = (add_file file ≡ field) × SpellsCustoms bytes

pub exact_end : (place : ℕ) (file : NewFile) → Exact (λ bytes. after_customs (length bytes) place bytes >>= λ rest. Ok (add_file file, rest)) (SpellsEnd file)
exact_end place file = record {
  reads = λ bytes r are e.
      both_steps (after_customs (length bytes) place bytes) _ r e λ rest rest_read e1.
      let c = after_customs_ok (length bytes) place bytes rest are rest_read in
      let same : (add_file file, rest) ≡ r = cc in
      subst (λ (r : Field × List ℕ). Front (SpellsEnd file) bytes r) same (record { part = c.part; whole = c.whole; spells = (refl, c.spells); after = c.after });
  spelled = λ part rest field s.
      let enough : length part ≤ length (part ++ rest) = omega (arith, length-append part rest) in
      first_step (after_customs (length (part ++ rest)) place (part ++ rest)) _ rest (after_customs-spelled (length (part ++ rest)) place part rest enough s.1)
      ∙ ap (λ field. Ok (field, rest)) s.0;
}

pub exact_custom_file : (place : ℕ) → Exact (custom_file_at place) (Both SpellsSequencedFile SpellsEnd)
exact_custom_file place =
    exact_then (λ bytes. reads_or (BadField 103 place) (sequenced_file_at bytes)) (λ file bytes. after_customs (length bytes) place bytes >>= λ rest. Ok (add_file file, rest)) SpellsSequencedFile SpellsEnd
    (exact_or (BadField 103 place) sequenced_file_at SpellsSequencedFile exact_sequenced) (exact_end place)
