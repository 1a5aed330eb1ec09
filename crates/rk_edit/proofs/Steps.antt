-- The fields of an edit, one after another.
use Rattle.std.proofs.Common.{◌≡◌, ℕ, ◌<◌, ◌≤◌, false, cond, List, [], ◌∷◌, length, Result, Ok, Err, refl, sym, ap, ◌∙◌, subst, arith}
use Rattle.std.proofs.lemmas.Bool.{cond-false}
use Rattle.std.proofs.lemmas.List.{nil_from_length}
use Rattle.rk_bytes.specs.declared.model.edit.EditFault.{EditFault}
use Rattle.rk_bytes.specs.declared.model.edit.EditFault.TheVariants.{BadField}
use Rattle.rk_bytes.specs.Model.Numbers.{◌>>=◌, varint32_at, reads_or, in_turn}
use Rattle.rk_bytes.specs.Model.VersionEdit.{Field, field_of_tag, clashes, field_at, edit_fields}
use Rattle.rk_bytes.proofs.Callers.Cursors.{place_of_rest}
use Rattle.rk_bytes.proofs.Callers.InTurn.{in_turn-room}
use Rattle.rk_bytes.specs.Reading.{Reading, IsFurther, rest_of}
use Rattle.rk_edit.specs.declared.before.FamilyFields.{FamilyFields}
use Rattle.rk_edit.specs.Before.{Tells}
use Rattle.rk_edit.specs.Read.{whether_read}
use Rattle.rk_edit.proofs.Shorter.{edit_shortens, field_shorter}

-- the fields that an edit's last bytes are, after those before
abbrev pub fields_left : ℕ → List Field → List ℕ → Result (List Field) EditFault
fields_left len before bytes = in_turn (field_at len) (length bytes) before bytes

pub whole_edit : (bytes : List ℕ) → edit_fields bytes ≡ fields_left (length bytes) [] bytes
unfolding edit_fields
whole_edit bytes = refl

pub fields_left-nothing : (len : ℕ) (before : List Field) → fields_left len before [] ≡ Ok []
unfolding in_turn
fields_left-nothing len before = refl

-- a field, and those after it
pub fields_left-more : (len : ℕ) (before : List Field) (bytes : List ℕ) (field : Field) (rest : List ℕ) → 0 < length bytes → field_at len before bytes ≡ Ok (field, rest)
    → fields_left len before bytes ≡ fields_left len (field ∷ before) rest >>= (λ more. Ok (field ∷ more))
unfolding in_turn
fields_left-more len before [] field rest some is = absurd (omega arith)
fields_left-more len before (b ∷ bytes) field rest some is =
    let shorter : length rest < length (b ∷ bytes) = field_shorter len before (b ∷ bytes) (field, rest) is in
    ap (λ r. r >>= (λ one. in_turn (field_at len) (length bytes) (one.0 ∷ before) one.1 >>= (λ more. Ok (one.0 ∷ more)))) is
    ∙ ap (λ r. r >>= (λ more. Ok (field ∷ more))) (in_turn-room (field_at len) (edit_shortens len) (length bytes) (length rest) (field ∷ before) rest (omega arith) (omega arith))

-- the first fault
pub fields_left-fault : (len : ℕ) (before : List Field) (bytes : List ℕ) (why : EditFault) → 0 < length bytes → field_at len before bytes ≡ Err why → fields_left len before bytes ≡ Err why
unfolding in_turn
fields_left-fault len before [] why some is = absurd (omega arith)
fields_left-fault len before (b ∷ bytes) why some is =
    ap (λ r. r >>= (λ one. in_turn (field_at len) (length bytes) (one.0 ∷ before) one.1 >>= (λ more. Ok (one.0 ∷ more)))) is

-- a field after its tag, where it doesn't clash
pub field_at-tagged : (cursor mid : Reading) (before : List Field) (tag : ℕ) → cursor.place ≤ length cursor.bytes
    → ◌≡◌ {A = Result (ℕ × List ℕ) EditFault} (Ok (tag, rest_of mid)) (reads_or (BadField 0 cursor.place) (varint32_at (rest_of cursor))) → clashes tag before ≡ false
    → field_at (length cursor.bytes) before (rest_of cursor) ≡ field_of_tag cursor.place tag (rest_of mid)
field_at-tagged cursor mid before tag within is apart =
    ap (λ place. reads_or (BadField 0 place) (varint32_at (rest_of cursor)) >>= (λ tag. cond (clashes tag.0 before) (Err (BadField tag.0 place)) (field_of_tag place tag.0 tag.1))) (place_of_rest cursor within)
    ∙ ap (λ r. r >>= (λ tag. cond (clashes tag.0 before) (Err (BadField tag.0 cursor.place)) (field_of_tag cursor.place tag.0 tag.1))) (sym is)
    ∙ cond-false (clashes tag before) _ _ apart

-- whether more is read after a field
pub whether-more : (field : Field) (r : Result (List Field) EditFault) → whether_read (r >>= (λ more. Ok (field ∷ more))) ≡ whether_read r
whether-more field (Ok more) = refl
whether-more field (Err why) = refl

-- What is kept of the fields before tells of some that stand before the cursor.
pub record Checks (bytes : List ℕ) (cursor : Reading) (kept : FamilyFields) : Type 0 where
  pub same : cursor.bytes ≡ bytes
  pub within : cursor.place ≤ length bytes
  pub before : List Field
  pub tells : Tells kept before
  pub whole : whether_read (fields_left (length bytes) before (rest_of cursor)) ≡ whether_read (edit_fields bytes)

pub Checks-start : (bytes : List ℕ) (cursor : Reading) (kept : FamilyFields) → cursor ≡ record { bytes = bytes; place = 0 } → kept ≡ record { added = false; dropped = false } → Checks bytes cursor kept
Checks-start bytes cursor kept at none =
    subst (λ kept. Checks bytes cursor kept) (sym none) (subst (λ cursor. Checks bytes cursor (record { added = false; dropped = false })) (sym at) (record {
      same = refl;
      within = omega arith;
      before = [];
      tells = record { adds = refl; drops = refl };
      whole = ap whether_read (sym (whole_edit bytes));
    }))

-- the next field, where the cursor stands
module _ (bytes : List ℕ) (cursor : Reading) (kept : FamilyFields) (c : Checks bytes cursor kept) where
  pub Checks-end : length (rest_of cursor) ≡ 0 → ◌≡◌ {A = Result (Unit {0}) EditFault} (Ok tt) (whether_read (edit_fields bytes))
  Checks-end ended = ap whether_read (sym (ap (fields_left (length bytes) c.before) (nil_from_length (rest_of cursor) ended) ∙ fields_left-nothing (length bytes) c.before)) ∙ c.whole

  pub Checks-fault : (why : EditFault) → 0 < length (rest_of cursor) → ◌≡◌ {A = Result (Field × List ℕ) EditFault} (Err why) (field_at (length cursor.bytes) c.before (rest_of cursor))
      → ◌≡◌ {A = Result (Unit {0}) EditFault} (Err why) (whether_read (edit_fields bytes))
  Checks-fault why some is =
      ap whether_read (sym (fields_left-fault (length bytes) c.before (rest_of cursor) why some (ap (λ bytes. field_at (length bytes) c.before (rest_of cursor)) (sym c.same) ∙ sym is))) ∙ c.whole

  pub Checks-more : (after : Reading) (field : Field) (next : FamilyFields) → 0 < length (rest_of cursor) → IsFurther cursor after → ◌≡◌ {A = Result (Field × List ℕ) EditFault} (Ok (field, rest_of after)) (field_at (length cursor.bytes) c.before (rest_of cursor))
      → Tells next (field ∷ c.before) → Checks bytes after next × (length (rest_of after) < length (rest_of cursor))
  Checks-more after field next some further is tells =
      let read : field_at (length bytes) c.before (rest_of cursor) ≡ Ok (field, rest_of after) = ap (λ bytes. field_at (length bytes) c.before (rest_of cursor)) (sym c.same) ∙ sym is in
      let more = fields_left-more (length bytes) c.before (rest_of cursor) field (rest_of after) some read in (
        record {
          same = further.same ∙ c.same;
          within = subst (λ bytes. after.place ≤ length bytes) (further.same ∙ c.same) (further.within (subst (λ bytes. cursor.place ≤ length bytes) (sym c.same) c.within));
          before = field ∷ c.before;
          tells = tells;
          whole = sym (whether-more field (fields_left (length bytes) (field ∷ c.before) (rest_of after))) ∙ ap whether_read (sym more) ∙ c.whole;
        },
        field_shorter (length bytes) c.before (rest_of cursor) (field, rest_of after) read,
      )
