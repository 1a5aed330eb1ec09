-- A walk over units, from the first one to the courses after the last.
use Rattle.std.proofs.Common.{◌≡◌, ℕ, zero, suc, ◌+◌, ◌<◌, Bool, true, false, ◌&&◌, ◌||◌, cond, List, [], ◌∷◌, length, map, take, drop, get_or, Option, Some, None, Result, Ok, Err, IsOk, refl, sym, ap, subst, ◌∙◌, drop-cons, arith}
use Rattle.std.specs.Prelude.{◌==◌, unwrap_or}
use Rattle.std.proofs.lemmas.Bool.{false≢true}
use Rattle.std.proofs.lemmas.List.{take_all, length-map}
use Rattle.rk_bytes.specs.declared.model.manifest.ApplyFault.{ApplyFault}
use Rattle.rk_bytes.specs.declared.model.manifest.ManifestFault.{ManifestFault}
use Rattle.rk_bytes.specs.declared.model.manifest.FileMeta.{FileMeta}
use Rattle.rk_bytes.specs.declared.model.manifest.Version.{Version}
use Rattle.rk_bytes.specs.Model.Numbers.{◌>>=◌}
use Rattle.rk_bytes.specs.Model.Manifest.{ManifestUnit, first_version, steps_in_order, edit_step, overlap, unit_step, in_unit, version_after, version_at}
use Rattle.rk_bytes.specs.Model.BestEfforts.{added_files, listed}
use Rattle.rk_bytes.proofs.Callers.Readings.{both_steps}
use Rattle.rk_version.specs.declared.unit.Unit.{Unit as LentUnit}
use Rattle.rk_version.specs.Units.{edits_of, meaning}
use Rattle.rk_points.specs.declared.tally.Tally.{Tally}
use Rattle.rk_points.specs.declared.walk.Walk.{Walk}
use Rattle.rk_points.specs.Tallies.{blank, default_tally, tally_of}
use Rattle.rk_points.specs.Walks.{Tallied, Kept, Reaches}
use Rattle.rk_points.proofs.WalkLemmas.{reached_end, turned_on}

-- ---- units that are applied

in_unit_ok : (number : ℕ) (r : Result Version ApplyFault) (next : Version) → in_unit number r ≡ Ok next → r ≡ Ok next
in_unit_ok number (Ok version) next e = cc
in_unit_ok number (Err why) next e = absurd cc

no_overlap : (found : Option ApplyFault) (version next : Version) → (let r : Result Version ApplyFault = elim found [ Some why ↦ Err why | None ↦ Ok version ] in r) ≡ Ok next → version ≡ next
no_overlap (Some why) version next e = absurd cc
no_overlap None version next e = cc

-- the edits of a unit that is applied lead to the version after it
unit_edits : (unit : ManifestUnit) (version next : Version) → unit_step unit version ≡ Ok next → steps_in_order edit_step unit.edits version ≡ Ok next
unfolding unit_step
unit_edits unit version next e =
    both_steps (steps_in_order edit_step unit.edits version) (λ middle. elim (overlap middle.families) [ Some why ↦ Err why | None ↦ Ok middle ]) next e λ middle middle_is e1.
    middle_is ∙ ap Ok (no_overlap (overlap middle.families) middle next e1)

-- one more unit is applied
taken_more : (number : ℕ) (units : List ManifestUnit) (i : ℕ) (unit : ManifestUnit) (rest : List ManifestUnit) (first version next : Version) → drop i units ≡ unit ∷ rest → version_after number (take i units) first ≡ Ok version
    → unit_step unit version ≡ Ok next → version_after number (take (suc i) units) first ≡ Ok next
unfolding version_after
taken_more number [] zero unit rest first version next parts e step = absurd cc
taken_more number [] (suc i) unit rest first version next parts e step = absurd cc
taken_more number (one ∷ units) zero unit rest first version next parts e step =
    let same : one ≡ unit = cc in
    let begins : first ≡ version = cc in
    ap (λ r. in_unit number r >>= λ next. Ok next) ((λ i. unit_step (same i) (begins i)) ∙ step)
taken_more number (one ∷ units) (suc i) unit rest first version next parts e step =
    both_steps (in_unit number (unit_step one first)) (λ middle. version_after (suc number) (take i units) middle) version e λ middle middle_is e1.
    ap (λ r. r >>= λ middle. version_after (suc number) (take (suc i) units) middle) middle_is ∙ taken_more (suc number) units i unit rest middle version next parts e1 step

-- the walk is at the version after so many units
pub record Standing (units : List ManifestUnit) (answers : List Bool) (last : Version) (i : ℕ) (walk : Walk) : Type 0 where
  pub version : Version
  pub before : version_at units i ≡ Ok version
  pub ahead : version_after (suc i) (drop i units) version ≡ Ok last
  pub kept : Kept units answers (suc i) version.families (added_files (drop i units)) walk

module _ (units : List ManifestUnit) (answers : List Bool) (enough : length answers ≡ length (added_files units)) where
  -- before the first unit
  first_kept : (walk : Walk) → walk.tallies ≡ default_tally ∷ [] → walk.left.now ≡ answers → Kept units answers 0 first_version.families (added_files units) walk
  first_kept walk tallies left = record {
    asked = [];
    ids = (tt, tt);
    files = refl;
    left = left;
    each = λ id. subst (λ tallies. Tallied units answers 0 first_version.families [] id (tally_of id tallies)) (sym tallies) (one id (0 == id));
  }
    where
      holds_none : (told : Bool) → ((told && false) || false) ≡ false
      holds_none true = refl
      holds_none false = refl

      or_none : (told : Bool) → told ≡ (told || false)
      or_none true = refl
      or_none false = refl

      one : (id : ℕ) (told : Bool) → Tallied units answers 0 first_version.families [] id (let o : Option Tally = cond (0 == id) (Some default_tally) None in unwrap_or o (blank id))
      one id told = by (0 == id) refl
        where
          by : (told : Bool) → (0 == id) ≡ told → Tallied units answers 0 first_version.families [] id (let o : Option Tally = cond told (Some default_tally) None in unwrap_or o (blank id))
          by true e = record {
            rising = (tt, tt);
            within = omega arith;
            was_live = λ point less. absurd (omega arith);
            was_whole = λ point less. absurd (omega arith);
            live = sym (ap (λ told. told || false) e);
            whole = refl;
            marks = λ number. sym (ap (λ told. told && true) (holds_none (0 == id)));
          }
          by false e = record {
            rising = (tt, tt);
            within = omega arith;
            was_live = λ point less. absurd (omega arith);
            was_whole = λ point less. absurd (omega arith);
            live = sym (ap (λ told. told || false) e);
            whole = refl;
            marks = λ number. sym (ap (λ told. told && true) (holds_none (0 == id)));
          }

  pub first_standing : (last : Version) (walk : Walk) → version_at units (length units) ≡ Ok last → walk.tallies ≡ default_tally ∷ [] → walk.left.now ≡ answers → Standing units answers last 0 walk
  unfolding version_after
  first_standing last walk applies tallies left = record {
    version = first_version;
    before = refl;
    ahead = ap (λ units. version_after 1 units first_version) (sym (take_all (length units) units (omega arith))) ∙ applies;
    kept = turned_on units answers enough 0 first_version walk refl (first_kept walk tallies left);
  }

  -- one more unit
  pub next_standing : (last : Version) (i : ℕ) (unit : ManifestUnit) (old new : Walk) → drop i units ≡ unit ∷ drop (suc i) units → Reaches (suc i) unit.edits old [] new → Standing units answers last i old → Standing units answers last (suc i) new
  unfolding version_after
  next_standing last i unit old new parts reaches s =
      both_steps (in_unit (suc i) (unit_step unit s.version)) (λ middle. version_after (suc (suc i)) (drop (suc i) units) middle) last (ap (λ units. version_after (suc i) units s.version) (sym parts) ∙ s.ahead) λ middle middle_is e1.
      let step = in_unit_ok (suc i) (unit_step unit s.version) middle middle_is in
      let before = taken_more 1 units i unit (drop (suc i) units) first_version s.version middle parts s.before step in
      record {
        version = middle;
        before = before;
        ahead = e1;
        kept = turned_on units answers enough (suc i) middle new before (reached_end units answers enough (suc i) middle (added_files (drop (suc i) units)) new
            (reaches units answers middle (added_files (drop (suc i) units)) enough (record {
              version = s.version;
              leads = unit_edits unit s.version middle step;
              kept = subst (λ left. Kept units answers (suc i) s.version.families (added_files left) old) parts s.kept;
            })));
      }

-- ---- units that are handed in

map-drop : {A B : Type 0} (f : A → B) (n : ℕ) (xs : List A) → map f (drop n xs) ≡ drop n (map f xs)
map-drop f zero xs = refl
map-drop f (suc n) [] = refl
map-drop f (suc n) (x ∷ xs) = map-drop f n xs

pub enough_answers : (units : List ManifestUnit) (answers : List Bool) → length answers ≡ length (listed units) → length answers ≡ length (added_files units)
enough_answers units answers e = e ∙ length-map (added_files units) (λ (added : FileMeta × Bool). added.0)

parts_at : (units : List LentUnit) (i : ℕ) (unit : LentUnit) → i < length units → unit ≡ get_or units i unit → drop i (map meaning units) ≡ meaning unit ∷ drop (suc i) (map meaning units)
parts_at units i unit in' is = sym (map-drop meaning i units) ∙ ap (map meaning) (drop-cons units i unit in') ∙ (λ j. meaning (sym is j) ∷ map-drop meaning (suc i) units j)

pub applied_next : (units : List LentUnit) (i : ℕ) (unit : LentUnit) (version next : Version) → i < length units → unit ≡ get_or units i unit → unit_step (meaning unit) version ≡ Ok next
    → version_at (map meaning units) i ≡ Ok version → version_at (map meaning units) (i + 1) ≡ Ok next
applied_next units i unit version next in' is step before =
    let more : i + 1 ≡ suc i = omega arith in
    ap (version_at (map meaning units)) more ∙ taken_more 1 (map meaning units) i (meaning unit) (drop (suc i) (map meaning units)) first_version version next (parts_at units i unit in' is) before step

pub standing_more : (units : List LentUnit) (answers : List Bool) (last : Version) (i : ℕ) (unit : LentUnit) (old new : Walk) → length answers ≡ length (listed (map meaning units)) → i < length units → unit ≡ get_or units i unit
    → Reaches (i + 1) (edits_of unit.pieces) old [] new → Standing (map meaning units) answers last i old → Standing (map meaning units) answers last (i + 1) new
standing_more units answers last i unit old new e in' is reaches s =
    let next : suc i ≡ i + 1 = omega arith in
    subst (λ n. Standing (map meaning units) answers last n new) next
    (next_standing (map meaning units) answers (enough_answers (map meaning units) answers e) last i (meaning unit) old new (parts_at units i unit in' is) (subst (λ n. Reaches n (edits_of unit.pieces) old [] new) (sym next) reaches) s)

-- a version that is there
pub is_there : (r : Result Version ManifestFault) → IsOk r → (version : Version) × (r ≡ Ok version)
is_there (Ok version) ok = (version, refl)
is_there (Err why) ok = absurd (false≢true ok)
