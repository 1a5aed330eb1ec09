-- The units of a manifest that count, as they are applied one after another.
use Rattle.std.proofs.Common.{◌≡◌, ℕ, suc, ◌+◌, ◌<◌, ◌≤◌, List, [], ◌∷◌, ◌++◌, length, get_or, map, take, drop, Result, Ok, Err, refl, sym, ap, ◌∙◌, append_assoc, arith}
use Rattle.std.specs.Prelude.{◌≢◌, is_ok, IsOk, IfOk}
use Rattle.std.specs.List.{AllZip}
use Rattle.std.proofs.lemmas.List.{map-append, take_more}
use Rattle.rk_bytes.specs.declared.memory.Memory.{Memory as NoMemory}
use Rattle.rk_bytes.specs.declared.model.manifest.ApplyFault.{ApplyFault}
use Rattle.rk_bytes.specs.declared.model.manifest.ApplyFault.TheVariants.{Memory}
use Rattle.rk_bytes.specs.declared.model.manifest.ManifestFault.{ManifestFault}
use Rattle.rk_bytes.specs.declared.model.manifest.Version.{Version}
use Rattle.rk_bytes.specs.Model.Numbers.{◌>>=◌}
use Rattle.rk_bytes.specs.Model.VersionEdit.{Field, edit_fields}
use Rattle.rk_bytes.specs.Model.Manifest.{ManifestUnit, first_version, unit_step, in_unit, version_after, version_at, complete}
use Rattle.rk_bytes.specs.Model.BestEfforts.{applied_to, usable, are_complete}
use Rattle.rk_edit.specs.Read.{fields_or_none}
use Rattle.rk_log.specs.declared.item.Piece.{Piece}
use Rattle.rk_log.specs.Items.{piece_bytes}
use Rattle.rk_open.specs.declared.usable.Usable.{Usable}
use Rattle.rk_points.proofs.ListLemmas.{left_at, none_left}
use Rattle.rk_version.specs.declared.unit.Unit.{Unit as LentUnit}
use Rattle.rk_version.specs.Units.{IsUnit, edits_of, meaning}

-- a unit that is handed in means what it is a unit of
edits_are : (pieces : List Piece) (edits : List (List Field)) → AllZip (λ piece edit. edit_fields (piece_bytes piece) ≡ Ok edit) pieces edits → edits_of pieces ≡ edits
edits_are [] [] all = refl
edits_are [] (edit ∷ edits) all = absurd all
edits_are (piece ∷ pieces) [] all = absurd all
edits_are (piece ∷ pieces) (edit ∷ edits) all = λ i. fields_or_none (all.0 i) ∷ edits_are pieces edits all.1 i

unit_is : (unit : LentUnit) (means : ManifestUnit) → IsUnit unit means → meaning unit ≡ means
unit_is unit means is = λ i. record { edits = edits_are unit.pieces means.edits is.edits i; is_group = is.group i }

pub units_are : (units : List LentUnit) (means : List ManifestUnit) → AllZip IsUnit units means → map meaning units ≡ means
units_are [] [] all = refl
units_are [] (unit ∷ means) all = absurd all
units_are (unit ∷ units) [] all = absurd all
units_are (unit ∷ units) (mean ∷ means) all = λ i. unit_is unit mean all.0 i ∷ units_are units means all.1 i

-- The first so many units are applied, and make this version.
pub record Applied (units : List LentUnit) (k : ℕ) (now : Version) : Type 0 where
  pub usable_are : usable (map meaning units) ≡ map meaning (take k units) ++ applied_to now (map meaning (drop k units))
  pub version_is : version_after 1 (map meaning (take k units)) first_version ≡ Ok now

pub applied_none : (units : List LentUnit) → Applied units 0 first_version
unfolding version_after
applied_none units = record { usable_are = refl; version_is = refl }

append_none : {A : Type 0} (xs : List A) → xs ++ [] ≡ xs
append_none [] = refl
append_none (x ∷ xs) = ap (λ l. x ∷ l) (append_none xs)

-- one unit after those that are applied
after_more : (number : ℕ) (units : List ManifestUnit) (unit : ManifestUnit) (version now next : Version) → version_after number units version ≡ Ok now → unit_step unit now ≡ Ok next → version_after number (units ++ unit ∷ []) version ≡ Ok next
unfolding version_after
after_more number [] unit version now next so step =
    let same : version ≡ now = cc in ap (λ (r : Result Version ApplyFault). in_unit number r >>= λ next. Ok next) (ap (unit_step unit) same ∙ step)
after_more number (first ∷ units) unit version now next so step = by (in_unit number (unit_step first version)) so (λ middle so. after_more (suc number) units unit middle now next so step)
  where
    by : (told : Result Version ManifestFault) → told >>= (λ middle. version_after (suc number) units middle) ≡ Ok now → ((middle : Version) → version_after (suc number) units middle ≡ Ok now → version_after (suc number) (units ++ unit ∷ []) middle ≡ Ok next)
        → told >>= (λ middle. version_after (suc number) (units ++ unit ∷ []) middle) ≡ Ok next
    by (Ok middle) so later = later middle so
    by (Err why) so later = absurd cc

applied-cons : (now : Version) (unit : ManifestUnit) (units : List ManifestUnit) (told : Result Version ApplyFault) → unit_step unit now ≡ told
    → applied_to now (unit ∷ units) ≡ elim told as (λ told. List ManifestUnit) [ Ok next ↦ unit ∷ applied_to next units | Err why ↦ [] ]
applied-cons now unit units told is = ap (λ (told : Result Version ApplyFault). elim told as (λ told. List ManifestUnit) [ Ok next ↦ unit ∷ applied_to next units | Err why ↦ [] ]) is

pub applied_more : (units : List LentUnit) (k : ℕ) (unit : LentUnit) (now next : Version) → k < length units → unit ≡ get_or units k unit → unit_step (meaning unit) now ≡ Ok next → Applied units k now → Applied units (k + 1) next
applied_more units k unit now next in' is step so =
    let more : take (k + 1) units ≡ take k units ++ unit ∷ [] = take_more units k unit in' ∙ ap (λ unit. take k units ++ unit ∷ []) (sym is) in
    let meant : map meaning (take (k + 1) units) ≡ map meaning (take k units) ++ meaning unit ∷ [] = ap (map meaning) more ∙ map-append meaning (take k units) (unit ∷ []) in record {
      usable_are = so.usable_are
          ∙ ap (λ left. map meaning (take k units) ++ applied_to now (map meaning left)) (left_at units k unit in' is)
          ∙ ap (λ l. map meaning (take k units) ++ l) (applied-cons now (meaning unit) (map meaning (drop (k + 1) units)) (Ok next) step)
          ∙ sym (append_assoc (map meaning (take k units)) (meaning unit ∷ []) (applied_to next (map meaning (drop (k + 1) units))))
          ∙ ap (λ l. l ++ applied_to next (map meaning (drop (k + 1) units))) (sym meant);
      version_is = ap (λ units. version_after 1 units first_version) meant ∙ after_more 1 (map meaning (take k units)) (meaning unit) first_version now next so.version_is step;
    }

-- the next unit is refused, or there is none
pub applied_refused : (units : List LentUnit) (k : ℕ) (unit : LentUnit) (now : Version) (why : ApplyFault) → k < length units → unit ≡ get_or units k unit → unit_step (meaning unit) now ≡ Err why → Applied units k now → map meaning (take k units) ≡ usable (map meaning units)
applied_refused units k unit now why in' is step so =
    sym (
    so.usable_are
    ∙ ap (λ left. map meaning (take k units) ++ applied_to now (map meaning left)) (left_at units k unit in' is)
    ∙ ap (λ l. map meaning (take k units) ++ l) (applied-cons now (meaning unit) (map meaning (drop (k + 1) units)) (Err why) step)
    ∙ append_none (map meaning (take k units))
    )

pub applied_all : (units : List LentUnit) (k : ℕ) (now : Version) → length units ≤ k → Applied units k now → map meaning (take k units) ≡ usable (map meaning units)
applied_all units k now past so =
    sym (so.usable_are ∙ ap (λ left. map meaning (take k units) ++ applied_to now (map meaning left)) (none_left units k past) ∙ append_none (map meaning (take k units)))

-- the version after all units
take_length : {A : Type 0} (xs : List A) → take (length xs) xs ≡ xs
take_length [] = refl
take_length (x ∷ xs) = ap (λ l. x ∷ l) (take_length xs)

pub version_whole : (units : List ManifestUnit) (version : Version) → version_after 1 units first_version ≡ Ok version → version_at units (length units) ≡ Ok version
version_whole units version is = ap (λ units. version_after 1 units first_version) (take_length units) ∙ is

pub complete_by : (units : List ManifestUnit) (version : Version) → version_after 1 units first_version ≡ Ok version → are_complete units ≡ is_ok (complete version)
complete_by units version is = ap (λ (r : Result Version ManifestFault). is_ok (r >>= complete)) (version_whole units version is)

pub length-map : {A B : Type 0} (f : A → B) (xs : List A) → length (map f xs) ≡ length xs
length-map f [] = refl
length-map f (x ∷ xs) = ap suc (length-map f xs)

-- units that are applied
pub applied_at : (units : List LentUnit) (version : Version) → version_after 1 (map meaning units) first_version ≡ Ok version → IsOk (version_at (map meaning units) (length units))
applied_at units version is =
    ap is_ok (ap (version_at (map meaning units)) (sym (length-map meaning units)) ∙ version_whole (map meaning units) version is)

-- what is answered where the next unit isn't applied
module _ (units : List LentUnit) (k : ℕ) (unit : LentUnit) (old now : Version) (why : ApplyFault) (in' : k < length units) (is : unit ≡ get_or units k unit) (left : now ≡ old) (step : why ≢ Memory → unit_step (meaning unit) old ≡ Err why)
    (so : Applied units k old) where
  pub stopped_within : (result : Result Usable NoMemory) → IfOk result (λ front. front.count ≡ k) → IfOk result (λ front. front.count ≤ length units)
  stopped_within (Ok front) count = omega (arith, count, in')
  stopped_within (Err memory) count = tt

  pub stopped_units : (result : Result Usable NoMemory) → IfOk result (λ front. why ≢ Memory) → IfOk result (λ front. front.count ≡ k) → IfOk result (λ front. map meaning (take front.count units) ≡ usable (map meaning units))
  stopped_units (Ok front) refused count = ap (λ n. map meaning (take n units)) count ∙ applied_refused units k unit old why in' is (step refused) so
  stopped_units (Err memory) refused count = tt

  pub stopped_version : (result : Result Usable NoMemory) → IfOk result (λ front. front.count ≡ k) → IfOk result (λ front. front.version ≡ now) → IfOk result (λ front. version_after 1 (map meaning (take front.count units)) first_version ≡ Ok front.version)
  stopped_version (Ok front) count version =
      ap (λ n. version_after 1 (map meaning (take n units)) first_version) count ∙ so.version_is ∙ ap Ok (sym (version ∙ left))
  stopped_version (Err memory) count version = tt
