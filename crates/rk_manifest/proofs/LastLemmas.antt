-- How the last version comes nearer, unit by unit and item by item.
use Rattle.std.proofs.Common.{◌≡◌, ℕ, zero, suc, ◌+◌, ◌<◌, ◌≤◌, List, [], ◌∷◌, length, drop, get_or, Option, Some, None, Result, Ok, Err, refl, sym, ◌∙◌, ap, arith}
use Rattle.std.specs.List.{AllZip}
use Rattle.std.proofs.lemmas.List.{drop_all}
use Rattle.std.proofs.lemmas.Slice.Zip.{AllZip-long}
use Rattle.rk_bytes.specs.declared.model.manifest.ApplyFault.{ApplyFault}
use Rattle.rk_bytes.specs.declared.model.manifest.ManifestFault.{ManifestFault}
use Rattle.rk_bytes.specs.declared.model.manifest.Version.{Version}
use Rattle.rk_bytes.specs.Model.Numbers.{◌>>=◌}
use Rattle.rk_bytes.specs.Model.LogItems.{Item, rec}
use Rattle.rk_bytes.specs.Model.Manifest.{ManifestUnit, Units as StatedUnits, UnitsEnd, fault_in, with_unit, in_unit, version_after}
use Rattle.rk_version.specs.declared.unit.Unit.{Unit as LentUnit}
use Rattle.rk_version.specs.Units.{IsUnit}
use Rattle.rk_manifest.specs.declared.error.ManifestErr.{ManifestErr}
use Rattle.rk_manifest.specs.declared.error.ManifestErr.TheVariants.{Fault, Memory}
use Rattle.rk_manifest.specs.declared.last.Applied.{Applied}
use Rattle.rk_manifest.specs.declared.reading.Reading.TheVariants.{GoesOn, Ended}
use Rattle.rk_manifest.specs.declared.progress.Progress.{Progress}
use Rattle.rk_manifest.specs.Records.{EndsEdits}
use Rattle.rk_manifest.specs.Fronts.{edits_in, IsFront}
use Rattle.rk_manifest.specs.Groups.{units_ahead, TakesEdit}
use Rattle.rk_manifest.specs.declared.units.Units.{Units}
use Rattle.rk_manifest.specs.Units.{AreUnits}
use Rattle.rk_manifest.specs.Last.{IsLast, ended_with, last_after, last_of, AppliesTo}
use Rattle.rk_manifest.specs.Outcomes.{TakesItem}
use Rattle.rk_manifest.proofs.TakeLemmas.{ahead-none}
use Rattle.rk_manifest.proofs.GroupLemmas.{EndsUnits}

-- ---- units

pub last_after-none : (applied : Applied) (fault : Option ManifestFault) → last_after applied [] fault ≡ ended_with fault applied.builder
unfolding version_after
last_after-none applied fault = refl

pub last_after-applied : (old new : Applied) (unit : ManifestUnit) (units : List ManifestUnit) (fault : Option ManifestFault) → AppliesTo unit old (Ok tt) new → last_after old (unit ∷ units) fault ≡ last_after new units fault
unfolding version_after
last_after-applied old new unit units fault is =
    ap (λ (step : Result Version ApplyFault). in_unit (suc old.count) step >>= (λ next. version_after (suc (suc old.count)) units next) >>= (λ version. ended_with fault version)) is.0
    ∙ ap (λ count. version_after (suc count) units new.builder >>= (λ version. ended_with fault version)) (sym is.1)

pub last_after-refused : (old new : Applied) (unit : ManifestUnit) (units : List ManifestUnit) (fault why : ManifestFault) (ended : Option ManifestFault) → AppliesTo unit old (Err (Fault why)) new → last_after old (unit ∷ units) ended ≡ Err why
unfolding version_after
last_after-refused old new unit units fault why ended is =
    ap (λ (step : Result Version ManifestFault). step >>= (λ next. version_after (suc (suc old.count)) units next) >>= (λ version. ended_with ended version)) is.0

-- ---- units and what ends them

pub last_of-none : (applied : Applied) (ended : UnitsEnd) (fault : Option ManifestFault) → fault_in (suc applied.count) ended ≡ fault → last_of applied ([], ended) ≡ ended_with fault applied.builder
last_of-none applied ended fault is =
    let same : applied.count + 0 ≡ applied.count = omega arith in
    last_after-none applied (fault_in (suc (applied.count + 0)) ended)
    ∙ ap (λ n. ended_with (fault_in (suc n) ended) applied.builder) same
    ∙ ap (λ fault. ended_with fault applied.builder) is

last_of-applied : (old new : Applied) (unit : ManifestUnit) (ahead : List ManifestUnit × UnitsEnd) → AppliesTo unit old (Ok tt) new → last_of old (with_unit unit ahead) ≡ last_of new ahead
last_of-applied old new unit ahead is =
    let same : old.count + suc (length ahead.0) ≡ new.count + length ahead.0 = omega (arith, is.1) in
    last_after-applied old new unit ahead.0 (fault_in (suc (old.count + suc (length ahead.0))) ahead.1) is
    ∙ ap (λ n. last_after new ahead.0 (fault_in (suc n) ahead.1)) same

-- ---- items

-- an item ends the edits
pub takes_end : (old : Progress) (left : ℕ) (item : Item) (fault : Option ManifestFault) → IsFront left (edits_in old.begun.edits) → EndsEdits item fault → TakesItem old item (Ok (Ended fault)) old
takes_end old left item fault front ends = λ items.
    ap (last_of old.applied) (ahead-none left (edits_in old.begun.edits) (item ∷ items) ends.ended front (ends.none items))
    ∙ last_of-none old.applied ends.ended fault (ends.named (suc old.applied.count))

-- an edit that may not come
pub takes_fault : (old : Progress) (bytes : List ℕ) (place : ℕ) (fault : ManifestFault) → EndsUnits (edits_in old.begun.edits) bytes (suc old.applied.count) fault → TakesItem old (rec bytes place) (Ok (Ended (Some fault))) old
takes_fault old bytes place fault ends = λ items. ap (last_of old.applied) (ends.none place items) ∙ last_of-none old.applied ends.ended (Some fault) ends.named

-- an edit that ends no unit
pub takes_part : (old new : Progress) (bytes : List ℕ) (place : ℕ) → TakesEdit (edits_in old.begun.edits) bytes (Ok None) (edits_in new.begun.edits) → new.applied ≡ old.applied → TakesItem old (rec bytes place) (Ok GoesOn) new
takes_part old new bytes place takes same = λ items.
    ap (last_of old.applied) (takes place items) ∙ ap (λ applied. last_of applied (units_ahead (edits_in new.begun.edits) items)) (sym same)

-- an edit that ends a unit, which is applied
pub takes_unit : (old new : Progress) (bytes : List ℕ) (place : ℕ) (unit : LentUnit) → (takes : TakesEdit (edits_in old.begun.edits) bytes (Ok (Some unit)) (edits_in new.begun.edits)) → AppliesTo takes.0 old.applied (Ok tt) new.applied
    → TakesItem old (rec bytes place) (Ok GoesOn) new
takes_unit old new bytes place unit takes applies = λ items.
    ap (last_of old.applied) (takes.2 place items) ∙ last_of-applied old.applied new.applied takes.0 (units_ahead (edits_in new.begun.edits) items) applies

-- an edit that ends a unit, which is refused
pub takes_refused : (old new : Progress) (bytes : List ℕ) (place : ℕ) (unit : LentUnit) (fault : ManifestFault) → (takes : TakesEdit (edits_in old.begun.edits) bytes (Ok (Some unit)) (edits_in new.begun.edits))
    → AppliesTo takes.0 old.applied (Err (Fault fault)) new.applied → TakesItem old (rec bytes place) (Ok (Ended (Some fault))) new
takes_refused old new bytes place unit fault takes applies = λ items.
    let ahead = units_ahead (edits_in new.begun.edits) items in
    ap (last_of old.applied) (takes.2 place items) ∙ last_after-refused old.applied new.applied takes.0 ahead.0 fault fault (fault_in (suc (old.applied.count + suc (length ahead.0))) ahead.1) applies

-- ---- units that are handed in

-- a unit at an index, and what it means
pub record UnitAt (units : List LentUnit) (means : List ManifestUnit) (i : ℕ) (unit : LentUnit) : Type 0 where
  pub stated : ManifestUnit
  pub is : IsUnit unit stated
  pub parts : drop i means ≡ stated ∷ drop (suc i) means

pub unit_at : (units : List LentUnit) (means : List ManifestUnit) (i : ℕ) (d : LentUnit) → AllZip IsUnit units means → i < length units → UnitAt units means i (get_or units i d)
unit_at [] means i d all within = absurd (omega arith)
unit_at (unit ∷ units) [] i d all within = absurd all
unit_at (unit ∷ units) (stated ∷ means) zero d all within = record { stated = stated; is = all.0; parts = refl }
unit_at (unit ∷ units) (stated ∷ means) (suc i) d all within = let rest = unit_at units means i d all.1 (omega arith) in record { stated = rest.stated; is = rest.is; parts = rest.parts }

-- a unit is applied
pub one_more : (last : Result Version ManifestFault) (old new : Applied) (units : List LentUnit) (means : List ManifestUnit) (fault : Option ManifestFault) (i : ℕ) (unit : LentUnit) → (at : UnitAt units means i unit)
    → last ≡ last_after old (drop i means) fault → AppliesTo at.stated old (Ok tt) new → last ≡ last_after new (drop (suc i) means) fault
one_more last old new units means fault i unit at is applies = is ∙ ap (λ units. last_after old units fault) at.parts ∙ last_after-applied old new at.stated (drop (suc i) means) fault applies

-- a unit is refused
pub refused_last : (last : Result Version ManifestFault) (old new : Applied) (units : List LentUnit) (means : List ManifestUnit) (fault : Option ManifestFault) (i : ℕ) (unit : LentUnit) (error : ManifestErr) → (at : UnitAt units means i unit)
    → last ≡ last_after old (drop i means) fault → AppliesTo at.stated old (Err error) new → IsLast last (Err error)
refused_last last old new units means fault i unit (Fault why) at is applies =
    is ∙ ap (λ units. last_after old units fault) at.parts ∙ last_after-refused old new at.stated (drop (suc i) means) why why fault applies
refused_last last old new units means fault i unit Memory at is applies = tt

-- no unit is left
pub last_one : (last : Result Version ManifestFault) (applied : Applied) (read : Units) (means : StatedUnits) (i : ℕ) → AreUnits read means → length read.units ≤ i → last ≡ last_after applied (drop i means.units) means.fault
    → last ≡ ended_with read.fault applied.builder
last_one last applied read means i are all is =
    let as_many : length means.units ≡ length read.units = AllZip-long IsUnit read.units means.units are.units in
    is ∙ ap (λ units. last_after applied units means.fault) (drop_all i means.units (omega (arith, as_many))) ∙ last_after-none applied means.fault ∙ ap (λ fault. ended_with fault applied.builder) (sym are.fault)
