-- What holds of each field that is read holds of those of a manifest's units.
use Rattle.std.proofs.Common.{◌≡◌, ℕ, zero, suc, Bool, true, false, not, cond, List, [], ◌∷◌, length, take, drop, Option, Some, None, Result, Ok, Err, refl}
use Rattle.std.specs.Prelude.{nat_le}
use Rattle.std.specs.List.{AllByRecursion}
use Rattle.rk_bytes.specs.declared.model.edit.EditFault.{EditFault}
use Rattle.rk_bytes.specs.declared.model.log.EndKind.TheVariants.{Clean, Torn, Stale, Unsupported}
use Rattle.rk_bytes.specs.Model.LogItems.{Item, rec, gap, end, log_items}
use Rattle.rk_bytes.specs.Model.VersionEdit.{Field, group_in, edit_fields}
use Rattle.rk_bytes.specs.Model.Manifest.{ManifestUnit, UnitsEnd, unread_edit, broken_group, Edits, no_edit, with_edit, edits_of, stated, falls, single_unit, group_unit, with_unit, parted_units, manifest_units}
use Rattle.rk_open.proofs.SoundFields.{IsSound, edit_sound}

-- edits of sound fields
abbrev AreSound : List (List Field) → Type 0
AreSound edits = AllByRecursion (AllByRecursion IsSound) edits

-- units of such edits
abbrev pub AreSoundUnits : List ManifestUnit → Type 0
AreSoundUnits units = AllByRecursion (λ unit. AllByRecursion (AllByRecursion IsSound) unit.edits) units

front_sound : (n : ℕ) (edits : List (List Field)) → AreSound edits → AreSound (take n edits)
front_sound zero edits all = tt
front_sound (suc n) [] all = tt
front_sound (suc n) (edit ∷ edits) all = (all.0, front_sound n edits all.1)

rest_sound : (n : ℕ) (edits : List (List Field)) → AreSound edits → AreSound (drop n edits)
rest_sound zero edits all = all
rest_sound (suc n) [] all = tt
rest_sound (suc n) (edit ∷ edits) all = rest_sound n edits all.1

edits_sound : (items : List Item) → AreSound (edits_of items).edits
unfolding edits_of
edits_sound [] = tt
edits_sound (rec payload place ∷ items) = by (edit_fields payload) refl (edits_sound items)
  where
    by : (told : Result (List Field) EditFault) → edit_fields payload ≡ told → AreSound (edits_of items).edits
        → AreSound (elim told as (λ told. Edits) [ Ok edit ↦ with_edit edit (edits_of items) | Err why ↦ no_edit (unread_edit why) ]).edits
    by (Ok edit) told rest = (edit_sound payload edit told, rest)
    by (Err why) told rest = tt
edits_sound (gap why place ∷ items) = tt
edits_sound (end Clean place ∷ items) = tt
edits_sound (end Torn place ∷ items) = tt
edits_sound (end Stale place ∷ items) = tt
edits_sound (end (Unsupported kind) place ∷ items) = tt

parted_sound : (ended : UnitsEnd) (most : ℕ) (edits : List (List Field)) → AreSound edits → AreSoundUnits (parted_units ended most edits).0
unfolding parted_units
parted_sound ended zero [] all = tt
parted_sound ended (suc most) [] all = tt
parted_sound ended zero (edit ∷ edits) all = tt
parted_sound ended (suc most) (edit ∷ edits) all =
    by (stated group_in edit) (parted_sound ended most edits all.1) (λ n. parted_sound ended most (drop n edits) (rest_sound n edits all.1))
  where
    in_group : (n : ℕ) (falling whole : Bool) → AreSoundUnits (parted_units ended most (drop n edits)).0
        → AreSoundUnits (cond (not falling) ([], broken_group) (cond whole ([], ended) (with_unit (group_unit (take (suc n) (edit ∷ edits))) (parted_units ended most (drop n edits))))).0
    in_group n false whole rest = tt
    in_group n true true rest = tt
    in_group n true false rest = (front_sound (suc n) (edit ∷ edits) all, rest)

    by : (told : Option ℕ) → AreSoundUnits (parted_units ended most edits).0 → ((n : ℕ) → AreSoundUnits (parted_units ended most (drop n edits)).0)
        → AreSoundUnits (elim told as (λ told. List ManifestUnit × UnitsEnd) [
          | None ↦ with_unit (single_unit edit) (parted_units ended most edits)
          | Some n ↦
              let members = take (suc n) (edit ∷ edits) in
              cond (not (falls n members)) ([], broken_group)
              (cond (nat_le (length members) n) ([], ended) (with_unit (group_unit members) (parted_units ended most (drop n edits))))
        ]).0
    by None rest later = ((all.0, tt), rest)
    by (Some n) rest later = in_group n (falls n (take (suc n) (edit ∷ edits))) (nat_le (length (take (suc n) (edit ∷ edits))) n) (later n)

pub units_sound : (bytes : List ℕ) → AreSoundUnits (manifest_units bytes).units
units_sound bytes =
    let read = edits_of (log_items 0 bytes) in parted_sound read.ended (length read.edits) read.edits (edits_sound (log_items 0 bytes))
