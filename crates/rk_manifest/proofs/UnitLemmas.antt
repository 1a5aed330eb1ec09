-- Units that are handed in, what they mean, and how a manifest's items are parted into them.
use Rattle.std.proofs.Common.{◌≡◌, ℕ, suc, ◌+◌, List, [], ◌∷◌, ◌++◌, length, Option, Some, None, Ok, sym, ◌∙◌, ap, subst, arith, append_assoc}
use Rattle.std.specs.Prelude.{is_ok}
use Rattle.std.specs.List.{All, AllZip}
use Rattle.std.specs.Result.{IsOk}
use Rattle.std.proofs.lemmas.List.Elements.{All-nil, All-cons}
use Rattle.std.proofs.lemmas.List.{append-nil}
use Rattle.std.proofs.lemmas.Slice.Zip.{AllZip-long}
use Rattle.rk_bytes.specs.declared.model.manifest.ManifestFault.{ManifestFault}
use Rattle.rk_bytes.specs.Model.LogItems.{Item, rec}
use Rattle.rk_bytes.specs.Model.VersionEdit.{Field, edit_fields}
use Rattle.rk_bytes.specs.Model.Manifest.{ManifestUnit, Units as StatedUnits, UnitsEnd, fault_in, units_with, units_of_items, edits_of}
use Rattle.rk_log.specs.declared.item.Piece.{Piece}
use Rattle.rk_log.specs.Items.{piece_bytes}
use Rattle.rk_version.specs.declared.unit.Unit.{Unit as LentUnit}
use Rattle.rk_version.specs.Units.{IsUnit}
use Rattle.rk_manifest.specs.declared.units.Units.{Units}
use Rattle.rk_manifest.specs.declared.units.Parting.{Parting}
use Rattle.rk_manifest.specs.Fronts.{edits_in}
use Rattle.rk_manifest.specs.Groups.{units_ahead, TakesEdit}
use Rattle.rk_manifest.specs.Units.{AreUnits, ReadsWhole}
use Rattle.rk_manifest.specs.Partings.{PartsInto}
use Rattle.rk_manifest.proofs.PartingLemmas.{any_room}

-- ---- the pieces of a unit

abbrev IsEdit : Piece → Type 0
IsEdit piece = IsOk (edit_fields (piece_bytes piece))

each_is_edit : (pieces : List Piece) (edits : List (List Field)) → AllZip (λ piece edit. edit_fields (piece_bytes piece) ≡ Ok edit) pieces edits → All IsEdit pieces
each_is_edit [] [] all = All-nil IsEdit
each_is_edit [] (edit ∷ edits) all = absurd all
each_is_edit (piece ∷ pieces) [] all = absurd all
each_is_edit (piece ∷ pieces) (edit ∷ edits) all = All-cons IsEdit piece pieces (ap is_ok all.0) (each_is_edit pieces edits all.1)

-- the pieces of a unit that means something read as edits
pub reads_of : (unit : LentUnit) (means : ManifestUnit) → IsUnit unit means → ReadsWhole unit
reads_of unit means is = each_is_edit unit.pieces means.edits is.edits

-- the same of all units
all_of : (units : List LentUnit) (means : List ManifestUnit) → AllZip IsUnit units means → All ReadsWhole units
all_of [] [] all = All-nil ReadsWhole
all_of [] (stated ∷ means) all = absurd all
all_of (unit ∷ units) [] all = absurd all
all_of (unit ∷ units) (stated ∷ means) all = All-cons ReadsWhole unit units (reads_of unit stated all.0) (all_of units means all.1)

pub all_read : (read : Units) (means : StatedUnits) → AreUnits read means → All ReadsWhole read.units
all_read read means are = all_of read.units means.units are.units

AllZip-push : {A B : Type 0} (R : A → B → Type 0) (xs : List A) (ys : List B) (x : A) (y : B) → AllZip R xs ys → R x y → AllZip R (xs ++ x ∷ []) (ys ++ y ∷ [])
AllZip-push R [] [] x y all one = (one, tt)
AllZip-push R [] (b ∷ ys) x y all one = absurd all
AllZip-push R (a ∷ xs) [] x y all one = absurd all
AllZip-push R (a ∷ xs) (b ∷ ys) x y all one = (all.0, AllZip-push R xs ys x y all.1 one)

-- ---- units one after another

-- before the first item
pub ahead-all : (items : List Item) → units_with (units_ahead [] items) ≡ units_of_items items
ahead-all items = let read = edits_of items in ap units_with (any_room read.ended (0 + length read.edits) (length read.edits) read.edits (omega arith) (omega arith))

pub parts_start : (parting : Parting) (items : List Item) → parting.units ≡ [] → parting.begun.edits ≡ [] → PartsInto parting items (units_of_items items)
parts_start parting items none empty = record {
  done = [];
  are = subst (λ (units : List LentUnit). AllZip IsUnit units []) (sym none) tt;
  whole = sym (ahead-all items) ∙ ap (λ (begun : List Piece). units_with (units_ahead (edits_in begun) items)) (sym empty);
}

-- no unit follows
pub parts_end : (parting : Parting) (items : List Item) (all : StatedUnits) (ended : UnitsEnd) (fault : Option ManifestFault) → PartsInto parting items all → units_ahead (edits_in parting.begun.edits) items ≡ ([], ended)
    → fault_in (suc (length parting.units)) ended ≡ fault → AreUnits (record { units = parting.units; fault = fault }) all
parts_end parting items all ended fault parts none named =
    let as_many : length parts.done ≡ length parting.units = AllZip-long IsUnit parting.units parts.done parts.are in
    let whole : all ≡ units_with (parts.done, ended) =
    parts.whole ∙ ap (λ (ahead : List ManifestUnit × UnitsEnd). units_with (parts.done ++ ahead.0, ahead.1)) none ∙ ap (λ done. units_with (done, ended)) (append-nil parts.done) in
    record {
      units = subst (λ (all : StatedUnits). AllZip IsUnit parting.units all.units) (sym whole) parts.are;
      fault = sym named ∙ ap (λ n. fault_in (suc n) ended) (sym as_many) ∙ ap (λ (all : StatedUnits). all.fault) (sym whole);
    }

-- an edit ends no unit
pub parts_part : (old new : Parting) (bytes : List ℕ) (place : ℕ) (items : List Item) (all : StatedUnits) → PartsInto old (rec bytes place ∷ items) all → TakesEdit (edits_in old.begun.edits) bytes (Ok None) (edits_in new.begun.edits)
    → new.units ≡ old.units → PartsInto new items all
parts_part old new bytes place items all parts takes same = record {
  done = parts.done;
  are = subst (λ (units : List LentUnit). AllZip IsUnit units parts.done) (sym same) parts.are;
  whole = parts.whole ∙ ap (λ (ahead : List ManifestUnit × UnitsEnd). units_with (parts.done ++ ahead.0, ahead.1)) (takes place items);
}

-- an edit ends a unit
pub parts_unit : (old new : Parting) (bytes : List ℕ) (place : ℕ) (items : List Item) (all : StatedUnits) (unit : LentUnit) → PartsInto old (rec bytes place ∷ items) all
    → TakesEdit (edits_in old.begun.edits) bytes (Ok (Some unit)) (edits_in new.begun.edits) → new.units ≡ old.units ++ unit ∷ [] → PartsInto new items all
parts_unit old new bytes place items all unit parts takes longer =
    let ahead = units_ahead (edits_in new.begun.edits) items in
    record {
      done = parts.done ++ takes.0 ∷ [];
      are = subst (λ (units : List LentUnit). AllZip IsUnit units (parts.done ++ takes.0 ∷ [])) (sym longer) (AllZip-push IsUnit old.units parts.done unit takes.0 parts.are takes.1);
      whole = parts.whole ∙ ap (λ (ahead : List ManifestUnit × UnitsEnd). units_with (parts.done ++ ahead.0, ahead.1)) (takes.2 place items)
          ∙ ap (λ done. units_with (done, ahead.1)) (sym (append_assoc parts.done (takes.0 ∷ []) ahead.0));
    }
