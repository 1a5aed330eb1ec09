-- What the records of a group mean, and what taking an edit makes of them.
use Rattle.std.proofs.Common.{◌≡◌, ℕ, ◌<◌, Bool, true, false, cond, List, [], ◌∷◌, ◌++◌, map, Option, Some, None, Result, Ok, Err, refl, sym, ◌∙◌, ap, subst}
use Rattle.std.specs.List.{AllZip}
use Rattle.std.proofs.lemmas.List.{map-append}
use Rattle.rk_bytes.specs.declared.model.edit.EditFault.{EditFault}
use Rattle.rk_bytes.specs.declared.model.manifest.EditWhy.TheVariants.{Read}
use Rattle.rk_bytes.specs.declared.model.manifest.ManifestFault.{ManifestFault}
use Rattle.rk_bytes.specs.declared.model.manifest.ManifestFault.TheVariants.{BadEdit, BadGroup}
use Rattle.rk_bytes.specs.Model.Numbers.{◌>>=◌}
use Rattle.rk_bytes.specs.Model.LogItems.{Item, rec}
use Rattle.rk_bytes.specs.Model.VersionEdit.{Field, group_in, edit_fields}
use Rattle.rk_bytes.specs.Model.Manifest.{stated, UnitsEnd, unread_edit, broken_group, fault_in, single_unit, group_unit}
use Rattle.rk_log.specs.declared.item.Piece.{Piece}
use Rattle.rk_log.specs.Items.{piece_bytes}
use Rattle.rk_edit.specs.Read.{fields_or_none}
use Rattle.rk_manifest.specs.Fronts.{stated_in, edits_in, admits, joined, IsFront, IsFrontOf}
use Rattle.rk_manifest.specs.Groups.{units_ahead, TakesEdit}
use Rattle.rk_manifest.proofs.FrontLemmas.{edit_of, admitted_alone, front-push}
use Rattle.rk_manifest.proofs.TakeLemmas.{edits-unread, ahead-single, ahead-more, ahead-whole, ahead-broken, ahead-none}

-- ---- the records' edits

edits_in-push : (pieces : List Piece) (piece : Piece) (edit : List Field) → edit_fields (piece_bytes piece) ≡ Ok edit → edits_in (pieces ++ piece ∷ []) ≡ edits_in pieces ++ edit ∷ []
edits_in-push pieces piece edit reads = map-append (λ piece. fields_or_none (edit_fields (piece_bytes piece))) pieces (piece ∷ []) ∙ ap (λ read. edits_in pieces ++ fields_or_none read ∷ []) reads

abbrev Reads : Piece → List Field → Type 0
Reads piece edit = edit_fields (piece_bytes piece) ≡ Ok edit

each_reads : (pieces : List Piece) (edits : List (List Field)) → map (λ piece. edit_fields (piece_bytes piece)) pieces ≡ map Ok edits → AllZip Reads pieces edits
each_reads [] [] is = tt
each_reads [] (edit ∷ edits) is = absurd (cc)
each_reads (piece ∷ pieces) [] is = absurd (cc)
each_reads (piece ∷ pieces) (edit ∷ edits) is = (cc, each_reads pieces edits (cc))

reads-push : (left : ℕ) (pieces : List Piece) (piece : Piece) (edit : List Field) → IsFrontOf left pieces → Reads piece edit
    → map (λ piece. edit_fields (piece_bytes piece)) (pieces ++ piece ∷ []) ≡ map Ok (edits_in pieces ++ edit ∷ [])
reads-push left pieces piece edit front reads =
    map-append (λ piece. edit_fields (piece_bytes piece)) pieces (piece ∷ [])
    ∙ ap (λ read. read ++ edit_fields (piece_bytes piece) ∷ []) front.read
    ∙ ap (λ one. let all : List (Result (List Field) EditFault) = map Ok (edits_in pieces) ++ one ∷ [] in all) reads
    ∙ sym (map-append Ok (edits_in pieces) (edit ∷ []))

-- ---- an edit is taken

pub front_of-push : (left n : ℕ) (pieces : List Piece) (piece : Piece) → IsFrontOf left pieces → admits left (Some n) ≡ true → stated_in (piece_bytes piece) ≡ Ok (Some n) → 0 < n → IsFrontOf n (pieces ++ piece ∷ [])
front_of-push left n pieces piece front is told more =
    let edit = edit_of (piece_bytes piece) (Some n) told in
    let edits = edits_in-push pieces piece edit.edit edit.reads in
    record {
      read = reads-push left pieces piece edit.edit front edit.reads ∙ ap (map Ok) (sym edits);
      front = subst (IsFront n) (sym edits) (front-push left n (edits_in pieces) edit.edit front.front is edit.states more);
    }

pub takes_more : (n : ℕ) (pieces : List Piece) (piece : Piece) → stated_in (piece_bytes piece) ≡ Ok (Some n) → TakesEdit (edits_in pieces) (piece_bytes piece) (Ok None) (edits_in (pieces ++ piece ∷ []))
takes_more n pieces piece told =
    let edit = edit_of (piece_bytes piece) (Some n) told in
    λ place items. ahead-more (edits_in pieces) (piece_bytes piece) place items edit.edit edit.reads ∙ ap (λ begun. units_ahead begun items) (sym (edits_in-push pieces piece edit.edit edit.reads))

pub takes_last : (left : ℕ) (pieces : List Piece) (piece : Piece) → IsFrontOf left pieces → admits left (Some 0) ≡ true → stated_in (piece_bytes piece) ≡ Ok (Some 0)
    → TakesEdit (edits_in pieces) (piece_bytes piece) (Ok (Some (record { pieces = pieces ++ piece ∷ []; group = true }))) []
takes_last left pieces piece front is told =
    let edit = edit_of (piece_bytes piece) (Some 0) told in (
      group_unit (edits_in pieces ++ edit.edit ∷ []),
      record { group = refl; edits = each_reads (pieces ++ piece ∷ []) (edits_in pieces ++ edit.edit ∷ []) (reads-push left pieces piece edit.edit front edit.reads) },
      λ place items. ahead-whole left (edits_in pieces) (piece_bytes piece) place items edit.edit front.front is edit.reads edit.states,
    )

pub takes_single : (left : ℕ) (pieces : List Piece) (piece : Piece) → IsFrontOf left pieces → admits left None ≡ true → stated_in (piece_bytes piece) ≡ Ok None
    → TakesEdit (edits_in pieces) (piece_bytes piece) (Ok (Some (record { pieces = piece ∷ []; group = false }))) (edits_in pieces)
takes_single left pieces piece front is told =
    let edit = edit_of (piece_bytes piece) None told in (
      single_unit edit.edit,
      record { group = refl; edits = (edit.reads, tt) },
      subst (λ begun. (place : ℕ) (items : List Item) → units_ahead begun (rec (piece_bytes piece) place ∷ items) ≡ ((single_unit edit.edit ∷ (units_ahead begun items).0), (units_ahead begun items).1))
          (sym (front.front.none (admitted_alone left is))) (λ place items. ahead-single (piece_bytes piece) place items edit.edit edit.reads edit.states),
    )

-- ---- whether it may be taken

pub record MayJoin (left : ℕ) (bytes : List ℕ) (told : Option ℕ) : Type 0 where
  pub states : stated_in bytes ≡ Ok told
  pub admits : admits left told ≡ true

pub may_join : (left unit : ℕ) (bytes : List ℕ) (told : Option ℕ) → joined left unit bytes ≡ Ok told → MayJoin left bytes told
may_join left unit bytes told is = by (stated_in bytes) refl is
  where
    by : (read : Result (Option ℕ) EditFault) → stated_in bytes ≡ read
        → elim read as (λ _. Result (Option ℕ) ManifestFault) [ Err why ↦ Err (BadEdit unit (Read why)) | Ok told ↦ cond (admits left told) (Ok told) (Err (BadGroup unit)) ] ≡ Ok told → MayJoin left bytes told
    by (Err why) read is = absurd (let other : Err (BadEdit unit (Read why)) ≡ Ok told = is in cc)
    by (Ok other) read is = tested (admits left other) refl is
      where
        tested : (test : Bool) → admits left other ≡ test → cond test (Ok other) (Err (BadGroup unit)) ≡ Ok told → MayJoin left bytes told
        tested true test is = let same : other ≡ told = cc in record { states = read ∙ ap Ok same; admits = ap (admits left) (sym same) ∙ test }
        tested false test is = absurd (let other : Err (BadGroup unit) ≡ Ok told = is in cc)

-- the units end before the edit
pub record EndsUnits (begun : List (List Field)) (bytes : List ℕ) (unit : ℕ) (fault : ManifestFault) : Type 0 where
  pub ended : UnitsEnd
  pub named : fault_in unit ended ≡ Some fault
  pub none : (place : ℕ) (items : List Item) → units_ahead begun (rec bytes place ∷ items) ≡ ([], ended)

pub may_not_join : (left unit : ℕ) (begun : List (List Field)) (bytes : List ℕ) (fault : ManifestFault) → IsFront left begun → joined left unit bytes ≡ Err fault → EndsUnits begun bytes unit fault
may_not_join left unit begun bytes fault front is = by (edit_fields bytes) refl is
  where
    by : (read : Result (List Field) EditFault) → edit_fields bytes ≡ read
        → elim (read >>= (λ edit. Ok (stated group_in edit))) as (λ _. Result (Option ℕ) ManifestFault) [ Err why ↦ Err (BadEdit unit (Read why)) | Ok told ↦ cond (admits left told) (Ok told) (Err (BadGroup unit)) ] ≡ Err fault
        → EndsUnits begun bytes unit fault
    by (Err why) read is = record {
      ended = unread_edit why;
      named = let same : BadEdit unit (Read why) ≡ fault = cc in ap Some same;
      none = λ place items. ahead-none left begun (rec bytes place ∷ items) (unread_edit why) front (edits-unread bytes place items why read);
    }
    by (Ok edit) read is = tested (admits left (stated group_in edit)) refl is
      where
        tested : (test : Bool) → admits left (stated group_in edit) ≡ test → cond test (Ok (stated group_in edit)) (Err (BadGroup unit)) ≡ Err fault → EndsUnits begun bytes unit fault
        tested true test is = absurd (let other : Ok (stated group_in edit) ≡ Err fault = is in cc)
        tested false test is = record {
          ended = broken_group;
          named = let same : BadGroup unit ≡ fault = cc in ap Some same;
          none = λ place items. ahead-broken left begun bytes place items edit front test read;
        }
