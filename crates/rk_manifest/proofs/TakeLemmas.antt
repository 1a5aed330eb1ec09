-- What the units ahead are, once the next item is known.
use Rattle.std.proofs.Common.{◌≡◌, ℕ, zero, suc, ◌+◌, ◌-◌, ◌<◌, ◌≤◌, true, false, List, [], ◌∷◌, ◌++◌, length, Some, None, Result, Ok, Err, refl, sym, ◌∙◌, ap, subst, arith, append_assoc}
use Rattle.std.proofs.lemmas.List.{length-append, append-nil}
use Rattle.rk_bytes.specs.declared.model.edit.EditFault.{EditFault}
use Rattle.rk_bytes.specs.Model.LogItems.{Item, rec}
use Rattle.rk_bytes.specs.Model.VersionEdit.{Field, group_in, edit_fields}
use Rattle.rk_bytes.specs.Model.Manifest.{stated, UnitsEnd, unread_edit, broken_group, no_edit, with_edit, Edits, single_unit, group_unit, with_unit, parted_units, edits_of}
use Rattle.rk_manifest.specs.Fronts.{admits, IsFront}
use Rattle.rk_manifest.specs.Groups.{units_ahead}
use Rattle.rk_manifest.proofs.PartingLemmas.{no_edits, any_room, of_single, of_whole_group, of_cut_group, of_broken_group}
use Rattle.rk_manifest.proofs.FrontLemmas.{not_admitted, falls_with}

-- ---- the edits of items

edits-rec : (bytes : List ℕ) (place : ℕ) (items : List Item) (edit : List Field) → edit_fields bytes ≡ Ok edit → edits_of (rec bytes place ∷ items) ≡ with_edit edit (edits_of items)
unfolding edits_of
edits-rec bytes place items edit reads =
    ap (λ (read : Result (List Field) EditFault). let e : Edits = elim read [ Ok edit ↦ with_edit edit (edits_of items) | Err why ↦ no_edit (unread_edit why) ] in e) reads

pub edits-unread : (bytes : List ℕ) (place : ℕ) (items : List Item) (why : EditFault) → edit_fields bytes ≡ Err why → edits_of (rec bytes place ∷ items) ≡ no_edit (unread_edit why)
unfolding edits_of
edits-unread bytes place items why reads =
    ap (λ (read : Result (List Field) EditFault). let e : Edits = elim read [ Ok edit ↦ with_edit edit (edits_of items) | Err why ↦ no_edit (unread_edit why) ] in e) reads

-- the units ahead, with any room
ahead_in : (begun : List (List Field)) (items : List Item) (read : Edits) (most : ℕ) → edits_of items ≡ read → length (begun ++ read.edits) ≤ most → units_ahead begun items ≡ parted_units read.ended most (begun ++ read.edits)
ahead_in begun items read most is fits =
    ap (λ (read : Edits). parted_units read.ended (length begun + length read.edits) (begun ++ read.edits)) is
    ∙ any_room read.ended (length begun + length read.edits) most (begun ++ read.edits) (omega (arith, length-append begun read.edits)) fits

-- ---- an edit comes next

-- a unit by itself
pub ahead-single : (bytes : List ℕ) (place : ℕ) (items : List Item) (edit : List Field) → edit_fields bytes ≡ Ok edit → stated group_in edit ≡ None
    → units_ahead [] (rec bytes place ∷ items) ≡ with_unit (single_unit edit) (units_ahead [] items)
ahead-single bytes place items edit reads told =
    let later = edits_of items in
    ahead_in [] (rec bytes place ∷ items) (with_edit edit later) (suc (length later.edits)) (edits-rec bytes place items edit reads) (omega arith)
    ∙ of_single later.ended (length later.edits) edit later.edits told
    ∙ ap (with_unit (single_unit edit)) (sym (ahead_in [] items later (length later.edits) refl (omega arith)))

-- an edit of a group, behind which more come
pub ahead-more : (begun : List (List Field)) (bytes : List ℕ) (place : ℕ) (items : List Item) (edit : List Field) → edit_fields bytes ≡ Ok edit
    → units_ahead begun (rec bytes place ∷ items) ≡ units_ahead (begun ++ edit ∷ []) items
ahead-more begun bytes place items edit reads =
    let later = edits_of items in
    let most = length (begun ++ edit ∷ later.edits) in
    let parts = append_assoc begun (edit ∷ []) later.edits in
    ahead_in begun (rec bytes place ∷ items) (with_edit edit later) most (edits-rec bytes place items edit reads) (omega arith)
    ∙ ap (parted_units later.ended most) (sym parts)
    ∙ sym (ahead_in (begun ++ edit ∷ []) items later most refl (omega (arith, ap length parts)))

-- the last edit of a group
pub ahead-whole : (left : ℕ) (begun : List (List Field)) (bytes : List ℕ) (place : ℕ) (items : List Item) (edit : List Field) → IsFront left begun → admits left (Some 0) ≡ true → edit_fields bytes ≡ Ok edit
    → stated group_in edit ≡ Some 0 → units_ahead begun (rec bytes place ∷ items) ≡ with_unit (group_unit (begun ++ edit ∷ [])) (units_ahead [] items)
ahead-whole left begun bytes place items edit front is reads told =
    let later = edits_of items in
    let members = begun ++ edit ∷ [] in
    let most = length (members ++ later.edits) in
    let len : length members ≡ suc (length begun + 0) = omega (arith, length-append begun (edit ∷ [])) in
    ahead-more begun bytes place items edit reads
    ∙ ahead_in members items later most refl (omega arith)
    ∙ of_whole_group later.ended most (length begun + 0) members later.edits (falls_with left 0 begun edit front is told) len (omega arith)
    ∙ ap (with_unit (group_unit members)) (sym (ahead_in [] items later (length later.edits) refl (omega arith)))

-- an edit that may not come
pub ahead-broken : (left : ℕ) (begun : List (List Field)) (bytes : List ℕ) (place : ℕ) (items : List Item) (edit : List Field) → IsFront left begun → admits left (stated group_in edit) ≡ false → edit_fields bytes ≡ Ok edit
    → units_ahead begun (rec bytes place ∷ items) ≡ ([], broken_group)
ahead-broken left begun bytes place items edit front is reads =
    let later = edits_of items in
    let most = length (begun ++ edit ∷ later.edits) in
    let other = not_admitted left (stated group_in edit) is in
    let begins : 0 < length begun = front.some other.0 in
    let same : length begun + left - 1 - length begun ≡ left - 1 = omega arith in
    ahead_in begun (rec bytes place ∷ items) (with_edit edit later) most (edits-rec bytes place items edit reads) (omega arith)
    ∙ of_broken_group later.ended most (length begun + left - 1) begun edit later.edits front.falling begins (omega (arith, other.0)) (λ told. other.1 (told ∙ ap Some same)) (omega arith)

-- ---- no edit comes next

pub ahead-none : (left : ℕ) (begun : List (List Field)) (items : List Item) (ended : UnitsEnd) → IsFront left begun → edits_of items ≡ no_edit ended → units_ahead begun items ≡ ([], ended)
ahead-none zero begun items ended front is =
    subst (λ begun. units_ahead begun items ≡ ([], ended)) (sym (front.none refl)) (ahead_in [] items (no_edit ended) 0 is (omega arith) ∙ no_edits ended 0)
ahead-none (suc left) begun items ended front is =
    let begins : 0 < length begun = front.some (omega arith) in
    ahead_in begun items (no_edit ended) (length begun) is (omega (arith, ap length (append-nil begun)))
    ∙ ap (parted_units ended (length begun)) (append-nil begun)
    ∙ of_cut_group ended (length begun) (length begun + suc left - 1) begun front.falling begins (omega arith) (omega arith)
