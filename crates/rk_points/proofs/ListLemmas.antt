-- What units add and come to, one unit after another.
use Rattle.std.proofs.Common.{◌≡◌, ℕ, zero, suc, ◌+◌, ◌<◌, ◌≤◌, Bool, List, [], ◌∷◌, ◌++◌, length, map, get_or, take, drop, Result, Ok, Err, refl, sym, ap, ◌∙◌, append_assoc, add-one, drop-cons, arith}
use Rattle.std.specs.Prelude.{flat_map, filter, filter_map, not, IsOk, IfOk}
use Rattle.std.specs.List.{All, AllByRecursion, AllZip, list_any}
use Rattle.std.proofs.lemmas.List.Elements.{recursion_from_All}
use Rattle.std.proofs.lemmas.List.{map-append}
use Rattle.rk_bytes.specs.declared.model.manifest.FileMeta.{FileMeta}
use Rattle.rk_bytes.specs.declared.model.manifest.ManifestFault.{ManifestFault}
use Rattle.rk_bytes.specs.declared.model.manifest.FamilyState.{FamilyState}
use Rattle.rk_bytes.specs.declared.model.manifest.Version.{Version}
use Rattle.rk_bytes.specs.Model.Numbers.{◌>>=◌}
use Rattle.rk_bytes.specs.Model.VersionEdit.{Field, NewFile, added_in, drops_family, edit_fields}
use Rattle.rk_bytes.specs.Model.Manifest.{ManifestUnit, has_id, file_meta, first_version, unit_step, in_unit, version_after}
use Rattle.rk_bytes.specs.Model.BestEfforts.{added_by, files_at, listed}
use Rattle.rk_version.specs.declared.unit.Unit.{Unit as LentUnit}
use Rattle.rk_bytes.specs.declared.memory.Memory.{Memory}
use Rattle.rk_bytes.specs.declared.model.edit.EditFault.{EditFault}
use Rattle.rk_log.specs.Items.{piece_bytes}
use Rattle.rk_log.specs.declared.item.Piece.{Piece}
use Rattle.rk_edit.specs.Read.{fields_or_none}
use Rattle.rk_version.specs.Units.{IsUnit, meaning, edits_of}
use Rattle.rk_points.specs.Lists.{files_in}

pub left_at : {A : Type 0} (xs : List A) (i : ℕ) (x : A) → i < length xs → x ≡ get_or xs i x → drop i xs ≡ x ∷ drop (i + 1) xs
left_at xs i x in' is = rw add-one (drop-cons xs i x in' ∙ ap (λ y. y ∷ drop (suc i) xs) (sym is))

pub none_left : {A : Type 0} (xs : List A) (i : ℕ) → length xs ≤ i → drop i xs ≡ []
none_left [] zero past = refl
none_left [] (suc i) past = refl
none_left (x ∷ xs) zero past = absurd (omega arith)
none_left (x ∷ xs) (suc i) past = none_left xs i (omega arith)

pub map-take : {A B : Type 0} (f : A → B) (n : ℕ) (xs : List A) → map f (take n xs) ≡ take n (map f xs)
map-take f zero xs = refl
map-take f (suc n) [] = refl
map-take f (suc n) (x ∷ xs) = ap (λ rest. f x ∷ rest) (map-take f n xs)

-- the files of edits, and of units
added_files_in : (told : Bool) (news : List NewFile) → map (λ (added : FileMeta × Bool). added.0) (map (λ (new : NewFile). (file_meta new, told)) news) ≡ map file_meta news
added_files_in told [] = refl
added_files_in told (new ∷ news) = ap (λ rest. file_meta new ∷ rest) (added_files_in told news)

listed_edits : (edits : List (List Field)) → map (λ (added : FileMeta × Bool). added.0) (flat_map added_by edits) ≡ flat_map files_in edits
listed_edits [] = refl
listed_edits (edit ∷ edits) =
    map-append (λ (added : FileMeta × Bool). added.0) (added_by edit) (flat_map added_by edits)
    ∙ (λ i. added_files_in (not (list_any drops_family edit)) (filter_map added_in edit) i ++ listed_edits edits i)

pub listed-cons : (unit : ManifestUnit) (units : List ManifestUnit) → listed (unit ∷ units) ≡ flat_map files_in unit.edits ++ listed units
listed-cons unit units =
    map-append (λ (added : FileMeta × Bool). added.0) (flat_map added_by unit.edits) (flat_map (λ (unit : ManifestUnit). flat_map added_by unit.edits) units)
    ∙ ap (λ front. front ++ listed units) (listed_edits unit.edits)

pub listed_more : (units : List LentUnit) (i : ℕ) (unit : LentUnit) (old new all : List FileMeta) → i < length units → unit ≡ get_or units i unit → new ≡ old ++ flat_map files_in (edits_of unit.pieces)
    → old ++ listed (map meaning (drop i units)) ≡ all → new ++ listed (map meaning (drop (i + 1) units)) ≡ all
listed_more units i unit old new all in' is new_is so =
    ap (λ front. front ++ listed (map meaning (drop (i + 1) units))) new_is
    ∙ append_assoc old (flat_map files_in (edits_of unit.pieces)) (listed (map meaning (drop (i + 1) units)))
    ∙ ap (λ rest. old ++ rest) (sym (listed-cons (meaning unit) (map meaning (drop (i + 1) units))))
    ∙ ap (λ left. old ++ listed (map meaning left)) (sym (left_at units i unit in' is))
    ∙ so

-- a unit is applied
pub applied_more : (units : List LentUnit) (i : ℕ) (unit : LentUnit) (old new : Version) (all : Result Version ManifestFault) → i < length units → unit ≡ get_or units i unit → unit_step (meaning unit) old ≡ Ok new
    → version_after (1 + i) (map meaning (drop i units)) old ≡ all → version_after (1 + (i + 1)) (map meaning (drop (i + 1) units)) new ≡ all
unfolding version_after
applied_more units i unit old new all in' is step so =
    let next : 1 + (i + 1) ≡ suc (1 + i) = omega arith in
    ap (λ n. version_after n (map meaning (drop (i + 1) units)) new) next
    ∙ sym (ap (λ left. version_after (1 + i) (map meaning left) old) (left_at units i unit in' is) ∙ ap (λ r. in_unit (1 + i) r >>= λ next. version_after (suc (1 + i)) (map meaning (drop (i + 1) units)) next) step)
    ∙ so

pub all_applied : (units : List LentUnit) (i : ℕ) (now : Version) (all : Result Version ManifestFault) → length units ≤ i → version_after (1 + i) (map meaning (drop i units)) now ≡ all → all ≡ Ok now
unfolding version_after
all_applied units i now all past so = sym so ∙ ap (λ left. version_after (1 + i) (map meaning left) now) (none_left units i past)

-- a unit that is handed in is what it means
read_fields : (r : Result (List Field) EditFault) → IsOk r → r ≡ Ok (fields_or_none r)
read_fields (Ok fields) ok = refl
read_fields (Err fault) ok = absurd cc

abbrev pub Reads : Piece → Type 0
Reads piece = IsOk (edit_fields (piece_bytes piece))

same_edits : (pieces : List Piece) → AllByRecursion Reads pieces → AllZip (λ piece edit. edit_fields (piece_bytes piece) ≡ Ok edit) pieces (edits_of pieces)
same_edits [] all = tt
same_edits (piece ∷ pieces) all = (read_fields (edit_fields (piece_bytes piece)) all.0, same_edits pieces all.1)

pub own_unit : (unit : LentUnit) → All Reads unit.pieces → IsUnit unit (meaning unit)
own_unit unit all = record { group = refl; edits = same_edits unit.pieces (recursion_from_All Reads unit.pieces all) }

-- the files at a point, by the version there
pub files_there : (units : List LentUnit) (id at : ℕ) (version : Version) (r : Result (List FileMeta) Memory) → version_after 1 (map meaning (take at units)) first_version ≡ Ok version
    → IfOk r (λ files. files ≡ flat_map (λ (live : FamilyState). live.files) (filter (has_id id) version.families)) → IfOk r (λ files. files ≡ files_at (map meaning units) id at)
files_there units id at version (Ok files) told is =
    is ∙ sym (ap (λ (r : Result Version ManifestFault). flat_map (λ (live : FamilyState). live.files) (filter (has_id id) (elim r [ Ok version ↦ version.families | Err why ↦ [] ])))
    (ap (λ units. version_after 1 units first_version) (sym (map-take meaning at units)) ∙ told))
files_there units id at version (Err why) told is = tt
