-- The edits of a unit one after another, and its end.
use Rattle.std.proofs.Common.{◌≡◌, ℕ, zero, suc, ◌+◌, ◌<◌, ◌≤◌, List, [], ◌∷◌, length, get_or, drop, Option, Some, None, Result, Ok, Err, IsOk, is_ok, true, refl, sym, ap, subst, ◌∙◌, add-one, drop-cons, arith}
use Rattle.std.specs.List.{AllZip}
use Rattle.std.specs.Option.{option_or, option_map}
use Rattle.std.proofs.lemmas.Bool.{false≢true}
use Rattle.rk_log.specs.Items.{piece_bytes}
use Rattle.rk_log.specs.declared.item.Piece.{Piece}
use Rattle.rk_edit.specs.Read.{fields_or_none}
use Rattle.rk_bytes.specs.declared.model.manifest.ApplyFault.{ApplyFault}
use Rattle.rk_bytes.specs.declared.model.manifest.ApplyFault.TheVariants.{Overlap}
use Rattle.rk_bytes.specs.declared.model.manifest.FamilyState.{FamilyState}
use Rattle.rk_bytes.specs.declared.model.manifest.Version.{Version}
use Rattle.rk_bytes.specs.Model.Numbers.{◌>>=◌}
use Rattle.rk_bytes.specs.Model.VersionEdit.{Field, edit_fields}
use Rattle.rk_bytes.specs.Model.Manifest.{ManifestUnit, steps_in_order, edit_step, unit_step, overlap, overlapping_level}
use Rattle.rk_version.specs.declared.unit.Unit.{Unit as LentUnit}
use Rattle.rk_version.specs.Units.{IsUnit, edits_of, meaning}

left_at : {A : Type 0} (xs : List A) (i : ℕ) (x : A) → i < length xs → x ≡ get_or xs i x → drop i xs ≡ x ∷ drop (i + 1) xs
left_at xs i x in' is = rw add-one (drop-cons xs i x in' ∙ ap (λ y. y ∷ drop (suc i) xs) (sym is))

none_left : {A : Type 0} (xs : List A) (i : ℕ) → length xs ≤ i → drop i xs ≡ []
none_left [] zero past = refl
none_left [] (suc i) past = refl
none_left (x ∷ xs) zero past = absurd (omega arith)
none_left (x ∷ xs) (suc i) past = none_left xs i (omega arith)

module _ (pieces : List Piece) (i : ℕ) (piece : Piece) (edit : List Field) (in' : i < length pieces) (is : piece ≡ get_or pieces i piece) (reads : edit_fields (piece_bytes piece) ≡ Ok edit) where
  edits_left : edits_of (drop i pieces) ≡ edit ∷ edits_of (drop (i + 1) pieces)
  edits_left = ap edits_of (left_at pieces i piece in' is) ∙ ap (λ r. fields_or_none r ∷ edits_of (drop (i + 1) pieces)) reads

  pub one_edit : (now new : Version) (all : Result Version ApplyFault) → edit_step edit now ≡ Ok new → steps_in_order edit_step (edits_of (drop i pieces)) now ≡ all → steps_in_order edit_step (edits_of (drop (i + 1) pieces)) new ≡ all
  unfolding steps_in_order
  one_edit now new all e so =
      sym (ap (λ edits. steps_in_order edit_step edits now) edits_left ∙ ap (λ r. r >>= λ next. steps_in_order edit_step (edits_of (drop (i + 1) pieces)) next) e) ∙ so

  pub bad_edit : (now : Version) (all : Result Version ApplyFault) (why : ApplyFault) → edit_step edit now ≡ Err why → steps_in_order edit_step (edits_of (drop i pieces)) now ≡ all → all ≡ Err why
  unfolding steps_in_order
  bad_edit now all why e so =
      sym so ∙ ap (λ edits. steps_in_order edit_step edits now) edits_left ∙ ap (λ r. r >>= λ next. steps_in_order edit_step (edits_of (drop (i + 1) pieces)) next) e

pub last_edit : (pieces : List Piece) (i : ℕ) (now : Version) (all : Result Version ApplyFault) → length pieces ≤ i → steps_in_order edit_step (edits_of (drop i pieces)) now ≡ all → all ≡ Ok now
unfolding steps_in_order
last_edit pieces i now all past so = sym so ∙ ap (λ pieces. steps_in_order edit_step (edits_of pieces) now) (none_left pieces i past)

-- the families, whose files don't overlap so far
pub apart_here : (families : List FamilyState) (i : ℕ) (live : FamilyState) (all : Option ApplyFault) → i < length families → live ≡ get_or families i live → overlapping_level live.files ≡ None
    → overlap (drop i families) ≡ all → overlap (drop (i + 1) families) ≡ all
unfolding overlap
apart_here families i live all in' is none so =
    sym (ap overlap (left_at families i live in' is) ∙ ap (λ level. option_or (option_map (Overlap live.id) level) (overlap (drop (i + 1) families))) none) ∙ so

pub overlap_here : (families : List FamilyState) (i : ℕ) (live : FamilyState) (level : ℕ) (all : Option ApplyFault) → i < length families → live ≡ get_or families i live → overlapping_level live.files ≡ Some level
    → overlap (drop i families) ≡ all → all ≡ Some (Overlap live.id level)
unfolding overlap
overlap_here families i live level all in' is found so =
    sym so ∙ ap overlap (left_at families i live in' is) ∙ ap (λ level. option_or (option_map (Overlap live.id) level) (overlap (drop (i + 1) families))) found

pub all_apart : (families : List FamilyState) (i : ℕ) (all : Option ApplyFault) → length families ≤ i → overlap (drop i families) ≡ all → all ≡ None
unfolding overlap
all_apart families i all past so = sym so ∙ ap overlap (none_left families i past)

-- the end of a unit
module _ (unit : ManifestUnit) (version : Version) where
  pub stopped : (why : ApplyFault) → steps_in_order edit_step unit.edits version ≡ Err why → unit_step unit version ≡ Err why
  unfolding unit_step
  stopped why e = ap (λ r. r >>= λ next. elim (overlap next.families) [ Some why ↦ Err why | None ↦ Ok next ]) e

  pub overlapping : (next : Version) (why : ApplyFault) → steps_in_order edit_step unit.edits version ≡ Ok next → overlap next.families ≡ Some why → unit_step unit version ≡ Err why
  unfolding unit_step
  overlapping next why e found =
      ap (λ r. r >>= λ next. elim (overlap next.families) [ Some why ↦ Err why | None ↦ Ok next ]) e ∙ ap (λ found. elim found [ Some why ↦ Err why | None ↦ Ok next ]) found

  pub finished : (next : Version) → steps_in_order edit_step unit.edits version ≡ Ok next → overlap next.families ≡ None → unit_step unit version ≡ Ok next
  unfolding unit_step
  finished next e none =
      ap (λ r. r >>= λ next. elim (overlap next.families) [ Some why ↦ Err why | None ↦ Ok next ]) e ∙ ap (λ found. elim found [ Some why ↦ Err why | None ↦ Ok next ]) none

  -- a unit that is known to be applied ends in the version after its edits
  pub known_end : IsOk (unit_step unit version) → (next : Version) → steps_in_order edit_step unit.edits version ≡ Ok next → unit_step unit version ≡ Ok next
  unfolding unit_step
  known_end known next e = by (overlap next.families) refl
    where
      by : (found : Option ApplyFault) → overlap next.families ≡ found → unit_step unit version ≡ Ok next
      by None none = finished next e none
      by (Some why) found = absurd (false≢true (subst (λ r. is_ok r ≡ true) (overlapping next why e found) known))

same_edits : (pieces : List Piece) (edits : List (List Field)) → AllZip (λ piece edit. edit_fields (piece_bytes piece) ≡ Ok edit) pieces edits → edits ≡ edits_of pieces
same_edits [] [] all = refl
same_edits [] (edit ∷ edits) all = absurd all
same_edits (piece ∷ pieces) [] all = absurd all
same_edits (piece ∷ pieces) (edit ∷ edits) all = λ i. fields_or_none (sym all.0 i) ∷ same_edits pieces edits all.1 i

-- a unit means one thing
pub one_meaning : (unit : LentUnit) (means : ManifestUnit) → IsUnit unit means → means ≡ meaning unit
one_meaning unit means is = λ i. record { edits = same_edits unit.pieces means.edits is.edits i; is_group = sym is.group i }
