-- Families that are put back are in order, and so are the changes of one of them.
use Rattle.std.proofs.Common.{◌≡◌, ℕ, zero, suc, not, cond, List, [], ◌∷◌, ◌++◌, get_or, set, map, filter, refl, sym, ap, ◌∙◌}
use Rattle.std.specs.Prelude.{nat_lt}
use Rattle.std.proofs.lemmas.List.Elements.{recursion_from_All}
use Rattle.rk_bytes.specs.declared.model.manifest.FileMeta.{FileMeta}
use Rattle.rk_bytes.specs.declared.model.manifest.FamilyState.{FamilyState}
use Rattle.rk_bytes.specs.declared.model.manifest.Version.{Version}
use Rattle.rk_bytes.specs.Model.Manifest.{has_id}
use Rattle.rk_version.specs.declared.kept.KeptEdit.{KeptEdit}
use Rattle.rk_version.specs.declared.kept.KeptFiles.{KeptFiles}
use Rattle.rk_version.specs.Bounds.{HasWholeBounds, HasFilesInOrder}
use Rattle.rk_version.specs.Keyed.{put, is_among, without_all}
use Rattle.rk_version.specs.Places.{IsAt}
use Rattle.rk_version.specs.Undone.{family_before, before_edit, before_edits}
use Rattle.rk_version.proofs.Each.{each_append, each_filter}
use Rattle.rk_version.proofs.Keyed.{rises_put_all, each_put_all}
use Rattle.rk_version.proofs.PlaceLemmas.{changed, changed_at}
use Rattle.rk_version.proofs.Rising.{rises_filter, rises_with}
use Rattle.rk_version.proofs.VersionOrder.{AreInOrder, order_changed}

pub order_put : (live : FamilyState) (families : List FamilyState) → HasFilesInOrder live → AreInOrder families → AreInOrder (put (λ live. live.id) live families)
order_put live families own o = record {
  ids = rises_with (λ live. live.id) live families o.ids;
  files = each_append HasFilesInOrder (filter (λ (other : FamilyState). nat_lt other.id live.id) families) (live ∷ filter (λ (other : FamilyState). nat_lt live.id other.id) families)
      (each_filter HasFilesInOrder (λ other. nat_lt other.id live.id) families o.files)
      (own, each_filter HasFilesInOrder (λ other. nat_lt live.id other.id) families o.files);
}

pub order_before : (kept : KeptFiles) (live : FamilyState) → HasFilesInOrder live → HasFilesInOrder (family_before kept live)
order_before kept live files = record {
  rise = rises_put_all (λ file. file.number) kept.files (without_all (λ file. file.number) kept.numbers live.files) (rises_filter (λ (file : FileMeta). file.number) (λ file. not (is_among kept.numbers file.number)) live.files files.rise);
  bounds = each_put_all (λ file. file.number) HasWholeBounds kept.files (without_all (λ file. file.number) kept.numbers live.files) (recursion_from_All HasWholeBounds kept.files kept.bounds)
      (each_filter HasWholeBounds (λ (file : FileMeta). not (is_among kept.numbers file.number)) live.files files.bounds);
}

pub order_family_before : (id : ℕ) (kept : KeptFiles) (families : List FamilyState) → AreInOrder families → AreInOrder (map (λ live. cond (has_id id live) (family_before kept live) live) families)
order_family_before id kept families o = order_changed id (family_before kept) families (λ live. refl) (order_before kept) o

pub set_again : {A : Type 0} (xs : List A) (i : ℕ) (a b : A) → set (set xs i a) i b ≡ set xs i b
set_again [] i a b = refl
set_again (x ∷ xs) zero a b = refl
set_again (x ∷ xs) (suc i) a b = ap (λ rest. x ∷ rest) (set_again xs i a b)

-- one is taken out for a while, changed and set back
pub set_back : {A : Type 0} (number : A → ℕ) (n : ℕ) (change : A → A) (place : ℕ) (xs : List A) (gone x new : A) → IsAt number n xs place → x ≡ get_or xs place x → new ≡ change x → set (set xs place gone) place new ≡ changed number n change xs
set_back number n change place xs gone x new at is new_is =
    set_again xs place gone new ∙ ap (set xs place) (new_is ∙ ap change is) ∙ sym (changed_at number n change place xs x at)

pub before_last : (front : List KeptEdit) (last : KeptEdit) (version : Version) → before_edits (front ++ last ∷ []) version ≡ before_edits front (before_edit last version)
before_last [] last version = refl
before_last (kept ∷ front) last version = ap (before_edit kept) (before_last front last version)
