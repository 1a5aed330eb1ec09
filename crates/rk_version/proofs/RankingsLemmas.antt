-- What is kept of families, with changes of one of them.
use Rattle.std.proofs.Common.{◌≡◌, ℕ, zero, suc, Bool, true, false, cond, List, [], ◌∷◌, get_or, set, insert, remove, map, None, refl, sym, ap, ◌∙◌}
use Rattle.std.specs.Prelude.{◌==◌}
use Rattle.std.specs.List.{AllByRecursion, list_all}
use Rattle.std.specs.Option.{option_or, option_map}
use Rattle.std.proofs.lemmas.Bool.{and_parts, eqb-true}
use Rattle.rk_bytes.specs.declared.model.manifest.ApplyFault.TheVariants.{Overlap}
use Rattle.rk_bytes.specs.declared.model.manifest.FamilyState.{FamilyState}
use Rattle.rk_bytes.specs.Model.Manifest.{has_id, add_family, drop_family, overlap}
use Rattle.rk_version.specs.declared.ranking.Ranking.{Ranking}
use Rattle.rk_version.specs.Bounds.{HasFilesInOrder}
use Rattle.rk_version.specs.Keyed.{put}
use Rattle.rk_version.specs.Places.{IsAt, IsFree}
use Rattle.rk_version.specs.Rankings.{ranked, ranking_of, rankings_of}
use Rattle.rk_version.proofs.Apart.{level_found}
use Rattle.rk_version.proofs.ClashCounts.{none_first}
use Rattle.rk_version.proofs.PlaceLemmas.{changed, changed_at, inserted, removed, replaced}
use Rattle.rk_version.proofs.RankChanges.{map_insert, map_remove}
use Rattle.rk_version.proofs.RankOrder.{ranked_turn, same_files}

map_set : {A B : Type 0} (f : A → B) (xs : List A) (place : ℕ) (x : A) → set (map f xs) place (f x) ≡ map f (set xs place x)
map_set f [] place x = refl
map_set f (y ∷ xs) zero x = refl
map_set f (y ∷ xs) (suc place) x = ap (λ rest. f y ∷ rest) (map_set f xs place x)

abbrev of_family : FamilyState → Ranking
of_family live = ranking_of live.files

module _ (families : List FamilyState) (items : List Ranking) (kept : items ≡ rankings_of families) (id place : ℕ) where
  -- a new family has no files
  pub with_new : (name : List ℕ) (none : Ranking) → none ≡ ranking_of [] → IsFree (λ live. live.id) id families place → insert items place none ≡ rankings_of (add_family id name families)
  with_new name none none_is free =
      let new : FamilyState = record { id = id; name = name; log = 0; files = [] } in
      (λ i. insert (kept i) place (none_is i)) ∙ map_insert of_family families place new ∙ ap rankings_of (inserted (λ live. live.id) id place families new free)

  pub without_one : IsAt (λ live. live.id) id families place → remove items place ≡ rankings_of (drop_family id families)
  without_one at = ap (λ items. remove items place) kept ∙ map_remove of_family families place ∙ ap rankings_of (sym (removed (λ live. live.id) id place families at))

  -- one takes the place of the one with its id, or comes
  pub with_put : (live : FamilyState) (new : Ranking) → new ≡ ranking_of live.files → IsAt (λ live. live.id) live.id families place → set items place new ≡ rankings_of (put (λ live. live.id) live families)
  with_put live new new_is at =
      (λ i. set (kept i) place (new_is i)) ∙ map_set of_family families place live ∙ ap rankings_of (replaced (λ live. live.id) live.id place families live at)

  pub with_more : (live : FamilyState) (new : Ranking) → new ≡ ranking_of live.files → IsFree (λ live. live.id) live.id families place → insert items place new ≡ rankings_of (put (λ live. live.id) live families)
  with_more live new new_is free =
      (λ i. insert (kept i) place (new_is i)) ∙ map_insert of_family families place live ∙ ap rankings_of (inserted (λ live. live.id) live.id place families live free)

  -- the files of one are changed
  pub with_change : (change : FamilyState → FamilyState) (live : FamilyState) (new : Ranking) → IsAt (λ live. live.id) id families place → live ≡ get_or families place live → new ≡ ranking_of (change live).files
      → set items place new ≡ rankings_of (changed (λ live. live.id) id change families)
  with_change change live new at is new_is =
      (λ i. set (kept i) place (new_is i)) ∙ map_set of_family families place (change live)
      ∙ ap rankings_of (ap (λ live. set families place (change live)) is ∙ sym (changed_at (λ live. live.id) id change place families live at))

-- another log number changes nothing of it
pub kept_logged : (id : ℕ) (log : ℕ → ℕ) (families : List FamilyState) → rankings_of (map (λ live. cond (has_id id live) (record live { log = log live.log }) live) families) ≡ rankings_of families
kept_logged id log [] = refl
kept_logged id log (live ∷ families) = λ i. by (has_id id live) i ∷ kept_logged id log families i
  where
    by : (told : Bool) → of_family (cond told (record live { log = log live.log }) live) ≡ of_family live
    by true = refl
    by false = refl

-- where no file overlaps the next one, none overlap
pub no_overlap : (families : List FamilyState) → AllByRecursion HasFilesInOrder families → list_all (λ (ranking : Ranking). ranking.clashes == 0) (rankings_of families) ≡ true → overlap families ≡ None
unfolding overlap
no_overlap [] order all = refl
no_overlap (live ∷ families) order all =
    let (first, rest) = and_parts ((of_family live).clashes == 0) (list_all (λ (ranking : Ranking). ranking.clashes == 0) (rankings_of families)) all in
    let rise = order.0.rise in
    let level = level_found live.files (ranked live.files) (same_files live.files) (ranked_turn live.files rise) ∙ none_first (ranked live.files) (eqb-true (of_family live).clashes 0 first) in
    ap (λ level. option_or (option_map (Overlap live.id) level) (overlap families)) level ∙ no_overlap families order.1 rest
