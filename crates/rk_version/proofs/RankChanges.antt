-- What is kept of files, with one more of them and without one.
use Rattle.std.proofs.Common.{◌≡◌, ℕ, zero, suc, ◌<◌, false, List, [], ◌∷◌, length, get_or, insert, remove, map, refl, sym, ap, subst, ◌∙◌}
use Rattle.std.specs.List.{list_any}
use Rattle.rk_bytes.specs.declared.model.manifest.FileMeta.{FileMeta}
use Rattle.rk_bytes.specs.Model.Manifest.{has_number, add_meta}
use Rattle.rk_version.specs.Places.{Rises}
use Rattle.rk_version.specs.Rankings.{ranked, ranked_numbers, clash_count, IsRank, ranking_of}
use Rattle.rk_version.proofs.RankOrder.{Differ, all_differ, ranked_more, ranked_less, others_differ, put_there, IsOwn, stands_there}
use Rattle.rk_version.proofs.RankPlaces.{each_ranked}

pub map_insert : {A B : Type 0} (f : A → B) (xs : List A) (place : ℕ) (x : A) → insert (map f xs) place (f x) ≡ map f (insert xs place x)
map_insert f xs zero x = refl
map_insert f [] (suc place) x = refl
map_insert f (y ∷ xs) (suc place) x = ap (λ rest. f y ∷ rest) (map_insert f xs place x)

pub map_remove : {A B : Type 0} (f : A → B) (xs : List A) (place : ℕ) → remove (map f xs) place ≡ map f (remove xs place)
map_remove f [] zero = refl
map_remove f [] (suc place) = refl
map_remove f (x ∷ xs) zero = refl
map_remove f (x ∷ xs) (suc place) = ap (λ rest. f x ∷ rest) (map_remove f xs place)

-- with one more file in its place
pub kept_more : (x : FileMeta) (files : List FileMeta) (place clashes : ℕ) (numbers : List ℕ) → Rises (λ file. file.number) files → list_any (has_number x.number) files ≡ false → IsRank x (ranked files) place
    → numbers ≡ insert (ranked_numbers files) place x.number → clashes ≡ clash_count (insert (ranked files) place x) → record { numbers = numbers; clashes = clashes } ≡ ranking_of (add_meta x files)
kept_more x files place clashes numbers rises free rank numbers_are clashes_are =
    let way = ranked_more x files rises free ∙ put_there x (ranked files) place (each_ranked (Differ x) files (all_differ x files free)) rank in
    let all_numbers = numbers_are ∙ map_insert (λ (file : FileMeta). file.number) (ranked files) place x ∙ sym (ap (map (λ (file : FileMeta). file.number)) way) in
    let all_clashes = clashes_are ∙ sym (ap clash_count way) in
    λ i. record { numbers = all_numbers i; clashes = all_clashes i }

module _ (at : ℕ) (files : List FileMeta) (x : FileMeta) (place : ℕ) (rises : Rises (λ file. file.number) files) (in' : at < length files) (is : x ≡ get_or files at x) (rank : IsRank x (ranked files) place) where
  -- a file stands in its place
  pub own_place : IsOwn x (ranked files) (ranked (remove files at)) place
  own_place =
      let way = ranked_less at files x rises in' is in
      subst (λ zs. IsOwn x zs (ranked (remove files at)) place) (sym way) (stands_there x (ranked (remove files at)) place (others_differ at files x rises in' is) (subst (λ zs. IsRank x zs place) way rank))

  -- without it
  pub kept_less : (clashes : ℕ) (numbers : List ℕ) → numbers ≡ remove (ranked_numbers files) place → clashes ≡ clash_count (remove (ranked files) place) → record { numbers = numbers; clashes = clashes } ≡ ranking_of (remove files at)
  kept_less clashes numbers numbers_are clashes_are =
      let all_numbers = numbers_are ∙ map_remove (λ (file : FileMeta). file.number) (ranked files) place ∙ ap (map (λ (file : FileMeta). file.number)) own_place.left in
      let all_clashes = clashes_are ∙ ap clash_count own_place.left in
      λ i. record { numbers = all_numbers i; clashes = all_clashes i }
