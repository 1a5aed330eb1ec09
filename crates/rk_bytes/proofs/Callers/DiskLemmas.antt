-- A disk at rest reads as the files that it was made of.
use Rattle.std.proofs.Common.{◌≡◌, ℕ, ◌+◌, List, [], ◌∷◌, ◌++◌, length, map, get_or, refl, sym, ap, ◌∙◌, arith, append_assoc, length-append}
use Rattle.std.proofs.lemmas.Simd.{map-map}
use Rattle.std.specs.List.{enumerate_from}
use Rattle.std.specs.Cmp.Lexicographic.{nat_list_cmp_total}
use Rattle.std.specs.FinMap.{entries, from_entries, get-from_entries, get-entries, same_map, nat_cmp-IsAntisymmetric, slice_cmp-IsAntisymmetric}
use Rattle.rk_bytes.specs.Model.DiskImages.{Directory, contents, directory, resting}

-- a map is that of its entries
from_entries-entries : (files : Directory) → from_entries (entries files) ≡ files
from_entries-entries files =
    same_map nat_list_cmp_total (slice_cmp-IsAntisymmetric nat_cmp-IsAntisymmetric) _ _ (λ q. get-from_entries nat_list_cmp_total (entries files) q ∙ sym (get-entries files q))

-- the bytes of the entry behind a front
bytes_behind : (front : List (List ℕ × List ℕ)) (e : List ℕ × List ℕ) (es : List (List ℕ × List ℕ)) → get_or (map (λ x. x.1) (front ++ e ∷ es)) (length front) [] ≡ e.1
bytes_behind [] e es = refl
bytes_behind (x ∷ front) e es = bytes_behind front e es

-- entries that are numbered on behind a front lead to their bytes
numbered : (front es : List (List ℕ × List ℕ)) (n : ℕ) → n ≡ length front
    → map (λ e. (e.1.0, get_or (map (λ x. x.1) (front ++ es)) e.0 [])) (enumerate_from n es) ≡ es
numbered front [] n is = refl
numbered front (e ∷ es) n is =
    let first : get_or (map (λ x. x.1) (front ++ e ∷ es)) n [] ≡ e.1 = ap (λ k. get_or (map (λ x. x.1) (front ++ e ∷ es)) k []) is ∙ bytes_behind front e es in
    let longer : n + 1 ≡ length (front ++ e ∷ []) = omega (arith, is, length-append front (e ∷ [])) in
    let rest =
    ap (λ all. map (λ x. (x.1.0, get_or (map (λ y. y.1) all) x.0 [])) (enumerate_from (n + 1) es)) (sym (append_assoc front (e ∷ []) es))
    ∙ numbered (front ++ e ∷ []) es (n + 1) longer in
    λ i. (e.0, first i) ∷ rest i

pub contents-resting : (files : Directory) → contents (resting files) ≡ files
unfolding contents resting directory
contents-resting files =
    let es = entries files in
    ap (λ bytes. directory (map (λ e. (e.1.0, e.0)) (enumerate_from 0 es)) bytes) (map-map _ _ es)
    ∙ ap from_entries (map-map _ _ (enumerate_from 0 es) ∙ numbered [] es 0 refl)
    ∙ from_entries-entries files
