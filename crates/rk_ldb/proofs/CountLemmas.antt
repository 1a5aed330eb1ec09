-- How many tables families have.
use Rattle.std.proofs.Common.{◌≡◌, ℕ, ◌+◌, ◌-◌, ◌^◌, ◌<◌, min, List, length, map, take, get_or, sym, ap, ◌∙◌, subst, arith}
use Rattle.std.specs.Prelude.{sum}
use Rattle.std.proofs.lemmas.List.{get_or-map, length-map}
use Rattle.std.proofs.lemmas.List.Sums.{sum_by_more}
use Rattle.rk_bytes.specs.declared.model.view.FamilyLine.{FamilyLine}

pub more_files : (lines : List FamilyLine) (i count next : ℕ) (line : FamilyLine) → i < length lines → line ≡ get_or lines i line
    → count ≡ min (sum (take i (map (λ (line : FamilyLine). line.files) lines))) (2 ^ 64 - 1) → next ≡ min (count + line.files) (2 ^ 64 - 1)
    → next ≡ min (sum (take (i + 1) (map (λ (line : FamilyLine). line.files) lines))) (2 ^ 64 - 1)
more_files lines i count next line within is so_far added =
    let files = map (λ (line : FamilyLine). line.files) lines in
    let whole = sum_by_more (λ (n : ℕ). n) files i 0 (subst (λ n. i < n) (sym (length-map lines (λ (line : FamilyLine). line.files))) within) in
    let last : get_or files i 0 ≡ line.files = get_or-map (λ (line : FamilyLine). line.files) lines i line 0 within ∙ ap (λ (line : FamilyLine). line.files) (sym is) in
    omega (arith, whole, last, so_far, added)
