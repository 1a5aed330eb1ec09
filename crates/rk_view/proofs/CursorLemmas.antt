-- What is left of a run that is kept in parts.
use Rattle.std.proofs.Common.{◌≡◌, ℕ, ◌+◌, ◌-◌, ◌<◌, ◌≤◌, Bool, true, List, [], ◌∷◌, ◌++◌, length, take, drop, get_or, sym, ap, subst, ◌∙◌, arith, length-take, get_or-take}
use Rattle.std.proofs.lemmas.List.{drop_more}
use Rattle.std.proofs.lemmas.List.Elements.{filter-append, All-from_recursion}
use Rattle.std.specs.Prelude.{Some, filter, slice_get, Vec}
use Rattle.std.specs.declared.alloc.Global.{Global}
use Rattle.std.specs.List.{AllByRecursion}
use Rattle.rk_bytes.specs.declared.model.key.Record.{Record}
use Rattle.rk_bytes.specs.Model.Records.{slot_of}
use Rattle.rk_view.specs.Parts.{joined, last_is, IsPartAt}
use Rattle.rk_view.proofs.RunLemmas.{Rises}
use Rattle.rk_view.proofs.MergeLemmas.{IsBelow}
use Rattle.rk_view.proofs.SeekLemmas.{IsUpward}
use Rattle.rk_view.proofs.PartLemmas.{joined_at, last_at, parts_none, no_part, rises_left, rises_right, rises_across}
use Rattle.rk_view.proofs.ViewLemmas.{find_filter, filter_all, each_later, less_not_gt}

first_append : (xs ys : List Record) (r : Record) → Some r ≡ slice_get xs 0 → Some r ≡ slice_get (xs ++ ys) 0
first_append [] ys r e = cc
first_append (x ∷ xs) ys r e = e

-- the records from a part on
joined_from : (parts : List (Vec Record Global)) (i : ℕ) (part : Vec Record Global) → i < length parts → part ≡ get_or parts i part → joined (take i parts) ++ (part.items ++ joined (drop (i + 1) parts)) ≡ joined parts
joined_from parts i part inside is =
    ap (λ (v : Vec Record Global). joined (take i parts) ++ (v.items ++ joined (drop (i + 1) parts))) is ∙ ap (λ ps. joined (take i parts) ++ joined ps) (sym (drop_more parts i part inside)) ∙ joined_at parts i

-- the first record of parts, of which those before one are empty
pub joined_first : (parts : List (Vec Record Global)) (i : ℕ) (part : Vec Record Global) (r : Record) → i < length parts → part ≡ get_or parts i part → joined (take i parts) ≡ [] → Some r ≡ slice_get part.items 0 → Some r ≡ slice_get (joined parts) 0
joined_first parts i part r inside is none first =
    first_append part.items (joined (drop (i + 1) parts)) r first ∙ ap (λ rs. slice_get (rs ++ (part.items ++ joined (drop (i + 1) parts))) 0) (sym none) ∙ ap (λ rs. slice_get rs 0) (joined_from parts i part inside is)

module _ (p : Record → Bool) (up : IsUpward p) where
  -- what stands behind a record that passes does so, too
  rest_passes : (xs ys : List Record) → Rises (xs ++ ys) → last_is p xs ≡ true → AllByRecursion (λ y. p y ≡ true) ys
  rest_passes [] ys rises passes = cc
  rest_passes (x ∷ xs) ys rises passes =
      let last : Record = get_or (x ∷ xs) (length (x ∷ xs) - 1) x in
      let here : p last ≡ true = sym (last_at p (x ∷ xs) x (omega arith)) ∙ passes in
      let below : IsBelow (slot_of last) ys = All-from_recursion (λ r. IsBelow (slot_of r) ys) (x ∷ xs) (rises_across (x ∷ xs) ys rises) (length (x ∷ xs) - 1) x (omega arith) in
      each_later (λ y. p y ≡ true) last ys below (λ y less. up last y (less_not_gt _ less) here)

  -- what passes of a run, where the first part with such a record was found
  pub kept_from : (parts : List (Vec Record Global)) (i : ℕ) (part : Vec Record Global) → Rises (joined parts) → IsPartAt p parts i → i < length parts → ((d : Vec Record Global) → part ≡ get_or parts i d)
      → filter p part.items ++ joined (drop (i + 1) parts) ≡ filter p (joined parts)
  kept_from parts i part rises at inside is =
      let before : List Record = joined (take i parts) in
      let rest : List Record = joined (drop (i + 1) parts) in
      let all : Rises (before ++ (part.items ++ rest)) = subst Rises (sym (joined_from parts i part inside (is part))) rises in
      let none : filter p before ≡ [] = find_filter p before (parts_none p up (take i parts) (rises_left before (part.items ++ rest) all) (λ k d within.
      let low : k < i = omega (arith, length-take i parts) in
      ap (λ (v : Vec Record Global). last_is p v.items) (get_or-take i parts k d low) ∙ at.before k d (omega arith) low)) in
      let passes : last_is p part.items ≡ true = ap (λ (v : Vec Record Global). last_is p v.items) (is part) ∙ at.after i part (omega arith) inside in
      let behind : filter p rest ≡ rest = filter_all p rest (rest_passes part.items rest (rises_right before (part.items ++ rest) all) passes) in
      sym (ap (filter p) (sym (joined_from parts i part inside (is part))) ∙ filter-append p before (part.items ++ rest) ∙ (λ j. none j ++ filter-append p part.items rest j) ∙ ap (λ rs. filter p part.items ++ rs) behind)

  pub none_kept : (parts : List (Vec Record Global)) (i : ℕ) → Rises (joined parts) → IsPartAt p parts i → length parts ≤ i → [] ≡ filter p (joined parts)
  none_kept parts i rises at past = sym (find_filter p (joined parts) (no_part p up parts i rises at past))
