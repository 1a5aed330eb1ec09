-- Items in groups, with one item more.
use Rattle.std.proofs.Common.{◌≡◌, Bool, true, false, List, [], ◌∷◌, ◌++◌, refl, sym, ap, ◌∙◌}
use Rattle.std.specs.Prelude.{fold, reverse, if◌then◌else◌}
use Rattle.std.proofs.lemmas.List.{reverse-append, reverse-reverse}
use Rattle.std.proofs.lemmas.List.Sums.{fold-append}
use Rattle.rk_bytes.specs.Model.Writers.{with_item, grouped}

reverse-cons : {A : Type 0} (x : A) (xs : List A) → reverse (x ∷ xs) ≡ reverse xs ++ x ∷ []
reverse-cons x xs = reverse-append (x ∷ []) xs

-- groups, the last of which gets the item or is followed by a group of its own
abbrev pub more_groups : {A : Type 0} → Bool → List (List A) → List A → A → List (List A)
more_groups full front last item = if full then (front ++ last ∷ []) ++ (item ∷ []) ∷ [] else front ++ (last ++ item ∷ []) ∷ []

reverse-with_item : {A : Type 0} (is_full : List A → Bool) (front : List (List A)) (last : List A) (item : A) → reverse (with_item is_full (last ∷ reverse front) item) ≡ more_groups (is_full last) front last item
reverse-with_item is_full front last item = by (is_full last)
  where
    by : (full : Bool) → reverse (if full then (item ∷ []) ∷ last ∷ reverse front else (last ++ item ∷ []) ∷ reverse front) ≡ more_groups full front last item
    by true =
        reverse-cons (item ∷ []) (last ∷ reverse front)
        ∙ ap (λ groups. groups ++ (item ∷ []) ∷ []) (reverse-cons last (reverse front) ∙ ap (λ groups. groups ++ last ∷ []) (reverse-reverse front))
    by false = reverse-cons (last ++ item ∷ []) (reverse front) ∙ ap (λ groups. groups ++ (last ++ item ∷ []) ∷ []) (reverse-reverse front)

-- one item more, where there is a group
pub grouped-push : {A : Type 0} (is_full : List A → Bool) (items : List A) (front : List (List A)) (last : List A) (item : A) → grouped is_full items ≡ front ++ last ∷ [] → grouped is_full (items ++ item ∷ []) ≡ more_groups (is_full last) front last item
unfolding grouped
grouped-push is_full items front last item is =
    let groups : fold (with_item is_full) [] items ≡ last ∷ reverse front = sym (reverse-reverse (fold (with_item is_full) [] items)) ∙ ap reverse is ∙ reverse-append front (last ∷ []) in
    ap reverse (fold-append (with_item is_full) [] items (item ∷ []) ∙ ap (λ groups. with_item is_full groups item) groups) ∙ reverse-with_item is_full front last item

-- the first item is a group
pub grouped-first : {A : Type 0} (is_full : List A → Bool) (item : A) → grouped is_full (item ∷ []) ≡ (item ∷ []) ∷ []
unfolding grouped
grouped-first is_full item = refl
