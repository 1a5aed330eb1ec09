-- Items in groups, joined again, are those items, and no group is empty.
use Rattle.std.proofs.Common.{◌≡◌, ◌<◌, Bool, true, false, cond, List, [], ◌∷◌, ◌++◌, length, flat_map, refl, sym, ◌∙◌, ap, arith, append_assoc}
use Rattle.std.specs.Prelude.{fold, reverse}
use Rattle.std.specs.List.{AllByRecursion}
use Rattle.std.proofs.lemmas.List.{append-nil, length-append, reverse-append}
use Rattle.std.proofs.lemmas.Grind.{flat_map-append}
use Rattle.rk_bytes.specs.Model.Writers.{with_item, grouped}
use Rattle.rk_laws.proofs.EachElement.{each_append}

-- the items of groups
abbrev pub joined_groups : {A : Type 0} → List (List A) → List A
joined_groups groups = flat_map (λ group. group) groups

-- the group has an item
abbrev pub IsFilled : {A : Type 0} → List A → Type 0
IsFilled group = 0 < length group

pub reverse_first : {A : Type 0} (x : A) (xs : List A) → reverse (x ∷ xs) ≡ reverse xs ++ x ∷ []
reverse_first x xs = reverse-append (x ∷ []) xs

pub each_reverse : {A : Type 0} (P : A → Type 0) (xs : List A) → AllByRecursion P xs → AllByRecursion P (reverse xs)
each_reverse P [] all = tt
each_reverse P (x ∷ xs) all = rw (reverse_first x xs) (each_append P (reverse xs) (x ∷ []) (each_reverse P xs all.1) (all.0, tt))

-- the groups in their order, with one group behind them
joined_behind : {A : Type 0} (last : List A) (groups : List (List A)) → joined_groups (reverse (last ∷ groups)) ≡ joined_groups (reverse groups) ++ last
joined_behind last groups =
    ap joined_groups (reverse_first last groups) ∙ flat_map-append (λ group. group) (reverse groups) (last ∷ []) ∙ ap (λ end. joined_groups (reverse groups) ++ end) (append-nil last)

module _ {A : Type 0} (is_full : List A → Bool) where
  item_behind : (groups : List (List A)) (item : A) → joined_groups (reverse (with_item is_full groups item)) ≡ joined_groups (reverse groups) ++ item ∷ []
  item_behind [] item = refl
  item_behind (last ∷ groups) item = by (is_full last)
    where
      by : (told : Bool) → joined_groups (reverse (cond told ((item ∷ []) ∷ last ∷ groups) ((last ++ item ∷ []) ∷ groups))) ≡ joined_groups (reverse (last ∷ groups)) ++ item ∷ []
      by true = joined_behind (item ∷ []) (last ∷ groups)
      by false =
          joined_behind (last ++ item ∷ []) groups ∙ sym (append_assoc (joined_groups (reverse groups)) last (item ∷ []))
          ∙ ap (λ front. front ++ item ∷ []) (sym (joined_behind last groups))

  items_behind : (groups : List (List A)) (items : List A) → joined_groups (reverse (fold (with_item is_full) groups items)) ≡ joined_groups (reverse groups) ++ items
  items_behind groups [] = sym (append-nil (joined_groups (reverse groups)))
  items_behind groups (item ∷ items) =
      items_behind (with_item is_full groups item) items ∙ ap (λ front. front ++ items) (item_behind groups item)
      ∙ append_assoc (joined_groups (reverse groups)) (item ∷ []) items

  pub grouped-joined : (items : List A) → joined_groups (grouped is_full items) ≡ items
  unfolding grouped
  grouped-joined items = items_behind [] items

  one_more : (groups : List (List A)) (item : A) → AllByRecursion IsFilled groups → AllByRecursion IsFilled (with_item is_full groups item)
  one_more [] item all = (omega arith, tt)
  one_more (last ∷ groups) item all = by (is_full last)
    where
      by : (told : Bool) → AllByRecursion IsFilled (cond told ((item ∷ []) ∷ last ∷ groups) ((last ++ item ∷ []) ∷ groups))
      by true = (omega arith, all)
      by false = (omega (arith, length-append last (item ∷ [])), all.1)

  more : (groups : List (List A)) (items : List A) → AllByRecursion IsFilled groups → AllByRecursion IsFilled (fold (with_item is_full) groups items)
  more groups [] all = all
  more groups (item ∷ items) all = more (with_item is_full groups item) items (one_more groups item all)

  pub grouped-filled : (items : List A) → AllByRecursion IsFilled (grouped is_full items)
  unfolding grouped
  grouped-filled items = each_reverse IsFilled (fold (with_item is_full) [] items) (more [] items tt)
