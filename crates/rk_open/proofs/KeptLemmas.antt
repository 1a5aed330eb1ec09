-- Tables that are kept, as tables are put in and taken out.
use Rattle.std.proofs.Common.{◌≡◌, ℕ, ◌+◌, ◌<◌, Bool, true, false, cond, List, [], ◌∷◌, ◌++◌, length, get_or, set, map, take, drop, Option, IfSome, sym, ap, ◌∙◌, subst, append_assoc, arith}
use Rattle.std.proofs.Math.ListN.{length-map}
use Rattle.std.proofs.lemmas.List.{length-take-le, drop_more, take_more, get_or_at, set_at, map-append}
use Rattle.std.specs.BTreeMap.{BTreeMap, get, is_at, IsEmpty, Updates}
use Rattle.std.specs.Map.{lookup}
use Rattle.std.specs.Ordering.{nat_cmp}
use Rattle.rk_bytes.specs.Model.DiskImages.{Directory}
use Rattle.rk_open.specs.declared.kept.KeptTable.{KeptTable}
use Rattle.rk_open.specs.Reads.{IsKept}

abbrev pub Kept : Option Directory → BTreeMap ℕ KeptTable → Type 0
Kept o by_number = (number : ℕ) → IfSome (get nat_cmp by_number number) (IsKept o)

pub none_kept : (o : Option Directory) (by_number : BTreeMap ℕ KeptTable) → IsEmpty by_number → Kept o by_number
none_kept o by_number empty = λ number. subst (λ entries. IfSome (lookup (is_at (nat_cmp number)) entries) (IsKept o)) (sym empty) tt

-- another one is put in, or one is taken out
pub kept_anew : (o : Option Directory) (old new : BTreeMap ℕ KeptTable) (number : ℕ) (kept : Option KeptTable) → Kept o old → Updates nat_cmp old new number kept → IfSome kept (IsKept o) → Kept o new
kept_anew o old new number kept are updates is = λ other. subst (λ found. IfSome found (IsKept o)) (sym (updates.0 other)) (by other (is_at (nat_cmp number) other))
  where
    by : (other : ℕ) (b : Bool) → IfSome (cond b kept (get nat_cmp old other)) (IsKept o)
    by other true = is
    by other false = are other

-- one more thing of a list is changed
pub changed_more : {A : Type 0} (f : A → A) (first now : List A) (i : ℕ) (item : A) → i < length first → now ≡ map f (take i first) ++ drop i first → item ≡ get_or now i item → set now i (f item) ≡ map f (take (i + 1) first) ++ drop (i + 1) first
changed_more f first now i item inside so is =
    let x = get_or first i item in
    let done = map f (take i first) in
    let rest = drop (i + 1) first in
    let long : length done ≡ i = length-map (take i first) f ∙ length-take-le i first (omega arith) in
    let is_now : now ≡ done ++ x ∷ rest = so ∙ ap (λ more. done ++ more) (drop_more first i item inside) in
    let same : item ≡ x = is ∙ ap (λ now. get_or now i item) is_now ∙ get_or_at done x rest item i long in
    let told : map f (take (i + 1) first) ≡ done ++ f x ∷ [] = ap (map f) (take_more first i item inside) ∙ map-append f (take i first) (x ∷ []) in
    ap (λ now. set now i (f item)) is_now ∙ set_at done x rest (f item) i long ∙ ap (λ item. done ++ f item ∷ rest) same
    ∙ sym (ap (λ front. front ++ rest) told ∙ append_assoc done (f x ∷ []) rest)
