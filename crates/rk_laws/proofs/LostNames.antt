-- Of the names below `lost/` that a file may be moved to, one is free.
use Rattle.std.proofs.Common.{◌≡◌, ◌⊎◌, inl, inr, ℕ, zero, suc, ◌+◌, ◌^◌, ◌<◌, ◌≤◌, Bool, true, false, not, ◌||◌, List, [], ◌∷◌, ◌++◌, length, cond, refl, sym, ap, subst, ◌∙◌, arith, append_assoc, length-append}
use Rattle.std.specs.Prelude.{Contains, Some, None, unwrap_or, bytes_eq}
use Rattle.std.specs.List.{AllByRecursion, IsDistinct, list_any, find}
use Rattle.std.proofs.lemmas.Map.Keys.{IsDistinct-cons}
use Rattle.std.specs.Fmt.{decimal}
use Rattle.std.proofs.lemmas.Bool.{false≢true}
use Rattle.std.proofs.lemmas.Fmt.{decimal_injective}
use Rattle.std.proofs.lemmas.List.{append_cancel_left}
use Rattle.std.proofs.lemmas.Cmp.{nat_list_eq_equiv}
use Rattle.std.proofs.lemmas.Map.Made.{IsDistinct-from_AllPairs, length-le_from_is_member}
use Rattle.std.proofs.lemmas.Map.Views.{Contains-from_any, list_any-from_Contains}
use Rattle.std.proofs.lemmas.Slice.Eq.{bytes_eq-Decides}
use borrow.Author.Count.{below_more}
use Rattle.rk_bytes.specs.Model.FileNames.{lost_prefix, lost_name, IsFreeLostName}
use Rattle.rk_bytes.specs.Model.Salvage.{lost_names, free_lost_name}

-- different tries give different names
later_name : (name : List ℕ) (k : ℕ) → lost_name name (suc k) ≡ lost_prefix ++ (name ++ (46 ∷ decimal (suc k)))
later_name name k = simp append_assoc

first_is_shorter : (name : List ℕ) (k : ℕ) → ¬ (lost_name name zero ≡ lost_name name (suc k))
first_is_shorter name k e =
    let tail = append_cancel_left lost_prefix name (name ++ (46 ∷ decimal (suc k))) (e ∙ later_name name k) in
    let long : length name ≡ length name + length (46 ∷ decimal (suc k)) = ap length tail ∙ length-append name (46 ∷ decimal (suc k)) in
    absurd (omega arith)

same_later : (name : List ℕ) (j k : ℕ) → suc j < 2 ^ 64 → suc k < 2 ^ 64 → lost_name name (suc j) ≡ lost_name name (suc k) → suc j ≡ suc k
same_later name j k j_fits k_fits e =
    let tail = append_cancel_left lost_prefix (name ++ (46 ∷ decimal (suc j))) (name ++ (46 ∷ decimal (suc k))) (sym (later_name name j) ∙ e ∙ later_name name k) in
    let digits = append_cancel_left (46 ∷ []) (decimal (suc j)) (decimal (suc k)) (append_cancel_left name (46 ∷ decimal (suc j)) (46 ∷ decimal (suc k)) tail) in
    decimal_injective (suc j) (suc k) j_fits k_fits digits

same_try : (name : List ℕ) (j k : ℕ) → j < 2 ^ 64 → k < 2 ^ 64 → lost_name name j ≡ lost_name name k → j ≡ k
same_try name zero zero j_fits k_fits e = refl
same_try name zero (suc k) j_fits k_fits e = absurd (first_is_shorter name k e)
same_try name (suc j) zero j_fits k_fits e = absurd (first_is_shorter name j (sym e))
same_try name (suc j) (suc k) j_fits k_fits e = same_later name j k j_fits k_fits e

differs : (a b : List ℕ) → ¬ (a ≡ b) → bytes_eq a b ≡ false
differs a b apart = by (bytes_eq a b) (bytes_eq-Decides a b).0
  where
    by : (t : Bool) → (t ≡ true → a ≡ b) → t ≡ false
    by true same = absurd (apart (same refl))
    by false same = refl

-- a name that is tried before others is none of them
apart_from_later : (name : List ℕ) (j tried more : ℕ) → j < tried → tried + more < 2 ^ 64 → AllByRecursion (λ other. bytes_eq (lost_name name j) other ≡ false) (lost_names name tried more)
apart_from_later name j tried zero before fit =
    (differs (lost_name name j) (lost_name name tried) (λ e. let same : j ≡ tried = same_try name j tried (omega arith) (omega arith) e in absurd (omega arith)), tt)
apart_from_later name j tried (suc more) before fit = (
  differs (lost_name name j) (lost_name name tried) (λ e. let same : j ≡ tried = same_try name j tried (omega arith) (omega arith) e in absurd (omega arith)),
  apart_from_later name j (suc tried) more (omega arith) (omega arith),
)

none_distinct : IsDistinct bytes_eq []
none_distinct = IsDistinct-from_AllPairs bytes_eq-Decides [] (λ i j d before within. absurd (omega arith))

distinct_names : (name : List ℕ) (tried more : ℕ) → tried + more < 2 ^ 64 → IsDistinct bytes_eq (lost_names name tried more)
distinct_names name tried zero fit = IsDistinct-cons bytes_eq (lost_name name tried) [] tt none_distinct
distinct_names name tried (suc more) fit =
    let apart = apart_from_later name tried (suc tried) more (omega arith) (omega arith) in
    IsDistinct-cons bytes_eq (lost_name name tried) (lost_names name (suc tried) more) apart (distinct_names name (suc tried) more (omega arith))

count_names : (name : List ℕ) (tried more : ℕ) → length (lost_names name tried more) ≡ suc more
count_names name tried zero = refl
count_names name tried (suc more) = ap suc (count_names name (suc tried) more)

-- the name that a query finds among them is one of them
found_try : (name q : List ℕ) (tried more : ℕ) → list_any (bytes_eq q) (lost_names name tried more) ≡ true → (k : ℕ) × (k ≤ tried + more) × (q ≡ lost_name name k)
found_try name q tried zero e = by (bytes_eq q (lost_name name tried)) (bytes_eq-Decides q (lost_name name tried)).0 e
  where
    by : (t : Bool) → (t ≡ true → q ≡ lost_name name tried) → (t || false) ≡ true → (k : ℕ) × (k ≤ tried + zero) × (q ≡ lost_name name k)
    by true same e = (tried, omega arith, same refl)
    by false same e = absurd (false≢true e)
found_try name q tried (suc more) e = by (bytes_eq q (lost_name name tried)) (bytes_eq-Decides q (lost_name name tried)).0 (λ later. found_try name q (suc tried) more later) e
  where
    by : (t : Bool) → (t ≡ true → q ≡ lost_name name tried) → (list_any (bytes_eq q) (lost_names name (suc tried) more) ≡ true → (k : ℕ) × (k ≤ suc tried + more) × (q ≡ lost_name name k))
        → (t || list_any (bytes_eq q) (lost_names name (suc tried) more)) ≡ true → (k : ℕ) × (k ≤ tried + suc more) × (q ≡ lost_name name k)
    by true same later e = (tried, omega arith, same refl)
    by false same later e = let rest = later e in (rest.0, omega (arith, rest.1), rest.2)

-- not all of more names than are taken are taken
some_free : (name : List ℕ) (taken : List (List ℕ)) → length taken < 2 ^ 64 → ¬ ((k : ℕ) → k ≤ length taken → list_any (bytes_eq (lost_name name k)) taken ≡ true)
some_free name taken fit all =
    let within : (q : List ℕ) → list_any (bytes_eq q) (lost_names name 0 (length taken)) ≡ true → list_any (bytes_eq q) taken ≡ true =
    (λ q e. let at = found_try name q 0 (length taken) e in ap (λ q. list_any (bytes_eq q) taken) at.2 ∙ all at.0 (omega (arith, at.1))) in
    let names = lost_names name 0 (length taken) in
    let few : length names ≤ length taken = length-le_from_is_member nat_list_eq_equiv names taken (distinct_names name 0 (length taken) (omega arith)) within in
    absurd (omega (arith, few, count_names name 0 (length taken)))

same_names : (a b : List ℕ) → bytes_eq a b ≡ true → a ≡ b
same_names a b e = (bytes_eq-Decides a b).0 e

is_taken : (taken : List (List ℕ)) (a : List ℕ) → list_any (bytes_eq a) taken ≡ true → Contains taken a
is_taken taken a e = Contains-from_any same_names a taken e

is_free : (taken : List (List ℕ)) (a : List ℕ) → list_any (bytes_eq a) taken ≡ false → ¬ (Contains taken a)
is_free taken a e there = false≢true (sym e ∙ list_any-from_Contains nat_list_eq_equiv a taken there)

up_to : (P : ℕ → Type 0) (n : ℕ) → ((k : ℕ) → k < n → P k) → P n → (k : ℕ) → k < suc n → P k
up_to P n below at k within = below_more P n below at k (omega arith)

-- the name of a try is taken
abbrev IsTaken : List ℕ → List (List ℕ) → ℕ → Type 0
IsTaken name taken k = list_any (bytes_eq (lost_name name k)) taken ≡ true

-- the names of all tries up to one are taken
abbrev AreTaken : List ℕ → List (List ℕ) → ℕ → Type 0
AreTaken name taken last = (k : ℕ) → k ≤ last → IsTaken name taken k

-- the first of these names that isn't taken
abbrev first_free_of : List (List ℕ) → List (List ℕ) → List ℕ → List ℕ
first_free_of taken names d = unwrap_or (find (λ lost. not (list_any (bytes_eq lost) taken)) names) d

-- a name is the free one, or all up to a try are taken
abbrev Settled : List ℕ → List (List ℕ) → List ℕ → ℕ → Type 0
Settled name taken free last = IsFreeLostName name taken free ⊎ AreTaken name taken last

-- where the names before one are taken, and it isn't, it is the free one
free_at : (name : List ℕ) (taken : List (List ℕ)) (tried : ℕ) → ((k : ℕ) → k < tried → IsTaken name taken k)
    → list_any (bytes_eq (lost_name name tried)) taken ≡ false → IsFreeLostName name taken (lost_name name tried)
free_at name taken tried before free = record {
  tried = tried;
  is = refl;
  absent = is_free taken (lost_name name tried) free;
  before = λ k earlier. is_taken taken (lost_name name k) (before k earlier);
}

-- the first of the names that is free, unless all of them are taken
first_free : (name : List ℕ) (taken : List (List ℕ)) (d : List ℕ) (tried more : ℕ) → ((k : ℕ) → k < tried → IsTaken name taken k)
    → Settled name taken (first_free_of taken (lost_names name tried more) d) (tried + more)
first_free name taken d tried zero before = by (list_any (bytes_eq (lost_name name tried)) taken) refl
  where
    by : (t : Bool) → list_any (bytes_eq (lost_name name tried)) taken ≡ t
        → Settled name taken (unwrap_or (cond (not t) (Some (lost_name name tried)) None) d) (tried + zero)
    by true is = inr (λ k within. up_to (IsTaken name taken) tried before is k (omega arith))
    by false is = inl (free_at name taken tried before is)
first_free name taken d tried (suc more) before =
    by (list_any (bytes_eq (lost_name name tried)) taken) refl (λ before. first_free name taken d (suc tried) more before)
  where
    later : Settled name taken (first_free_of taken (lost_names name (suc tried) more) d) (suc tried + more)
        → Settled name taken (first_free_of taken (lost_names name (suc tried) more) d) (tried + suc more)
    later (inl free) = inl free
    later (inr all) = inr (λ k within. all k (omega arith))

    by : (t : Bool) → list_any (bytes_eq (lost_name name tried)) taken ≡ t
        → (((k : ℕ) → k < suc tried → IsTaken name taken k) → Settled name taken (first_free_of taken (lost_names name (suc tried) more) d) (suc tried + more))
        → Settled name taken
        (unwrap_or (cond (not t) (Some (lost_name name tried)) (find (λ lost. not (list_any (bytes_eq lost) taken)) (lost_names name (suc tried) more))) d)
        (tried + suc more)
    by true is go_on = later (go_on (up_to (IsTaken name taken) tried before is))
    by false is go_on = inl (free_at name taken tried before is)

pub free_lost_name-IsFreeLostName : (name : List ℕ) (taken : List (List ℕ)) → length taken < 2 ^ 64 → IsFreeLostName name taken (free_lost_name name taken)
unfolding free_lost_name
free_lost_name-IsFreeLostName name taken fit = by (first_free name taken (lost_name name 0) 0 (length taken) (λ k before. absurd (omega arith)))
  where
    by : Settled name taken (first_free_of taken (lost_names name 0 (length taken)) (lost_name name 0)) (0 + length taken)
        → IsFreeLostName name taken (first_free_of taken (lost_names name 0 (length taken)) (lost_name name 0))
    by (inl free) = free
    by (inr all) = absurd (some_free name taken fit (λ k within. all k (omega arith)))

-- two free names are those of one try
not_earlier : (name : List ℕ) (taken : List (List ℕ)) (a b : List ℕ) (first : IsFreeLostName name taken a) (second : IsFreeLostName name taken b) → first.tried < second.tried → ⊥
not_earlier name taken a b first second earlier = first.absent (subst (Contains taken) (sym first.is) (second.before first.tried earlier))

pub one_free_name : (name : List ℕ) (taken : List (List ℕ)) (a b : List ℕ) → IsFreeLostName name taken a → IsFreeLostName name taken b → b ≡ a
one_free_name name taken a b free other =
    let later = not_earlier name taken a b free other in
    let earlier = not_earlier name taken b a other free in
    let same : other.tried ≡ free.tried = omega (arith, later, earlier) in
    other.is ∙ ap (lost_name name) same ∙ sym free.is
