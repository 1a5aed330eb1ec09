-- Which families are live and which of their files are broken, from one step of a version to the next.
use Rattle.std.proofs.Common.{◌≡◌, ℕ, ◌<◌, Bool, true, false, not, ◌&&◌, ◌||◌, cond, List, [], ◌∷◌, ◌++◌, map, filter, refl, sym, ap, ◌∙◌, inl, inr, arith}
use Rattle.std.specs.Prelude.{◌==◌, ◌⊎◌, nat_lt}
use Rattle.std.specs.List.{list_any}
use Rattle.std.proofs.lemmas.Bool.{eqb-true, eqb-false, eq-eqb, ne_eqb, lt-ltb, le-ltb, both_ways, cases_order, cases_eq, and_parts, and_left, or_parts}
use Rattle.rk_bytes.specs.declared.model.manifest.FamilyState.{FamilyState}
use Rattle.rk_bytes.specs.Model.Manifest.{has_id, has_number, add_family, drop_family}
use Rattle.rk_version.specs.Keyed.{put}
use Rattle.rk_points.specs.Tallies.{lives, holds}

or_assoc : (a b c : Bool) → ((a || b) || c) ≡ (a || (b || c))
or_assoc true b c = refl
or_assoc false b c = refl

or_none : (a : Bool) → (a || false) ≡ a
or_none true = refl
or_none false = refl

or_swap : (a b : Bool) → (a || (b || false)) ≡ (b || a)
or_swap true true = refl
or_swap true false = refl
or_swap false true = refl
or_swap false false = refl

-- tests of lists
module _ {A : Type 0} (p : A → Bool) where
  pub any-append : (xs ys : List A) → list_any p (xs ++ ys) ≡ (list_any p xs || list_any p ys)
  any-append [] ys = refl
  any-append (x ∷ xs) ys = ap (λ rest. p x || rest) (any-append xs ys) ∙ sym (or_assoc (p x) (list_any p xs) (list_any p ys))

  pub any_kept : (q : A → Bool) (xs : List A) → ((x : A) → p x ≡ true → q x ≡ true) → list_any p (filter q xs) ≡ list_any p xs
  any_kept q [] so = refl
  any_kept q (x ∷ xs) so = by (q x) refl (p x) refl (any_kept q xs so)
    where
      by : (kept : Bool) → q x ≡ kept → (told : Bool) → p x ≡ told → list_any p (filter q xs) ≡ list_any p xs → list_any p (cond kept (x ∷ filter q xs) (filter q xs)) ≡ (p x || list_any p xs)
      by true e told e1 rest = ap (λ rest. p x || rest) rest
      by false e true e1 rest = absurd (both_ways (q x) e (so x e1))
      by false e false e1 rest = rest ∙ ap (λ told. told || list_any p xs) (sym e1)

  pub any_lost : (q : A → Bool) (xs : List A) → ((x : A) → p x ≡ true → q x ≡ false) → list_any p (filter q xs) ≡ false
  any_lost q [] so = refl
  any_lost q (x ∷ xs) so = by (q x) refl (p x) refl (any_lost q xs so)
    where
      by : (kept : Bool) → q x ≡ kept → (told : Bool) → p x ≡ told → list_any p (filter q xs) ≡ false → list_any p (cond kept (x ∷ filter q xs) (filter q xs)) ≡ false
      by false e told e1 rest = rest
      by true e true e1 rest = absurd (both_ways (q x) (so x e1) e)
      by true e false e1 rest = ap (λ told. told || list_any p (filter q xs)) e1 ∙ rest

  pub any_same : (q : A → Bool) (xs : List A) → ((x : A) → p x ≡ q x) → list_any p xs ≡ list_any q xs
  any_same q [] so = refl
  any_same q (x ∷ xs) so = (λ i. so x i || any_same q xs so i)

  pub any_none : (xs : List A) → ((x : A) → p x ≡ false) → list_any p xs ≡ false
  any_none [] so = refl
  any_none (x ∷ xs) so = (λ i. so x i || any_none xs so i)

pub any_mapped : {A B : Type 0} (p : B → Bool) (q : A → Bool) (f : A → B) (xs : List A) → ((x : A) → p (f x) ≡ q x) → list_any p (map f xs) ≡ list_any q xs
any_mapped p q f [] so = refl
any_mapped p q f (x ∷ xs) so = (λ i. so x i || any_mapped p q f xs so i)

-- one more thing among others by its number: a test that only things with one number pass
module _ {A : Type 0} (key : A → ℕ) (p : A → Bool) (new : A) (xs : List A) where
  any_parts : list_any p (put key new xs) ≡ (list_any p (filter (λ x. nat_lt (key x) (key new)) xs) || (p new || list_any p (filter (λ x. nat_lt (key new) (key x)) xs)))
  any_parts = any-append p (filter (λ x. nat_lt (key x) (key new)) xs) (new ∷ filter (λ x. nat_lt (key new) (key x)) xs)

  pub any_put : (m : ℕ) → ((x : A) → p x ≡ true → key x ≡ m) → (m ≡ key new → ⊥) → list_any p (put key new xs) ≡ (p new || list_any p xs)
  any_put m keyed other = any_parts ∙ by (cases_order m (key new))
    where
      by : (m ≡ key new) ⊎ ((m < key new) ⊎ (key new < m)) → (list_any p (filter (λ x. nat_lt (key x) (key new)) xs) || (p new || list_any p (filter (λ x. nat_lt (key new) (key x)) xs))) ≡ (p new || list_any p xs)
      by (inl same) = absurd (other same)
      by (inr (inl below)) =
          (λ i. any_kept p (λ x. nat_lt (key x) (key new)) xs (λ x e. lt-ltb (key x) (key new) (let is = keyed x e in omega arith)) i
          || (p new || any_lost p (λ x. nat_lt (key new) (key x)) xs (λ x e. le-ltb (key new) (key x) (let is = keyed x e in omega arith)) i))
          ∙ or_swap (list_any p xs) (p new)
      by (inr (inr above)) =
          λ i. any_lost p (λ x. nat_lt (key x) (key new)) xs (λ x e. le-ltb (key x) (key new) (let is = keyed x e in omega arith)) i
          || (p new || any_kept p (λ x. nat_lt (key new) (key x)) xs (λ x e. lt-ltb (key new) (key x) (let is = keyed x e in omega arith)) i)

  pub any_put_own : ((x : A) → p x ≡ true → key x ≡ key new) → list_any p (put key new xs) ≡ p new
  any_put_own keyed =
      any_parts
      ∙ (λ i. any_lost p (λ x. nat_lt (key x) (key new)) xs (λ x e. le-ltb (key x) (key new) (let is = keyed x e in omega arith)) i
      || (p new || any_lost p (λ x. nat_lt (key new) (key x)) xs (λ x e. le-ltb (key new) (key x) (let is = keyed x e in omega arith)) i))
      ∙ or_none (p new)

-- tests of a family with an id
abbrev in_family : ℕ → (FamilyState → Bool) → FamilyState → Bool
in_family id q live = has_id id live && q live

in_family_id : (id : ℕ) (q : FamilyState → Bool) (live : FamilyState) → in_family id q live ≡ true → live.id ≡ id
in_family_id id q live e = eqb-true live.id id (and_parts (has_id id live) (q live) e).0

and_true : (a : Bool) → (a && true) ≡ a
and_true true = refl
and_true false = refl

-- a family is added
module _ (id : ℕ) (name : List ℕ) (families : List FamilyState) (free : lives id families ≡ false) where
  abbrev born : FamilyState
  born = record { id = id; name = name; log = 0; files = [] }

  none_there : (q : FamilyState → Bool) → list_any (in_family id q) families ≡ false
  none_there q = by families free
    where
      by : (xs : List FamilyState) → lives id xs ≡ false → list_any (in_family id q) xs ≡ false
      by [] e = refl
      by (x ∷ xs) e = let (first, more) = or_parts (has_id id x) (lives id xs) e in (λ i. and_left (has_id id x) (q x) first i || by xs more i)

  pub holds_added : (other number : ℕ) → holds other number (add_family id name families) ≡ holds other number families
  holds_added other number = by (cases_eq other id)
    where
      test : FamilyState → Bool
      test live = list_any (has_number number) live.files

      by : (other ≡ id) ⊎ (other ≡ id → ⊥) → list_any (in_family other (λ live. list_any (has_number number) live.files)) (put (λ (live : FamilyState). live.id) born families) ≡ list_any (in_family other (λ live. list_any (has_number number) live.files)) families
      by (inl same) =
          any_put_own (λ (live : FamilyState). live.id) (in_family other (λ live. list_any (has_number number) live.files)) born families (λ live e. in_family_id other (λ live. list_any (has_number number) live.files) live e ∙ same)
          ∙ nothing (has_id other born)
          ∙ sym (ap (λ id. list_any (in_family id (λ live. list_any (has_number number) live.files)) families) same ∙ none_there (λ live. list_any (has_number number) live.files))
        where
          nothing : (told : Bool) → (told && false) ≡ false
          nothing true = refl
          nothing false = refl
      by (inr apart) =
          any_put (λ (live : FamilyState). live.id) (in_family other (λ live. list_any (has_number number) live.files)) born families other (in_family_id other (λ live. list_any (has_number number) live.files)) apart
          ∙ ap (λ told. (told && false) || list_any (in_family other (λ live. list_any (has_number number) live.files)) families) (ne_eqb id other (λ e. apart (sym e)))

  pub lives_added : (other : ℕ) → (other == id) ≡ false → lives other (add_family id name families) ≡ lives other families
  lives_added other apart =
      any_put (λ (live : FamilyState). live.id) (has_id other) born families other (λ live e. eqb-true live.id other e) (eqb-false other id apart)
      ∙ ap (λ told. told || lives other families) (ne_eqb id other (λ e. eqb-false other id apart (sym e)))

  pub lives_born : lives id (add_family id name families) ≡ true
  lives_born = any_put_own (λ (live : FamilyState). live.id) (has_id id) born families (λ live e. eqb-true live.id id e) ∙ eq-eqb id id refl

-- a family is dropped
module _ (id : ℕ) (families : List FamilyState) where
  pub lives_dropped : lives id (drop_family id families) ≡ false
  lives_dropped = any_lost (has_id id) (λ live. not (has_id id live)) families (λ live e. ap not e)

  pub lives_left : (other : ℕ) → (other == id) ≡ false → lives other (drop_family id families) ≡ lives other families
  lives_left other apart = any_kept (has_id other) (λ live. not (has_id id live)) families (λ live e. ap not (ne_eqb live.id id (λ same. eqb-false other id apart (sym (eqb-true live.id other e) ∙ same))))

  pub holds_dropped : (number : ℕ) → holds id number (drop_family id families) ≡ false
  holds_dropped number =
      any_lost (in_family id (λ live. list_any (has_number number) live.files)) (λ live. not (has_id id live)) families (λ live e. ap not (and_parts (has_id id live) (list_any (has_number number) live.files) e).0)

  pub holds_left : (other number : ℕ) → (other == id) ≡ false → holds other number (drop_family id families) ≡ holds other number families
  holds_left other number apart =
      any_kept (in_family other (λ live. list_any (has_number number) live.files)) (λ live. not (has_id id live)) families
      (λ live e. ap not (ne_eqb live.id id (λ same. eqb-false other id apart (sym (in_family_id other (λ live. list_any (has_number number) live.files) live e) ∙ same))))

-- a family is changed and keeps its id
module _ (id : ℕ) (change : FamilyState → FamilyState) (same_id : (live : FamilyState) → (change live).id ≡ live.id) (families : List FamilyState) where
  abbrev changed : FamilyState → FamilyState
  changed live = cond (has_id id live) (change live) live

  pub lives_changed : (other : ℕ) → lives other (map changed families) ≡ lives other families
  lives_changed other = any_mapped (has_id other) (has_id other) changed families (λ live. by live (has_id id live))
    where
      by : (live : FamilyState) (told : Bool) → has_id other (cond told (change live) live) ≡ has_id other live
      by live true = ap (λ n. n == other) (same_id live)
      by live false = refl

  pub holds_unchanged : (other number : ℕ) → (other == id) ≡ false → holds other number (map changed families) ≡ holds other number families
  holds_unchanged other number apart = any_mapped _ _ changed families (λ live. by live (has_id id live) refl)
    where
      by : (live : FamilyState) (told : Bool) → has_id id live ≡ told → in_family other (λ live. list_any (has_number number) live.files) (cond told (change live) live) ≡ in_family other (λ live. list_any (has_number number) live.files) live
      by live false e = refl
      by live true e =
          let none : has_id other live ≡ false = ne_eqb live.id other (λ same. eqb-false other id apart (sym same ∙ eqb-true live.id id e)) in
          ap (λ n. (n == other) && list_any (has_number number) (change live).files) (same_id live)
          ∙ and_left (has_id other live) (list_any (has_number number) (change live).files) none ∙ sym (and_left (has_id other live) (list_any (has_number number) live.files) none)

  pub holds_changed : (number : ℕ) → holds id number (map changed families) ≡ list_any (in_family id (λ live. list_any (has_number number) (change live).files)) families
  holds_changed number = any_mapped _ _ changed families (λ live. by live (has_id id live) refl)
    where
      by : (live : FamilyState) (told : Bool) → has_id id live ≡ told → in_family id (λ live. list_any (has_number number) live.files) (cond told (change live) live) ≡ in_family id (λ live. list_any (has_number number) (change live).files) live
      by live true e = ap (λ n. (n == id) && list_any (has_number number) (change live).files) (same_id live)
      by live false e = and_left (has_id id live) (list_any (has_number number) live.files) e ∙ sym (and_left (has_id id live) (list_any (has_number number) (change live).files) e)
