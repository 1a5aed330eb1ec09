-- The tally of a family among others.
use Rattle.std.proofs.Common.{◌≡◌, ℕ, ◌<◌, Bool, true, false, cond, List, [], ◌∷◌, ◌++◌, filter, Option, Some, None, refl, sym, ap, subst, ◌∙◌, inl, inr, arith}
use Rattle.std.specs.Prelude.{◌==◌, ◌⊎◌, not, nat_lt, find, filter_map, unwrap_or}
use Rattle.std.specs.List.{list_any}
use Rattle.std.proofs.lemmas.Bool.{eqb-true, eqb-false, eq-eqb, ne_eqb, lt-ltb, le-ltb, both_ways, cases_order}
use Rattle.rk_version.specs.Keyed.{put}
use Rattle.rk_points.specs.declared.tally.Tally.{Tally}
use Rattle.rk_bytes.specs.Model.VersionEdit.{Field, added_in, drops_family}
use Rattle.rk_bytes.specs.Model.Manifest.{edit_family}
use Rattle.rk_points.specs.declared.walk.Walk.{Walk}
use Rattle.rk_points.specs.Tallies.{answers_after, blank, tally_of, counted, Settles, WalksEdit}

abbrev first_of : {A : Type 0} → Option A → Option A → Option A
first_of (Some x) o = Some x
first_of None o = o

module _ {A : Type 0} (p : A → Bool) where
  find-append : (xs ys : List A) → find p (xs ++ ys) ≡ first_of (find p xs) (find p ys)
  find-append [] ys = refl
  find-append (x ∷ xs) ys = by (p x) (find-append xs ys)
    where
      by : (told : Bool) → find p (xs ++ ys) ≡ first_of (find p xs) (find p ys) → cond told (Some x) (find p (xs ++ ys)) ≡ first_of (cond told (Some x) (find p xs)) (find p ys)
      by true rest = refl
      by false rest = rest

  find_lost : (q : A → Bool) (xs : List A) → ((x : A) → p x ≡ true → q x ≡ false) → find p (filter q xs) ≡ None
  find_lost q [] so = refl
  find_lost q (x ∷ xs) so = by (q x) refl (p x) refl (find_lost q xs so)
    where
      by : (kept : Bool) → q x ≡ kept → (told : Bool) → p x ≡ told → find p (filter q xs) ≡ None → find p (cond kept (x ∷ filter q xs) (filter q xs)) ≡ None
      by false e told e1 rest = rest
      by true e true e1 rest = absurd (both_ways (q x) (so x e1) e)
      by true e false e1 rest = ap (λ (told : Bool). let r : Option A = cond told (Some x) (find p (filter q xs)) in r) e1 ∙ rest

  find_kept : (q : A → Bool) (xs : List A) → ((x : A) → p x ≡ true → q x ≡ true) → find p (filter q xs) ≡ find p xs
  find_kept q [] so = refl
  find_kept q (x ∷ xs) so = by (q x) refl (p x) refl (find_kept q xs so)
    where
      by : (kept : Bool) → q x ≡ kept → (told : Bool) → p x ≡ told → find p (filter q xs) ≡ find p xs → find p (cond kept (x ∷ filter q xs) (filter q xs)) ≡ find p (x ∷ xs)
      by true e told e1 rest = ap (λ (o : Option A). cond (p x) (Some x) o) rest
      by false e true e1 rest = absurd (both_ways (q x) e (so x e1))
      by false e false e1 rest = rest ∙ ap (λ (told : Bool). let r : Option A = cond told (Some x) (find p xs) in r) (sym e1)

or_none : {A : Type 0} (o : Option A) → first_of o None ≡ o
or_none (Some x) = refl
or_none None = refl

abbrev has : ℕ → Tally → Bool
has id tally = tally.family == id

module _ (new : Tally) (tallies : List Tally) where
  abbrev lower : List Tally
  lower = filter (λ (tally : Tally). nat_lt tally.family new.family) tallies

  abbrev upper : List Tally
  upper = filter (λ (tally : Tally). nat_lt new.family tally.family) tallies

  pub own_put : tally_of new.family (put (λ (tally : Tally). tally.family) new tallies) ≡ new
  own_put = ap (λ o. unwrap_or o (blank new.family)) (
      find-append (has new.family) lower (new ∷ upper)
      ∙ ap (λ o. first_of o (find (has new.family) (new ∷ upper))) (find_lost (has new.family) (λ tally. nat_lt tally.family new.family) tallies (λ tally e. le-ltb tally.family new.family (let is = eqb-true tally.family new.family e in omega arith)))
      ∙ ap (λ (told : Bool). let r : Option Tally = cond told (Some new) (find (has new.family) upper) in r) (eq-eqb new.family new.family refl))

  passed_by : (id : ℕ) → (id == new.family) ≡ false → find (has id) (new ∷ upper) ≡ find (has id) upper
  passed_by id other = ap (λ (told : Bool). let r : Option Tally = cond told (Some new) (find (has id) upper) in r) (ne_eqb new.family id (λ e. eqb-false id new.family other (sym e)))

  pub other_put : (id : ℕ) → (id == new.family) ≡ false → tally_of id (put (λ (tally : Tally). tally.family) new tallies) ≡ tally_of id tallies
  other_put id other =
      ap (λ o. unwrap_or o (blank id)) (find-append (has id) lower (new ∷ upper) ∙ ap (first_of (find (has id) lower)) (passed_by id other) ∙ by (cases_order id new.family))
    where
      by : (id ≡ new.family) ⊎ ((id < new.family) ⊎ (new.family < id)) → first_of (find (has id) lower) (find (has id) upper) ≡ find (has id) tallies
      by (inl same) = absurd (eqb-false id new.family other same)
      by (inr (inl below)) =
          (λ i. first_of
          (find_kept (has id) (λ tally. nat_lt tally.family new.family) tallies (λ tally e. lt-ltb tally.family new.family (let is = eqb-true tally.family id e in omega arith)) i)
          (find_lost (has id) (λ tally. nat_lt new.family tally.family) tallies (λ tally e. le-ltb new.family tally.family (let is = eqb-true tally.family id e in omega arith)) i))
          ∙ or_none (find (has id) tallies)
      by (inr (inr above)) =
          λ i. first_of
          (find_lost (has id) (λ tally. nat_lt tally.family new.family) tallies (λ tally e. le-ltb tally.family new.family (let is = eqb-true tally.family id e in omega arith)) i)
          (find_kept (has id) (λ tally. nat_lt new.family tally.family) tallies (λ tally e. lt-ltb new.family tally.family (let is = eqb-true tally.family id e in omega arith)) i)

pub family_of : (id : ℕ) (tallies : List Tally) → (tally_of id tallies).family ≡ id
family_of id [] = refl
family_of id (tally ∷ tallies) = by (has id tally) refl (family_of id tallies)
  where
    by : (told : Bool) → has id tally ≡ told → (tally_of id tallies).family ≡ id → (let o : Option Tally = cond told (Some tally) (find (has id) tallies) in unwrap_or o (blank id)).family ≡ id
    by true e rest = eqb-true tally.family id e
    by false e rest = rest

settled_family : (at : ℕ) (live : Bool) (old new : Tally) → Settles at live old new → new.family ≡ old.family
settled_family at live old new (inl same) = ap (λ (tally : Tally). tally.family) same.2
settled_family at live old new (inr turn) = ap (λ (tally : Tally). tally.family) turn

-- an edit is walked over by what is done with the tally of its family
pub walked : (at : ℕ) (edit : List Field) (old new : Walk) (taken done settled : Tally) (between : List Tally) (id : ℕ) (drops : Bool) → id ≡ edit_family edit → drops ≡ list_any drops_family edit
    → taken ≡ tally_of id old.tallies → ((other : ℕ) → (other == id) ≡ false → tally_of other between ≡ tally_of other old.tallies)
    → done ≡ counted drops edit old.left.now taken → new.left.now ≡ answers_after (filter_map added_in edit) old.left.now
    → Settles at (not drops) done settled → new.tallies ≡ put (λ (tally : Tally). tally.family) settled between → WalksEdit at edit old new
walked at edit old new taken done settled between id drops id_is drops_is taken_is others done_is left settles put_is =
    let family_is : settled.family ≡ id = settled_family at (not drops) done settled settles ∙ ap (λ (tally : Tally). tally.family) (done_is ∙ ap (counted drops edit old.left.now) taken_is) ∙ family_of id old.tallies in
    let own_is : tally_of (edit_family edit) new.tallies ≡ settled = (λ i. tally_of (sym (family_is ∙ id_is) i) (put_is i)) ∙ own_put settled between in
    record {
      answers = left;
      own =
          subst (Settles at (not (list_any drops_family edit)) (counted (list_any drops_family edit) edit old.left.now (tally_of (edit_family edit) old.tallies))) (sym own_is)
          (subst (λ (drops : Bool). Settles at (not drops) (counted drops edit old.left.now (tally_of (edit_family edit) old.tallies)) settled) drops_is
          (subst (λ (tally : Tally). Settles at (not drops) tally settled) (done_is ∙ ap (counted drops edit old.left.now) (taken_is ∙ ap (λ id. tally_of id old.tallies) id_is)) settles));
      others = λ other apart.
          ap (tally_of other) put_is
          ∙ other_put settled between other (ap (λ id. other == id) (family_is ∙ id_is) ∙ apart)
          ∙ others other (ap (λ id. other == id) id_is ∙ apart);
    }
