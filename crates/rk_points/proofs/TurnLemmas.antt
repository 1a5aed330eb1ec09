-- What a tally's turns tell, before and after one more.
use Rattle.std.proofs.Common.{◌≡◌, ℕ, suc, ◌<◌, ◌≤◌, Bool, true, false, not, ◌&&◌, ◌||◌, cond, List, [], ◌∷◌, ◌++◌, length, filter, Option, Some, None, refl, sym, ap, subst, ◌∙◌, inl, inr, arith}
use Rattle.std.specs.Prelude.{◌==◌, ◌⊎◌, nat_lt, nat_le, flat_map}
use Rattle.std.specs.List.{AllByRecursion, list_any, list_all, last_or}
use Rattle.std.proofs.lemmas.Bool.{eqb-true, eq-eqb, ne_eqb, le-leb, lt-leb, ltb-false, ltb-true, and_parts, and_right, or_cases, or_left, or_right}
use Rattle.std.proofs.lemmas.List.{append-nil}
use Rattle.std.proofs.lemmas.List.Elements.{filter-append}
use Rattle.rk_bytes.specs.declared.model.manifest.FileMeta.{FileMeta}
use Rattle.rk_bytes.specs.declared.model.manifest.FamilyState.{FamilyState}
use Rattle.rk_bytes.specs.Model.Manifest.{has_id, has_number}
use Rattle.rk_bytes.specs.Model.BestEfforts.{answer_for}
use Rattle.rk_version.specs.Places.{Rises}
use Rattle.rk_version.proofs.Each.{each_append}
use Rattle.rk_points.specs.declared.course.Turn.{Turn}
use Rattle.rk_points.specs.declared.tally.Tally.{Tally}
use Rattle.rk_points.specs.Courses.{turn_at}
use Rattle.rk_points.specs.Tallies.{Asked, Marks, holds, none_broken, turns_of, Settles}
use Rattle.rk_points.proofs.Marks.{any-append}

-- ---- things in rising number, of which the last is changed

each_last : {A : Type 0} (P : A → Type 0) (xs : List A) (x : A) → AllByRecursion P (xs ++ x ∷ []) → P x
each_last P [] x all = all.0
each_last P (y ∷ xs) x all = each_last P xs x all.1

each_front : {A : Type 0} (P : A → Type 0) (xs : List A) (x : A) → AllByRecursion P (xs ++ x ∷ []) → AllByRecursion P xs
each_front P [] x all = tt
each_front P (y ∷ xs) x all = (all.0, each_front P xs x all.1)

module _ {A : Type 0} (key : A → ℕ) where
  rises_end : (xs : List A) (x y : A) → key x < key y → Rises key (xs ++ x ∷ []) → Rises key ((xs ++ x ∷ []) ++ y ∷ [])
  rises_end [] x y less rises = ((less, tt), (tt, tt))
  rises_end (z ∷ xs) x y less rises =
      let last = each_last (λ w. key z < key w) xs x rises.0 in
      (each_append (λ w. key z < key w) (xs ++ x ∷ []) (y ∷ []) rises.0 (omega (arith, last, less), tt), rises_end xs x y less rises.1)

  rises_last : (xs : List A) (x y : A) → key x ≡ key y → Rises key (xs ++ x ∷ []) → Rises key (xs ++ y ∷ [])
  rises_last [] x y same rises = (tt, tt)
  rises_last (z ∷ xs) x y same rises =
      let last = each_last (λ w. key z < key w) xs x rises.0 in
      (each_append (λ w. key z < key w) xs (y ∷ []) (each_front (λ w. key z < key w) xs x rises.0) (omega (arith, last, same), tt), rises_last xs x y same rises.1)

-- ---- turns at a point

abbrev by_then : ℕ → Turn → Bool
by_then point turn = nat_le turn.at point

past_last : (turns : List Turn) (turn : Turn) (point : ℕ) → point < turn.at → filter (by_then point) (turns ++ turn ∷ []) ≡ filter (by_then point) turns
past_last turns turn point later =
    filter-append (by_then point) turns (turn ∷ [])
    ∙ ap (λ (told : Bool). let last : List Turn = cond told (turn ∷ []) [] in filter (by_then point) turns ++ last) (lt-leb turn.at point later)
    ∙ append-nil (filter (by_then point) turns)

last_or-end : {A : Type 0} (o : Option A) (xs : List A) (x : A) → last_or o (xs ++ x ∷ []) ≡ Some x
last_or-end o [] x = refl
last_or-end o (y ∷ xs) x = last_or-end (Some y) xs x

pub turn_now : (turns : List Turn) (turn : Turn) (point : ℕ) → turn.at ≤ point → turn_at (turns ++ turn ∷ []) point ≡ Some turn
turn_now turns turn point come =
    ap (last_or None) (filter-append (by_then point) turns (turn ∷ []) ∙ ap (λ (told : Bool). let last : List Turn = cond told (turn ∷ []) [] in filter (by_then point) turns ++ last) (le-leb turn.at point come))
    ∙ last_or-end None (filter (by_then point) turns) turn

-- ---- a tally after a turn

pub record Settled (at : ℕ) (live : Bool) (old new : Tally) : Type 0 where
  pub rising : Rises (λ turn. turn.at) (turns_of new)
  pub within : new.now.at ≤ at
  pub before : (point : ℕ) → point < at → turn_at (turns_of new) point ≡ turn_at (turns_of old) point
  pub is_live : new.now.live ≡ live
  pub whole : new.now.whole ≡ none_broken new.broken
  pub broken : new.broken ≡ old.broken

pub settled : (at : ℕ) (live : Bool) (old new : Tally) → Rises (λ turn. turn.at) (turns_of old) → old.now.at ≤ at → Settles at live old new → Settled at live old new
settled at live old new rising within (inl (same_live, same_whole, same)) = subst (Settled at live old) (sym same) (record { rising = rising; within = within; before = λ point less. refl; is_live = same_live; whole = same_whole; broken = refl })
settled at live old new rising within (inr turn) = subst (Settled at live old) (sym turn) (by (nat_lt old.now.at at) refl)
  where
    next : Turn
    next = record { at = at; live = live; whole = none_broken old.broken }

    by : (told : Bool) → nat_lt old.now.at at ≡ told → Settled at live old (record old { turns = cond told (old.turns ++ old.now ∷ []) old.turns; now = record { at = at; live = live; whole = none_broken old.broken } })
    by true e = record {
      rising = rises_end (λ (turn : Turn). turn.at) old.turns old.now (record { at = at; live = live; whole = none_broken old.broken }) (ltb-true old.now.at at e) rising;
      within = omega arith;
      before = λ point less. ap (last_or None) (past_last (old.turns ++ old.now ∷ []) (record { at = at; live = live; whole = none_broken old.broken }) point less);
      is_live = refl;
      whole = refl;
      broken = refl;
    }
    by false e =
        let same : old.now.at ≡ at = let more = ltb-false old.now.at at e in omega arith in
        record {
          rising = rises_last (λ (turn : Turn). turn.at) old.turns old.now (record { at = at; live = live; whole = none_broken old.broken }) same rising;
          within = omega arith;
          before = λ point less.
              ap (last_or None) (past_last old.turns (record { at = at; live = live; whole = none_broken old.broken }) point less)
              ∙ ap (last_or None) (sym (past_last old.turns old.now point (omega arith)));
          is_live = refl;
          whole = refl;
          broken = refl;
        }

-- ---- none broken is all whole

and_true : (a b : Bool) → false ≡ (a && not b) → a ≡ true → b ≡ true
and_true true true e here = refl
and_true true false e here = absurd cc
and_true false b e here = absurd cc

all_true : (answer : ℕ → Bool) (files : List FileMeta) → ((n : ℕ) → list_any (has_number n) files ≡ true → answer n ≡ true) → list_all (λ file. answer file.number) files ≡ true
all_true answer [] so = refl
all_true answer (file ∷ files) so =
    (λ i. so file.number (or_left (has_number file.number file) (list_any (has_number file.number) files) (eq-eqb file.number file.number refl)) i
    && all_true answer files (λ n e. so n (or_right (has_number n file) (list_any (has_number n) files) e)) i)

one_false : (answer : ℕ → Bool) (n : ℕ) (files : List FileMeta) → answer n ≡ false → list_any (has_number n) files ≡ true → list_all (λ file. answer file.number) files ≡ false
one_false answer n [] none e = absurd cc
one_false answer n (file ∷ files) none e = by (or_cases (has_number n file) (list_any (has_number n) files) e) (one_false answer n files none)
  where
    by : ((has_number n file ≡ true) ⊎ (list_any (has_number n) files ≡ true)) → (list_any (has_number n) files ≡ true → list_all (λ file. answer file.number) files ≡ false) → (answer file.number && list_all (λ file. answer file.number) files) ≡ false
    by (inl here) rest = ap (λ told. told && list_all (λ (file : FileMeta). answer file.number) files) (ap answer (eqb-true file.number n here) ∙ none)
    by (inr later) rest = and_right (answer file.number) (list_all (λ (file : FileMeta). answer file.number) files) (rest later)

none_is_all : (answer : ℕ → Bool) (files : List FileMeta) (broken : List ℕ) → ((n : ℕ) → list_any (λ other. other == n) broken ≡ (list_any (has_number n) files && not (answer n))) → none_broken broken ≡ list_all (λ file. answer file.number) files
none_is_all answer files [] marks = sym (all_true answer files (λ n e. and_true (list_any (has_number n) files) (answer n) (marks n) e))
none_is_all answer files (n ∷ broken) marks =
    let there : (list_any (has_number n) files && not (answer n)) ≡ true = sym (marks n) ∙ or_left (n == n) (list_any (λ other. other == n) broken) (eq-eqb n n refl) in
    let (has, not_whole) = and_parts (list_any (has_number n) files) (not (answer n)) there in
    ne_eqb (suc (length broken)) 0 (λ e. omega arith) ∙ sym (one_false answer n files (opposite (answer n) not_whole) has)
  where
    opposite : (told : Bool) → not told ≡ true → told ≡ false
    opposite true e = absurd cc
    opposite false e = refl

held : (id number : ℕ) (families : List FamilyState) → holds id number families ≡ list_any (has_number number) (flat_map (λ live. live.files) (filter (has_id id) families))
held id number [] = refl
held id number (live ∷ families) = by (has_id id live) (held id number families)
  where
    by : (told : Bool) → holds id number families ≡ list_any (has_number number) (flat_map (λ (live : FamilyState). live.files) (filter (has_id id) families))
        → ((told && list_any (has_number number) live.files) || holds id number families) ≡ list_any (has_number number) (flat_map (λ (live : FamilyState). live.files) (cond told (live ∷ filter (has_id id) families) (filter (has_id id) families)))
    by true rest = ap (λ more. list_any (has_number number) live.files || more) rest ∙ sym (any-append (has_number number) live.files (flat_map (λ (live : FamilyState). live.files) (filter (has_id id) families)))
    by false rest = rest

pub marked_whole : (asked : Asked) (families : List FamilyState) (id : ℕ) (broken : List ℕ) → Marks asked families id broken
    → none_broken broken ≡ list_all (λ file. answer_for asked file.number) (flat_map (λ live. live.files) (filter (has_id id) families))
marked_whole asked families id broken marks =
    none_is_all (answer_for asked) (flat_map (λ (live : FamilyState). live.files) (filter (has_id id) families)) broken (λ n. marks n ∙ ap (λ told. told && not (answer_for asked n)) (held id n families))
