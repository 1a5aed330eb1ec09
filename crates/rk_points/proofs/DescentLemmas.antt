-- The points that families come down to are the greatest ones that qualify.
use Rattle.std.proofs.Common.{◌≡◌, ℕ, zero, suc, ◌+◌, ◌-◌, ◌<◌, ◌≤◌, Bool, true, false, cond, List, [], ◌∷◌, ◌++◌, length, map, refl, sym, subst, ap, ◌∙◌, arith, inl, inr}
use Rattle.std.specs.Prelude.{nat_lt, nat_le}
use Rattle.std.specs.List.{AllByRecursion, list_any}
use Rattle.std.proofs.lemmas.Bool.{ltb-true, lt-ltb, le-leb, false≢true, and_parts, and_from, or_cases, or_parts, cases_Bool, cases_lt, cond-true}
use Rattle.rk_bytes.specs.declared.model.manifest.FamilyState.{FamilyState}
use Rattle.rk_bytes.specs.declared.model.view.Point.{Point}
use Rattle.rk_bytes.specs.Model.Manifest.{ManifestUnit}
use Rattle.rk_bytes.specs.Model.BestEfforts.{last_families, answers_pass, group_places, is_tied, StandTogether, AtMost, IsGreatest}
use Rattle.rk_points.specs.declared.course.Course.{Course}
use Rattle.rk_points.specs.declared.descent.Stand.{Stand}
use Rattle.rk_points.specs.Courses.{is_live_in, is_whole_in, Tells, Follows}
use Rattle.rk_points.specs.Descents.{IsSound, AreSound, last_whole, turns_of, is_before, is_behind, held_at, held_each, held, passed, passed_times, points_of}
use Rattle.rk_points.proofs.DescentTurns.{last_at_most, last_is_whole, last_greatest}
use Rattle.rk_points.proofs.StandLemmas.{held_at_most}

each_so : {A : Type 0} (P Q : A → Type 0) (xs : List A) → ((x : A) → P x → Q x) → AllByRecursion P xs → AllByRecursion Q xs
each_so P Q [] so all = tt
each_so P Q (x ∷ xs) so all = (so x all.0, each_so P Q xs so all.1)

-- the points of families, each of which keeps what holds of its family
each_point : (P : Stand → Type 0) (Q : Point → Type 0) (stands : List Stand) → ((stand : Stand) → P stand → let point : Point = record { family = stand.course.now.family; at = stand.at } in Q point) → AllByRecursion P stands → AllByRecursion Q (points_of stands)
each_point P Q [] so all = tt
each_point P Q (stand ∷ stands) so all = (so stand all.0, each_point P Q stands so all.1)

-- families in one order, each of the first no higher than that of the second
Under : List Stand → List Stand → Type 0
Under [] [] = Unit {0}
Under (a ∷ more) (b ∷ others) = (a.course ≡ b.course) × (a.at ≤ b.at) × Under more others
Under _ _ = ⊥

under_itself : (stands : List Stand) → Under stands stands
unfolding Under
under_itself [] = tt
under_itself (stand ∷ stands) = (refl, omega arith, under_itself stands)

under_under : (a b c : List Stand) → Under a b → Under b c → Under a c
unfolding Under
under_under [] [] [] first second = tt
under_under [] [] (z ∷ c) first second = absurd second
under_under [] (y ∷ b) c first second = absurd first
under_under (x ∷ a) [] c first second = absurd first
under_under (x ∷ a) (y ∷ b) [] first second = absurd second
under_under (x ∷ a) (y ∷ b) (z ∷ c) first second = (first.0 ∙ second.0, omega (arith, first.1, second.1), under_under a b c first.2 second.2)

same_stands : (a b : List Stand) → Under a b → Under b a → a ≡ b
unfolding Under
same_stands [] [] first second = refl
same_stands [] (y ∷ b) first second = absurd first
same_stands (x ∷ a) [] first second = absurd first
same_stands (x ∷ a) (y ∷ b) first second =
    let at : x.at ≡ y.at = omega (arith, first.1, second.1) in
    let stand : x ≡ y = ap (λ at. let s : Stand = record x { at = at } in s) at ∙ ap (λ course. let s : Stand = record y { course = course } in s) first.0 in
    let rest = same_stands a b first.2 second.2 in
    ap (λ (x : Stand). x ∷ a) stand ∙ ap (λ more. y ∷ more) rest

under_each : (place : ℕ) (stands : List Stand) → Under (held_each place stands) stands
unfolding Under
under_each place [] = tt
under_each place (stand ∷ stands) = (refl, held_at_most place stand, under_each place stands)

under_held : (place : ℕ) (stands : List Stand) → Under (held place stands) stands
under_held place stands = by (list_any (is_before place) stands)
  where
    by : (told : Bool) → Under (cond told (held_each place stands) stands) stands
    by true = under_each place stands
    by false = under_itself stands

under_passed : (places : List ℕ) (stands : List Stand) → Under (passed places stands) stands
under_passed [] stands = under_itself stands
under_passed (place ∷ places) stands = under_under (held place (passed places stands)) (passed places stands) stands (under_held place (passed places stands)) (under_passed places stands)

-- where all groups together lower nothing, none of them does
each_fixed : (places : List ℕ) (stands : List Stand) → passed places stands ≡ stands → AllByRecursion (λ place. held place stands ≡ stands) places
each_fixed [] stands fixed = tt
each_fixed (place ∷ places) stands fixed =
    let after = passed places stands in
    let same : after ≡ stands = same_stands after stands (under_passed places stands) (subst (λ s. Under s after) fixed (under_held place after)) in
    (ap (held place) (sym same) ∙ fixed, each_fixed places stands same)

-- the places of groups are no greater than the number of units
places_below : (place : ℕ) (units : List ManifestUnit) (most : ℕ) → place + length units ≤ suc most → AllByRecursion (λ place. place - 1 ≤ most) (group_places place units)
places_below place [] most within = tt
places_below place (unit ∷ units) most within = by unit.is_group (places_below (suc place) units most (omega arith))
  where
    by : (told : Bool) → AllByRecursion (λ place. place - 1 ≤ most) (group_places (suc place) units) → AllByRecursion (λ place. place - 1 ≤ most) (cond told (place ∷ []) [] ++ group_places (suc place) units)
    by true rest = (omega arith, rest)
    by false rest = rest

module _ (units : List ManifestUnit) (answers : List Bool) where
  -- what holds of each family on its way down
  record Good (stand : Stand) : Type 0 where
    sound : IsSound (turns_of stand)
    told : Tells units answers stand.course.now
    whole : is_whole_in (turns_of stand) stand.at ≡ true
    within : stand.at ≤ length units

  good_each : (place : ℕ) (stands : List Stand) → AllByRecursion Good stands → AllByRecursion Good (held_each place stands)
  good_each place [] good = tt
  good_each place (stand ∷ stands) good = (by (is_behind place stand) (last_is_whole (turns_of stand) (place - 1) good.0.sound) (held_at_most place stand), good_each place stands good.1)
    where
      by : (behind : Bool) → is_whole_in (turns_of stand) (last_whole (turns_of stand) (place - 1)) ≡ true → cond behind (last_whole (turns_of stand) (place - 1)) stand.at ≤ stand.at
          → let next : Stand = record stand { at = cond behind (last_whole (turns_of stand) (place - 1)) stand.at } in Good next
      by true whole less = record { sound = good.0.sound; told = good.0.told; whole = whole; within = omega (arith, less, good.0.within) }
      by false whole less = record { sound = good.0.sound; told = good.0.told; whole = good.0.whole; within = good.0.within }

  good_held : (place : ℕ) (stands : List Stand) → AllByRecursion Good stands → AllByRecursion Good (held place stands)
  good_held place stands good = by (list_any (is_before place) stands)
    where
      by : (told : Bool) → AllByRecursion Good (cond told (held_each place stands) stands)
      by true = good_each place stands good
      by false = good

  good_passed : (places : List ℕ) (stands : List Stand) → AllByRecursion Good stands → AllByRecursion Good (passed places stands)
  good_passed [] stands good = good
  good_passed (place ∷ places) stands good = good_held place (passed places stands) (good_passed places stands good)

  good_times : (n : ℕ) (places : List ℕ) (stands : List Stand) → AllByRecursion Good stands → AllByRecursion Good (passed_times n places stands)
  good_times zero places stands good = good
  good_times (suc n) places stands good = good_passed places (passed_times n places stands) (good_times n places stands good)

  -- the family is tied by a group, as its course tells
  tied : (place : ℕ) (stand : Stand) → Good stand → place - 1 ≤ length units → is_live_in (turns_of stand) (place - 1) ≡ is_tied units place stand.course.now.family
  tied place stand good within = good.told.live (place - 1) within

  -- where all points that a group ties stand at it or later, no family above them stands before it
  none_before : (place : ℕ) → place - 1 ≤ length units → (others : List Point) (stands : List Stand) → AllByRecursion Good stands → AtMost others (points_of stands)
      → AllByRecursion (λ point. is_tied units place point.family ≡ true → place ≤ point.at) others → list_any (is_before place) stands ≡ true → ⊥
  none_before place within [] [] good below later e = false≢true e
  none_before place within [] (stand ∷ stands) good below later e = absurd below
  none_before place within (o ∷ os) [] good below later e = absurd below
  none_before place within (o ∷ os) (stand ∷ stands) good below later e = elim (or_cases (is_before place stand) (list_any (is_before place) stands) e) [
    | inl here ↦
        let (before, live) = and_parts (nat_lt stand.at place) (is_live_in (turns_of stand) (place - 1)) here in
        let at = later.0 (ap (is_tied units place) below.0 ∙ sym (tied place stand good.0 within) ∙ live) in
        omega (arith, at, below.1, ltb-true stand.at place before)
    | inr more ↦ none_before place within os stands good.1 below.2 later.1 more
  ]

  -- what qualifies and is at most the points is at most those held at a group
  each_above : (place : ℕ) → place - 1 ≤ length units → (others : List Point) (stands : List Stand) → AllByRecursion Good stands → AtMost others (points_of stands)
      → AllByRecursion (λ point. answers_pass answers units point.family point.at ≡ true) others → AllByRecursion (λ point. is_tied units place point.family ≡ true → point.at < place) others
      → AtMost others (points_of (held_each place stands))
  each_above place within [] [] good below whole before = tt
  each_above place within [] (stand ∷ stands) good below whole before = absurd below
  each_above place within (o ∷ os) [] good below whole before = absurd below
  each_above place within (o ∷ os) (stand ∷ stands) good below whole before = (below.0, at (is_behind place stand) refl, each_above place within os stands good.1 below.2 whole.1 before.1)
    where
      at : (behind : Bool) → is_behind place stand ≡ behind → o.at ≤ cond behind (last_whole (turns_of stand) (place - 1)) stand.at
      at true is =
          let live = (and_parts (nat_le place stand.at) (is_live_in (turns_of stand) (place - 1)) is).1 in
          let less = before.0 (ap (is_tied units place) below.0 ∙ sym (tied place stand good.0 within) ∙ live) in
          let counted : o.at ≤ length units = omega (arith, below.1, good.0.within) in
          last_greatest (turns_of stand) (place - 1) o.at (omega (arith, less)) (good.0.told.whole o.at counted ∙ ap (λ id. answers_pass answers units id o.at) (sym below.0) ∙ whole.0)
      at false is = below.1

  held_above : (place : ℕ) → place - 1 ≤ length units → (others : List Point) (stands : List Stand) → AllByRecursion Good stands → AtMost others (points_of stands)
      → AllByRecursion (λ point. answers_pass answers units point.family point.at ≡ true) others → StandTogether units others place → AtMost others (points_of (held place stands))
  held_above place within others stands good below whole together = by (list_any (is_before place) stands) refl
    where
      befores : StandTogether units others place → list_any (is_before place) stands ≡ true → AllByRecursion (λ point. is_tied units place point.family ≡ true → point.at < place) others
      befores (inl later) e = absurd (none_before place within others stands good below later e)
      befores (inr before) e = before

      by : (told : Bool) → list_any (is_before place) stands ≡ told → AtMost others (points_of (cond told (held_each place stands) stands))
      by true is = each_above place within others stands good below whole (befores together is)
      by false is = below

  passed_above : (places : List ℕ) → AllByRecursion (λ place. place - 1 ≤ length units) places → (others : List Point) (stands : List Stand) → AllByRecursion Good stands → AtMost others (points_of stands)
      → AllByRecursion (λ point. answers_pass answers units point.family point.at ≡ true) others → AllByRecursion (StandTogether units others) places → AtMost others (points_of (passed places stands))
  passed_above [] within others stands good below whole together = below
  passed_above (place ∷ places) within others stands good below whole together =
      held_above place within.0 others (passed places stands) (good_passed places stands good) (passed_above places within.1 others stands good below whole together.1) whole together.0

  times_above : (n : ℕ) (places : List ℕ) → AllByRecursion (λ place. place - 1 ≤ length units) places → (others : List Point) (stands : List Stand) → AllByRecursion Good stands → AtMost others (points_of stands)
      → AllByRecursion (λ point. answers_pass answers units point.family point.at ≡ true) others → AllByRecursion (StandTogether units others) places → AtMost others (points_of (passed_times n places stands))
  times_above zero places within others stands good below whole together = below
  times_above (suc n) places within others stands good below whole together =
      passed_above places within others (passed_times n places stands) (good_times n places stands good) (times_above n places within others stands good below whole together) whole together

  -- the families stay the same
  same_ids : (a b : List Stand) → Under a b → map (λ (point : Point). point.family) (points_of a) ≡ map (λ (point : Point). point.family) (points_of b)
  unfolding Under
  same_ids [] [] under = refl
  same_ids [] (y ∷ b) under = absurd under
  same_ids (x ∷ a) [] under = absurd under
  same_ids (x ∷ a) (y ∷ b) under = ap (λ course. course.now.family ∷ map (λ (point : Point). point.family) (points_of a)) under.0 ∙ ap (λ more. y.course.now.family ∷ more) (same_ids a b under.2)

  -- families that a group doesn't lower stand together at it
  some_before : (place : ℕ) (stands : List Stand) → list_any (is_before place) stands ≡ true → 0 < place
  some_before place [] e = absurd (false≢true e)
  some_before place (stand ∷ stands) e = elim (or_cases (is_before place stand) (list_any (is_before place) stands) e) [
    | inl here ↦ omega (arith, ltb-true stand.at place (and_parts (nat_lt stand.at place) (is_live_in (turns_of stand) (place - 1)) here).0)
    | inr more ↦ some_before place stands more
  ]

  all_later : (place : ℕ) → place - 1 ≤ length units → (stands : List Stand) → AllByRecursion Good stands → list_any (is_before place) stands ≡ false
      → AllByRecursion (λ point. is_tied units place point.family ≡ true → place ≤ point.at) (points_of stands)
  all_later place within [] good e = tt
  all_later place within (stand ∷ stands) good e =
      let (here, more) = or_parts (is_before place stand) (list_any (is_before place) stands) e in (
        (λ is_tied. elim (cases_lt stand.at place) [
          | inl less ↦ absurd (false≢true (sym here ∙ and_from (nat_lt stand.at place) (is_live_in (turns_of stand) (place - 1)) (lt-ltb stand.at place less) (tied place stand good.0 within ∙ is_tied)))
          | inr later ↦ later
        ]),
        all_later place within stands good.1 more,
      )

  all_before : (place : ℕ) → 0 < place → place - 1 ≤ length units → (stands : List Stand) → AllByRecursion Good stands → held_each place stands ≡ stands
      → AllByRecursion (λ point. is_tied units place point.family ≡ true → point.at < place) (points_of stands)
  all_before place some within [] good fixed = tt
  all_before place some within (stand ∷ stands) good fixed = (here, all_before place some within stands good.1 (cc))
    where
      here : is_tied units place stand.course.now.family ≡ true → stand.at < place
      here is_tied = elim (cases_lt stand.at place) [
        | inl less ↦ less
        | inr later ↦
            let behind = and_from (nat_le place stand.at) (is_live_in (turns_of stand) (place - 1)) (le-leb place stand.at later) (tied place stand good.0 within ∙ is_tied) in
            let next : Stand = record stand { at = held_at place stand } in
            let first : next ≡ stand = cc in
            let at : held_at place stand ≡ stand.at = ap (λ (stand : Stand). stand.at) first in
            let low = last_at_most (turns_of stand) (place - 1) in
            omega (arith, at, low, cond-true (is_behind place stand) (last_whole (turns_of stand) (place - 1)) stand.at behind)
      ]

  stand_together : (place : ℕ) → place - 1 ≤ length units → (stands : List Stand) → AllByRecursion Good stands → held place stands ≡ stands → StandTogether units (points_of stands) place
  stand_together place within stands good fixed = elim (cases_Bool (list_any (is_before place) stands)) [
    | inl before ↦ inr (all_before place (some_before place stands before) within stands good (sym (cond-true (list_any (is_before place) stands) (held_each place stands) stands before) ∙ fixed))
    | inr none ↦ inl (all_later place within stands good none)
  ]

  together_each : (places : List ℕ) → AllByRecursion (λ place. place - 1 ≤ length units) places → (stands : List Stand) → AllByRecursion Good stands → AllByRecursion (λ place. held place stands ≡ stands) places
      → AllByRecursion (StandTogether units (points_of stands)) places
  together_each [] within stands good fixed = tt
  together_each (place ∷ places) within stands good fixed = (stand_together place within.0 stands good fixed.0, together_each places within.1 stands good fixed.1)

  -- families at their last whole points are good, and no points that qualify are above them
  starts_good : (zeros : (id : ℕ) → answers_pass answers units id 0 ≡ true) (stands : List Stand) → AllByRecursion (λ (stand : Stand). Tells units answers stand.course.now) stands
      → AllByRecursion (λ (stand : Stand). IsSound (turns_of stand) → stand.at ≡ last_whole (turns_of stand) (length units)) stands → AllByRecursion Good stands
  starts_good zeros [] told at = tt
  starts_good zeros (stand ∷ stands) told at =
      let sound : IsSound (turns_of stand) = record { rising = told.0.rising; whole = told.0.whole 0 (omega arith) ∙ zeros stand.course.now.family } in
      let is = at.0 sound in (
        record {
          sound = sound;
          told = told.0;
          whole = ap (is_whole_in (turns_of stand)) is ∙ last_is_whole (turns_of stand) (length units) sound;
          within = omega (arith, is, last_at_most (turns_of stand) (length units));
        },
        starts_good zeros stands told.1 at.1,
      )

  starts_above : (others : List Point) (stands : List Stand) → AllByRecursion Good stands → AllByRecursion (λ (stand : Stand). IsSound (turns_of stand) → stand.at ≡ last_whole (turns_of stand) (length units)) stands
      → map (λ (point : Point). point.family) others ≡ map (λ (point : Point). point.family) (points_of stands) → AllByRecursion (λ point. point.at ≤ length units) others
      → AllByRecursion (λ point. answers_pass answers units point.family point.at ≡ true) others → AtMost others (points_of stands)
  starts_above [] [] good at same within whole = tt
  starts_above [] (stand ∷ stands) good at same within whole = absurd cc
  starts_above (o ∷ os) [] good at same within whole = absurd cc
  starts_above (o ∷ os) (stand ∷ stands) good at same within whole =
      let family : o.family ≡ stand.course.now.family = cc in
      let highest = last_greatest (turns_of stand) (length units) o.at within.0 (good.0.told.whole o.at within.0 ∙ ap (λ id. answers_pass answers units id o.at) (sym family) ∙ whole.0) in
      (family, omega (arith, at.0 good.0.sound, highest), starts_above os stands good.1 at.1 (cc) within.1 whole.1)

  told_each : (courses : List Course) (stands : List Stand) → map (λ (stand : Stand). stand.course.now) stands ≡ courses → AllByRecursion (Tells units answers) courses → AllByRecursion (λ (stand : Stand). Tells units answers stand.course.now) stands
  told_each courses [] same told = tt
  told_each [] (stand ∷ stands) same told = absurd cc
  told_each (course ∷ courses) (stand ∷ stands) same told =
      let first : course ≡ stand.course.now = cc in
      (subst (Tells units answers) first told.0, told_each courses stands (cc) told.1)

  are_sound : (zeros : (id : ℕ) → answers_pass answers units id 0 ≡ true) (stands : List Stand) → AllByRecursion (λ (stand : Stand). Tells units answers stand.course.now) stands → AreSound stands
  are_sound zeros [] told = tt
  are_sound zeros (stand ∷ stands) told = (record { rising = told.0.rising; whole = told.0.whole 0 (omega arith) ∙ zeros stand.course.now.family }, are_sound zeros stands told.1)

  -- the turns of courses that follow the units are sound
  pub starts_sound : (zeros : (id : ℕ) → answers_pass answers units id 0 ≡ true) (courses : List Course) (first : List Stand) → Follows units answers courses → map (λ (stand : Stand). stand.course.now) first ≡ courses → AreSound first
  starts_sound zeros courses first follows same = are_sound zeros first (told_each courses first same follows.told)

  ids_of : (stands : List Stand) → map (λ (point : Point). point.family) (points_of stands) ≡ map (λ (course : Course). course.family) (map (λ (stand : Stand). stand.course.now) stands)
  ids_of [] = refl
  ids_of (stand ∷ stands) = ap (λ more. stand.course.now.family ∷ more) (ids_of stands)

  under_times : (n : ℕ) (places : List ℕ) (stands : List Stand) → Under (passed_times n places stands) stands
  under_times zero places stands = under_itself stands
  under_times (suc n) places stands = under_under (passed places (passed_times n places stands)) (passed_times n places stands) stands (under_passed places (passed_times n places stands)) (under_times n places stands)

  -- families that started at their last whole points and that no group lowers any more
  pub greatest : (zeros : (id : ℕ) → answers_pass answers units id 0 ≡ true) (courses : List Course) (first last : List Stand) (n : ℕ) → Follows units answers courses → map (λ (stand : Stand). stand.course.now) first ≡ courses
      → AllByRecursion (λ (stand : Stand). IsSound (turns_of stand) → stand.at ≡ last_whole (turns_of stand) (length units)) first
      → last ≡ passed_times n (group_places 1 units) first → passed (group_places 1 units) last ≡ last → IsGreatest units (answers_pass answers units) (points_of last)
  greatest zeros courses first last n follows same at told fixed =
      let places = group_places 1 units in
      let within = places_below 1 units (length units) (omega arith) in
      let started = starts_good zeros first (told_each courses first same follows.told) at in
      let good : AllByRecursion Good last = subst (AllByRecursion Good) (sym told) (good_times n places first started) in
      let first_ids : map (λ (point : Point). point.family) (points_of first) ≡ map (λ (live : FamilyState). live.id) (last_families units) = ids_of first ∙ ap (map (λ (course : Course). course.family)) same ∙ follows.families in
      let ids : map (λ (point : Point). point.family) (points_of last) ≡ map (λ (live : FamilyState). live.id) (last_families units) = same_ids last first (subst (λ stands. Under stands first) (sym told) (under_times n places first)) ∙ first_ids in
      record {
        qualifies = record {
          vector = record { families = ids; within = each_point Good (λ point. point.at ≤ length units) last (λ stand good. good.within) good };
          whole = each_point Good (λ point. answers_pass answers units point.family point.at ≡ true) last (λ stand good. sym (good.told.whole stand.at good.within) ∙ good.whole) good;
          together = together_each places within last good (each_fixed places last fixed);
        };
        greatest = λ others q.
            subst (λ stands. AtMost others (points_of stands)) (sym told)
            (times_above n places within others first started (starts_above others first started at (q.vector.families ∙ sym first_ids) q.vector.within q.whole) q.whole q.together);
      }
