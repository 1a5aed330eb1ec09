-- What holding families at groups does to them.
use Rattle.std.proofs.Common.{◌≡◌, ℕ, zero, suc, ◌+◌, ◌-◌, ◌<◌, ◌≤◌, Bool, true, false, cond, List, [], ◌∷◌, ◌++◌, length, take, drop, set, get_or, refl, sym, subst, ap, ◌∙◌, arith, inl, inr, append_assoc}
use Rattle.std.specs.Prelude.{nat_le}
use Rattle.std.specs.List.{list_any, sum_by}
use Rattle.std.proofs.lemmas.Bool.{and_parts, leb-true, cases_Bool, cond-true, cond-false}
use Rattle.std.proofs.lemmas.List.{drop_more, take_more, get_or_at, set_at, set-get_or, map-append, length-take-le}
use Rattle.std.proofs.lemmas.List.Sums.{sum_by-set}
use Rattle.std.proofs.Math.ListN.{length-map}
use Rattle.rk_points.specs.declared.descent.Stand.{Stand}
use Rattle.rk_points.specs.Courses.{is_live_in}
use Rattle.rk_points.specs.Descents.{IsSound, AreSound, last_whole, turns_of, is_before, is_behind, held_at, held_each, held, passed}
use Rattle.rk_points.proofs.DescentTurns.{last_at_most}

-- a family held at a group is no higher
pub held_at_most : (place : ℕ) (stand : Stand) → held_at place stand ≤ stand.at
held_at_most place stand = elim (cases_Bool (is_behind place stand)) [
  | inl behind ↦
      let lowest = last_at_most (turns_of stand) (place - 1) in
      let within = leb-true place stand.at (and_parts (nat_le place stand.at) (is_live_in (turns_of stand) (place - 1)) behind).0 in
      omega (arith, cond-true (is_behind place stand) (last_whole (turns_of stand) (place - 1)) stand.at behind)
  | inr other ↦ omega (arith, cond-false (is_behind place stand) (last_whole (turns_of stand) (place - 1)) stand.at other)
]

-- the next family is as it was
pub next_is : (place : ℕ) (first stands : List Stand) (i : ℕ) (item : Stand) → i < length first → stands ≡ held_each place (take i first) ++ drop i first → item ≡ get_or stands i item → item ≡ get_or first i item
next_is place first stands i item inside so is =
    let x = get_or first i item in
    let done = held_each place (take i first) in
    let rest = drop (i + 1) first in
    let holds = λ (stand : Stand). let next : Stand = record stand { at = held_at place stand } in next in
    let long : length done ≡ i = length-map (take i first) holds ∙ length-take-le i first (omega arith) in
    is ∙ ap (λ stands. get_or stands i item) (so ∙ ap (λ more. done ++ more) (drop_more first i item inside)) ∙ get_or_at done x rest item i long

-- one more family is held
pub held_more : (place : ℕ) (first stands : List Stand) (i : ℕ) (item : Stand) → i < length first → stands ≡ held_each place (take i first) ++ drop i first → item ≡ get_or stands i item
    → set stands i (record item { at = held_at place item }) ≡ held_each place (take (i + 1) first) ++ drop (i + 1) first
held_more place first stands i item inside so is =
    let x = get_or first i item in
    let done = held_each place (take i first) in
    let rest = drop (i + 1) first in
    let holds = λ (stand : Stand). let next : Stand = record stand { at = held_at place stand } in next in
    let long : length done ≡ i = length-map (take i first) holds ∙ length-take-le i first (omega arith) in
    let now : stands ≡ done ++ x ∷ rest = so ∙ ap (λ more. done ++ more) (drop_more first i item inside) in
    let same : item ≡ x = next_is place first stands i item inside so is in
    let told : held_each place (take (i + 1) first) ≡ done ++ holds x ∷ [] = ap (held_each place) (take_more first i item inside) ∙ map-append holds (take i first) (x ∷ []) in
    ap (λ stands. set stands i (holds item)) now ∙ set_at done x rest (holds item) i long ∙ ap (λ stand. done ++ holds stand ∷ rest) same
    ∙ sym (ap (λ front. front ++ rest) told ∙ append_assoc done (holds x ∷ []) rest)

-- a family that isn't lowered is held already
pub held_already : (place : ℕ) (stands : List Stand) (i : ℕ) (item : Stand) → item ≡ get_or stands i item → item.at ≤ held_at place item → stands ≡ set stands i (record item { at = held_at place item })
held_already place stands i item is none =
    let at : item.at ≡ held_at place item = omega (arith, held_at_most place item) in
    sym (ap (λ at. let next : Stand = record item { at = at } in set stands i next) (sym at) ∙ ap (set stands i) is ∙ set-get_or stands i item)

-- the sum where one family is lowered
pub sum_lower : (stands : List Stand) (i at : ℕ) (item : Stand) → i < length stands → item ≡ get_or stands i item → at < item.at
    → sum_by (λ (stand : Stand). stand.at) (set stands i (record item { at = at })) < sum_by (λ (stand : Stand). stand.at) stands
sum_lower stands i at item inside is less =
    let next : Stand = record item { at = at } in
    omega (arith, sum_by-set (λ (stand : Stand). stand.at) stands i next item inside, ap (λ (stand : Stand). stand.at) is)

-- what holds of each family
pub sound_at : (stands : List Stand) (i : ℕ) (d : Stand) → i < length stands → AreSound stands → IsSound (turns_of (get_or stands i d))
sound_at [] i d inside sound = absurd (omega arith)
sound_at (stand ∷ stands) zero d inside sound = sound.0
sound_at (stand ∷ stands) (suc i) d inside sound = sound_at stands i d (omega arith) sound.1

sound_each : (place : ℕ) (stands : List Stand) → AreSound stands → AreSound (held_each place stands)
sound_each place [] sound = tt
sound_each place (stand ∷ stands) sound = (sound.0, sound_each place stands sound.1)

pub sound_held : (place : ℕ) (stands : List Stand) → AreSound stands → AreSound (held place stands)
sound_held place stands sound = by (list_any (is_before place) stands)
  where
    by : (told : Bool) → AreSound (cond told (held_each place stands) stands)
    by true = sound_each place stands sound
    by false = sound

pub sound_passed : (places : List ℕ) (stands : List Stand) → AreSound stands → AreSound (passed places stands)
sound_passed [] stands sound = sound
sound_passed (place ∷ places) stands sound = sound_held place (passed places stands) (sound_passed places stands sound)

-- the last of the groups acts first
passed_last : (places : List ℕ) (place : ℕ) (stands : List Stand) → passed (places ++ place ∷ []) stands ≡ passed places (held place stands)
passed_last [] place stands = refl
passed_last (first ∷ places) place stands = ap (held first) (passed_last places place stands)

passed_more : (places fewer : List ℕ) (place : ℕ) (stands : List Stand) → places ≡ fewer ++ place ∷ [] → passed fewer (held place stands) ≡ passed places stands
passed_more places fewer place stands more = sym (ap (λ places. passed places stands) more ∙ passed_last fewer place stands)

-- families of which the last of the groups is done, so that fewer are left
pub next_group : (places fewer all : List ℕ) (place : ℕ) (first stands next : List Stand) → places ≡ fewer ++ place ∷ [] → (AreSound stands → next ≡ held place stands) → (AreSound first → AreSound stands × (passed places stands ≡ passed all first))
    → AreSound first → AreSound next × (passed fewer next ≡ passed all first)
next_group places fewer all place first stands next more now before sound =
    let (still, told) = before sound in
    let is = now still in
    (subst AreSound (sym is) (sound_held place stands still), ap (passed fewer) is ∙ passed_more places fewer place stands more ∙ told)
