-- Turns in order: where a point falls among them, and the last point at which all files are whole.
use Rattle.std.proofs.Common.{◌≡◌, ℕ, zero, suc, ◌-◌, ◌<◌, ◌≤◌, Bool, true, false, cond, List, [], ◌∷◌, length, map, take, filter, get_or, Option, Some, None, refl, sym, subst, ap, ◌∙◌, arith, inl, inr}
use Rattle.std.specs.Prelude.{nat_le}
use Rattle.std.specs.List.{last_or}
use Rattle.std.specs.List.Sorted.{IsPartitionPoint, IsPartitionedBy, IsNonDecreasingBy}
use Rattle.std.proofs.lemmas.Bool.{cases_eq, le-leb, lt-leb, leb-true, leb-false, false≢true, cases_Bool, cond-true, cond-false}
use Rattle.std.proofs.lemmas.List.{get_or-map, get_or_default}
use Rattle.std.proofs.lemmas.List.Sorted.{IsPartitionedBy-leb}
use Rattle.std.proofs.lemmas.Map.Keys.{below_from_sorted}
use Rattle.std.proofs.Math.ListN.{length-map}
use Rattle.rk_points.specs.declared.course.Turn.{Turn}
use Rattle.rk_points.specs.Courses.{turn_at, is_live_in, is_whole_in}
use Rattle.rk_points.specs.Descents.{Rises, IsSound, last_whole}

-- The first turns, so many, are those at the point or before it.
abbrev pub Parts : List Turn → ℕ → ℕ → Type 0
Parts turns point n = IsPartitionPoint (λ turn. turn.at ≤ point) (λ turn. point < turn.at) turns n

rises_at : (turns : List Turn) → Rises turns → (i j : ℕ) (d : Turn) → i < j → j < length turns → (get_or turns i d).at < (get_or turns j d).at
rises_at turns rising i j d less inside =
    let ats = map (λ (turn : Turn). turn.at) turns in
    let long : length ats ≡ length turns = length-map turns (λ (turn : Turn). turn.at) in
    let below = below_from_sorted ats i j d.at rising less (omega (arith, long)) in
    omega (arith, below, get_or-map (λ (turn : Turn). turn.at) turns i d d.at (omega arith), get_or-map (λ (turn : Turn). turn.at) turns j d d.at inside)

never_less : (turns : List Turn) → Rises turns → IsNonDecreasingBy (λ turn. turn.at) turns
never_less turns rising i j d at_most inside = elim (cases_eq i j) [
  | inl same ↦ let e : (get_or turns i d).at ≡ (get_or turns j d).at = ap (λ k. (get_or turns k d).at) same in omega arith
  | inr other ↦ omega (arith, rises_at turns rising i j d (omega arith) inside)
]

pub are_parted : (turns : List Turn) (point : ℕ) → Rises turns → IsPartitionedBy (λ turn. nat_le turn.at point) turns
are_parted turns point rising = IsPartitionedBy-leb (λ (turn : Turn). turn.at) turns point (never_less turns rising)

pub parts_from : (turns : List Turn) (point n : ℕ) → IsPartitionPoint (λ turn. nat_le turn.at point ≡ true) (λ turn. nat_le turn.at point ≡ false) turns n → Parts turns point n
parts_from turns point n parts = ((λ k d low high. leb-true (get_or turns k d).at point (parts.0 k d low high)), (λ k d low high. leb-false (get_or turns k d).at point (parts.1 k d low high)))

filtered : (turns : List Turn) (point n : ℕ) → n ≤ length turns → Parts turns point n → filter (λ (turn : Turn). nat_le turn.at point) turns ≡ take n turns
filtered [] point zero bound parts = refl
filtered [] point (suc n) bound parts = absurd (omega arith)
filtered (turn ∷ turns) point zero bound parts =
    let rest = filter (λ (turn : Turn). nat_le turn.at point) turns in
    ap (λ b. cond b (turn ∷ rest) rest) (lt-leb turn.at point (parts.1 0 turn (omega arith) (omega arith)))
    ∙ filtered turns point zero (omega arith) ((λ k d low high. absurd (omega arith)), (λ k d low high. parts.1 (suc k) d (omega arith) (omega arith)))
filtered (turn ∷ turns) point (suc n) bound parts =
    let rest = filter (λ (turn : Turn). nat_le turn.at point) turns in
    ap (λ b. cond b (turn ∷ rest) rest) (le-leb turn.at point (parts.0 0 turn (omega arith) (omega arith)))
    ∙ ap (λ more. turn ∷ more) (filtered turns point n (omega arith) ((λ k d low high. parts.0 (suc k) d (omega arith) (omega arith)), (λ k d low high. parts.1 (suc k) d (omega arith) (omega arith))))

last_of : (turns : List Turn) (n : ℕ) (d : Turn) (o : Option Turn) → n < length turns → last_or o (take (suc n) turns) ≡ Some (get_or turns n d)
last_of [] n d o inside = absurd (omega arith)
last_of (turn ∷ turns) zero d o inside = refl
last_of (turn ∷ turns) (suc n) d o inside = last_of turns n d (Some turn) (omega arith)

turn_before : (turns : List Turn) (point n : ℕ) (d : Turn) → 0 < n → n ≤ length turns → Parts turns point n → turn_at turns point ≡ Some (get_or turns (n - 1) d)
turn_before turns point zero d some bound parts = absurd (omega arith)
turn_before turns point (suc n) d some bound parts =
    let e : n ≡ suc n - 1 = omega arith in
    ap (last_or None) (filtered turns point (suc n) bound parts) ∙ last_of turns n d None (omega arith) ∙ ap (λ k. Some (get_or turns k d)) e

no_turn : (turns : List Turn) (point : ℕ) → Parts turns point 0 → turn_at turns point ≡ None
no_turn turns point parts = ap (last_or None) (filtered turns point 0 (omega arith) parts)

abbrev live_of : Option Turn → Bool
live_of found = elim found [ Some turn ↦ turn.live | None ↦ false ]

abbrev whole_of : Option Turn → Bool
whole_of found = elim found [ Some turn ↦ turn.whole | None ↦ true ]

pub live_before : (turns : List Turn) (point n : ℕ) (d : Turn) → 0 < n → n ≤ length turns → Parts turns point n → is_live_in turns point ≡ (get_or turns (n - 1) d).live
live_before turns point n d some bound parts = ap live_of (turn_before turns point n d some bound parts)

pub not_live : (turns : List Turn) (point : ℕ) → Parts turns point 0 → is_live_in turns point ≡ false
not_live turns point parts = ap live_of (no_turn turns point parts)

pub whole_before : (turns : List Turn) (point n : ℕ) (d : Turn) → 0 < n → n ≤ length turns → Parts turns point n → is_whole_in turns point ≡ (get_or turns (n - 1) d).whole
whole_before turns point n d some bound parts = ap whole_of (turn_before turns point n d some bound parts)

pub whole_first : (turns : List Turn) (point : ℕ) → Parts turns point 0 → is_whole_in turns point ≡ true
whole_first turns point parts = ap whole_of (no_turn turns point parts)

pub last_here : (turns : List Turn) (point : ℕ) → is_whole_in turns point ≡ true → last_whole turns point ≡ point
unfolding last_whole
last_here turns zero whole = refl
last_here turns (suc point) whole = cond-true (is_whole_in turns (suc point)) (suc point) (last_whole turns point) whole

last_below : (turns : List Turn) (point : ℕ) → is_whole_in turns (suc point) ≡ false → last_whole turns (suc point) ≡ last_whole turns point
unfolding last_whole
last_below turns point broken = cond-false (is_whole_in turns (suc point)) (suc point) (last_whole turns point) broken

pub last_at_most : (turns : List Turn) (point : ℕ) → last_whole turns point ≤ point
unfolding last_whole
last_at_most turns zero = omega arith
last_at_most turns (suc point) = by (is_whole_in turns (suc point)) (last_at_most turns point)
  where
    by : (told : Bool) → last_whole turns point ≤ point → cond told (suc point) (last_whole turns point) ≤ suc point
    by true rest = omega arith
    by false rest = omega arith

pub last_is_whole : (turns : List Turn) (point : ℕ) → IsSound turns → is_whole_in turns (last_whole turns point) ≡ true
unfolding last_whole
last_is_whole turns zero sound = sound.whole
last_is_whole turns (suc point) sound = elim (cases_Bool (is_whole_in turns (suc point))) [
  | inl whole ↦ ap (is_whole_in turns) (last_here turns (suc point) whole) ∙ whole
  | inr broken ↦ ap (is_whole_in turns) (last_below turns point broken) ∙ last_is_whole turns point sound
]

pub last_greatest : (turns : List Turn) (point q : ℕ) → q ≤ point → is_whole_in turns q ≡ true → q ≤ last_whole turns point
last_greatest turns zero q within whole = omega arith
last_greatest turns (suc point) q within whole = elim (cases_Bool (is_whole_in turns (suc point))) [
  | inl here ↦ omega (arith, last_here turns (suc point) here)
  | inr broken ↦
      let other : q ≡ suc point → ⊥ = λ same. false≢true (sym broken ∙ ap (is_whole_in turns) (sym same) ∙ whole) in
      let less : q ≤ point = omega (arith, other) in
      omega (arith, last_below turns point broken, last_greatest turns point q less whole)
]

none_between : (turns : List Turn) (low point : ℕ) → low ≤ point → ((q : ℕ) → low < q → q ≤ point → is_whole_in turns q ≡ false) → last_whole turns point ≡ last_whole turns low
none_between turns low zero within none = let e : 0 ≡ low = omega arith in ap (last_whole turns) e
none_between turns low (suc point) within none = elim (cases_eq low (suc point)) [
  | inl same ↦ ap (last_whole turns) (sym same)
  | inr other ↦
      let less : low ≤ point = omega (arith, other) in
      last_below turns point (none (suc point) (omega arith) (omega arith)) ∙ none_between turns low point less (λ q above below. none q above (omega arith))
]

-- no point from the last turn on is whole
module _ (turns : List Turn) (sound : IsSound turns) (at n : ℕ) (d : Turn) (inside : n < length turns) (parts : Parts turns at (suc n)) (broken : (get_or turns n d).whole ≡ false) where
  abbrev turn : Turn
  turn = get_or turns n d

  up_to : (k : ℕ) (e : Turn) → k ≤ n → (get_or turns k e).at ≤ turn.at
  up_to k e low = let same = ap (λ (t : Turn). t.at) (get_or_default turns n e d inside) in omega (arith, same, never_less turns sound.rising k n e low inside)

  from_on : (k : ℕ) (e : Turn) → n ≤ k → k < length turns → turn.at ≤ (get_or turns k e).at
  from_on k e high within = let same = ap (λ (t : Turn). t.at) (get_or_default turns n e d inside) in omega (arith, same, never_less turns sound.rising n k e high within)

  earlier : (k : ℕ) (e : Turn) → k < n → (get_or turns k e).at < turn.at
  earlier k e low = let same = ap (λ (t : Turn). t.at) (get_or_default turns n e d inside) in omega (arith, same, rises_at turns sound.rising k n e low inside)

  broken_at : (q : ℕ) → turn.at ≤ q → q ≤ at → is_whole_in turns q ≡ false
  broken_at q low high =
      let e : suc n - 1 ≡ n = omega arith in
      whole_before turns q (suc n) d (omega arith) (omega arith) ((λ k e low' high'. omega (arith, up_to k e (omega arith))), (λ k e low' high'. omega (arith, parts.1 k e low' high'))) ∙ ap (λ k. (get_or turns k d).whole) e ∙ broken

  at_or_before : turn.at ≤ at
  at_or_before = parts.0 n d (omega arith) (omega arith)

  positive : (m : ℕ) → turn.at ≡ m → 0 < m
  positive zero e = absurd (false≢true (sym (broken_at 0 (omega arith) (omega arith)) ∙ sound.whole))
  positive (suc m) e = omega arith

  lower : last_whole turns at ≡ last_whole turns (turn.at - 1)
  lower =
      let some = positive turn.at refl in
      none_between turns (turn.at - 1) at (omega (arith, at_or_before)) (λ q above below. broken_at q (omega arith) below)

  lower_parts : Parts turns (turn.at - 1) n
  lower_parts =
      let some = positive turn.at refl in
      ((λ k e low high. omega (arith, earlier k e high)), (λ k e low high. omega (arith, from_on k e low high)))

pub lowered : (turns : List Turn) → IsSound turns → (at left : ℕ) (d : Turn) → 0 < left → left ≤ length turns → Parts turns at left → (get_or turns (left - 1) d).whole ≡ false
    → (last_whole turns at ≡ last_whole turns ((get_or turns (left - 1) d).at - 1)) × Parts turns ((get_or turns (left - 1) d).at - 1) (left - 1)
lowered turns sound at zero d some bound parts broken = absurd (omega arith)
lowered turns sound at (suc n) d some bound parts broken =
    let e : n ≡ suc n - 1 = omega arith in
    let same = ap (λ k. (get_or turns k d).whole) e ∙ broken in
    let P : ℕ → Type 0 = λ k. (last_whole turns at ≡ last_whole turns ((get_or turns k d).at - 1)) × Parts turns ((get_or turns k d).at - 1) k in
    subst P e (lower turns sound at n d (omega arith) parts same, lower_parts turns sound at n d (omega arith) parts same)
