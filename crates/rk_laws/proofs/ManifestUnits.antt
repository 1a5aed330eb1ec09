-- Edits are parted into units in one way, the one that is computed.
use Rattle.std.proofs.Common.{◌≡◌, ℕ, zero, suc, ◌-◌, ◌<◌, ◌≤◌, Bool, true, false, not, ◌&&◌, cond, List, [], ◌∷◌, ◌++◌, length, take, drop, Option, Some, None, refl, sym, ◌∙◌, ap, arith}
use Rattle.std.specs.Prelude.{nat_eq, nat_le}
use Rattle.std.specs.Option.{option_eq}
use Rattle.std.proofs.Math.Bool.{and-false}
use Rattle.std.proofs.Math.Seq.{take-append_seam, drop-append_seam}
use Rattle.std.proofs.lemmas.Bool.{eqb-true, eq-eqb, leb-true, leb-false, le-leb, lt-leb, false≢true, and_parts, false_from_ne_true}
use Rattle.std.proofs.lemmas.List.{length-append, length-take, length-drop, take-append-drop, take_all}
use Rattle.rk_bytes.specs.Model.LogItems.{Item}
use Rattle.rk_bytes.specs.Model.VersionEdit.{Field, group_in}
use Rattle.rk_bytes.specs.Model.Manifest.{ManifestUnit, Units, stated, UnitsEnd, broken_group, falls, single_unit, group_unit, PartsIntoUnits, no_more, single, whole_group, cut_group, broken, with_unit, parted_units, units_with, edits_of, units_of_items, IsUnits}

abbrev Parted : UnitsEnd → List (List Field) → List ManifestUnit × UnitsEnd → Type 0
Parted ended edits r = PartsIntoUnits ended edits r.0 r.1

states : (told : Option ℕ) (n : ℕ) → option_eq nat_eq told (Some n) ≡ true → told ≡ Some n
states None n e = absurd (false≢true e)
states (Some k) n e = ap Some (eqb-true k n e)

states_not : (told : Option ℕ) (n : ℕ) → (told ≡ Some n → ⊥) → option_eq nat_eq told (Some n) ≡ false
states_not told n other = false_from_ne_true (option_eq nat_eq told (Some n)) (λ e. other (states told n e))

-- the first edit that doesn't state what is left
record Break (n m : ℕ) (edits : List (List Field)) : Type 0 where
  front : List (List Field)
  edit : List Field
  rest : List (List Field)
  whole : edits ≡ front ++ edit ∷ rest
  falling : falls n front ≡ true
  within : length front < m
  other : stated group_in edit ≡ Some (n - length front) → ⊥

first_break : (n m : ℕ) (edits : List (List Field)) → falls n (take m edits) ≡ false → Break n m edits
first_break n zero [] e = absurd (false≢true (sym e))
first_break n zero (edit ∷ edits) e = absurd (false≢true (sym e))
first_break n (suc m) [] e = absurd (false≢true (sym e))
first_break n (suc m) (edit ∷ edits) e = by (option_eq nat_eq (stated group_in edit) (Some n)) refl e (λ e. first_break (n - 1) m edits e)
  where
    by : (test : Bool) → option_eq nat_eq (stated group_in edit) (Some n) ≡ test → (test && falls (n - 1) (take m edits)) ≡ false
        → (falls (n - 1) (take m edits) ≡ false → Break (n - 1) m edits) → Break n (suc m) (edit ∷ edits)
    by true test e next =
        let b = next e in
        let same : n - length (edit ∷ b.front) ≡ n - 1 - length b.front = omega arith in
        record {
          front = edit ∷ b.front;
          edit = b.edit;
          rest = b.rest;
          whole = ap (λ edits. edit ∷ edits) b.whole;
          falling = ap (λ t. t && falls (n - 1) b.front) test ∙ b.falling;
          within = omega (arith, b.within);
          other = λ is. b.other (is ∙ ap Some same);
        }
    by false test e next =
        let same : n - 0 ≡ n = omega arith in
        record {
          front = [];
          edit = edit;
          rest = edits;
          whole = refl;
          falling = refl;
          within = omega arith;
          other = λ is. false≢true (sym test ∙ ap (λ told. option_eq nat_eq told (Some n)) (is ∙ ap Some same) ∙ eq-eqb n n refl);
        }

-- what an edit that states a number is parted into, with what follows its group
group_parts : (ended : UnitsEnd) (edit : List Field) (edits : List (List Field)) (n : ℕ) (r : List ManifestUnit × UnitsEnd) → stated group_in edit ≡ Some n → Parted ended (drop n edits) r
    → (falling : Bool) → falls n (take (suc n) (edit ∷ edits)) ≡ falling → (short : Bool) → nat_le (length (take (suc n) (edit ∷ edits))) n ≡ short
    → Parted ended (edit ∷ edits) (cond (not falling) ([], broken_group) (cond short ([], ended) (with_unit (group_unit (take (suc n) (edit ∷ edits))) r)))
group_parts ended edit edits n r states_n next false falling short is_short = by b.front b.whole b.falling b.within b.other
  where
    b : Break n (suc n) (edit ∷ edits)
    b = first_break n (suc n) (edit ∷ edits) falling

    by : (front : List (List Field)) → (edit ∷ edits) ≡ front ++ b.edit ∷ b.rest → falls n front ≡ true → length front < suc n → (stated group_in b.edit ≡ Some (n - length front) → ⊥)
        → Parted ended (edit ∷ edits) ([], broken_group)
    by [] whole falls_n within other =
        let same : edit ≡ b.edit = cc in
        let zero_less : n ≡ n - 0 = omega arith in
        absurd (other (ap (stated group_in) (sym same) ∙ states_n ∙ ap Some zero_less))
    by (one ∷ front) whole falls_n within other = broken {n = n} {members = one ∷ front} b.edit b.rest whole (record { falling = falls_n; begun = omega arith; fewer = omega arith }) other
group_parts ended edit edits n r states_n next true falling true is_short =
    let few : length (take (suc n) (edit ∷ edits)) ≤ n = leb-true _ _ is_short in
    let all : take (suc n) (edit ∷ edits) ≡ edit ∷ edits = take_all (suc n) (edit ∷ edits) (omega (arith, few, length-take (suc n) (edit ∷ edits))) in
    cut_group {n = n} (record { falling = ap (falls n) (sym all) ∙ falling; begun = omega arith; fewer = omega (arith, few, ap length all) })
group_parts ended edit edits n r states_n next true falling false is_short =
    let many : n < length (take (suc n) (edit ∷ edits)) = leb-false _ _ is_short in
    let len : length (take (suc n) (edit ∷ edits)) ≡ suc n = omega (arith, many, length-take (suc n) (edit ∷ edits)) in
    whole_group {members = take (suc n) (edit ∷ edits)} {rest = drop n edits} n (sym (take-append-drop (suc n) (edit ∷ edits))) falling len next

abbrev by_stated : UnitsEnd → ℕ → List Field → List (List Field) → Option ℕ → List ManifestUnit × UnitsEnd
by_stated ended most edit edits told = elim told [
  | None ↦ with_unit (single_unit edit) (parted_units ended most edits)
  | Some n ↦
      cond (not (falls n (take (suc n) (edit ∷ edits)))) ([], broken_group)
      (cond (nat_le (length (take (suc n) (edit ∷ edits))) n) ([], ended) (with_unit (group_unit (take (suc n) (edit ∷ edits))) (parted_units ended most (drop n edits))))
]

parted : (ended : UnitsEnd) (most : ℕ) (edits : List (List Field)) → length edits ≤ most → Parted ended edits (parted_units ended most edits)
unfolding parted_units
parted ended zero [] few = no_more
parted ended (suc most) [] few = no_more
parted ended zero (edit ∷ edits) few = absurd (omega arith)
parted ended (suc most) (edit ∷ edits) few = by (stated group_in edit) refl (parted ended most edits (omega arith)) (λ n. parted ended most (drop n edits) (omega (arith, length-drop n edits)))
  where
    by : (told : Option ℕ) → stated group_in edit ≡ told → Parted ended edits (parted_units ended most edits) → ((n : ℕ) → Parted ended (drop n edits) (parted_units ended most (drop n edits)))
        → Parted ended (edit ∷ edits) (by_stated ended most edit edits told)
    by None told next later = single told next
    by (Some n) told next later = group_parts ended edit edits n (parted_units ended most (drop n edits)) told (later n) (falls n (take (suc n) (edit ∷ edits))) refl (nat_le (length (take (suc n) (edit ∷ edits))) n) refl

no_edits : (ended : UnitsEnd) (most : ℕ) → parted_units ended most [] ≡ ([], ended)
unfolding parted_units
no_edits ended zero = refl
no_edits ended (suc most) = refl

one_more_edit : (ended : UnitsEnd) (most : ℕ) (edit : List Field) (edits : List (List Field)) → parted_units ended (suc most) (edit ∷ edits) ≡ by_stated ended most edit edits (stated group_in edit)
unfolding parted_units
one_more_edit ended most edit edits = refl

-- an edit within the first so many that doesn't state what is left
falls-broken : (n m : ℕ) (front : List (List Field)) (edit : List Field) (rest : List (List Field)) → length front < m → (stated group_in edit ≡ Some (n - length front) → ⊥) → falls n (take m (front ++ edit ∷ rest)) ≡ false
falls-broken n zero front edit rest within other = absurd (omega arith)
falls-broken n (suc m) [] edit rest within other =
    let same : n - 0 ≡ n = omega arith in
    ap (λ t. t && falls (n - 1) (take m rest)) (states_not (stated group_in edit) n (λ is. other (is ∙ ap Some (sym same))))
falls-broken n (suc m) (one ∷ front) edit rest within other =
    let same : n - length (one ∷ front) ≡ n - 1 - length front = omega arith in
    ap (λ t. option_eq nat_eq (stated group_in one) (Some n) && t) (falls-broken (n - 1) m front edit rest (omega arith) (λ is. other (is ∙ ap Some (sym same))))
    ∙ and-false (option_eq nat_eq (stated group_in one) (Some n))

-- what is parted from an edit that states n, by the tests of its group
stated_group : (ended : UnitsEnd) (most n : ℕ) (edit : List Field) (edits members : List (List Field)) (falling short : Bool) → stated group_in edit ≡ Some n → take (suc n) (edit ∷ edits) ≡ members → falls n members ≡ falling → nat_le (length members) n ≡ short
    → parted_units ended (suc most) (edit ∷ edits) ≡ cond (not falling) ([], broken_group) (cond short ([], ended) (with_unit (group_unit members) (parted_units ended most (drop n edits))))
stated_group ended most n edit edits members falling short told taken is_falling is_short =
    one_more_edit ended most edit edits
    ∙ ap (by_stated ended most edit edits) told
    ∙ ap (λ members. let r : List ManifestUnit × UnitsEnd = cond (not (falls n members)) ([], broken_group) (cond (nat_le (length members) n) ([], ended) (with_unit (group_unit members) (parted_units ended most (drop n edits)))) in r) taken
    ∙ ap (λ falling. let r : List ManifestUnit × UnitsEnd = cond (not falling) ([], broken_group) (cond (nat_le (length members) n) ([], ended) (with_unit (group_unit members) (parted_units ended most (drop n edits)))) in r) is_falling
    ∙ ap (λ short. let r : List ManifestUnit × UnitsEnd = cond (not falling) ([], broken_group) (cond short ([], ended) (with_unit (group_unit members) (parted_units ended most (drop n edits)))) in r) is_short

parted_is : (ended : UnitsEnd) (most : ℕ) (edits : List (List Field)) (units : List ManifestUnit) (why : UnitsEnd) → PartsIntoUnits ended edits units why → length edits ≤ most → parted_units ended most edits ≡ (units, why)
parted_is ended most edits units why no_more few = no_edits ended most
parted_is ended zero edits units why (single told next) few = absurd (omega arith)
parted_is ended (suc most) edits units why (single {edit = edit} {edits = later} {units = more} told next) few =
    one_more_edit ended most edit later
    ∙ ap (by_stated ended most edit later) told
    ∙ ap (with_unit (single_unit edit)) (parted_is ended most later more why next (omega arith))
parted_is ended most edits units why (whole_group {members = []} n whole falling len next) few = absurd (omega arith)
parted_is ended zero edits units why (whole_group {members = one ∷ members} {rest = rest} n whole falling len next) few = absurd (omega (arith, ap length whole))
parted_is ended (suc most) edits units why (whole_group {members = one ∷ members} {rest = rest} {units = more} n whole falling len next) few =
    let n_is : n ≡ length members = omega arith in
    let taken : take (suc n) (one ∷ (members ++ rest)) ≡ one ∷ members = ap (λ n. take (suc n) (one ∷ (members ++ rest))) n_is ∙ take-append_seam (one ∷ members) rest in
    let dropped : drop n (members ++ rest) ≡ rest = ap (λ n. drop n (members ++ rest)) n_is ∙ drop-append_seam members rest in
    ap (parted_units ended (suc most)) whole
    ∙ stated_group ended most n one (members ++ rest) (one ∷ members) true false (states _ n (and_parts _ _ falling).0) taken falling (lt-leb (length (one ∷ members)) n (omega arith))
    ∙ ap (λ rest. with_unit (group_unit (one ∷ members)) (parted_units ended most rest)) dropped
    ∙ ap (with_unit (group_unit (one ∷ members))) (parted_is ended most rest more why next (omega (arith, ap length whole, length-append (one ∷ members) rest)))
parted_is ended most [] units why (cut_group cut) few = absurd (omega (arith, cut.begun))
parted_is ended zero (one ∷ edits) units why (cut_group cut) few = absurd (omega arith)
parted_is ended (suc most) (one ∷ edits) units why (cut_group {n = n} cut) few =
    stated_group ended most n one edits (one ∷ edits) true true (states _ n (and_parts _ _ cut.falling).0) (take_all (suc n) (one ∷ edits) (omega (arith, cut.fewer))) cut.falling (le-leb (length (one ∷ edits)) n cut.fewer)
parted_is ended most edits units why (broken {members = []} edit rest whole cut other) few = absurd (omega (arith, cut.begun))
parted_is ended zero edits units why (broken {members = one ∷ members} edit rest whole cut other) few = absurd (omega (arith, ap length whole))
parted_is ended (suc most) edits units why (broken {n = n} {members = one ∷ members} edit rest whole cut other) few =
    ap (parted_units ended (suc most)) whole
    ∙ stated_group ended most n one (members ++ edit ∷ rest) (take (suc n) (one ∷ (members ++ edit ∷ rest))) false (nat_le (length (take (suc n) (one ∷ (members ++ edit ∷ rest)))) n)
    (states _ n (and_parts _ _ cut.falling).0) refl (falls-broken n (suc n) (one ∷ members) edit rest (omega (arith, cut.fewer)) other) refl

pub IsUnits-units_of_items : (items : List Item) → IsUnits items (units_of_items items)
IsUnits-units_of_items items =
    let read = edits_of items in
    record { ended = (parted_units read.ended (length read.edits) read.edits).1; parted = parted read.ended (length read.edits) read.edits (omega arith); fault = refl }

units_are : (items : List Item) (read : Units) → IsUnits items read → units_of_items items ≡ read
units_are items read is =
    let edits = edits_of items in
    let same : parted_units edits.ended (length edits.edits) edits.edits ≡ (read.units, is.ended) = parted_is edits.ended (length edits.edits) edits.edits read.units is.ended is.parted (omega arith) in
    ap units_with same ∙ ap (λ fault. let with_fault : Units = record { units = read.units; fault = fault } in with_fault) (sym is.fault)

pub same_units : (items : List Item) (read other : Units) → IsUnits items read → IsUnits items other → other ≡ read
same_units items read other is also = sym (units_are items other also) ∙ units_are items read is
