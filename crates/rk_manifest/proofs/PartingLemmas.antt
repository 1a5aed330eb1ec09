-- How edits are parted into units: the room doesn't matter, and each kind of group gives what it is.
use Rattle.std.proofs.Common.{◌≡◌, ℕ, zero, suc, ◌-◌, ◌<◌, ◌≤◌, Bool, true, false, not, ◌&&◌, cond, List, [], ◌∷◌, ◌++◌, length, take, drop, Option, Some, None, refl, sym, ◌∙◌, ap, arith}
use Rattle.std.specs.Prelude.{nat_eq, nat_le}
use Rattle.std.specs.Option.{option_eq}
use Rattle.std.proofs.Math.Bool.{and-false}
use Rattle.std.proofs.Math.Seq.{take-append_seam, drop-append_seam}
use Rattle.std.proofs.lemmas.Bool.{eqb-true, eq-eqb, le-leb, lt-leb, false≢true, and_parts, and_from, false_from_ne_true}
use Rattle.std.proofs.lemmas.List.{length-append, length-drop, take_all}
use Rattle.rk_bytes.specs.Model.VersionEdit.{Field, group_in}
use Rattle.rk_bytes.specs.Model.Manifest.{ManifestUnit, stated, UnitsEnd, broken_group, falls, single_unit, group_unit, with_unit, parted_units}

-- units and what ends them
abbrev Parted : Type 0
Parted = List ManifestUnit × UnitsEnd

-- ---- one edit more

-- what is parted of an edit that states a number, by the first edits of its group and what follows the group
abbrev of_group : UnitsEnd → ℕ → List (List Field) → Parted → Parted
of_group ended n members rest =
    cond (not (falls n members)) ([], broken_group) (cond (nat_le (length members) n) ([], ended) (with_unit (group_unit members) rest))

abbrev by_stated : UnitsEnd → ℕ → List Field → List (List Field) → Option ℕ → Parted
by_stated ended most edit edits told = elim told [
  | None ↦ with_unit (single_unit edit) (parted_units ended most edits)
  | Some n ↦ of_group ended n (take (suc n) (edit ∷ edits)) (parted_units ended most (drop n edits))
]

one_more_edit : (ended : UnitsEnd) (most : ℕ) (edit : List Field) (edits : List (List Field)) → parted_units ended (suc most) (edit ∷ edits) ≡ by_stated ended most edit edits (stated group_in edit)
unfolding parted_units
one_more_edit ended most edit edits = refl

pub no_edits : (ended : UnitsEnd) (most : ℕ) → parted_units ended most [] ≡ ([], ended)
unfolding parted_units
no_edits ended zero = refl
no_edits ended (suc most) = refl

-- the room for edits doesn't matter, where it is enough
pub any_room : (ended : UnitsEnd) (m k : ℕ) (edits : List (List Field)) → length edits ≤ m → length edits ≤ k → parted_units ended m edits ≡ parted_units ended k edits
any_room ended m k [] fits fits' = no_edits ended m ∙ sym (no_edits ended k)
any_room ended zero k (edit ∷ edits) fits fits' = absurd (omega arith)
any_room ended (suc m) zero (edit ∷ edits) fits fits' = absurd (omega arith)
any_room ended (suc m) (suc k) (edit ∷ edits) fits fits' =
    one_more_edit ended m edit edits
    ∙ by (stated group_in edit) (any_room ended m k edits (omega arith) (omega arith))
    (λ n. any_room ended m k (drop n edits) (omega (arith, length-drop n edits)) (omega (arith, length-drop n edits)))
    ∙ sym (one_more_edit ended k edit edits)
  where
    by : (told : Option ℕ) → parted_units ended m edits ≡ parted_units ended k edits → ((n : ℕ) → parted_units ended m (drop n edits) ≡ parted_units ended k (drop n edits))
        → by_stated ended m edit edits told ≡ by_stated ended k edit edits told
    by None same later = ap (with_unit (single_unit edit)) same
    by (Some n) same later = ap (of_group ended n (take (suc n) (edit ∷ edits))) (later n)

pub of_single : (ended : UnitsEnd) (most : ℕ) (edit : List Field) (edits : List (List Field)) → stated group_in edit ≡ None
    → parted_units ended (suc most) (edit ∷ edits) ≡ with_unit (single_unit edit) (parted_units ended most edits)
of_single ended most edit edits told = one_more_edit ended most edit edits ∙ ap (by_stated ended most edit edits) told

-- ---- edits of a group

states : (told : Option ℕ) (n : ℕ) → option_eq nat_eq told (Some n) ≡ true → told ≡ Some n
states None n e = absurd (false≢true e)
states (Some k) n e = ap Some (eqb-true k n e)

states_not : (told : Option ℕ) (n : ℕ) → (told ≡ Some n → ⊥) → option_eq nat_eq told (Some n) ≡ false
states_not told n other = false_from_ne_true (option_eq nat_eq told (Some n)) (λ e. other (states told n e))

states_so : (told : Option ℕ) (n : ℕ) → told ≡ Some n → option_eq nat_eq told (Some n) ≡ true
states_so told n is = ap (λ told. option_eq nat_eq told (Some n)) is ∙ eq-eqb n n refl

-- one more edit, which states what is left
pub falls-push : (n : ℕ) (edits : List (List Field)) (edit : List Field) → falls n edits ≡ true → stated group_in edit ≡ Some (n - length edits) → falls n (edits ++ edit ∷ []) ≡ true
falls-push n [] edit falling told =
    let same : n - 0 ≡ n = omega arith in
    and_from (option_eq nat_eq (stated group_in edit) (Some n)) true (states_so (stated group_in edit) n (told ∙ ap Some same)) refl
falls-push n (one ∷ edits) edit falling told =
    let (first, more) = and_parts (option_eq nat_eq (stated group_in one) (Some n)) (falls (n - 1) edits) falling in
    let same : n - length (one ∷ edits) ≡ n - 1 - length edits = omega arith in
    and_from (option_eq nat_eq (stated group_in one) (Some n)) (falls (n - 1) (edits ++ edit ∷ [])) first (falls-push (n - 1) edits edit more (told ∙ ap Some same))

-- an edit within the first so many that doesn't state what is left
falls-broken : (n m : ℕ) (front : List (List Field)) (edit : List Field) (rest : List (List Field)) → length front < m → (stated group_in edit ≡ Some (n - length front) → ⊥) → falls n (take m (front ++ edit ∷ rest)) ≡ false
falls-broken n zero front edit rest within other = absurd (omega arith)
falls-broken n (suc m) [] edit rest within other =
    let same : n - 0 ≡ n = omega arith in
    ap (λ t. t && falls (n - 1) (take m rest)) (states_not (stated group_in edit) n (λ is. other (is ∙ ap Some (sym same))))
falls-broken n (suc m) (one ∷ front) edit rest within other =
    let same : n - length (one ∷ front) ≡ n - 1 - length front = omega arith in
    ap (λ t. option_eq nat_eq (stated group_in one) (Some n) && t) (falls-broken (n - 1) m front edit rest (omega arith) (λ is. other (is ∙ ap Some (sym same))))
    ∙ and-false (option_eq nat_eq (stated group_in one) (Some n))

-- what is parted from an edit that states n, by the tests of its group
stated_group : (ended : UnitsEnd) (most n : ℕ) (edit : List Field) (edits members : List (List Field)) (falling short : Bool) → stated group_in edit ≡ Some n → take (suc n) (edit ∷ edits) ≡ members → falls n members ≡ falling → nat_le (length members) n ≡ short
    → parted_units ended (suc most) (edit ∷ edits) ≡ cond (not falling) ([], broken_group) (cond short ([], ended) (with_unit (group_unit members) (parted_units ended most (drop n edits))))
stated_group ended most n edit edits members falling short told taken is_falling is_short =
    let rest : Parted = parted_units ended most (drop n edits) in
    one_more_edit ended most edit edits
    ∙ ap (by_stated ended most edit edits) told
    ∙ ap (λ members. of_group ended n members rest) taken
    ∙ ap (λ falling. let r : Parted = cond (not falling) ([], broken_group) (cond (nat_le (length members) n) ([], ended) (with_unit (group_unit members) rest)) in r) is_falling
    ∙ ap (λ short. let r : Parted = cond (not falling) ([], broken_group) (cond short ([], ended) (with_unit (group_unit members) rest)) in r) is_short

-- a whole group
pub of_whole_group : (ended : UnitsEnd) (most n : ℕ) (members edits : List (List Field)) → falls n members ≡ true → length members ≡ suc n → length (members ++ edits) ≤ most
    → parted_units ended most (members ++ edits) ≡ with_unit (group_unit members) (parted_units ended (length edits) edits)
of_whole_group ended most n [] edits falling len fits = absurd (omega arith)
of_whole_group ended zero n (one ∷ members) edits falling len fits = absurd (omega arith)
of_whole_group ended (suc most) n (one ∷ members) edits falling len fits =
    let n_is : n ≡ length members = omega arith in
    let taken : take (suc n) (one ∷ (members ++ edits)) ≡ one ∷ members = ap (λ n. take (suc n) (one ∷ (members ++ edits))) n_is ∙ take-append_seam (one ∷ members) edits in
    let dropped : drop n (members ++ edits) ≡ edits = ap (λ n. drop n (members ++ edits)) n_is ∙ drop-append_seam members edits in
    let fewer : length edits ≤ most = omega (arith, fits, length-append (one ∷ members) edits) in
    stated_group ended most n one (members ++ edits) (one ∷ members) true false (states _ n (and_parts _ _ falling).0) taken falling (lt-leb (length (one ∷ members)) n (omega arith))
    ∙ ap (λ rest. with_unit (group_unit (one ∷ members)) (parted_units ended most rest)) dropped
    ∙ ap (with_unit (group_unit (one ∷ members))) (any_room ended most (length edits) edits fewer (omega arith))

-- a group that the edits' end cuts off
pub of_cut_group : (ended : UnitsEnd) (most n : ℕ) (edits : List (List Field)) → falls n edits ≡ true → 0 < length edits → length edits ≤ n → length edits ≤ most → parted_units ended most edits ≡ ([], ended)
of_cut_group ended most n [] falling begun short fits = absurd (omega arith)
of_cut_group ended zero n (one ∷ edits) falling begun short fits = absurd (omega arith)
of_cut_group ended (suc most) n (one ∷ edits) falling begun short fits =
    stated_group ended most n one edits (one ∷ edits) true true (states _ n (and_parts _ _ falling).0) (take_all (suc n) (one ∷ edits) (omega arith)) falling (le-leb (length (one ∷ edits)) n short)

-- a group in which an edit doesn't state what is left
pub of_broken_group : (ended : UnitsEnd) (most n : ℕ) (members : List (List Field)) (edit : List Field) (edits : List (List Field)) → falls n members ≡ true → 0 < length members → length members ≤ n
    → (stated group_in edit ≡ Some (n - length members) → ⊥) → length (members ++ edit ∷ edits) ≤ most → parted_units ended most (members ++ edit ∷ edits) ≡ ([], broken_group)
of_broken_group ended most n [] edit edits falling begun fewer other fits = absurd (omega arith)
of_broken_group ended zero n (one ∷ members) edit edits falling begun fewer other fits = absurd (omega arith)
of_broken_group ended (suc most) n (one ∷ members) edit edits falling begun fewer other fits =
    stated_group ended most n one (members ++ edit ∷ edits) (take (suc n) (one ∷ (members ++ edit ∷ edits))) false (nat_le (length (take (suc n) (one ∷ (members ++ edit ∷ edits)))) n)
    (states _ n (and_parts _ _ falling).0) refl (falls-broken n (suc n) (one ∷ members) edit edits (omega arith) other) refl
