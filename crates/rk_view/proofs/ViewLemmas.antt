-- What comes next at a key, among records in the order of their slots.
use Rattle.std.proofs.Common.{◌≡◌, ◌≢◌, ℕ, ◌^◌, ◌<◌, ◌≤◌, Bool, true, false, not, cond, T, List, [], ◌∷◌, ◌++◌, map, refl, sym, ap, subst, ◌∙◌, arith, eq-eqb}
use Rattle.std.proofs.lemmas.Bool.Decides.{nat_tests}
use Rattle.std.proofs.lemmas.Bool.{eqb-true}
use Rattle.std.proofs.lemmas.Map.Text.{is_eq-slice_cmp}
use Rattle.std.specs.Prelude.{Some, None, find, filter, bytes_eq, ◌==◌, ◌&&◌, nat_lt, ◌||◌, is_some}
use Rattle.std.specs.List.{AllByRecursion, list_any, reduce}
use Rattle.std.specs.declared.cmp.Ordering.{Ordering}
use Rattle.std.specs.declared.cmp.Ordering.TheVariants.{Less, Equal, Greater}
use Rattle.std.specs.Ordering.{nat_cmp, ordering_then, is_lt, is_gt, is_eq}
use Rattle.std.specs.Cmp.{nat_cmp_total, tied_itself}
use Rattle.std.specs.Cmp.Lexicographic.{slice_cmp, nat_list_cmp_total}
use Rattle.std.specs.FinMap.{nat_cmp-IsAntisymmetric}
use Rattle.std.specs.FinMap.Entries.{below_all}
use Rattle.rk_bytes.specs.declared.model.key.Kind.{Kind}
use Rattle.rk_bytes.specs.declared.model.key.Kind.TheVariants.{Deletion, Value, Merge, SingleDeletion, RangeDeletion}
use Rattle.rk_bytes.specs.declared.model.key.Record.{Record}
use Rattle.rk_bytes.specs.declared.model.view.Tomb.{Tomb}
use Rattle.rk_bytes.specs.Model.InternalKey.{packed_of, top_sequence}
use Rattle.rk_bytes.specs.Model.Records.{slot_cmp, slot_of, entry_of, end_of}
use Rattle.rk_bytes.specs.Model.KeyView.{is_point, is_of_key, is_covered, uncovered}
use Rattle.rk_view.specs.Places.{is_after}
use Rattle.rk_view.specs.Maps.{AreNumbered}
use Rattle.rk_view.proofs.SlotOrder.{same_text, slots_by_head, after_rises, head_cmp, head_of}
use Rattle.rk_view.proofs.RunLemmas.{both_true, lt-Less, Rises}
use Rattle.rk_view.proofs.FirstLemmas.{equal}
use Rattle.rk_view.proofs.TableLemmas.{kind_number-byte}

-- a test that is met by all that pass another changes nothing after it
pub filter_twice : {A : Type 0} (t q : A → Bool) (xs : List A) → AllByRecursion (λ y. t y ≡ true → q y ≡ true) xs → filter t (filter q xs) ≡ filter t xs
filter_twice t q [] all = refl
filter_twice t q (x ∷ xs) all = by (q x) (t x) refl refl (filter_twice t q xs all.1) all.0
  where
    by : (b c : Bool) → q x ≡ b → t x ≡ c → filter t (filter q xs) ≡ filter t xs → (t x ≡ true → q x ≡ true) → filter t (cond b (x ∷ filter q xs) (filter q xs)) ≡ cond c (x ∷ filter t xs) (filter t xs)
    by true true b c later meets = ap (λ e. cond e (x ∷ filter t (filter q xs)) (filter t (filter q xs))) c ∙ ap (λ ys. x ∷ ys) later
    by true false b c later meets = ap (λ e. cond e (x ∷ filter t (filter q xs)) (filter t (filter q xs))) c ∙ later
    by false true b c later meets = absurd (let no : true ≡ false = sym (meets c) ∙ b in cc)
    by false false b c later meets = later

pub filter_none : {A : Type 0} (t : A → Bool) (xs : List A) → AllByRecursion (λ y. t y ≡ false) xs → filter t xs ≡ []
filter_none t [] all = refl
filter_none t (x ∷ xs) all = ap (λ b. cond b (x ∷ filter t xs) (filter t xs)) all.0 ∙ filter_none t xs all.1

pub filter_all : {A : Type 0} (t : A → Bool) (xs : List A) → AllByRecursion (λ y. t y ≡ true) xs → filter t xs ≡ xs
filter_all t [] all = refl
filter_all t (x ∷ xs) all = ap (λ b. cond b (x ∷ filter t xs) (filter t xs)) all.0 ∙ ap (λ ys. x ∷ ys) (filter_all t xs all.1)

pub find_filter : {A : Type 0} (p : A → Bool) (xs : List A) → find p xs ≡ None → filter p xs ≡ []
find_filter p [] none = refl
find_filter p (x ∷ xs) none = by (p x) none (find_filter p xs)
  where
    by : (b : Bool) → cond b (Some x) (find p xs) ≡ None → (find p xs ≡ None → filter p xs ≡ []) → cond b (x ∷ filter p xs) (filter p xs) ≡ []
    by true none later = cc
    by false none later = later none

-- each record of the rest follows a record
pub each_later : (P : Record → Type 0) (r : Record) (run : List Record) → T (below_all slot_cmp (slot_of r) (map entry_of run)) → ((y : Record) → slot_cmp (slot_of r) (slot_of y) ≡ Less → P y) → AllByRecursion P run
each_later P r [] below holds = tt
each_later P r (y ∷ run) below holds =
    let parts = both_true (is_lt (slot_cmp (slot_of r) (slot_of y))) _ below in
    (holds y (lt-Less _ parts.0), each_later P r run parts.1 holds)

pub less_not_gt : (o : Ordering) → o ≡ Less → is_gt o ≡ false
less_not_gt o e = ap is_gt e

-- what follows a record that comes after a place does so too
pub follows : (family : ℕ) (user : List ℕ) (below : ℕ) (r y : Record) → is_after family user below r ≡ true → slot_cmp (slot_of r) (slot_of y) ≡ Less → is_after family user below y ≡ true
follows family user below r y after less = after_rises family user below r y (less_not_gt _ less) after

lt_of : (a b : ℕ) → is_lt (nat_cmp a b) ≡ true → a < b
lt_of a b e = by (nat_lt a b) (a == b) refl e
  where
    by : (l m : Bool) → nat_lt a b ≡ l → is_lt (cond l Less (cond m Equal Greater)) ≡ true → a < b
    by true m is e = grind (arith, nat_tests)
    by false true is e = cc
    by false false is e = cc

pub not_lt : (a b : ℕ) → b ≤ a → is_lt (nat_cmp a b) ≡ false
not_lt a b le = by (nat_lt a b) (a == b) refl
  where
    by : (l m : Bool) → nat_lt a b ≡ l → is_lt (cond l Less (cond m Equal Greater)) ≡ false
    by true m is = absurd (let less : a < b = grind (arith, nat_tests) in omega arith)
    by false true is = refl
    by false false is = refl

pub is_lt_of : (a b : ℕ) → a < b → is_lt (nat_cmp a b) ≡ true
is_lt_of a b less = ap (λ l. is_lt (cond l Less (cond (a == b) Equal Greater))) (let e : nat_lt a b ≡ true = grind (arith, nat_tests) in e)

-- of the key itself only the number decides
pub after_in_key : (family : ℕ) (user : List ℕ) (below : ℕ) (r : Record) → r.family ≡ family → r.key ≡ user → is_after family user below r ≡ is_lt (nat_cmp (packed_of r.sequence r.kind) below)
after_in_key family user below r f k =
    ap (λ o. is_lt (ordering_then o (ordering_then (slice_cmp nat_cmp user r.key) (nat_cmp (packed_of r.sequence r.kind) below)))) (ap (nat_cmp family) f ∙ tied_itself nat_cmp_total family)
    ∙ ap (λ o. is_lt (ordering_then o (nat_cmp (packed_of r.sequence r.kind) below))) (ap (slice_cmp nat_cmp user) k ∙ tied_itself nat_list_cmp_total user)

pub below_of : (family : ℕ) (user : List ℕ) (below : ℕ) (r : Record) → r.family ≡ family → r.key ≡ user → is_after family user below r ≡ true → packed_of r.sequence r.kind < below
below_of family user below r f k after = lt_of _ below (sym (after_in_key family user below r f k) ∙ after)

pub not_after : (family : ℕ) (user : List ℕ) (below : ℕ) (r : Record) → r.family ≡ family → r.key ≡ user → below ≤ packed_of r.sequence r.kind → is_after family user below r ≡ false
not_after family user below r f k le = after_in_key family user below r f k ∙ not_lt _ below le

pub after_of : (family : ℕ) (user : List ℕ) (below : ℕ) (r : Record) → r.family ≡ family → r.key ≡ user → packed_of r.sequence r.kind < below → is_after family user below r ≡ true
after_of family user below r f k less = after_in_key family user below r f k ∙ is_lt_of _ below less

-- what comes after a place in a key, and isn't of the key, comes after all of the key
pub past_key : (family : ℕ) (user : List ℕ) (below : ℕ) (r : Record) → is_after family user below r ≡ true → (r.family ≡ family → r.key ≡ user → ⊥) → is_after family user 0 r ≡ true
past_key family user below r after other = by (nat_cmp family r.family) (slice_cmp nat_cmp user r.key) refl refl after
  where
    by : (o p : Ordering) → nat_cmp family r.family ≡ o → slice_cmp nat_cmp user r.key ≡ p → is_lt (ordering_then o (ordering_then p (nat_cmp (packed_of r.sequence r.kind) below))) ≡ true → is_lt (ordering_then o (ordering_then p (nat_cmp (packed_of r.sequence r.kind) 0))) ≡ true
    by Less p f k after = refl
    by Equal Less f k after = refl
    by Equal Equal f k after = absurd (other (sym (nat_cmp-IsAntisymmetric family r.family f)) (sym (same_text user r.key k)))
    by Equal Greater f k after = cc
    by Greater p f k after = cc

both_of : (a b : Bool) → (a && b) ≡ true → (a ≡ true) × (b ≡ true)
both_of true b e = (refl, e)
both_of false b e = cc

pub of_key : (family : ℕ) (key : List ℕ) (r : Record) → is_of_key family key r ≡ true → (r.family ≡ family) × (r.key ≡ key) × (is_point r.kind ≡ true)
of_key family key r e =
    let outer = both_of ((r.family == family) && bytes_eq r.key key) (is_point r.kind) e in
    let inner = both_of (r.family == family) (bytes_eq r.key key) outer.0 in
    (eqb-true r.family family inner.0, same r.key key inner.1, outer.1)
  where
    same : (a b : List ℕ) → bytes_eq a b ≡ true → a ≡ b
    same a b e = same_text a b (equal _ (is_eq-slice_cmp a b ∙ e))

-- a later record of a single key, at the same key, has a lesser number
never_less : (xs : List ℕ) → slice_cmp nat_cmp xs [] ≢ Less
never_less [] e = cc
never_less (x ∷ xs) e = cc

point_end : (kind : Kind) (value : List ℕ) → is_point kind ≡ true → end_of kind value ≡ []
point_end Deletion value p = refl
point_end Value value p = refl
point_end Merge value p = refl
point_end SingleDeletion value p = refl
point_end RangeDeletion value p = cc

pub lesser_number : (family : ℕ) (key : List ℕ) (r y : Record) → r.family ≡ family → r.key ≡ key → slot_cmp (slot_of r) (slot_of y) ≡ Less → is_of_key family key y ≡ true → is_after family key (packed_of r.sequence r.kind) y ≡ true
lesser_number family key r y f k less is =
    let of = of_key family key y is in
    after_of family key (packed_of r.sequence r.kind) y of.0 of.1 (by (head_cmp (head_of r) (head_of y)) refl (sym (slots_by_head r y) ∙ less) of)
  where
    by : (o : Ordering) → head_cmp (head_of r) (head_of y) ≡ o → ordering_then o (slice_cmp nat_cmp (end_of r.kind r.value) (end_of y.kind y.value)) ≡ Less → (y.family ≡ family) × (y.key ≡ key) × (is_point y.kind ≡ true) → packed_of y.sequence y.kind < packed_of r.sequence r.kind
    by Less is e of = below_of r.family r.key (packed_of r.sequence r.kind) y (of.0 ∙ sym f) (of.1 ∙ sym k) (ap is_lt is)
    by Equal is e of = absurd (never_less (end_of r.kind r.value) (ap (slice_cmp nat_cmp (end_of r.kind r.value)) (sym (point_end y.kind y.value of.2)) ∙ e))
    by Greater is e of = cc

-- a test of the records that are shown of a key
abbrev pub shows : List Tomb → ℕ → List ℕ → Record → Bool
shows tombs family key r = is_of_key family key r && not (is_covered tombs r)

not_key : (family : ℕ) (key : List ℕ) (r : Record) → is_after family key 0 r ≡ true → is_of_key family key r ≡ false
not_key family key r after = by (is_of_key family key r) refl
  where
    by : (b : Bool) → is_of_key family key r ≡ b → b ≡ false
    by false e = refl
    by true e = absurd (let of = of_key family key r e in let no : true ≡ false = sym after ∙ not_after family key 0 r of.0 of.1 (omega arith) in cc)

hidden_and : (a b : Bool) → a ≡ false → (a && b) ≡ false
hidden_and true b e = cc
hidden_and false b e = refl

pub all_filter : {A : Type 0} (P : A → Type 0) (q : A → Bool) (xs : List A) → AllByRecursion P xs → AllByRecursion P (filter q xs)
all_filter P q [] all = tt
all_filter P q (x ∷ xs) all = by (q x) (all_filter P q xs all.1)
  where
    by : (b : Bool) → AllByRecursion P (filter q xs) → AllByRecursion P (cond b (x ∷ filter q xs) (filter q xs))
    by true later = (all.0, later)
    by false later = later

pub same_record : (x r : Record) → Some x ≡ Some r → x ≡ r
same_record x r e = cc

pub first_part : (r : Record) (run : List Record) → Rises (r ∷ run) → T (below_all slot_cmp (slot_of r) (map entry_of run))
first_part r run rises = (both_true (below_all slot_cmp (slot_of r) (map entry_of run)) _ rises).0

pub rest_part : (r : Record) (run : List Record) → Rises (r ∷ run) → Rises run
rest_part r run rises = (both_true (below_all slot_cmp (slot_of r) (map entry_of run)) _ rises).1

module _ (tombs : List Tomb) (family : ℕ) (key : List ℕ) where
  -- nothing is left of a key where the next record is of another
  pub next_elsewhere : (below : ℕ) (run : List Record) (r : Record) → Rises run → find (is_after family key below) run ≡ Some r → (r.family ≡ family → r.key ≡ key → ⊥)
      → uncovered tombs family key (filter (is_after family key below) run) ≡ []
  next_elsewhere below [] r rises found other = refl
  next_elsewhere below (x ∷ run) r rises found other = by (is_after family key below x) refl found (λ later. next_elsewhere below run r (rest_part x run rises) later other)
    where
      by : (b : Bool) → is_after family key below x ≡ b → cond b (Some x) (find (is_after family key below) run) ≡ Some r
          → (find (is_after family key below) run ≡ Some r → uncovered tombs family key (filter (is_after family key below) run) ≡ [])
          → uncovered tombs family key (cond b (x ∷ filter (is_after family key below) run) (filter (is_after family key below) run)) ≡ []
      by false is found later = later found
      by true is found later =
          let same : x ≡ r = same_record x r found in
          let past : is_after family key 0 x ≡ true = past_key family key below x is (λ f k. other (ap (λ (y : Record). y.family) (sym same) ∙ f) (ap (λ (y : Record). y.key) (sym same) ∙ k)) in
          let none = λ (y : Record) (after : is_after family key 0 y ≡ true). hidden_and (is_of_key family key y) (not (is_covered tombs y)) (not_key family key y after) in
          filter_none (shows tombs family key) (x ∷ filter (is_after family key below) run)
          (none x past, all_filter (λ y. shows tombs family key y ≡ false) (is_after family key below) run (each_later (λ y. shows tombs family key y ≡ false) x run (first_part x run rises) (λ y less. none y (follows family key 0 x y past less))))

  -- a higher limit leaves more
  pub raised : (low high : ℕ) (r : Record) → low ≤ high → is_after family key low r ≡ true → is_after family key high r ≡ true
  raised low high r le after = by (nat_cmp family r.family) (slice_cmp nat_cmp key r.key) after
    where
      by : (o p : Ordering) → is_lt (ordering_then o (ordering_then p (nat_cmp (packed_of r.sequence r.kind) low))) ≡ true → is_lt (ordering_then o (ordering_then p (nat_cmp (packed_of r.sequence r.kind) high))) ≡ true
      by Less p after = refl
      by Equal Less after = refl
      by Equal Equal after = let less : packed_of r.sequence r.kind < low = lt_of _ low after in is_lt_of (packed_of r.sequence r.kind) high (omega arith)
      by Equal Greater after = cc
      by Greater p after = cc

  lowered : (low high : ℕ) (r : Record) → low ≤ high → is_after family key high r ≡ false → is_after family key low r ≡ false
  lowered low high r le fails = by (is_after family key low r) refl
    where
      by : (b : Bool) → is_after family key low r ≡ b → b ≡ false
      by false e = refl
      by true e = absurd (let no : true ≡ false = sym (raised low high r le e) ∙ fails in cc)

  one_more : (x : Record) (run : List Record) → uncovered tombs family key (x ∷ run) ≡ uncovered tombs family key (x ∷ []) ++ uncovered tombs family key run
  one_more x run = by (shows tombs family key x)
    where
      by : (b : Bool) → cond b (x ∷ uncovered tombs family key run) (uncovered tombs family key run) ≡ cond b (x ∷ []) [] ++ uncovered tombs family key run
      by true = refl
      by false = refl

  pub shows_key : (y : Record) → shows tombs family key y ≡ true → is_of_key family key y ≡ true
  shows_key y e = (both_of (is_of_key family key y) (not (is_covered tombs y)) e).0

  -- the next record of a key, and the rest
  pub next_here : (below : ℕ) (run : List Record) (r : Record) → Rises run → find (is_after family key below) run ≡ Some r → r.family ≡ family → r.key ≡ key → packed_of r.sequence r.kind < below
      → uncovered tombs family key (filter (is_after family key below) run) ≡ uncovered tombs family key (r ∷ []) ++ uncovered tombs family key (filter (is_after family key (packed_of r.sequence r.kind)) run)
  next_here below [] r rises found f k lower = cc
  next_here below (x ∷ run) r rises found f k lower = by (is_after family key below x) refl found (λ later. next_here below run r (rest_part x run rises) later f k lower)
    where
      number : ℕ
      number = packed_of r.sequence r.kind

      by : (b : Bool) → is_after family key below x ≡ b → cond b (Some x) (find (is_after family key below) run) ≡ Some r
          → (find (is_after family key below) run ≡ Some r → uncovered tombs family key (filter (is_after family key below) run) ≡ uncovered tombs family key (r ∷ []) ++ uncovered tombs family key (filter (is_after family key (packed_of r.sequence r.kind)) run))
          → uncovered tombs family key (cond b (x ∷ filter (is_after family key below) run) (filter (is_after family key below) run))
          ≡ uncovered tombs family key (r ∷ []) ++ uncovered tombs family key (filter (is_after family key (packed_of r.sequence r.kind)) (x ∷ run))
      by false is found later =
          later found ∙ ap (λ b. uncovered tombs family key (r ∷ []) ++ uncovered tombs family key (cond b (x ∷ filter (is_after family key (packed_of r.sequence r.kind)) run) (filter (is_after family key (packed_of r.sequence r.kind)) run)))
          (sym (lowered (packed_of r.sequence r.kind) below x (omega arith) is))
      by true is found later =
          let same : x ≡ r = same_record x r found in
          let at_x : is_after family key (packed_of r.sequence r.kind) x ≡ false = ap (is_after family key (packed_of r.sequence r.kind)) same ∙ not_after family key (packed_of r.sequence r.kind) r f k (omega arith) in
          let q = filter_twice (shows tombs family key) (is_after family key below) run (each_later (λ y. shows tombs family key y ≡ true → is_after family key below y ≡ true) x run (first_part x run rises) (λ y less _. follows family key below x y is less)) in
          let p = filter_twice (shows tombs family key) (is_after family key (packed_of r.sequence r.kind)) run (each_later (λ y. shows tombs family key y ≡ true → is_after family key (packed_of r.sequence r.kind) y ≡ true) x run (first_part x run rises)
          (λ y less e. lesser_number family key r y f k (ap (λ z. slot_cmp (slot_of z) (slot_of y)) (sym same) ∙ less) (shows_key y e))) in
          one_more x (filter (is_after family key below) run) ∙ (λ i. uncovered tombs family key (same i ∷ []) ++ (q ∙ sym p) i)
          ∙ ap (λ b. uncovered tombs family key (r ∷ []) ++ uncovered tombs family key (cond b (x ∷ filter (is_after family key (packed_of r.sequence r.kind)) run) (filter (is_after family key (packed_of r.sequence r.kind)) run))) (sym at_x)

  pub number_fits : (r : Record) → r.sequence ≤ top_sequence → packed_of r.sequence r.kind < 2 ^ 64
  number_fits r few = let byte = kind_number-byte r.kind in omega arith

  each_below : (run : List Record) → AreNumbered run → AllByRecursion (λ y. shows tombs family key y ≡ true → is_after family key (2 ^ 64) y ≡ true) run
  each_below [] all = tt
  each_below (r ∷ run) all = ((λ e. let of = of_key family key r (shows_key r e) in after_of family key (2 ^ 64) r of.0 of.1 (number_fits r all.0)), each_below run all.1)

  -- each record is below the limit that is above all
  pub all_below : (run : List Record) → AreNumbered run → uncovered tombs family key (filter (is_after family key (2 ^ 64)) run) ≡ uncovered tombs family key run
  all_below run all = filter_twice (shows tombs family key) (is_after family key (2 ^ 64)) run (each_below run all)

  key_true : (r : Record) → r.family ≡ family → r.key ≡ key → is_of_key family key r ≡ is_point r.kind
  key_true r f k =
      ap (λ b. b && bytes_eq r.key key && is_point r.kind) (eq-eqb r.family family f)
      ∙ ap (λ b. b && is_point r.kind) (sym (is_eq-slice_cmp r.key key) ∙ ap is_eq (ap (slice_cmp nat_cmp r.key) (sym k) ∙ tied_itself nat_list_cmp_total r.key))

  pub shown_one : (r : Record) → r.family ≡ family → r.key ≡ key → (is_point r.kind && not (is_covered tombs r)) ≡ true → uncovered tombs family key (r ∷ []) ≡ r ∷ []
  shown_one r f k shown = ap (λ b. cond b (r ∷ []) []) (ap (λ b. b && not (is_covered tombs r)) (key_true r f k) ∙ shown)

  pub hidden_one : (r : Record) → r.family ≡ family → r.key ≡ key → (is_point r.kind && not (is_covered tombs r)) ≡ false → uncovered tombs family key (r ∷ []) ≡ []
  hidden_one r f k hidden = ap (λ b. cond b (r ∷ []) []) (ap (λ b. b && not (is_covered tombs r)) (key_true r f k) ∙ hidden)

pub found_numbered : (p : Record → Bool) (run : List Record) (r : Record) → AreNumbered run → find p run ≡ Some r → r.sequence ≤ top_sequence
found_numbered p [] r all found = cc
found_numbered p (x ∷ run) r all found = by (p x) found (found_numbered p run r all.1)
  where
    by : (b : Bool) → cond b (Some x) (find p run) ≡ Some r → (find p run ≡ Some r → r.sequence ≤ top_sequence) → r.sequence ≤ top_sequence
    by true here later = subst (λ (y : Record). y.sequence ≤ top_sequence) (same_record x r here) all.0
    by false there later = later there

pub found_passes : (p : Record → Bool) (run : List Record) (r : Record) → find p run ≡ Some r → p r ≡ true
found_passes p [] r found = cc
found_passes p (x ∷ run) r found = by (p x) refl found (found_passes p run r)
  where
    by : (b : Bool) → p x ≡ b → cond b (Some x) (find p run) ≡ Some r → (find p run ≡ Some r → p r ≡ true) → p r ≡ true
    by true is here later = ap p (sym (same_record x r here)) ∙ is
    by false is there later = later there

pub some_reduced : {A : Type 0} (f : ℕ → ℕ → ℕ) (g : A → ℕ) (p : A → Bool) (xs : List A) → is_some (reduce f (map g (filter p xs))) ≡ list_any p xs
some_reduced f g p [] = refl
some_reduced f g p (x ∷ xs) = by (p x) (some_reduced f g p xs)
  where
    by : (b : Bool) → is_some (reduce f (map g (filter p xs))) ≡ list_any p xs → is_some (reduce f (map g (cond b (x ∷ filter p xs) (filter p xs)))) ≡ (b || list_any p xs)
    by true later = refl
    by false later = later

pub turned_not : (a b : Bool) → a ≡ not b → b ≡ not a
turned_not a true e = sym (ap not e)
turned_not a false e = sym (ap not e)

pub point_kind : (kind : Kind) → (kind ≡ RangeDeletion → ⊥) → is_point kind ≡ true
point_kind Deletion other = refl
point_kind Value other = refl
point_kind Merge other = refl
point_kind SingleDeletion other = refl
point_kind RangeDeletion other = absurd (other refl)

same_bytes : (a b : List ℕ) → bytes_eq a b ≡ true → a ≡ b
same_bytes a b e = same_text a b (equal _ (is_eq-slice_cmp a b ∙ e))

-- a record that is at a key, and one that isn't
pub at_key : (family : ℕ) (key : List ℕ) (r : Record) → ((r.family == family) && bytes_eq r.key key) ≡ true → (r.family ≡ family) × (r.key ≡ key)
at_key family key r e = let parts = both_of (r.family == family) (bytes_eq r.key key) e in (eqb-true r.family family parts.0, same_bytes r.key key parts.1)

pub not_at : (family : ℕ) (key : List ℕ) (r : Record) → ((r.family == family) && bytes_eq r.key key) ≡ false → r.family ≡ family → r.key ≡ key → ⊥
not_at family key r e f k =
    let same : ((r.family == family) && bytes_eq r.key key) ≡ true =
    ap (λ b. b && bytes_eq r.key key) (eq-eqb r.family family f) ∙ sym (is_eq-slice_cmp r.key key) ∙ ap is_eq (ap (slice_cmp nat_cmp r.key) (sym k) ∙ tied_itself nat_list_cmp_total r.key) in
    let no : true ≡ false = sym same ∙ e in cc
