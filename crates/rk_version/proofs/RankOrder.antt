-- Files in their order: it is one whichever way files come into it, and it has the same files.
use Rattle.std.proofs.Common.{◌≡◌, ℕ, zero, suc, ◌<◌, Bool, true, false, cond, List, [], ◌∷◌, ◌++◌, length, get_or, insert, remove, take, drop, filter, refl, sym, ap, subst, ◌∙◌, arith}
use Rattle.std.specs.Prelude.{nat_lt}
use Rattle.std.specs.List.{AllByRecursion, list_any}
use Rattle.std.specs.List.Sorted.{IsPermutation}
use Rattle.std.specs.declared.cmp.Ordering.{Ordering}
use Rattle.std.specs.declared.cmp.Ordering.TheVariants.{Less, Equal, Greater}
use Rattle.std.specs.Ordering.{nat_cmp, is_lt, ordering_then, ordering_reverse}
use Rattle.std.proofs.lemmas.Bool.{both_ways, eq-eqb, ltb-true, ltb-false, le-ltb, cond-true, cond-false}
use Rattle.std.proofs.lemmas.Cmp.{ranked as compared}
use Rattle.std.proofs.lemmas.List.Sorted.{IsPermutation-refl, IsPermutation-sym, IsPermutation-trans, IsPermutation-cons, IsPermutation-middle}
use Rattle.rk_bytes.specs.declared.model.manifest.FileMeta.{FileMeta}
use Rattle.rk_bytes.specs.Model.InternalKey.{key_cmp}
use Rattle.rk_bytes.specs.Model.Manifest.{has_number, add_meta}
use Rattle.rk_version.specs.Places.{Rises, IsFree}
use Rattle.rk_version.specs.Rankings.{rank_file, ranked, IsRank}
use Rattle.rk_version.specs.Spots.{file_cmp}
use Rattle.rk_version.proofs.Apart.{InTurn}
use Rattle.rk_version.proofs.Each.{none_passes, each_so, each_append, each_filter, each_moved}
use Rattle.rk_version.proofs.FileOrder.{is_less, then_equal, file_total}
use Rattle.rk_version.proofs.PlaceLemmas.{lower_before, greater_after, front_at, rest_at}

-- the two files have different places
abbrev pub Differ : FileMeta → FileMeta → Type 0
Differ a b = file_cmp a b ≡ Equal → ⊥

differ : (a b : FileMeta) → (a.number ≡ b.number → ⊥) → Differ a b
differ a b apart e =
    let numbers = (then_equal (ordering_then (nat_cmp a.level b.level) (key_cmp a.smallest b.smallest)) (nat_cmp a.number b.number) e).1 in
    apart (compared a.number b.number Equal (sym numbers))

differ_back : (a b : FileMeta) → Differ a b → Differ b a
differ_back a b apart e = apart (file_total.antisymm a b ∙ ap ordering_reverse e)

abbrev pub is_first : FileMeta → FileMeta → Bool
is_first a b = is_lt (file_cmp a b)

other_first : (a b : FileMeta) → Differ a b → is_first a b ≡ false → file_cmp b a ≡ Less
other_first a b apart never = by (file_cmp a b) refl
  where
    by : (r : Ordering) → file_cmp a b ≡ r → file_cmp b a ≡ Less
    by Less e = absurd (both_ways (is_first a b) never (ap is_lt e))
    by Equal e = absurd (apart e)
    by Greater e = file_total.antisymm b a ∙ ap ordering_reverse e

not_both_first : (a b : FileMeta) → file_cmp a b ≡ Less → is_first b a ≡ false
not_both_first a b e = ap is_lt (file_total.antisymm b a ∙ ap ordering_reverse e)

pub not_further : (a b c : FileMeta) → file_cmp a b ≡ Less → is_first a c ≡ false → is_first b c ≡ false
not_further a b c less never = by (is_first b c) refl
  where
    by : (told : Bool) → is_first b c ≡ told → is_first b c ≡ false
    by true e = absurd (both_ways (is_first a c) never (ap is_lt (file_total.trans a b c less (is_less (file_cmp b c) e))))
    by false e = e

-- a file goes in front of another, or behind it
goes_first : (x z : FileMeta) (zs : List FileMeta) → is_first x z ≡ true → rank_file x (z ∷ zs) ≡ x ∷ z ∷ zs
goes_first x z zs e = cond-true (is_first x z) (x ∷ z ∷ zs) (z ∷ rank_file x zs) e

goes_later : (x z : FileMeta) (zs : List FileMeta) → is_first x z ≡ false → rank_file x (z ∷ zs) ≡ z ∷ rank_file x zs
goes_later x z zs e = cond-false (is_first x z) (x ∷ z ∷ zs) (z ∷ rank_file x zs) e

both_in_front : (x y z : FileMeta) (zs : List FileMeta) → is_first x z ≡ true → is_first y z ≡ true → file_cmp x y ≡ Less → rank_file x (rank_file y (z ∷ zs)) ≡ rank_file y (rank_file x (z ∷ zs))
both_in_front x y z zs xz yz xy =
    ap (rank_file x) (goes_first y z zs yz) ∙ goes_first x y (z ∷ zs) (ap is_lt xy)
    ∙ sym (ap (rank_file y) (goes_first x z zs xz) ∙ goes_later y x (z ∷ zs) (not_both_first x y xy) ∙ ap (λ rest. x ∷ rest) (goes_first y z zs yz))

one_in_front : (x y z : FileMeta) (zs : List FileMeta) → is_first x z ≡ true → is_first y z ≡ false → rank_file x (rank_file y (z ∷ zs)) ≡ rank_file y (rank_file x (z ∷ zs))
one_in_front x y z zs xz yz =
    ap (rank_file x) (goes_later y z zs yz) ∙ goes_first x z (rank_file y zs) xz
    ∙ sym (ap (rank_file y) (goes_first x z zs xz) ∙ goes_later y x (z ∷ zs) (by (is_first y x) refl) ∙ ap (λ rest. x ∷ rest) (goes_later y z zs yz))
  where
    by : (told : Bool) → is_first y x ≡ told → is_first y x ≡ false
    by true e = absurd (both_ways (is_first y z) yz (ap is_lt (file_total.trans y x z (is_less (file_cmp y x) e) (is_less (file_cmp x z) xz))))
    by false e = e

commutes : (x y : FileMeta) → Differ x y → (zs : List FileMeta) → rank_file x (rank_file y zs) ≡ rank_file y (rank_file x zs)
commutes x y apart [] = by (is_first x y) refl
  where
    by : (told : Bool) → is_first x y ≡ told → rank_file x (y ∷ []) ≡ rank_file y (x ∷ [])
    by true e = goes_first x y [] e ∙ sym (goes_later y x [] (not_both_first x y (is_less (file_cmp x y) e)))
    by false e = goes_later x y [] e ∙ sym (goes_first y x [] (ap is_lt (other_first x y apart e)))
commutes x y apart (z ∷ zs) = by (is_first x z) (is_first y z) refl refl (commutes x y apart zs)
  where
    in_front : (told : Bool) → is_first x y ≡ told → is_first x z ≡ true → is_first y z ≡ true → rank_file x (rank_file y (z ∷ zs)) ≡ rank_file y (rank_file x (z ∷ zs))
    in_front true e xz yz = both_in_front x y z zs xz yz (is_less (file_cmp x y) e)
    in_front false e xz yz = sym (both_in_front y x z zs yz xz (other_first x y apart e))

    by : (first second : Bool) → is_first x z ≡ first → is_first y z ≡ second → rank_file x (rank_file y zs) ≡ rank_file y (rank_file x zs) → rank_file x (rank_file y (z ∷ zs)) ≡ rank_file y (rank_file x (z ∷ zs))
    by true true xz yz rest = in_front (is_first x y) refl xz yz
    by true false xz yz rest = one_in_front x y z zs xz yz
    by false true xz yz rest = sym (one_in_front y x z zs yz xz)
    by false false xz yz rest =
        ap (rank_file x) (goes_later y z zs yz) ∙ goes_later x z (rank_file y zs) xz ∙ ap (λ rest. z ∷ rest) rest
        ∙ sym (ap (rank_file y) (goes_later x z zs xz) ∙ goes_later y z (rank_file x zs) yz)

-- a file comes into the order as if it were the last one to come
ranked_middle : (x : FileMeta) (xs ys : List FileMeta) → AllByRecursion (Differ x) xs → ranked (xs ++ x ∷ ys) ≡ rank_file x (ranked (xs ++ ys))
ranked_middle x [] ys all = refl
ranked_middle x (w ∷ xs) ys all = ap (rank_file w) (ranked_middle x xs ys all.1) ∙ sym (commutes x w all.0 (ranked (xs ++ ys)))

one_more_same : (x : FileMeta) (zs : List FileMeta) → IsPermutation (x ∷ zs) (rank_file x zs)
one_more_same x [] = IsPermutation-refl (x ∷ [])
one_more_same x (z ∷ zs) = by (is_first x z) (one_more_same x zs)
  where
    by : (told : Bool) → IsPermutation (x ∷ zs) (rank_file x zs) → IsPermutation (x ∷ z ∷ zs) (cond told (x ∷ z ∷ zs) (z ∷ rank_file x zs))
    by true rest = IsPermutation-refl (x ∷ z ∷ zs)
    by false rest =
        IsPermutation-trans (x ∷ z ∷ zs) (z ∷ x ∷ zs) (z ∷ rank_file x zs) (IsPermutation-sym (z ∷ x ∷ zs) (x ∷ z ∷ zs) (IsPermutation-middle (z ∷ []) x zs)) (IsPermutation-cons z (x ∷ zs) (rank_file x zs) rest)

-- the order has the same files
pub same_files : (files : List FileMeta) → IsPermutation files (ranked files)
same_files [] = IsPermutation-refl []
same_files (x ∷ files) =
    IsPermutation-trans (x ∷ files) (x ∷ ranked files) (rank_file x (ranked files)) (IsPermutation-cons x files (ranked files) (same_files files)) (one_more_same x (ranked files))

one_more_turn : (x : FileMeta) (zs : List FileMeta) → AllByRecursion (Differ x) zs → InTurn zs → InTurn (rank_file x zs)
one_more_turn x [] apart turn = (tt, tt)
one_more_turn x (z ∷ zs) apart turn = by (is_first x z) refl (one_more_turn x zs apart.1 turn.1)
  where
    by : (told : Bool) → is_first x z ≡ told → InTurn (rank_file x zs) → InTurn (cond told (x ∷ z ∷ zs) (z ∷ rank_file x zs))
    by true e rest =
        let less = is_less (file_cmp x z) e in
        ((less, each_so (λ w. file_cmp z w ≡ Less) (λ w. file_cmp x w ≡ Less) zs (λ w more. file_total.trans x z w less more) turn.0), turn)
    by false e rest = (each_moved (λ w. file_cmp z w ≡ Less) (x ∷ zs) (rank_file x zs) (one_more_same x zs) (other_first x z apart.0 e, turn.0), rest)

-- and files of different numbers stand in turn in it
pub ranked_turn : (files : List FileMeta) → Rises (λ file. file.number) files → InTurn (ranked files)
ranked_turn [] rises = tt
ranked_turn (x ∷ files) rises =
    one_more_turn x (ranked files)
    (each_moved (Differ x) files (ranked files) (same_files files) (each_so (λ (y : FileMeta). x.number < y.number) (Differ x) files (λ y less. differ x y (λ same. omega (arith, less, same))) rises.0))
    (ranked_turn files rises.1)

-- a file whose number is free
pub all_differ : (x : FileMeta) (files : List FileMeta) → list_any (has_number x.number) files ≡ false → AllByRecursion (Differ x) files
all_differ x files free =
    each_so (λ file. has_number x.number file ≡ false) (Differ x) files (λ file is_not. differ x file (λ same. both_ways (has_number x.number file) is_not (eq-eqb file.number x.number (sym same)))) (none_passes (has_number x.number) files free)

above : (n : ℕ) (x : FileMeta) → nat_lt x.number n ≡ false → has_number n x ≡ false → n < x.number
above n x never other = by (nat_lt n x.number) refl
  where
    by : (told : Bool) → nat_lt n x.number ≡ told → n < x.number
    by true e = ltb-true n x.number e
    by false e =
        let up = ltb-false x.number n never in
        let down = ltb-false n x.number e in
        absurd (both_ways (has_number n x) other (eq-eqb x.number n (omega (arith, up, down))))

-- the files of lower numbers, and those of greater ones
abbrev lower : ℕ → List FileMeta → List FileMeta
lower n = filter (λ file. nat_lt file.number n)

abbrev greater : ℕ → List FileMeta → List FileMeta
greater n = filter (λ file. nat_lt n file.number)

parted : (n : ℕ) (files : List FileMeta) → Rises (λ file. file.number) files → AllByRecursion (λ file. has_number n file ≡ false) files
    → lower n files ++ greater n files ≡ files
parted n [] rises free = refl
parted n (x ∷ files) rises free = by (nat_lt x.number n) refl (parted n files rises.1 free.1)
  where
    by : (told : Bool) → nat_lt x.number n ≡ told → lower n files ++ greater n files ≡ files → lower n (x ∷ files) ++ greater n (x ∷ files) ≡ x ∷ files
    by true e rest =
        let less = ltb-true x.number n e in
        let never : nat_lt n x.number ≡ false = le-ltb n x.number (omega (arith, less)) in
        (λ i. cond (e i) (x ∷ lower n files) (lower n files) ++ cond (never i) (x ∷ greater n files) (greater n files)) ∙ ap (λ more. x ∷ more) rest
    by false e rest =
        let more = above n x e free.0 in
        let free_here : IsFree (λ (file : FileMeta). file.number) n (x ∷ files) 0 = record {
          within = omega arith;
          before = tt;
          after = (more, each_so (λ (y : FileMeta). x.number < y.number) (λ y. n < y.number) files (λ y up. omega (arith, up, more)) rises.0);
        } in
        λ i. front_at (λ file. file.number) n 0 (x ∷ files) free_here i ++ rest_at (λ file. file.number) n 0 (x ∷ files) free_here i

-- the order with one more file
pub ranked_more : (x : FileMeta) (files : List FileMeta) → Rises (λ file. file.number) files → list_any (has_number x.number) files ≡ false → ranked (add_meta x files) ≡ rank_file x (ranked files)
ranked_more x files rises free =
    ranked_middle x (lower x.number files) (greater x.number files) (each_filter (Differ x) (λ file. nat_lt file.number x.number) files (all_differ x files free))
    ∙ ap (λ xs. rank_file x (ranked xs)) (parted x.number files rises (none_passes (has_number x.number) files free))

pub same_there : {A : Type 0} (at : ℕ) (xs : List A) (x d : A) → at < length xs → x ≡ get_or xs at x → get_or xs at d ≡ x
same_there at [] x d in' is = absurd (omega arith)
same_there zero (y ∷ xs) x d in' is = sym is
same_there (suc at) (y ∷ xs) x d in' is = same_there at xs x d (omega arith) is

pub split_at : {A : Type 0} (at : ℕ) (xs : List A) (x : A) → at < length xs → x ≡ get_or xs at x → take at xs ++ x ∷ drop (suc at) xs ≡ xs
split_at at [] x in' is = absurd (omega arith)
split_at zero (y ∷ xs) x in' is = ap (λ z. z ∷ xs) is
split_at (suc at) (y ∷ xs) x in' is = ap (λ rest. y ∷ rest) (split_at at xs x (omega arith) is)

module _ (at : ℕ) (files : List FileMeta) (x : FileMeta) (rises : Rises (λ file. file.number) files) (in' : at < length files) (is : x ≡ get_or files at x) where
  here : (d : FileMeta) → (get_or files at d).number ≡ x.number
  here d = ap (λ file. file.number) (same_there at files x d in' is)

  front_differs : AllByRecursion (Differ x) (take at files)
  front_differs = each_so (λ (y : FileMeta). y.number < x.number) (Differ x) (take at files) (λ y less. differ x y (λ same. omega (arith, less, same))) (lower_before (λ file. file.number) x.number at files in' rises here)

  rest_differs : AllByRecursion (Differ x) (drop (suc at) files)
  rest_differs = each_so (λ (y : FileMeta). x.number < y.number) (Differ x) (drop (suc at) files) (λ y less. differ x y (λ same. omega (arith, less, same))) (greater_after (λ file. file.number) x.number at files in' rises here)

  -- the files are one of them and the others
  pub ranked_less : ranked files ≡ rank_file x (ranked (remove files at))
  ranked_less = sym (ap ranked (split_at at files x in' is)) ∙ ranked_middle x (take at files) (drop (suc at) files) front_differs

  pub others_differ : AllByRecursion (Differ x) (ranked (remove files at))
  others_differ = each_moved (Differ x) (remove files at) (ranked (remove files at)) (same_files (remove files at)) (each_append (Differ x) (take at files) (drop (suc at) files) front_differs rest_differs)

-- a place that is found for a file is where it comes into the order
pub put_there : (x : FileMeta) (zs : List FileMeta) (place : ℕ) → AllByRecursion (Differ x) zs → IsRank x zs place → rank_file x zs ≡ insert zs place x
put_there x [] zero apart rank = refl
put_there x [] (suc place) apart rank = let in' = rank.within in absurd (omega arith)
put_there x (z ∷ zs) zero apart rank = goes_first x z zs (ap is_lt (other_first z x (differ_back x z apart.0) rank.after.0))
put_there x (z ∷ zs) (suc place) apart rank =
    goes_later x z zs (not_both_first z x rank.before.0)
    ∙ ap (λ rest. z ∷ rest) (put_there x zs place apart.1 (record { within = let in' = rank.within in omega arith; before = rank.before.1; after = rank.after }))

-- the file in a place, and the others
pub record IsOwn (x : FileMeta) (all others : List FileMeta) (place : ℕ) : Type 0 where
  pub within : place < length all
  pub is : (d : FileMeta) → get_or all place d ≡ x
  pub left : remove all place ≡ others

not_itself : (x : FileMeta) → file_cmp x x ≡ Less → ⊥
not_itself x e = both_ways (is_first x x) (not_both_first x x e) (ap is_lt e)

-- and where it stands, if it is in the order already
pub stands_there : (x : FileMeta) (zs : List FileMeta) (place : ℕ) → AllByRecursion (Differ x) zs → IsRank x (rank_file x zs) place → IsOwn x (rank_file x zs) zs place
stands_there x [] zero apart rank = record { within = omega arith; is = λ d. refl; left = refl }
stands_there x [] (suc place) apart rank = absurd (not_itself x rank.before.0)
stands_there x (z ∷ zs) place apart rank = by (is_first x z) refl (λ place rank. stands_there x zs place apart.1 rank)
  where
    at_head : (place : ℕ) → IsRank x (x ∷ z ∷ zs) place → IsOwn x (x ∷ z ∷ zs) (z ∷ zs) place
    at_head zero rank = record { within = omega arith; is = λ d. refl; left = refl }
    at_head (suc place) rank = absurd (not_itself x rank.before.0)

    behind : (place : ℕ) → is_first x z ≡ false → ((place : ℕ) → IsRank x (rank_file x zs) place → IsOwn x (rank_file x zs) zs place) → IsRank x (z ∷ rank_file x zs) place
        → IsOwn x (z ∷ rank_file x zs) (z ∷ zs) place
    behind zero e later rank = absurd (both_ways (is_first z x) rank.after.0 (ap is_lt (other_first x z apart.0 e)))
    behind (suc place) e later rank =
        let own = later place (record { within = let in' = rank.within in omega arith; before = rank.before.1; after = rank.after }) in
        record { within = let in' = own.within in omega arith; is = own.is; left = ap (λ rest. z ∷ rest) own.left }

    by : (told : Bool) → is_first x z ≡ told → ((place : ℕ) → IsRank x (rank_file x zs) place → IsOwn x (rank_file x zs) zs place) → IsOwn x (rank_file x (z ∷ zs)) (z ∷ zs) place
    by true e later = subst (λ all. IsOwn x all (z ∷ zs) place) (sym (goes_first x z zs e)) (at_head place (subst (λ all. IsRank x all place) (goes_first x z zs e) rank))
    by false e later = subst (λ all. IsOwn x all (z ∷ zs) place) (sym (goes_later x z zs e)) (behind place e later (subst (λ all. IsRank x all place) (goes_later x z zs e) rank))
