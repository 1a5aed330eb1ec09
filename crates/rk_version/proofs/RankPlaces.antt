-- What a search finds in the order of files.
use Rattle.std.proofs.Common.{◌≡◌, nat_eq, ℕ, zero, suc, ◌<◌, false, List, [], ◌∷◌, length, get_or, slice_get, take, drop, map, Some, None, ◌⊎◌, inl, inr, refl, sym, ap, subst, ◌∙◌, arith}
use Rattle.std.specs.List.{AllByRecursion}
use Rattle.std.specs.Option.{ForSome}
use Rattle.std.specs.declared.cmp.Ordering.TheVariants.{Less}
use Rattle.std.proofs.lemmas.Bool.{both_ways, eq-eqb}
use Rattle.std.proofs.lemmas.List.{length-map}
use Rattle.rk_bytes.specs.declared.model.manifest.FileMeta.{FileMeta}
use Rattle.rk_version.specs.Places.{IsAt, IsFree}
use Rattle.rk_version.specs.Rankings.{ranked, ranked_numbers, file_before}
use Rattle.rk_version.specs.Spots.{file_cmp}
use Rattle.rk_version.proofs.Apart.{InTurn}
use Rattle.rk_version.proofs.Each.{each_so, each_moved}
use Rattle.rk_version.proofs.FileOrder.{file_total}
use Rattle.rk_version.proofs.PlaceLemmas.{free_of}
use Rattle.rk_version.proofs.RankOrder.{is_first, not_further, same_files}

-- the thing is one of the list
abbrev Has : {A : Type 0} → A → List A → Type 0
Has x [] = ⊥
Has x (y ∷ ys) = (y ≡ x) ⊎ Has x ys

has_of_each : {A : Type 0} (P : A → Type 0) (x : A) (xs : List A) → Has x xs → AllByRecursion P xs → P x
has_of_each P x [] has all = absurd has
has_of_each P x (y ∷ xs) (inl is) all = subst P is all.0
has_of_each P x (y ∷ xs) (inr has) all = has_of_each P x xs has all.1

each_itself : {A : Type 0} (xs : List A) → AllByRecursion (λ x. Has x xs) xs
each_itself [] = tt
each_itself (x ∷ xs) = (inl refl, each_so (λ y. Has y xs) (λ y. Has y (x ∷ xs)) xs (λ y has. inr has) (each_itself xs))

-- a file in a place of the order
record IsThere (files : List FileMeta) (zs : List FileMeta) (place : ℕ) : Type 0 where
  file : FileMeta
  is : slice_get zs place ≡ Some file
  number : get_or (map (λ file. file.number) zs) place 0 ≡ file.number
  has : Has file files

there : (files zs : List FileMeta) (place : ℕ) → place < length zs → AllByRecursion (λ z. Has z files) zs → IsThere files zs place
there files [] place in' all = absurd (omega arith)
there files (z ∷ zs) zero in' all = record { file = z; is = refl; number = refl; has = all.0 }
there files (z ∷ zs) (suc place) in' all = let later = there files zs place (omega arith) all.1 in record { file = later.file; is = later.is; number = later.number; has = later.has }

-- of files in rising number the one in this place is the one with its number
one_file : (files : List FileMeta) (x d : FileMeta) (at : ℕ) → Has x files → IsAt (λ file. file.number) x.number files at → get_or files at d ≡ x
one_file [] x d at has place = absurd has
one_file (y ∷ files) x d zero (inl is) place = is
one_file (y ∷ files) x d zero (inr has) place = let more = has_of_each (λ (z : FileMeta). x.number < z.number) x files has place.after in absurd (omega arith)
one_file (y ∷ files) x d (suc at) (inl is) place = let less = place.before.0 in let same = ap (λ (file : FileMeta). file.number) is in absurd (omega arith)
one_file (y ∷ files) x d (suc at) (inr has) place = one_file files x d at has (record { within = let in' = place.within in omega arith; before = place.before.1; here = place.here; after = place.after })

-- as many numbers as files
pub as_long : (files : List FileMeta) (numbers : List ℕ) → numbers ≡ ranked_numbers files → length numbers ≡ length (ranked files)
as_long files numbers kept = ap length kept ∙ length-map (ranked files) (λ file. file.number)

module _ (files : List FileMeta) (numbers : List ℕ) (place : ℕ) (kept : numbers ≡ ranked_numbers files) (in' : place < length numbers) where
  inside : place < length (ranked files)
  inside = let long = as_long files numbers kept in omega (arith, long)

  here : IsThere files (ranked files) place
  here = there files (ranked files) place inside (each_moved (λ z. Has z files) files (ranked files) (same_files files) (each_itself files))

  own_number : get_or numbers place 0 ≡ here.file.number
  own_number = ap (λ ns. get_or ns place 0) kept ∙ here.number

  -- the file that a search finds
  pub found : (at : ℕ) (d : FileMeta) → IsAt (λ file. file.number) (get_or numbers place 0) files at → Some (get_or files at d) ≡ slice_get (ranked files) place
  found at d is = ap Some (one_file files here.file d at here.has (subst (λ n. IsAt (λ (file : FileMeta). file.number) n files at) own_number is)) ∙ sym here.is

  -- one is found
  pub not_free : (at : ℕ) → IsFree (λ file. file.number) (get_or numbers place 0) files at → ⊥
  not_free at free =
      let none = free_of (λ (file : FileMeta). file.number) here.file.number at files (subst (λ n. IsFree (λ (file : FileMeta). file.number) n files at) own_number free) in
      let not_it = has_of_each (λ (z : FileMeta). nat_eq z.number here.file.number ≡ false) here.file files here.has none in
      both_ways (nat_eq here.file.number here.file.number) not_it (eq-eqb here.file.number here.file.number refl)

-- what holds of each file holds of one in a place
pub some_holds : (P : FileMeta → Type 0) (zs : List FileMeta) (place : ℕ) → AllByRecursion P zs → ForSome (slice_get zs place) P
some_holds P [] place all x is = absurd cc
some_holds P (z ∷ zs) zero all x is = let same : z ≡ x = cc in subst P same all.0
some_holds P (z ∷ zs) (suc place) all x is = some_holds P zs place all.1 x is

pub before_holds : (P : FileMeta → Type 0) (zs : List FileMeta) (place : ℕ) → AllByRecursion P zs → ForSome (file_before zs place) P
before_holds P zs zero all x is = absurd cc
before_holds P zs (suc place) all x is = some_holds P zs place all x is

pub each_ranked : (P : FileMeta → Type 0) (files : List FileMeta) → AllByRecursion P files → AllByRecursion P (ranked files)
each_ranked P files all = each_moved P files (ranked files) (same_files files) all

-- a file that comes before another, and those in front of it
pub all_before : (x : FileMeta) (zs : List FileMeta) (place : ℕ) (d : FileMeta) → InTurn zs → place < length zs → file_cmp (get_or zs place d) x ≡ Less → AllByRecursion (λ z. file_cmp z x ≡ Less) (take (suc place) zs)
all_before x [] place d turn in' less = absurd (omega arith)
all_before x (z ∷ zs) zero d turn in' less = (less, tt)
all_before x (z ∷ zs) (suc place) d turn in' less =
    let rest = all_before x zs place d turn.1 (omega arith) less in
    (first_of zs place rest (λ y up is. file_total.trans z y x up is) turn.0 in', rest)
  where
    first_of : (zs : List FileMeta) (place : ℕ) → AllByRecursion (λ y. file_cmp y x ≡ Less) (take (suc place) zs) → ((y : FileMeta) → file_cmp z y ≡ Less → file_cmp y x ≡ Less → file_cmp z x ≡ Less)
        → AllByRecursion (λ y. file_cmp z y ≡ Less) zs → suc place < suc (length zs) → file_cmp z x ≡ Less
    first_of [] place rest so up in' = absurd (omega arith)
    first_of (y ∷ zs) place rest so up in' = so y up.0 rest.0

-- a file that doesn't, and those behind it
pub none_after : (x : FileMeta) (zs : List FileMeta) (place : ℕ) (d : FileMeta) → InTurn zs → place < length zs → is_first (get_or zs place d) x ≡ false → AllByRecursion (λ z. is_first z x ≡ false) (drop place zs)
none_after x [] place d turn in' never = absurd (omega arith)
none_after x (z ∷ zs) zero d turn in' never = (never, each_so (λ y. file_cmp z y ≡ Less) (λ y. is_first y x ≡ false) zs (λ y less. not_further z y x less never) turn.0)
none_after x (z ∷ zs) (suc place) d turn in' never = none_after x zs place d turn.1 (omega arith) never

pub always_there : {A : Type 0} (xs : List A) (place : ℕ) → place < length xs → slice_get xs place ≡ None → ⊥
always_there [] place in' none = omega arith
always_there (x ∷ xs) zero in' none = cc
always_there (x ∷ xs) (suc place) in' none = always_there xs place (omega arith) none

pub got : {A : Type 0} (xs : List A) (place : ℕ) (x d : A) → slice_get xs place ≡ Some x → get_or xs place d ≡ x
got [] place x d is = absurd cc
got (y ∷ xs) zero x d is = cc
got (y ∷ xs) (suc place) x d is = got xs place x d is
