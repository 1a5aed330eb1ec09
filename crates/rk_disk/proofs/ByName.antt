-- The finite maps of entries that are kept in a tree under their names.
use Rattle.std.proofs.Common.{◌≡◌, ℕ, Bool, true, false, cond, List, [], ◌∷◌, map, Ordering, Option, Some, None, refl, sym, ap, ◌∙◌}
use Rattle.std.proofs.lemmas.List.{nil_from_length}
use Rattle.std.proofs.lemmas.Map.Keys.{sorted_head, sorted_tail}
use Rattle.std.proofs.lemmas.Bool.Decides.{Decides-at, not_from_Decides}
use Rattle.std.proofs.lemmas.Map.Text.{is_eq-slice_cmp}
use Rattle.std.proofs.lemmas.Slice.Eq.{bytes_eq-Decides}
use Rattle.std.specs.Bool.{Decides}
use Rattle.std.specs.List.{AllByRecursion}
use Rattle.std.specs.List.Sorted.{IsStrictlySortedBy}
use Rattle.std.specs.Option.{option_map, unwrap_or}
use Rattle.std.specs.String.{string_bytes, string_cmp}
use Rattle.std.specs.Ordering.{nat_cmp, is_eq}
use Rattle.std.specs.declared.cmp.Ordering.TheVariants.{Less, Equal, Greater}
use Rattle.std.specs.declared.string.String.{String}
use Rattle.std.specs.Cmp.Lexicographic.{slice_cmp, nat_list_cmp_total}
use Rattle.std.specs.Map.{keys_of, lookup, set_value}
use Rattle.std.specs.BTreeMap.{is_at, insert_entry}
use Rattle.std.specs.FinMap.{entries, from_entries, get, insert, keys, empty, len-empty, len-entries, same_map, get-from_entries, get-insert, entries-insert, nat_cmp-IsAntisymmetric, slice_cmp-IsAntisymmetric}
use Rattle.std.specs.FinMap.Entries.{find, put, by_order, find-put}
use Rattle.rk_disk.specs.Named.{named, parts_by_name}

abbrev byte_cmp : List ℕ → List ℕ → Ordering
byte_cmp = slice_cmp nat_cmp

-- the test that a look-up of a name makes of a key
abbrev pub is_named : {Y : Type 0} → List ℕ → String Y → Bool
is_named name key = is_at (λ k. byte_cmp name (string_bytes k)) key

same_name : (xs ys : List ℕ) → Decides (is_eq (byte_cmp xs ys)) (xs ≡ ys)
same_name xs ys = Decides-at _ _ (is_eq-slice_cmp xs ys) (bytes_eq-Decides xs ys)

-- a test that is made twice
shadowed : {A : Type 0} (b : Bool) (x y z : A) → cond b x z ≡ cond b x (cond b y z)
shadowed true x y z = refl
shadowed false x y z = refl

-- two tests of which one fails, in either order
swapped : {A : Type 0} (a b : Bool) (x y z : A) → (a ≡ true → b ≡ true → ⊥) → cond a x (cond b y z) ≡ cond b y (cond a x z)
swapped true true x y z apart = absurd (apart refl refl)
swapped true false x y z apart = refl
swapped false b x y z apart = refl

module _ {Y X Z : Type 0} (part : X → Z) where
  -- a look-up of a name is one of its bytes
  find-named : (name : List ℕ) (files : List (String Y × X)) → find byte_cmp name (map (named part) files) ≡ option_map part (lookup (is_named name) files)
  find-named name [] = refl
  find-named name (file ∷ files) =
      elim (is_eq (byte_cmp name (string_bytes file.0))) as (λ b. cond b (Some (part file.1)) (find byte_cmp name (map (named part) files)) ≡ option_map part (cond b (Some file.1) (lookup (is_named name) files))) [
        | true ↦ refl
        | false ↦ find-named name files
      ]

  pub get-parts_by_name : (name : List ℕ) (files : List (String Y × X)) → get (parts_by_name part files) name ≡ option_map part (lookup (is_named name) files)
  get-parts_by_name name files = get-from_entries nat_list_cmp_total (map (named part) files) name ∙ find-named name files

  -- a name is put in its place, or its entry is replaced
  named-insert_entry : (name : String Y) (x : X) (files : List (String Y × X)) → map (named part) (insert_entry string_cmp files name x) ≡ put byte_cmp (string_bytes name) (part x) (map (named part) files)
  named-insert_entry name x [] = refl
  named-insert_entry name x (file ∷ files) =
      elim (string_cmp name file.0) as (λ o. map (named part) (by_order o ((name, x) ∷ file ∷ files) ((file.0, x) ∷ files) (file ∷ insert_entry string_cmp files name x)) ≡ by_order o (named part (name, x) ∷ named part file ∷ map (named part) files) ((string_bytes file.0, part x) ∷ map (named part) files) (named part file ∷ put byte_cmp (string_bytes name) (part x) (map (named part) files))) [
        | Less ↦ refl
        | Equal ↦ refl
        | Greater ↦ ap (λ es. named part file ∷ es) (named-insert_entry name x files)
      ]

  pub parts_by_name-insert_entry : (name : String Y) (x : X) (files : List (String Y × X)) → parts_by_name part (insert_entry string_cmp files name x) ≡ insert (parts_by_name part files) (string_bytes name) (part x)
  parts_by_name-insert_entry name x files =
      same_map nat_list_cmp_total (slice_cmp-IsAntisymmetric nat_cmp-IsAntisymmetric) _ _ (λ q. get-from_entries nat_list_cmp_total _ q
      ∙ ap (find byte_cmp q) (named-insert_entry name x files)
      ∙ find-put byte_cmp nat_list_cmp_total q (string_bytes name) (part x) (map (named part) files)
      ∙ sym (get-insert nat_list_cmp_total (parts_by_name part files) (string_bytes name) (part x) q
      ∙ ap (cond (is_eq (byte_cmp q (string_bytes name))) (Some (part x))) (get-from_entries nat_list_cmp_total (map (named part) files) q)))

  -- an entry that is changed elsewhere has the same part
  same_part : (name : List ℕ) (w : X) (files : List (String Y × X)) → option_map part (lookup (is_named name) files) ≡ Some (part w) → map (named part) (set_value (is_named name) files w) ≡ map (named part) files
  same_part name w [] is = refl
  same_part name w (file ∷ files) is =
      elim (is_named name file.0) as (λ b. option_map part (cond b (Some file.1) (lookup (is_named name) files)) ≡ Some (part w)
      → map (named part) (cond b ((file.0, w) ∷ files) (file ∷ set_value (is_named name) files w)) ≡ map (named part) (file ∷ files)) [
        | true ↦ λ same. ap (λ z. (string_bytes file.0, z) ∷ map (named part) files) (sym (ap (λ o. unwrap_or o (part w)) same))
        | false ↦ λ same. ap (λ es. named part file ∷ es) (same_part name w files same)
      ] is

  pub parts_by_name-set_value_same : (name : List ℕ) (w : X) (files : List (String Y × X)) → option_map part (lookup (is_named name) files) ≡ Some (part w) → parts_by_name part (set_value (is_named name) files w) ≡ parts_by_name part files
  parts_by_name-set_value_same name w files is = ap from_entries (same_part name w files is)

  -- a look-up after another value was put under a name that has one
  find-set_value : (q name : List ℕ) (w : X) (files : List (String Y × X))
      → find byte_cmp q (map (named part) (set_value (is_named name) files w)) ≡ cond (is_eq (byte_cmp q name)) (option_map (λ _. part w) (lookup (is_named name) files)) (find byte_cmp q (map (named part) files))
  find-set_value q name w [] = elim (is_eq (byte_cmp q name)) as (λ b. let none : Option Z = None in none ≡ cond b none none) [ true ↦ refl | false ↦ refl ]
  find-set_value q name w (file ∷ files) =
      let key = string_bytes file.0 in
      elim (is_named name file.0) as (λ t. is_named name file.0 ≡ t
      → find byte_cmp q (map (named part) (cond t ((file.0, w) ∷ files) (file ∷ set_value (is_named name) files w)))
      ≡ cond (is_eq (byte_cmp q name)) (option_map (λ _. part w) (cond t (Some file.1) (lookup (is_named name) files))) (find byte_cmp q (map (named part) (file ∷ files)))) [
        | true ↦ λ here.
            shadowed (is_eq (byte_cmp q key)) _ _ _
            ∙ ap (λ k. cond (is_eq (byte_cmp q k)) (Some (part w)) (cond (is_eq (byte_cmp q key)) (Some (part file.1)) (find byte_cmp q (map (named part) files)))) (sym ((same_name name key).0 here))
        | false ↦ λ other.
            ap (cond (is_eq (byte_cmp q key)) (Some (part file.1))) (find-set_value q name w files)
            ∙ swapped (is_eq (byte_cmp q key)) (is_eq (byte_cmp q name)) _ _ _ (λ is_key is_name. not_from_Decides _ (same_name name key) other (sym ((same_name q name).0 is_name) ∙ (same_name q key).0 is_key))
      ] refl

  pub parts_by_name-set_value : (name : List ℕ) (w : X) (files : List (String Y × X)) (before : X) → lookup (is_named name) files ≡ Some before → parts_by_name part (set_value (is_named name) files w) ≡ insert (parts_by_name part files) name (part w)
  parts_by_name-set_value name w files before is =
      same_map nat_list_cmp_total (slice_cmp-IsAntisymmetric nat_cmp-IsAntisymmetric) _ _ (λ q. get-from_entries nat_list_cmp_total _ q
      ∙ find-set_value q name w files
      ∙ ap (λ o. cond (is_eq (byte_cmp q name)) (option_map (λ _. part w) o) (find byte_cmp q (map (named part) files))) is
      ∙ sym (get-insert nat_list_cmp_total (parts_by_name part files) name (part w) q
      ∙ ap (cond (is_eq (byte_cmp q name)) (Some (part w))) (get-from_entries nat_list_cmp_total (map (named part) files) q)))

  -- a first entry in order is put back in its place
  put-first : (e : List ℕ × Z) (es : List (List ℕ × Z)) (files : List (String Y × X)) → es ≡ map (named part) files → AllByRecursion (λ k. byte_cmp e.0 (string_bytes k) ≡ Less) (keys_of files) → put byte_cmp e.0 e.1 es ≡ e ∷ es
  put-first e es [] are below = ap (put byte_cmp e.0 e.1) are ∙ ap (λ xs. e ∷ xs) (sym are)
  put-first e es (file ∷ files) are below =
      ap (put byte_cmp e.0 e.1) are
      ∙ ap (λ o. by_order o (e ∷ map (named part) (file ∷ files)) ((string_bytes file.0, e.1) ∷ map (named part) files) (named part file ∷ put byte_cmp e.0 e.1 (map (named part) files))) below.0
      ∙ ap (λ xs. e ∷ xs) (sym are)

  entries-parts_by_name : (files : List (String Y × X)) → IsStrictlySortedBy string_cmp (keys_of files) → entries (parts_by_name part files) ≡ map (named part) files
  entries-parts_by_name [] ordered = nil_from_length _ (sym (len-entries {R = byte_cmp} empty) ∙ len-empty byte_cmp Z)
  entries-parts_by_name (file ∷ files) ordered =
      let rest = entries-parts_by_name files (sorted_tail string_cmp file.0 (keys_of files) ordered) in
      entries-insert nat_list_cmp_total (parts_by_name part files) (string_bytes file.0) (part file.1)
      ∙ ap (put byte_cmp (string_bytes file.0) (part file.1)) rest
      ∙ put-first (named part file) (map (named part) files) files refl (sorted_head string_cmp file.0 (keys_of files) ordered)

  -- the names come out in their order
  names_of : (files : List (String Y × X)) → map (λ e. e.0) (map (named part) files) ≡ map string_bytes (keys_of files)
  names_of [] = refl
  names_of (file ∷ files) = ap (λ names. string_bytes file.0 ∷ names) (names_of files)

  pub keys-parts_by_name : (files : List (String Y × X)) → IsStrictlySortedBy string_cmp (keys_of files) → keys (parts_by_name part files) ≡ map string_bytes (keys_of files)
  keys-parts_by_name files ordered = ap (map (λ e. e.0)) (entries-parts_by_name files ordered) ∙ names_of files
