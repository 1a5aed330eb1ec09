-- The entries of the map of blocks as the blocks that a cache keeps.
use Rattle.std.proofs.Common.{◌≡◌, ℕ, ◌-◌, Bool, true, false, cond, List, [], ◌∷◌, take, Option, Some, None, IfSome, OnErr, Result, Ok, Err, refl, sym, ap, ◌∙◌, subst, zero, suc}
use Rattle.std.specs.Prelude.{nat_eq, ◌||◌, map, find, is_some, option_map, slice_get}
use Rattle.std.specs.List.{list_any, AllByRecursion}
use Rattle.std.specs.Map.{lookup, lookup_entry, remove_entry}
use Rattle.std.proofs.lemmas.Bool.{and_parts, eqb-true}
use Rattle.std.proofs.lemmas.Option.{slice_get-map, IfSome_then}
use Rattle.lru.specs.LruCache.{LruCache, lru_cache, promoted, put_entries}
use Rattle.rk_bytes.specs.declared.model.table.SumKind.{SumKind}
use Rattle.rk_bytes.specs.declared.model.table.SumKind.TheVariants.{NoSum, Crc32c, Xxh32, Xxh64}
use Rattle.rk_bytes.specs.Model.DiskImages.{Directory}
use Rattle.rk_cache.specs.declared.key.BlockKey.{BlockKey}
use Rattle.rk_cache.specs.Kept.{Kept, CacheSeen, kept_under, kept_of, is_sum, is_handle, is_same, block_of, without, after_giving, newest}
use Rattle.rk_cache.specs.Answers.{block_in, HoldsFor, IsGiven}

-- an entry of the map of blocks
abbrev Entry : Type 0
Entry = BlockKey × List ℕ

same_sum : (one other : SumKind) → is_sum one other ≡ true → one ≡ other
same_sum NoSum NoSum e = refl
same_sum Crc32c Crc32c e = refl
same_sum Xxh32 Xxh32 e = refl
same_sum Xxh64 Xxh64 e = refl
same_sum NoSum Crc32c e = absurd cc
same_sum NoSum Xxh32 e = absurd cc
same_sum NoSum Xxh64 e = absurd cc
same_sum Crc32c NoSum e = absurd cc
same_sum Crc32c Xxh32 e = absurd cc
same_sum Crc32c Xxh64 e = absurd cc
same_sum Xxh32 NoSum e = absurd cc
same_sum Xxh32 Crc32c e = absurd cc
same_sum Xxh32 Xxh64 e = absurd cc
same_sum Xxh64 NoSum e = absurd cc
same_sum Xxh64 Crc32c e = absurd cc
same_sum Xxh64 Xxh32 e = absurd cc

-- what is kept under the same is kept under this key
same_key : (key other : BlockKey) (block block' : List ℕ) → is_same (kept_under key block) (kept_under other block') ≡ true → key ≡ other
same_key key other block block' e =
    let a = and_parts (nat_eq key.number other.number) _ e in
    let b = and_parts (nat_eq key.size other.size) _ a.1 in
    let c = and_parts (is_handle key.handle other.handle) (is_sum key.sum other.sum) b.1 in
    let d = and_parts (nat_eq key.handle.offset other.handle.offset) (nat_eq key.handle.size other.handle.size) c.0 in
    let number = eqb-true key.number other.number a.0 in
    let size = eqb-true key.size other.size b.0 in
    let offset = eqb-true key.handle.offset other.handle.offset d.0 in
    let len = eqb-true key.handle.size other.handle.size d.1 in
    let sum = same_sum key.sum other.sum c.1 in
    λ i. record { number = number i; size = size i; handle = record { offset = offset i; size = len i }; sum = sum i }

all_without : (P : Kept → Type 0) (test : Kept → Bool) (kept : List Kept) → AllByRecursion P kept → AllByRecursion P (without test kept)
all_without P test [] all = all
all_without P test (one ∷ more) all =
    elim (test one) as (λ t. AllByRecursion P (cond t more (one ∷ without test more))) [
      | true ↦ all.1
      | false ↦ (all.0, all_without P test more all.1)
    ]

all_take : (P : Kept → Type 0) (n : ℕ) (kept : List Kept) → AllByRecursion P kept → AllByRecursion P (take n kept)
all_take P zero kept all = tt
all_take P (suc n) [] all = tt
all_take P (suc n) (one ∷ more) all = (all.0, all_take P n more all.1)

-- a value that is found by its key is found with its key
entry_of : (test : BlockKey → Bool) (es : List Entry) → is_some (lookup test es) ≡ true → (e : Entry) × (lookup_entry test es ≡ Some e)
entry_of test [] e = absurd cc
entry_of test (x ∷ es) e =
    (elim (test x.0) as (λ t. is_some (cond t (Some x.1) (lookup test es)) ≡ true → (e : Entry) × (cond t (Some x) (lookup_entry test es) ≡ Some e)) [
      | true ↦ λ e. (x, refl)
      | false ↦ λ e. entry_of test es e
    ]) e

no_entry : (test : BlockKey → Bool) (es : List Entry) → is_some (lookup test es) ≡ false → lookup_entry test es ≡ None
no_entry test [] e = refl
no_entry test (x ∷ es) e =
    (elim (test x.0) as (λ t. is_some (cond t (Some x.1) (lookup test es)) ≡ false → cond t (Some x) (lookup_entry test es) ≡ None) [
      | true ↦ λ e. absurd cc
      | false ↦ λ e. no_entry test es e
    ]) e

map-take : (n : ℕ) (es : List Entry) → map kept_of (take n es) ≡ take n (map kept_of es)
map-take zero es = refl
map-take (suc n) [] = refl
map-take (suc n) (x ∷ es) = λ i. kept_of x ∷ map-take n es i

-- one test of keys, and the same test of what is kept
module _ (test : BlockKey → Bool) (mine : Kept → Bool) (is : (e : Entry) → mine (kept_of e) ≡ test e.0) where
  found : (es : List Entry) → find mine (map kept_of es) ≡ option_map kept_of (lookup_entry test es)
  found [] = refl
  found (x ∷ es) =
      ap (λ t. cond t (Some (kept_of x)) (find mine (map kept_of es))) (is x)
      ∙ elim (test x.0) as (λ t. cond t (Some (kept_of x)) (find mine (map kept_of es)) ≡ option_map kept_of (cond t (Some x) (lookup_entry test es))) [
        | true ↦ refl
        | false ↦ found es
      ]

  any : (es : List Entry) → list_any mine (map kept_of es) ≡ is_some (lookup_entry test es)
  any [] = refl
  any (x ∷ es) =
      ap (λ t. t || list_any mine (map kept_of es)) (is x)
      ∙ elim (test x.0) as (λ t. (t || list_any mine (map kept_of es)) ≡ is_some (cond t (Some x) (lookup_entry test es))) [
        | true ↦ refl
        | false ↦ any es
      ]

  removed : (es : List Entry) → map kept_of (remove_entry test es) ≡ without mine (map kept_of es)
  removed [] = refl
  removed (x ∷ es) =
      sym (ap (λ t. cond t (map kept_of es) (kept_of x ∷ without mine (map kept_of es))) (is x)
      ∙ elim (test x.0) as (λ t. cond t (map kept_of es) (kept_of x ∷ without mine (map kept_of es)) ≡ map kept_of (cond t es (x ∷ remove_entry test es))) [
        | true ↦ refl
        | false ↦ λ i. kept_of x ∷ sym (removed es) i
      ])

  -- the entry that is found passes the test, and what is true of all is true of it
  passes : (es : List Entry) (e : Entry) → lookup_entry test es ≡ Some e → test e.0 ≡ true
  passes [] e told = absurd cc
  passes (x ∷ es) e told =
      (elim (test x.0) as (λ t. test x.0 ≡ t → cond t (Some x) (lookup_entry test es) ≡ Some e → test e.0 ≡ true) [
        | true ↦ λ is told. let same : x ≡ e = cc in subst (λ (y : Entry). test y.0 ≡ true) same is
        | false ↦ λ is told. passes es e told
      ]) refl told

  true_of : (P : Kept → Type 0) (es : List Entry) (e : Entry) → lookup_entry test es ≡ Some e → AllByRecursion P (map kept_of es) → P (kept_of e)
  true_of P [] e told all = absurd cc
  true_of P (x ∷ es) e told all =
      (elim (test x.0) as (λ t. cond t (Some x) (lookup_entry test es) ≡ Some e → P (kept_of e)) [
        | true ↦ λ told. let same : x ≡ e = cc in subst (λ (y : Entry). P (kept_of y)) same all.0
        | false ↦ λ told. true_of P es e told all.1
      ]) told

-- a cache of these entries
abbrev pub seen : List Entry → ℕ → CacheSeen
seen es cap = record { capacity = cap; kept = map kept_of es }

-- a map of blocks as its cache is seen
abbrev pub view : LruCache BlockKey (List ℕ) → CacheSeen
view blocks = seen blocks.entries blocks.cap

-- the test passes this key, and no other
abbrev pub IsTestOf : BlockKey → (BlockKey → Bool) → Type 0
IsTestOf key test = (other : BlockKey) → is_same (kept_under key []) (kept_under other []) ≡ test other

-- Where the key is found, its entry goes to the front.
module _ (key : BlockKey) (test : BlockKey → Bool) (is : IsTestOf key test) (es : List Entry) (cap : ℕ) where
  block_found : (o : Option Entry) → lookup_entry test es ≡ o → block_of key.number key.size key.handle key.sum (map kept_of es) ≡ option_map (λ e. e.1) o
  block_found o told = ap (option_map (λ (one : Kept). one.block)) (found test (is_same (kept_under key [])) (λ e. is e.0) es ∙ ap (option_map kept_of) told) ∙ blocks o
    where
      blocks : (o : Option Entry) → option_map (λ (one : Kept). one.block) (option_map kept_of o) ≡ option_map (λ e. e.1) o
      blocks None = refl
      blocks (Some e) = refl

  pub none_kept : is_some (lookup test es) ≡ false → (block : List ℕ) → block_of key.number key.size key.handle key.sum (map kept_of es) ≡ Some block → ⊥
  none_kept none block told = let e : Some block ≡ None = sym told ∙ block_found None (no_entry test es none) in absurd cc

  pub stays : is_some (lookup test es) ≡ false → promoted test es ≡ es
  stays none = rw (no_entry test es none) refl

  pub given_kept : (told : Option Directory) → is_some (lookup test es) ≡ true → IfSome told (HoldsFor (map kept_of es)) → IsGiven (seen es cap) key told (seen (promoted test es) cap)
  given_kept told some holds =
      let (e, at) = entry_of test es some in
      let same : key ≡ e.0 = same_key key e.0 [] [] (is e.0 ∙ passes test (is_same (kept_under key [])) (λ e. is e.0) es e at) in
      let list : map kept_of (promoted test es) ≡ kept_of e ∷ without (is_same (kept_under key e.1)) (map kept_of es) =
      rw at (λ i. kept_of e ∷ removed test (is_same (kept_under key e.1)) (λ e. is e.0) es i) in
      let any' : list_any (is_same (kept_under key e.1)) (map kept_of es) ≡ true = any test (is_same (kept_under key e.1)) (λ e. is e.0) es ∙ ap is_some at in
      let now : seen (promoted test es) cap ≡ after_giving (seen es cap) (kept_under key e.1) =
      ap (λ kept. record { capacity = cap; kept = kept }) (list ∙ (λ i. kept_under (sym same i) e.1 ∷ cond (sym any' i) (without (is_same (kept_under key e.1)) (map kept_of es)) (take (cap - 1) (map kept_of es)))) in
      record {
        block = e.1;
        is = IfSome_then told holds (λ files holds. subst (λ (k : BlockKey). block_in files k.number k.size k.handle k.sum ≡ Ok e.1) (sym same) (true_of test (is_same (kept_under key [])) (λ e. is e.0) (λ one. block_in files one.number one.size one.handle one.sum ≡ Ok one.block) es e at holds));
        now = now;
        holds = IfSome_then told holds (λ files holds. subst (λ kept. HoldsFor kept files) (sym list) (
          true_of test (is_same (kept_under key [])) (λ e. is e.0) (λ one. block_in files one.number one.size one.handle one.sum ≡ Ok one.block) es e at holds,
          all_without (λ one. block_in files one.number one.size one.handle one.sum ≡ Ok one.block) (is_same (kept_under key e.1)) (map kept_of es) holds,
        ));
      }

  pub newest_kept : is_some (lookup test es) ≡ true → (block : List ℕ) → block_of key.number key.size key.handle key.sum (map kept_of es) ≡ Some block → newest (map kept_of (promoted test es)) ≡ Some block
  newest_kept some block told =
      let (e, at) = entry_of test es some in
      rw at (sym (block_found (Some e) at) ∙ told)

  -- Where it isn't, the block that was read goes in front, and the last out of a full cache.
  pub given_new : (told : Option Directory) (block : List ℕ) → is_some (lookup test es) ≡ false → IfSome told (HoldsFor (map kept_of es)) → IfSome told (λ files. block_in files key.number key.size key.handle key.sum ≡ Ok block)
      → IsGiven (seen es cap) key told (seen ((key, block) ∷ take (cap - 1) es) cap)
  given_new told block none holds read =
      let list : map kept_of ((key, block) ∷ take (cap - 1) es) ≡ kept_under key block ∷ take (cap - 1) (map kept_of es) = λ i. kept_under key block ∷ map-take (cap - 1) es i in
      let any' : list_any (is_same (kept_under key block)) (map kept_of es) ≡ false = any test (is_same (kept_under key block)) (λ e. is e.0) es ∙ ap is_some (no_entry test es none) in
      record {
        block = block;
        is = read;
        now = ap (λ kept. record { capacity = cap; kept = kept }) (list ∙ (λ i. kept_under key block ∷ cond (sym any' i) (without (is_same (kept_under key block)) (map kept_of es)) (take (cap - 1) (map kept_of es))));
        holds = both told holds read (λ files holds read. subst (λ kept. HoldsFor kept files) (sym list) (read, all_take (λ one. block_in files one.number one.size one.handle one.sum ≡ Ok one.block) (cap - 1) (map kept_of es) holds));
      }
    where
      both : {P Q R : Directory → Type 0} (told : Option Directory) → IfSome told P → IfSome told Q → ((files : Directory) → P files → Q files → R files) → IfSome told R
      both None p q f = tt
      both (Some files) p q f = f files p q

pub empty_of : {A : Type 0} (xs : List A) → None ≡ slice_get xs 0 → xs ≡ []
empty_of [] e = refl
empty_of (x ∷ xs) e = absurd cc

pub newest_of : (es : List Entry) (e : Entry) → slice_get es 0 ≡ Some e → newest (map kept_of es) ≡ Some e.1
newest_of es e told = ap (option_map (λ (one : Kept). one.block)) (slice_get-map kept_of es 0 ∙ ap (option_map kept_of) told)

-- where the key isn't there, the same is seen, and nothing is kept under it
module _ (key : BlockKey) (test : BlockKey → Bool) (is : IsTestOf key test) (blocks : LruCache BlockKey (List ℕ)) (old : CacheSeen) (is_seen : view blocks ≡ old) (none : is_some (lookup test blocks.entries) ≡ false) where
  pub same : (new : LruCache BlockKey (List ℕ)) → new ≡ lru_cache (promoted test blocks.entries) blocks.cap → new ≡ blocks
  same new now = now ∙ ap (λ es. lru_cache es blocks.cap) (stays key test is blocks.entries blocks.cap none)

  pub left : (new : LruCache BlockKey (List ℕ)) → new ≡ lru_cache (promoted test blocks.entries) blocks.cap → view new ≡ old
  left new now = ap view (same new now) ∙ is_seen

  pub not_kept : (block : List ℕ) → block_of key.number key.size key.handle key.sum old.kept ≡ Some block → ⊥
  not_kept block told =
      none_kept key test is blocks.entries blocks.cap none block
      (subst (λ (s : CacheSeen). block_of key.number key.size key.handle key.sum s.kept ≡ Some block) (sym is_seen) told)

-- a new key's entry, in front of the others
pub puts : (eq : BlockKey → BlockKey → Bool) (es : List Entry) (cap : ℕ) (key : BlockKey) (block : List ℕ) → is_some (lookup (eq key) es) ≡ false → put_entries eq (lru_cache es cap) key block ≡ (key, block) ∷ take (cap - 1) es
puts eq es cap key block none = rw (no_entry (eq key) es none) refl

pub on_err : {T E : Type 0} (r : Result T E) {P : Type 0} → P → OnErr r P
on_err (Ok x) p = tt
on_err (Err e) p = p
