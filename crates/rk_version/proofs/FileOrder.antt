-- The order of files by level, least key and number.
use Rattle.std.proofs.Common.{◌≡◌, ℕ, ◌≤◌, true, false, ◌⊎◌, inl, inr, refl, sym, ap, ◌∙◌, arith}
use Rattle.std.specs.declared.cmp.Ordering.{Ordering}
use Rattle.std.specs.declared.cmp.Ordering.TheVariants.{Less, Equal, Greater}
use Rattle.std.specs.Ordering.{nat_cmp, is_lt, ordering_then, ordering_reverse}
use Rattle.std.specs.Cmp.{IsTotalOrder, on_total, back_total, then_total, nat_cmp_total, nat_cmp_is}
use Rattle.std.specs.Cmp.Lexicographic.{nat_list_cmp_total}
use Rattle.std.proofs.lemmas.Bool.{false≢true}
use Rattle.std.proofs.lemmas.Cmp.{ranked}
use Rattle.rk_bytes.specs.declared.model.manifest.FileMeta.{FileMeta}
use Rattle.rk_bytes.specs.Model.InternalKey.{user_key, packed, key_cmp}
use Rattle.rk_bytes.specs.Model.Manifest.{comes_before, ends_below}
use Rattle.rk_version.specs.Spots.{file_cmp}

key_total : IsTotalOrder key_cmp
key_total = then_total (on_total user_key nat_list_cmp_total) (back_total (on_total packed nat_cmp_total))

abbrev place_cmp : FileMeta → FileMeta → Ordering
place_cmp a b = ordering_then (key_cmp a.smallest b.smallest) (nat_cmp a.number b.number)

place_total : IsTotalOrder place_cmp
place_total = then_total (on_total (λ (file : FileMeta). file.smallest) key_total) (on_total (λ (file : FileMeta). file.number) nat_cmp_total)

pub file_total : IsTotalOrder file_cmp
file_total = then_total (then_total (on_total (λ (file : FileMeta). file.level) nat_cmp_total) (on_total (λ (file : FileMeta). file.smallest) key_total)) (on_total (λ (file : FileMeta). file.number) nat_cmp_total)

pub is_less : (r : Ordering) → is_lt r ≡ true → r ≡ Less
is_less Less e = refl
is_less Equal e = absurd (false≢true e)
is_less Greater e = absurd (false≢true e)

then_less : (r s : Ordering) → ordering_then r s ≡ Less → (r ≡ Less) ⊎ (r ≡ Equal)
then_less Less s e = inl refl
then_less Equal s e = inr refl
then_less Greater s e = absurd cc

pub then_equal : (r s : Ordering) → ordering_then r s ≡ Equal → (r ≡ Equal) × (s ≡ Equal)
then_equal Less s e = absurd cc
then_equal Equal s e = (refl, e)
then_equal Greater s e = absurd cc

level_of : (a b : ℕ) (r : Ordering) → r ≡ nat_cmp a b → (r ≡ Less) ⊎ (r ≡ Equal) → a ≤ b
level_of a b Less e h = let less = ranked a b Less e in omega (arith, less)
level_of a b Equal e h = let same = ranked a b Equal e in omega (arith, same)
level_of a b Greater e h = elim h [ inl l ↦ absurd cc | inr l ↦ absurd cc ]

-- levels don't fall
pub level_up : (a b : FileMeta) → file_cmp a b ≡ Less → a.level ≤ b.level
level_up a b e =
    let levels = nat_cmp a.level b.level in
    let keys = key_cmp a.smallest b.smallest in
    level_of a.level b.level levels refl (elim (then_less (ordering_then levels keys) (nat_cmp a.number b.number) e) [
      | inl first ↦ then_less levels keys first
      | inr first ↦ inr (then_equal levels keys first).0
    ])

-- at one level a file comes before those behind it
pub before : (a b : FileMeta) → a.level ≡ b.level → file_cmp a b ≡ Less → place_cmp a b ≡ Less
before a b same e =
    let levels : nat_cmp a.level b.level ≡ Equal = sym (nat_cmp_is a.level b.level Equal same) in
    sym (ap (λ r. ordering_then (ordering_then r (key_cmp a.smallest b.smallest)) (nat_cmp a.number b.number)) levels) ∙ e

-- and none of them before it
pub not_after : (a b : FileMeta) → place_cmp a b ≡ Less → comes_before b a ≡ false
not_after a b e = ap is_lt (place_total.antisymm b a ∙ ap ordering_reverse e)

less_greater : Less ≡ Greater → ⊥
less_greater e = cc

pub not_itself : (a : FileMeta) → comes_before a a ≡ false
not_itself a = by (place_cmp a a) refl
  where
    by : (r : Ordering) → place_cmp a a ≡ r → is_lt (place_cmp a a) ≡ false
    by Less e = let other = place_total.antisymm a a ∙ ap ordering_reverse e in absurd (less_greater (sym e ∙ other))
    by Equal e = ap is_lt e
    by Greater e = ap is_lt e

-- a file that ends below one ends below those behind that
pub ends_further : (a b c : FileMeta) → ends_below a b ≡ true → place_cmp b c ≡ Less → ends_below a c ≡ true
ends_further a b c ends e =
    let less = is_less (key_cmp a.largest b.smallest) ends in
    elim (then_less (key_cmp b.smallest c.smallest) (nat_cmp b.number c.number) e) [
      | inl first ↦ ap is_lt (key_total.trans a.largest b.smallest c.smallest less first)
      | inr first ↦
          ap is_lt (key_total.antisymm a.largest c.smallest ∙ ap ordering_reverse (sym (key_total.congr b.smallest c.smallest a.largest first)) ∙ sym (key_total.antisymm a.largest b.smallest) ∙ less)
    ]
