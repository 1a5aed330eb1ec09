-- The puts of the table: how long they are together, and that their keys rise.
use Rattle.std.specs.List.{All, sum_by}
use Rattle.std.proofs.Common.{List, map, ◌≡◌, ℕ, zero, suc, ◌+◌, ◌*◌, ◌^◌, ◌<◌, [], ◌∷◌, ◌++◌, length, get_or, refl, sym, ap, ◌∙◌, subst, add-one, arith, length-append}
use Rattle.std.proofs.Math.Seq.{get_or-append_seam}
use Rattle.std.proofs.lemmas.Simd.{map-map}
use Rattle.std.proofs.lemmas.List.FromFn.{length-map-range_with_len, get_or-map-range_with_len, map-range_with_len_more, sum_by-map-range_with_len_more}
use Rattle.std.specs.declared.cmp.Ordering.TheVariants.{Less}
use Rattle.rk_bytes.specs.declared.model.key.Record.{Record}
use Rattle.rk_bytes.specs.declared.model.key.Kind.TheVariants.{Value}
use Rattle.rk_bytes.specs.Model.InternalKey.{internal_key, key_cmp}
use Rattle.rk_bytes.specs.Model.Drill.{up_to, drill_key, drill_put}
use Rattle.rk_gen.specs.Puts.{own_puts}
use Rattle.rk_gen.proofs.RisingKeys.{high_first, internal_key-rises}

-- one key more
pub own_puts-more : (n : ℕ) → own_puts (n + 1) ≡ own_puts n ++ drill_put (n + 1) (n + 1) (n + 1) ∷ []
own_puts-more n = map-range_with_len_more (λ i. drill_put i i i) 1 n (n + 1) (omega arith)

-- what counts of a record in a table
weight : Record → ℕ
weight r = length r.key + 64

-- a key has 8 bytes
own_put-weight : (n : ℕ) → weight (drill_put n n n) ≡ 72
unfolding weight
own_put-weight n = omega (arith, high_first 8 n)

weights : (n : ℕ) → sum_by weight (own_puts n) ≡ 72 * n
weights zero = refl
weights (suc n) =
    let rest = weights n in
    let more = sum_by-map-range_with_len_more weight (λ i. drill_put i i i) 1 n (n + 1) (omega arith) in
    let last = own_put-weight (n + 1) in
    ap (λ n. sum_by weight (own_puts n)) (sym (add-one n)) ∙ omega (arith, more, last, rest)

pub own_puts-weight : (n : ℕ) → sum_by (λ (r : Record). length r.key + 64) (own_puts n) ≡ 72 * n
unfolding weight
own_puts-weight n = weights n

own_puts-before : (n j : ℕ) → n < j → j < 2 ^ 64 → All (λ (r : Record). key_cmp (internal_key r.key r.sequence r.kind) (internal_key (drill_key j) j Value) ≡ Less) (own_puts n)
own_puts-before n j below fits k d within =
    let len = length-map-range_with_len (λ i. drill_put i i i) 1 n in
    let at : get_or (own_puts n) k d ≡ drill_put (1 + k) (1 + k) (1 + k) = get_or-map-range_with_len (λ i. drill_put i i i) 1 n k (1 + k) d (omega arith) refl in
    subst (λ (r : Record). key_cmp (internal_key r.key r.sequence r.kind) (internal_key (drill_key j) j Value) ≡ Less) (sym at) (internal_key-rises (1 + k) j (1 + k) j Value Value (omega arith) fits)

-- the next key comes after the last one
pub own_puts-next : (n j : ℕ) → n < j → j < 2 ^ 64 → (before : List Record) (last : Record) → own_puts n ≡ before ++ last ∷ []
    → key_cmp (internal_key last.key last.sequence last.kind) (internal_key (drill_key j) j Value) ≡ Less
own_puts-next n j below fits before last is =
    let within : length before < length (own_puts n) = omega (arith, ap (λ (records : List Record). length records) is, length-append before (last ∷ [])) in
    let there : get_or (own_puts n) (length before) last ≡ last = ap (λ records. get_or records (length before) last) is ∙ get_or-append_seam before last [] last in
    subst (λ (r : Record). key_cmp (internal_key r.key r.sequence r.kind) (internal_key (drill_key j) j Value) ≡ Less) there (own_puts-before n j below fits (length before) last within)

-- the records are of the default family
pub own_puts-family : (n : ℕ) → map (λ (r : Record). record r { family = 0 }) (own_puts n) ≡ own_puts n
own_puts-family n = map-map (λ (r : Record). record r { family = 0 }) (λ i. drill_put i i i) (up_to n)
