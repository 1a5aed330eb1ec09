-- Internal keys and slots are in a total order.
use Rattle.std.proofs.Common.{◌≡◌, ℕ, ◌-◌, ◌≤◌, List, ◌++◌, length, take, drop, refl, sym, ◌∙◌, arith, length-drop, take-append-drop}
use Rattle.std.specs.declared.cmp.Ordering.{Ordering}
use Rattle.std.specs.declared.cmp.Ordering.TheVariants.{Less, Equal, Greater}
use Rattle.std.specs.Ordering.{ordering_then, nat_cmp}
use Rattle.std.specs.Cmp.{IsTotalOrder, on_total, back_total, then_total, nat_cmp_total}
use Rattle.std.specs.Cmp.Lexicographic.{slice_cmp, nat_list_cmp_total}
use Rattle.std.specs.FinMap.{IsAntisymmetric, nat_cmp-IsAntisymmetric, slice_cmp-IsAntisymmetric}
use Rattle.rk_bytes.specs.Model.Numbers.{AreBytes}
use Rattle.rk_bytes.specs.Model.InternalKey.{user_key, packed, key_cmp}
use Rattle.rk_bytes.specs.Model.Records.{slot_cmp}
pub use Rattle.rk_bytes.specs.Model.Records.{slot_cmp-total}
use Rattle.rk_bytes.proofs.Callers.FixedNumbers.{little_endian-only_equal}
use Rattle.rk_bytes.proofs.Callers.Readings.{bytes_after}

pub key_cmp-total : IsTotalOrder key_cmp
key_cmp-total = then_total (on_total user_key nat_list_cmp_total) (back_total (on_total packed nat_cmp_total))

both_equal : (r s : Ordering) → ordering_then r s ≡ Equal → (r ≡ Equal) × (s ≡ Equal)
both_equal Less s e = cc
both_equal Equal s e = (refl, e)
both_equal Greater s e = cc

same_text : IsAntisymmetric (slice_cmp nat_cmp)
same_text = slice_cmp-IsAntisymmetric nat_cmp-IsAntisymmetric

pub slot_cmp-only_equal : IsAntisymmetric slot_cmp
unfolding slot_cmp
slot_cmp-only_equal p q e =
    let a = both_equal (nat_cmp p.family q.family) _ e in
    let b = both_equal (slice_cmp nat_cmp p.user q.user) _ a.1 in
    let c = both_equal (nat_cmp q.packed p.packed) _ b.1 in
    let family = nat_cmp-IsAntisymmetric p.family q.family a.0 in
    let user = same_text p.user q.user b.0 in
    let number = sym (nat_cmp-IsAntisymmetric q.packed p.packed c.0) in
    let end = same_text p.end q.end c.1 in
    λ i. record { family = family i; user = user i; packed = number i; end = end i }

-- the last bytes of bytes
pub AreBytes-drop : (k : ℕ) (bytes : List ℕ) → AreBytes bytes → AreBytes (drop k bytes)
AreBytes-drop k bytes are = bytes_after bytes (take k bytes) (drop k bytes) are (sym (take-append-drop k bytes))

pub length-end : (xs : List ℕ) → 8 ≤ length xs → length (drop (length xs - 8) xs) ≡ 8
length-end xs long = omega (arith, length-drop (length xs - 8) xs)

pub key_cmp-only_equal : (a b : List ℕ) → 8 ≤ length a → 8 ≤ length b → AreBytes a → AreBytes b → key_cmp a b ≡ Equal → a ≡ b
key_cmp-only_equal a b a-long b-long a-bytes b-bytes e =
    let parts = both_equal (slice_cmp nat_cmp (user_key a) (user_key b)) (nat_cmp (packed b) (packed a)) e in
    let users = same_text (user_key a) (user_key b) parts.0 in
    let number : packed a ≡ packed b = sym (nat_cmp-IsAntisymmetric (packed b) (packed a) parts.1) in
    let ends = little_endian-only_equal (drop (length a - 8) a) (drop (length b - 8) b) (length-end a a-long ∙ sym (length-end b b-long))
    (AreBytes-drop (length a - 8) a a-bytes) (AreBytes-drop (length b - 8) b b-bytes) number in
    sym (take-append-drop (length a - 8) a) ∙ (λ i. users i ++ ends i) ∙ take-append-drop (length b - 8) b
