-- A varint is written from its front on, group after group.
use Rattle.std.specs.Prelude.{slice_set}
use Rattle.std.proofs.Common.{◌≡◌, ℕ, zero, suc, ◌+◌, ◌-◌, ◌*◌, ◌/◌, ◌%◌, ◌^◌, ◌<◌, ◌≤◌, List, [], ◌∷◌, ◌++◌, length, take, refl, sym, ap, ◌∙◌, subst, inl, inr, add-one, arith, append_assoc}
use Rattle.std.proofs.Math.Nat.{pow-succ', mul_assoc, mul-le-mul_right}
use Rattle.std.proofs.Math.Seq.{take-suc-set}
use Rattle.std.proofs.Math.ListN.{length-set}
use Rattle.std.proofs.lemmas.Bool.{lt-ltb, le-ltb, cond-true, cond-false, cases_lt}
use Rattle.rk_bytes.specs.Model.Numbers.{varint_with}

-- the bytes so far at the front, and what is left of the value, which is spelled after them
pub record Spelled (value len left : ℕ) (bytes : List ℕ) : Type 0 where
  pub room : length bytes ≡ 10
  pub short : len ≤ 9
  pub fits : left * 128 ^ len < 2 ^ 64
  pub so_far : varint_with 9 value ≡ take len bytes ++ varint_with (9 - len) left

pub Spelled-start : (value : ℕ) (bytes : List ℕ) → length bytes ≡ 10 → value < 2 ^ 64 → Spelled value 0 value bytes
Spelled-start value bytes room fits = record { room = room; short = omega arith; fits = omega arith; so_far = refl }

not_ninth : (len left : ℕ) → len ≤ 9 → left * 128 ^ len < 2 ^ 64 → 128 ≤ left → len < 9
not_ninth len left short fits more = elim (cases_lt len 9) [
  | inl few ↦ few
  | inr nine ↦ let is : len ≡ 9 = omega arith in
      let great : left * 9223372036854775808 < 2 ^ 64 = subst (λ len. left * 128 ^ len < 2 ^ 64) is fits in omega arith
]

step : (more left : ℕ) → 128 ≤ left → varint_with (suc more) left ≡ (left % 128 + 128) ∷ varint_with more (left / 128)
step more left high = cond-false _ _ _ (le-ltb left 128 high)

last : (more left : ℕ) → left < 128 → varint_with more left ≡ left ∷ []
last zero left low = refl
last (suc more) left low = cond-true _ _ _ (lt-ltb left 128 low)

pub Spelled-more : (value len left : ℕ) (bytes : List ℕ) → 128 ≤ left → Spelled value len left bytes → Spelled value (len + 1) (left / 128) (slice_set bytes len (left % 128 + 128))
Spelled-more value len left bytes high s =
    let few : len < 9 = not_ninth len left s.short s.fits high in
    let within : len < length bytes = omega (arith, s.room) in
    let rest : 9 - len ≡ suc (9 - (len + 1)) = omega arith in
    let power : 128 ^ (len + 1) ≡ 128 * 128 ^ len = rw add-one (pow-succ' 128 len) in
    let front : take (len + 1) (slice_set bytes len (left % 128 + 128)) ≡ take len bytes ++ (left % 128 + 128) ∷ [] = rw add-one (take-suc-set bytes len (left % 128 + 128) within) in
    let scaled : left / 128 * 128 ^ (len + 1) ≡ left / 128 * 128 * 128 ^ len = ap (λ p. left / 128 * p) power ∙ sym (mul_assoc (left / 128) 128 (128 ^ len)) in
    let fewer : left / 128 * 128 * 128 ^ len ≤ left * 128 ^ len = mul-le-mul_right (128 ^ len) (omega arith) in record {
      room = length-set bytes len (left % 128 + 128) ∙ s.room;
      short = omega arith;
      fits = omega (arith, s.fits, scaled, fewer);
      so_far =
          s.so_far ∙ ap (λ m. take len bytes ++ varint_with m left) rest ∙ ap (λ v. take len bytes ++ v) (step (9 - (len + 1)) left high)
          ∙ sym (append_assoc (take len bytes) ((left % 128 + 128) ∷ []) (varint_with (9 - (len + 1)) (left / 128)))
          ∙ ap (λ v. v ++ varint_with (9 - (len + 1)) (left / 128)) (sym front);
    }

pub Spelled-whole : (value len left : ℕ) (bytes : List ℕ) → left < 128 → Spelled value len left bytes → take (len + 1) (slice_set bytes len left) ≡ varint_with 9 value
Spelled-whole value len left bytes low s =
    let within : len < length bytes = omega (arith, s.short, s.room) in
    rw add-one (take-suc-set bytes len left within) ∙ ap (λ v. take len bytes ++ v) (sym (last (9 - len) left low)) ∙ sym s.so_far
