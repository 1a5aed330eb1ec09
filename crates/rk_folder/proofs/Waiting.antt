-- Bytes that are held in a part of an array, and what becomes of them.
use Rattle.std.proofs.Common.{◌≡◌, ℕ, ◌+◌, ◌-◌, ◌≤◌, Option, List, [], ◌++◌, length, take, drop, refl, sym, ap, ◌∙◌, arith, append-nil, length-take-le, length-drop}
use Rattle.std.proofs.Math.Seq.{take-append-add}
use Rattle.std.proofs.lemmas.List.{drop-drop, drop-append-le, take_at, drop-take}
use Rattle.std.specs.Io.KnownBytes.{Appends}
use Rattle.std.proofs.KnownBytes.{Appends-trans}
use borrow.Rule.Slice.PartMut.{put_mid}
use Rattle.rk_folder.specs.HandsOn.{HandsOn}

-- the bytes from one place to another
abbrev pub part_of : ℕ → ℕ → List ℕ → List ℕ
part_of start end room = take (end - start) (drop start room)

-- without the first of them
pub part_behind : (start end n : ℕ) (room : List ℕ) → n ≤ end - start → part_of (start + n) end room ≡ drop n (part_of start end room)
part_behind start end n room few =
    let m = end - start - n in
    let left : end - (start + n) ≡ m = omega arith in
    let sum : n + m ≡ end - start = omega (arith, few) in
    (λ i. take (left i) (sym (drop-drop n start room) i))
    ∙ sym (drop-take n m (drop start room))
    ∙ ap (λ k. drop n (take k (drop start room))) sum

-- with bytes written behind them
pub part_more : (start end k : ℕ) (room bytes : List ℕ) → start ≤ end → end ≤ length room → part_of start (end + length bytes) (put_mid end k room bytes) ≡ part_of start end room ++ bytes
part_more start end k room bytes rising within =
    let post = drop k (drop end room) in
    let front = drop start (take end room) in
    let long : length (take end room) ≡ end = length-take-le end room within in
    let count : (end + length bytes) - start ≡ length front + length bytes = omega (arith, length-drop start (take end room), long, rising) in
    let sum : start + (end - start) ≡ end = omega (arith, rising) in
    let same : front ≡ part_of start end room = ap (λ k. drop start (take k room)) (sym sum) ∙ drop-take start (end - start) room in
    (λ i. take (count i) (drop-append-le start (take end room) (bytes ++ post) (omega (arith, long, rising)) i))
    ∙ take-append-add front (bytes ++ post) (length bytes)
    ∙ (λ i. same i ++ take_at bytes post (length bytes) refl i)

-- all that was held is handed on, and the bytes go through behind it
pub then_through : (a b c : Option (List ℕ)) (held before mid after bytes : List ℕ) → before ≡ held → after ≡ mid → HandsOn a b before mid → mid ≡ [] → Appends b c bytes → HandsOn a c (held ++ bytes) after
then_through a b c held before mid after bytes same_before same_after on none more =
    let all : held ≡ on.0 = sym same_before ∙ on.2 ∙ ap (λ l. on.0 ++ l) none ∙ append-nil on.0 in (
      on.0 ++ bytes,
      Appends-trans a b c on.0 bytes on.1 more,
      ap (λ l. l ++ bytes) all ∙ sym (ap (λ l. (on.0 ++ bytes) ++ l) (same_after ∙ none) ∙ append-nil (on.0 ++ bytes)),
    )
