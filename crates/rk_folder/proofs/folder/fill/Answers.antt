use Rattle.std.proofs.Common.{◌≡◌, ℕ, ◌+◌, ◌≤◌, Option, List, ◌++◌, length, take, sym, ap, ◌∙◌, subst, rules, le_refl, length-take-le}
use Rattle.std.proofs.Math.Seq.{take-append-add}
use Rattle.std.proofs.lemmas.List.{take-append-le}
use Rattle.std.proofs.lemmas.Slice.{take-put_mid_below}
use Rattle.std.specs.Io.KnownBytes.{Consumes, Keeps}
use Rattle.std.proofs.KnownBytes.{Consumes-kept, Consumes-trans}
use borrow.Rule.Slice.PartMut.{put_mid, post_of}
use Rattle.rk_folder.proofs.folder.fill.Goals as goal
use Rattle.rk_folder.proofs.folder.fill.Goals.{in-Ok, in-Err}

-- the front of a buffer, and n of the bytes that were written behind it
take-put_mid-part : (a k n : ℕ) (xs ys : List ℕ) → a ≤ length xs → n ≤ length ys → take (a + n) (put_mid a k xs ys) ≡ take a xs ++ take n ys
take-put_mid-part a k n xs ys within fits =
    let long : length (take a xs) ≡ a = length-take-le a xs within in
    ap (λ m. take (m + n) (put_mid a k xs ys)) (sym long)
    ∙ take-append-add (take a xs) (ys ++ post_of a k xs) n
    ∙ ap (λ l. take a xs ++ l) (take-append-le n ys (post_of a k xs) fits)

-- a bytes were read before, and n by one more read
Consumes-more : (from mid to : Option (List ℕ)) (a k n m : ℕ) (xs ys : List ℕ) → a ≤ length xs → n ≤ length ys → m ≡ a + n
    → Consumes from mid (take a xs) → Consumes mid to (take n ys) → Consumes from to (take m (put_mid a k xs ys))
Consumes-more from mid to a k n m xs ys within fits sum before more =
    subst (Consumes from to) (sym (ap (λ i. take i (put_mid a k xs ys)) sum ∙ take-put_mid-part a k n xs ys within fits)) (Consumes-trans from mid to _ _ before more)

-- a bytes were read before, and none by a read that failed
Consumes-none : (from mid to : Option (List ℕ)) (a k m : ℕ) (xs ys : List ℕ) → a ≤ length xs → m ≡ a
    → Consumes from mid (take a xs) → Keeps mid to → Consumes from to (take m (put_mid a k xs ys))
Consumes-none from mid to a k m xs ys within same before kept =
    subst (Consumes from to) (sym (ap (λ i. take i (put_mid a k xs ys)) same ∙ take-put_mid_below a k xs ys a (le_refl a) within)) (Consumes-kept from mid to _ before kept)

pub loop-preserved : goal.loop-preserved
loop-preserved g c = elim c.match-read.branch [
  | in-Ok w ↦ record {
    within = search rules;
    bytes = Consumes-more _ _ _ _ _ _ _ _ _ c.loop.invariant.within w.in-Ok.ensures.bound.0 w.filled-is c.loop.invariant.bytes w.in-Ok.ensures.bytes.0;
  }
  | in-Err w ↦ record {
    within = search rules;
    bytes = Consumes-none _ _ _ _ _ _ _ _ c.loop.invariant.within w.filled-is c.loop.invariant.bytes w.in-Err.ensures.bytes;
  }
]
