use Rattle.std.proofs.Common.{◌≡◌, ℕ, ◌+◌, Option, List, ◌++◌, take, drop, sym, ap, ◌∙◌, subst, rules}
use Rattle.std.proofs.Math.Seq.{take-add}
use Rattle.std.proofs.lemmas.List.{take_rest}
use Rattle.std.specs.Io.KnownBytes.{Appends, Keeps}
use Rattle.std.proofs.KnownBytes.{Appends-kept, Appends-trans}
use Rattle.rk_folder.proofs.held.write_whole.Goals as goal
use Rattle.rk_folder.proofs.held.write_whole.Goals.{in-Ok, in-Err}

-- k bytes were taken before, and n of the rest by one more write
Appends-more : (a b c : Option (List ℕ)) (bytes rest : List ℕ) (k n m : ℕ) → rest ≡ drop k bytes → m ≡ k + n
    → Appends a b (take k bytes) → Appends b c (take n rest) → Appends a c (take m bytes)
Appends-more a b c bytes rest k n m is_rest sum before more =
    let joined = ap (λ i. take i bytes) sum ∙ take-add k n bytes ∙ ap (λ l. take k bytes ++ take n l) (sym is_rest) in
    subst (Appends a c) (sym joined) (Appends-trans a b c _ _ before more)

-- k bytes were taken before, and none by a write that failed
Appends-none : (a b c : Option (List ℕ)) (bytes : List ℕ) (k m : ℕ) → m ≡ k → Appends a b (take k bytes) → Keeps b c → Appends a c (take m bytes)
Appends-none a b c bytes k m same before kept =
    subst (Appends a c) (sym (ap (λ i. take i bytes) same)) (Appends-kept a b c _ before kept)

pub loop-preserved : goal.loop-preserved
loop-preserved g c = elim c.match-write.branch [
  | in-Ok w ↦ record {
    within = search rules;
    bytes = Appends-more _ _ _ _ _ _ _ _ (take_rest c.args.bytes.now c.loop.taken) w.taken-is c.loop.invariant.bytes w.in-Ok.ensures.bytes;
  }
  | in-Err w ↦ record {
    within = search rules;
    bytes = Appends-none _ _ _ _ _ _ w.taken-is c.loop.invariant.bytes w.in-Err.ensures.bytes;
  }
]
