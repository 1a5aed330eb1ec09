-- What a walk over the entries of a block has kept.
use Rattle.std.proofs.Common.{◌≡◌, List, [], ◌∷◌, ◌++◌, Result, Ok, Err, refl, sym, ap, ◌∙◌, append_assoc}
use Rattle.std.proofs.lemmas.List.{append-nil}
use Rattle.rk_bytes.specs.Model.Numbers.{◌>>=◌}
use Rattle.rk_bytes.specs.Model.BlockEntries.{collected}

-- all items give what was kept, and then what those that are left give
abbrev pub IsKept : {A B F : Type 0} → (A → Result B F) → List A → List A → List B → Type 0
IsKept give all left kept = collected give all ≡ (collected give left >>= λ more. Ok (kept ++ more))

after_none : {B F : Type 0} (r : Result (List B) F) → r ≡ (r >>= λ more. Ok ([] ++ more))
after_none (Ok more) = refl
after_none (Err why) = refl

after_one : {B F : Type 0} (r : Result (List B) F) (kept : List B) (item : B)
    → ((r >>= λ more. Ok (item ∷ more)) >>= λ more. Ok (kept ++ more)) ≡ (r >>= λ more. Ok ((kept ++ item ∷ []) ++ more))
after_one (Ok more) kept item = ap Ok (sym (append_assoc kept (item ∷ []) more))
after_one (Err why) kept item = refl

pub IsKept-start : {A B F : Type 0} (give : A → Result B F) (all : List A) → IsKept give all all []
IsKept-start give all = after_none (collected give all)

pub IsKept-more : {A B F : Type 0} (give : A → Result B F) (all before left : List A) (item : A) (kept : List B) (given : B)
    → IsKept give all before kept → before ≡ item ∷ left → give item ≡ Ok given → IsKept give all left (kept ++ given ∷ [])
IsKept-more give all before left item kept given is left_is gives =
    is ∙ ap (λ before. collected give before >>= λ more. Ok (kept ++ more)) left_is
    ∙ ap (λ first. (first >>= λ first. collected give left >>= λ rest. Ok (first ∷ rest)) >>= λ more. Ok (kept ++ more)) gives
    ∙ after_one (collected give left) kept given

pub IsKept-fault : {A B F : Type 0} (give : A → Result B F) (all before left : List A) (item : A) (kept : List B) (why : F)
    → IsKept give all before kept → before ≡ item ∷ left → give item ≡ Err why → Err why ≡ collected give all
IsKept-fault give all before left item kept why is left_is gives =
    sym (is ∙ ap (λ before. collected give before >>= λ more. Ok (kept ++ more)) left_is
    ∙ ap (λ first. (first >>= λ first. collected give left >>= λ rest. Ok (first ∷ rest)) >>= λ more. Ok (kept ++ more)) gives)

pub IsKept-end : {A B F : Type 0} (give : A → Result B F) (all left : List A) (kept : List B) → IsKept give all left kept → left ≡ [] → Ok kept ≡ collected give all
IsKept-end give all left kept is none = sym (is ∙ ap (λ left. collected give left >>= λ more. Ok (kept ++ more)) none ∙ ap Ok (append-nil kept))
