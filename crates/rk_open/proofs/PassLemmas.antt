-- What a list of tests comes to, and what is refused whatever is opened.
use Rattle.std.proofs.Common.{arith, length, ◌≡◌, List, [], ◌∷◌, Option, Some, None, Result, Ok, Err, refl, sym, subst}
use Rattle.std.proofs.lemmas.Bool.{false≢true}
use Rattle.std.specs.Prelude.{IsOk, IfSome}
use Rattle.rk_bytes.specs.declared.model.open.OpenErr.{OpenErr}
use Rattle.rk_bytes.specs.declared.model.open.OpenErr.TheVariants.{NoCurrent, BadCurrent, NoManifest, Manifest, MissingTable, SizeMismatch, DamagedTable, UnsupportedTable, OutOfBounds, MissingLog, ShortLog, Wal, NoUsableManifest, DiskFault, Memory}
use Rattle.rk_bytes.specs.Model.Numbers.{◌>>=◌}
use Rattle.rk_bytes.specs.Model.BlockEntries.{collected}
use Rattle.rk_bytes.specs.Model.DiskImages.{Directory}
use Rattle.rk_open.specs.Answers.{IsCause, Passes, RefusesAs}
use Rattle.rk_open.proofs.AnswerLemmas.{Answers-refused}

-- a cause refuses as anything does
pub refuses_by_cause : {T : Type 0} (wanted : Result T OpenErr) (why : OpenErr) → IsCause why → RefusesAs wanted why
refuses_by_cause wanted DiskFault is = tt
refuses_by_cause wanted Memory is = tt
refuses_by_cause wanted NoCurrent is = absurd is
refuses_by_cause wanted (BadCurrent cause) is = absurd is
refuses_by_cause wanted (NoManifest n) is = absurd is
refuses_by_cause wanted (Manifest cause) is = absurd is
refuses_by_cause wanted (MissingTable n) is = absurd is
refuses_by_cause wanted (SizeMismatch n stated actual) is = absurd is
refuses_by_cause wanted (DamagedTable n cause place) is = absurd is
refuses_by_cause wanted (UnsupportedTable n what) is = absurd is
refuses_by_cause wanted (OutOfBounds n) is = absurd is
refuses_by_cause wanted (MissingLog n) is = absurd is
refuses_by_cause wanted (ShortLog n stated actual) is = absurd is
refuses_by_cause wanted (Wal cause) is = absurd is
refuses_by_cause wanted NoUsableManifest is = absurd is

-- a test that refuses the first of a list refuses the list
pub refused_first : {A B : Type 0} (test : A → Result B OpenErr) (x : A) (xs : List A) (why : OpenErr) → RefusesAs (test x) why → RefusesAs (collected test (x ∷ xs)) why
refused_first test x xs why is = Answers-refused why (test x) (λ first. collected test xs >>= λ rest. Ok (first ∷ rest)) is

-- where the first passes, the list is what the others are
pub passes_more : {A B U : Type 0} (test : A → Result B OpenErr) (x : A) (xs : List A) (result : Result U OpenErr) → IsOk (test x) → Passes (collected test xs) result → Passes (collected test (x ∷ xs)) result
passes_more {A} {B} {U} test x xs result ok is = by (test x) (collected test xs) ok result is
  where
    by : (one : Result B OpenErr) (others : Result (List B) OpenErr) → IsOk one → (result : Result U OpenErr) → Passes others result → Passes (one >>= λ first. others >>= λ rest. Ok (first ∷ rest)) result
    by (Ok first) (Ok rest) ok (Ok done) is = refl
    by (Ok first) (Err why) ok (Ok done) is = absurd (false≢true is)
    by (Ok first) others ok (Err why) is = Answers-refused why others (λ rest. Ok (first ∷ rest)) is
    by (Err why) others ok result is = absurd (false≢true ok)

module _ {A B : Type 0} (test : Directory → A → Result B OpenErr) where
  -- the same of a list of tests over a directory: what all come to is what those come to that are left
  abbrev pub Left : Option Directory → List A → List A → Type 0
  Left o all left = IfSome o (λ d. (result : Result (Unit {0}) OpenErr) → Passes (collected (test d) left) result → Passes (collected (test d) all) result)

  pub one_passed : (o : Option Directory) (all left more : List A) (x : A) → left ≡ x ∷ more → Left o all left → IfSome o (λ d. IsOk (test d x)) → Left o all more
  one_passed None all left more x is before ok = tt
  one_passed (Some d) all left more x is before ok = λ result rest. before result (subst (λ left. Passes (collected (test d) left) result) (sym is) (passes_more (test d) x more result ok rest))

  pub one_refused : (o : Option Directory) (all left more : List A) (x : A) (why : OpenErr) → left ≡ x ∷ more → Left o all left → IfSome o (λ d. RefusesAs (test d x) why) → IfSome o (λ d. RefusesAs (collected (test d) all) why)
  one_refused None all left more x why is before refused = tt
  one_refused (Some d) all left more x why is before refused = before (Err why) (subst (λ left. RefusesAs (collected (test d) left) why) (sym is) (refused_first (test d) x more why refused))

  pub all_passed : (o : Option Directory) (all left : List A) → length left ≡ 0 → Left o all left → IfSome o (λ d. IsOk (collected (test d) all))
  all_passed None all left none before = tt
  all_passed (Some d) all [] none before = before (Ok tt) refl
  all_passed (Some d) all (x ∷ left) none before = absurd (omega (arith, none))
