-- What the directory of a drill is opened to, and what is counted of it.
use Rattle.std.proofs.Common.{◌≡◌, ℕ, ◌+◌, ◌-◌, ◌^◌, ◌<◌, min, List, length, map, take, get_or, Option, Some, Result, Ok, Err, refl, sym, ap, ◌∙◌, subst, arith}
use Rattle.std.specs.Prelude.{sum, IfOk, IfSome, unwrap_or}
use Rattle.std.proofs.lemmas.List.{get_or-map, length-map}
use Rattle.std.proofs.lemmas.List.Sums.{sum_by_more}
use Rattle.rk_bytes.specs.declared.model.open.OpenErr.{OpenErr}
use Rattle.rk_bytes.specs.declared.model.open.OpenErr.TheVariants.{NoCurrent, BadCurrent, NoManifest, Manifest, MissingTable, SizeMismatch, DamagedTable, UnsupportedTable, OutOfBounds, MissingLog, ShortLog, Wal, NoUsableManifest, DiskFault, Memory}
use Rattle.rk_bytes.specs.Model.DiskImages.{Directory, Counts, Told, contents_told, told_at_rest}
use Rattle.rk_bytes.specs.declared.memory.Memory.{Memory as NoMemory}
use Rattle.rk_bytes.specs.Model.KeyView.{State}
use Rattle.rk_bytes.specs.Model.Output.{opened_counts, state_counts}
use Rattle.rk_bytes.proofs.Callers.DiskLemmas.{contents-resting}
use Rattle.rk_open.specs.Answers.{RefusesAs, open_failed}
use Rattle.rk_text.specs.Outcomes.{outcome_words}
use Rattle.rk_text.specs.declared.outcome.Outcome.{Outcome}
use Rattle.rk_text.specs.declared.outcome.Outcome.TheVariants.{Refused}

-- a disk at rest tells its files
files_at_rest : (d : Directory) → contents_told (Some (told_at_rest d)) ≡ Some d
files_at_rest d = ap Some (contents-resting d)

pub of_files : (P : Directory → Type 0) (d : Directory) → IfSome (contents_told (Some (told_at_rest d))) P → P d
of_files P d h = subst (λ (o : Option Directory). IfSome o P) (files_at_rest d) h

-- what is left is told by the same files
pub same_files : (before after : Directory) → ◌≡◌ {A = Option Told} (Some (told_at_rest after)) (Some (told_at_rest before)) → after ≡ before
same_files before after left = ap (λ (o : Option Directory). unwrap_or o before) (sym (files_at_rest after) ∙ ap contents_told left ∙ files_at_rest before)

-- a disk whose count of faults stands at 0 didn't fail
pub never_failed : (T : Type 0) (why : OpenErr) → Counts (open_failed {T = T} (Err why)) 0 0 → why ≡ DiskFault → ⊥
never_failed T why counts is = let rose = subst (λ why. Counts (open_failed {T = T} (Err why)) 0 0) is counts in omega (arith, rose.1)

-- ---- what an opening comes to

pub opened_outcome : (wanted : Result State OpenErr) (state : State) (result : Result Outcome NoMemory) → wanted ≡ Ok state → IfOk result (λ outcome. outcome_words outcome ≡ state_counts state)
    → IfOk result (λ outcome. outcome_words outcome ≡ opened_counts wanted)
opened_outcome wanted state result is h = subst (λ (wanted : Result State OpenErr). IfOk result (λ outcome. outcome_words outcome ≡ opened_counts wanted)) (sym is) h

as_refused : (wanted : Result State OpenErr) (why : OpenErr) → RefusesAs wanted why → (why ≡ DiskFault → ⊥) → (why ≡ Memory → ⊥) → wanted ≡ Err why
as_refused wanted NoCurrent answers calm ample = answers
as_refused wanted (BadCurrent cause) answers calm ample = answers
as_refused wanted (NoManifest n) answers calm ample = answers
as_refused wanted (Manifest cause) answers calm ample = answers
as_refused wanted (MissingTable n) answers calm ample = answers
as_refused wanted (SizeMismatch n stated actual) answers calm ample = answers
as_refused wanted (DamagedTable n cause place) answers calm ample = answers
as_refused wanted (UnsupportedTable n what) answers calm ample = answers
as_refused wanted (OutOfBounds n) answers calm ample = answers
as_refused wanted (MissingLog n) answers calm ample = answers
as_refused wanted (ShortLog n stated actual) answers calm ample = answers
as_refused wanted (Wal cause) answers calm ample = answers
as_refused wanted NoUsableManifest answers calm ample = answers
as_refused wanted DiskFault answers calm ample = absurd (calm refl)
as_refused wanted Memory answers calm ample = absurd (ample refl)

pub refused_outcome : (wanted : Result State OpenErr) (why : OpenErr) (result : Result Outcome NoMemory) → RefusesAs wanted why → (why ≡ DiskFault → ⊥) → IfOk result (λ outcome. outcome ≡ Refused why)
    → IfOk result (λ outcome. why ≡ Memory → ⊥) → IfOk result (λ outcome. outcome_words outcome ≡ opened_counts wanted)
refused_outcome wanted why (Ok outcome) answers calm is ample = ap outcome_words is ∙ sym (ap opened_counts (as_refused wanted why answers calm ample))
refused_outcome wanted why (Err memory) answers calm is ample = tt

-- ---- counts

-- one thing more is counted
pub more_counted : {A : Type 0} (f : A → ℕ) (things : List A) (i count more next : ℕ) (thing : A) → i < length things → thing ≡ get_or things i thing
    → count ≡ min (sum (take i (map f things))) (2 ^ 64 - 1) → more ≡ min (f thing) (2 ^ 64 - 1) → next ≡ min (count + more) (2 ^ 64 - 1)
    → next ≡ min (sum (take (i + 1) (map f things))) (2 ^ 64 - 1)
more_counted f things i count more next thing within is so_far one added =
    let all = map f things in
    let whole = sum_by_more (λ (n : ℕ). n) all i 0 (subst (λ n. i < n) (sym (length-map things f)) within) in
    let last : get_or all i 0 ≡ f thing = get_or-map f things i thing 0 within ∙ ap f (sym is) in
    omega (arith, whole, last, so_far, one, added)
