-- What a directory is opened to as far as whole tables go, from what each step answers.
use Rattle.std.specs.Prelude.{IfSome, ok_or}
use Rattle.std.proofs.Common.{◌≡◌, ℕ, ◌+◌, ◌<◌, Bool, true, false, cond, List, [], ◌∷◌, ◌++◌, length, get_or, map, filter_map, take, Option, Some, None, Result, Ok, Err, refl, sym, ap, ◌∙◌, subst}
use Rattle.std.specs.FinMap.{get, entries, keys}
use Rattle.std.specs.List.{cons_option}
use Rattle.std.proofs.lemmas.List.{take_more}
use Rattle.std.proofs.lemmas.List.Elements.{filter_map-append}
use Rattle.rk_bytes.specs.declared.model.manifest.FileMeta.{FileMeta}
use Rattle.rk_bytes.specs.declared.model.open.OpenErr.{OpenErr}
use Rattle.rk_bytes.specs.declared.model.open.OpenErr.TheVariants.{NoUsableManifest}
use Rattle.rk_bytes.specs.declared.model.view.Point.{Point}
use Rattle.rk_bytes.specs.Model.Numbers.{◌>>=◌}
use Rattle.rk_bytes.specs.Model.DiskImages.{Directory}
use Rattle.rk_bytes.specs.Model.FileNames.{manifest_name, name_of}
use Rattle.rk_bytes.specs.Model.Manifest.{ManifestUnit, manifest_units, version_after}
use Rattle.rk_bytes.specs.Model.Opening.{Best, Files, in_order}
use Rattle.rk_bytes.specs.Model.BestEfforts.{all_pass, answers_pass, best_points, is_whole_in, listed, number_of_manifest, manifest_numbers, usable, usable_units, are_complete, best_directory, best_files}
use Rattle.rk_open.specs.declared.best.Best.{Best as Kept}
use Rattle.rk_open.specs.Answers.{AnswersBy, IsCause, RefusesAs}
use Rattle.rk_open.specs.Best.{best_of, manifests_among, best_from, best_if, best_of_last}
use Rattle.rk_open.proofs.GreatestLemmas.{greatest_is_last, last_passes, last_fails}
use Rattle.rk_open.proofs.PassLemmas.{refuses_by_cause}
use Rattle.rk_open.proofs.RunLemmas.{refuses_on}
use Rattle.std.specs.Option.{option_map}

-- the numbers of one more name
pub manifests_more : (names : List (List ℕ)) (k : ℕ) (name : List ℕ) (numbers after : List ℕ) → name ≡ get_or names k name → k < length names
    → numbers ≡ filter_map (λ name. number_of_manifest (name_of name)) (take k names) → after ≡ numbers ++ cons_option (number_of_manifest (name_of name)) [] → after ≡ filter_map (λ name. number_of_manifest (name_of name)) (take (k + 1) names)
manifests_more names k name numbers after is less so_far pushed =
    let number : List ℕ → Option ℕ = λ name. number_of_manifest (name_of name) in
    pushed ∙ ap (λ numbers. numbers ++ cons_option (number name) []) so_far ∙ sym (filter_map-append number (take k names) (name ∷ []))
    ∙ ap (filter_map number) (sym (take_more names k name less ∙ ap (λ n. take k names ++ n ∷ []) (sym is)))

-- the numbers of a directory's manifests
named : (es : List (List ℕ × List ℕ)) → filter_map (λ name. number_of_manifest (name_of name)) (map (λ (e : List ℕ × List ℕ). e.0) es) ≡ filter_map (λ (file : List ℕ × List ℕ). number_of_manifest (name_of file.0)) es
named [] = refl
named (e ∷ es) = ap (cons_option (number_of_manifest (name_of e.0))) (named es)

pub manifests_named : (o : Option Directory) (names : List (List ℕ)) (found : List ℕ) → IfSome o (λ d. names ≡ keys d) → found ≡ manifests_among names → IfSome o (λ d. found ≡ in_order (λ number. number) (manifest_numbers d))
manifests_named None names found told is = tt
manifests_named (Some d) names found told is = is ∙ ap manifests_among told ∙ ap (in_order (λ number. number)) (named (entries d))

-- the greatest manifest is the last one
abbrev passes : Files → ℕ → Bool
passes files number = are_complete (usable_units files number)

abbrev opened_to : Files → Option ℕ → Result Best OpenErr
opened_to files found = ok_or found NoUsableManifest >>= λ number. best_from files number (usable_units files number)

best_is : (files : Files) (numbers : List ℕ) → best_files files numbers ≡ best_of_last files (in_order (λ number. number) numbers)
unfolding best_files
best_is files numbers = ap (opened_to files) (greatest_is_last (passes files) numbers)

pub best_told : (o : Option Directory) (numbers : List ℕ) (result : Result Kept OpenErr) → IfSome o (λ d. numbers ≡ in_order (λ number. number) (manifest_numbers d)) → IfSome o (λ d. AnswersBy best_of (best_of_last (get d) numbers) result)
    → IfSome o (λ d. AnswersBy best_of (best_directory d) result)
best_told None numbers result are answers = tt
best_told (Some d) numbers result are answers =
    subst (λ wanted. AnswersBy best_of wanted result) (ap (best_of_last (get d)) are ∙ sym (best_is (get d) (manifest_numbers d))) answers

pub best_by_cause : (o : Option Directory) (why : OpenErr) → IsCause why → IfSome o (λ d. RefusesAs (best_directory d) why)
best_by_cause None why is = tt
best_by_cause (Some d) why is = refuses_by_cause (best_directory d) why is

-- what is answered of the last manifests
if_found : (told : Bool) (from : Result Best OpenErr) (best : Best) → cond told (from >>= λ best. Ok (Some best)) (Ok None) ≡ Ok (Some best) → (told ≡ true) × (from ≡ Ok best)
if_found false from best e = absurd cc
if_found true (Ok one) best e = (refl, cc)
if_found true (Err why) best e = absurd cc

if_none : (told : Bool) (from : Result Best OpenErr) → cond told (from >>= λ best. Ok (Some best)) (Ok None) ≡ Ok None → told ≡ false
if_none false from e = refl
if_none true (Ok one) e = absurd cc
if_none true (Err why) e = absurd cc

if_refused : (told : Bool) (from : Result Best OpenErr) (why : OpenErr) → cond told (from >>= λ best. Ok (Some best)) (Ok None) ≡ Err why → (told ≡ true) × (from ≡ Err why)
if_refused false from why e = absurd cc
if_refused true (Ok one) why e = absurd cc
if_refused true (Err other) why e = (refl, cc)

-- the manifests behind the first so many aren't complete
abbrev pub NoneBehind : Option Directory → List ℕ → ℕ → Type 0
NoneBehind o numbers left = IfSome o (λ d. best_of_last (get d) numbers ≡ best_of_last (get d) (take left numbers))

take_length : {A : Type 0} (xs : List A) → take (length xs) xs ≡ xs
take_length [] = refl
take_length (x ∷ xs) = ap (λ l. x ∷ l) (take_length xs)

pub none_behind : (o : Option Directory) (numbers : List ℕ) → NoneBehind o numbers (length numbers)
none_behind None numbers = tt
none_behind (Some d) numbers = ap (best_of_last (get d)) (sym (take_length numbers))

module _ (numbers : List ℕ) (left k number : ℕ) (left_is : left ≡ k + 1) (is : number ≡ get_or numbers k 0) (less : k < length numbers) where
  pub last_found : (o : Option Directory) (best : Best) → NoneBehind o numbers left → IfSome o (λ d. best_if (get d) number (usable_units (get d) number) ≡ Ok (Some best)) → IfSome o (λ d. best_of_last (get d) numbers ≡ Ok best)
  last_found None best behind found = tt
  last_found (Some d) best behind found =
      let (complete, from) = if_found (passes (get d) number) (best_from (get d) number (usable_units (get d) number)) best found in
      behind ∙ ap (λ n. best_of_last (get d) (take n numbers)) left_is ∙ ap (opened_to (get d)) (last_passes (passes (get d)) numbers k number is less complete) ∙ from

  pub last_none : (o : Option Directory) → NoneBehind o numbers left → IfSome o (λ d. best_if (get d) number (usable_units (get d) number) ≡ Ok None) → NoneBehind o numbers k
  last_none None behind none = tt
  last_none (Some d) behind none =
      let fails = if_none (passes (get d) number) (best_from (get d) number (usable_units (get d) number)) none in
      behind ∙ ap (λ n. best_of_last (get d) (take n numbers)) left_is ∙ ap (opened_to (get d)) (last_fails (passes (get d)) numbers k number is less fails)

  pub last_refused : (o : Option Directory) (why : OpenErr) → NoneBehind o numbers left → IfSome o (λ d. RefusesAs (best_if (get d) number (usable_units (get d) number)) why) → IfSome o (λ d. RefusesAs (best_of_last (get d) numbers) why)
  last_refused None why behind refuses = tt
  last_refused (Some d) why behind refuses = refuses_on (best_if (get d) number (usable_units (get d) number)) (best_of_last (get d) numbers) why by refuses
    where
      by : (why : OpenErr) → best_if (get d) number (usable_units (get d) number) ≡ Err why → best_of_last (get d) numbers ≡ Err why
      by why e =
          let (complete, from) = if_refused (passes (get d) number) (best_from (get d) number (usable_units (get d) number)) why e in
          behind ∙ ap (λ n. best_of_last (get d) (take n numbers)) left_is ∙ ap (opened_to (get d)) (last_passes (passes (get d)) numbers k number is less complete) ∙ from

pub none_left : (o : Option Directory) (numbers : List ℕ) (left : ℕ) → left ≡ 0 → NoneBehind o numbers left → IfSome o (λ d. best_of_last (get d) numbers ≡ Err NoUsableManifest)
none_left None numbers left none behind = tt
none_left (Some d) numbers left none behind = behind ∙ ap (λ n. best_of_last (get d) (take n numbers)) none

-- what units that count are opened to
pub if_complete : (units : List ManifestUnit) (number : ℕ) → are_complete units ≡ true → (o : Option Directory) (best : Best) → IfSome o (λ d. best_from (get d) number units ≡ Ok best) → IfSome o (λ d. best_if (get d) number units ≡ Ok (Some best))
if_complete units number complete None best from = tt
if_complete units number complete (Some d) best from =
    (λ i. cond (complete i) (best_from (get d) number units >>= λ best. Ok (Some best)) (Ok None)) ∙ ap (λ (told : Result Best OpenErr). told >>= λ best. Ok (Some best)) from

pub if_not_complete : (units : List ManifestUnit) (number : ℕ) → are_complete units ≡ false → (o : Option Directory) → IfSome o (λ d. best_if (get d) number units ≡ Ok None)
if_not_complete units number not None = tt
if_not_complete units number not (Some d) = λ i. cond (not i) (best_from (get d) number units >>= λ best. Ok (Some best)) (Ok None)

pub if_complete_refused : (units : List ManifestUnit) (number : ℕ) → are_complete units ≡ true → (o : Option Directory) (why : OpenErr) → IfSome o (λ d. RefusesAs (best_from (get d) number units) why) → IfSome o (λ d. RefusesAs (best_if (get d) number units) why)
if_complete_refused units number complete None why refuses = tt
if_complete_refused units number complete (Some d) why refuses =
    refuses_on (best_from (get d) number units) (best_if (get d) number units) why
    (λ why e. (λ i. cond (complete i) (best_from (get d) number units >>= λ best. Ok (Some best)) (Ok None)) ∙ ap (λ (told : Result Best OpenErr). told >>= λ best. Ok (Some best)) e) refuses

-- the manifest's file
pub units_in : (o : Option Directory) (number : ℕ) (bytes : List ℕ) (result : Result (Option Kept) OpenErr) → IfSome o (λ d. Some bytes ≡ get d (manifest_name number))
    → IfSome o (λ d. AnswersBy (option_map best_of) (best_if (get d) number (usable (manifest_units bytes).units)) result) → IfSome o (λ d. AnswersBy (option_map best_of) (best_if (get d) number (usable_units (get d) number)) result)
units_in None number bytes result found answers = tt
units_in (Some d) number bytes result found answers =
    subst (λ (found : Option (List ℕ)). AnswersBy (option_map best_of) (best_if (get d) number (elim found as (λ found. List ManifestUnit) [ Some bytes ↦ usable (manifest_units bytes).units | None ↦ [] ])) result) found answers

none_complete : are_complete [] ≡ false
unfolding version_after
none_complete = refl

pub no_units_in : (o : Option Directory) (number : ℕ) → IfSome o (λ d. None ≡ get d (manifest_name number)) → IfSome o (λ d. best_if (get d) number (usable_units (get d) number) ≡ Ok None)
no_units_in None number absent = tt
no_units_in (Some d) number absent =
    let none : [] ≡ usable_units (get d) number = ap (λ (found : Option (List ℕ)). elim found as (λ found. List ManifestUnit) [ Some bytes ↦ usable (manifest_units bytes).units | None ↦ [] ]) absent in
    if_not_complete (usable_units (get d) number) number (ap are_complete (sym none) ∙ none_complete) (Some d)

-- the best points, by answers
pub points_told : (o : Option Directory) (units : List ManifestUnit) (answers : List Bool) (points : List Point) → ((is_whole : FileMeta → Bool) (id point : ℕ) → answers_pass (map is_whole (listed units)) units id point ≡ all_pass is_whole units id point)
    → points ≡ best_points units (answers_pass answers units) → IfSome o (λ d. answers ≡ map (is_whole_in (get d)) (listed units)) → IfSome o (λ d. points ≡ best_points units (all_pass (is_whole_in (get d)) units))
points_told None units answers points law is told = tt
points_told (Some d) units answers points law is told =
    is ∙ ap (λ answers. best_points units (answers_pass answers units)) told ∙ (λ i. best_points units (λ id point. law (is_whole_in (get d)) id point i))
