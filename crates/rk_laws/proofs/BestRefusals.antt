-- Best-efforts opening is refused for want of a manifest or for a table that isn't supported alone.
use Rattle.std.proofs.Common.{◌≡◌, ℕ, Bool, true, false, ◌⊎◌, cond, List, [], ◌∷◌, length, Option, Some, None, Result, Ok, Err, refl, sym, ◌∙◌, ap, inl, inr}
use Rattle.std.specs.Prelude.{◌==◌, nat_lt, nat_le, max, filter, flat_map, ok_or}
use Rattle.std.specs.List.{AllByRecursion, list_all, reduce}
use Rattle.std.proofs.lemmas.Bool.{false≢true, and_parts}
use Rattle.rk_bytes.specs.declared.model.manifest.FileMeta.{FileMeta}
use Rattle.rk_bytes.specs.declared.model.view.Point.{Point}
use Rattle.rk_bytes.specs.declared.model.table.TableWhat.{TableWhat}
use Rattle.rk_bytes.specs.declared.model.open.OpenErr.{OpenErr}
use Rattle.rk_bytes.specs.declared.model.open.OpenErr.TheVariants.{MissingTable, SizeMismatch, OutOfBounds, UnsupportedTable, NoUsableManifest}
use Rattle.rk_bytes.specs.Model.Numbers.{◌>>=◌}
use Rattle.rk_bytes.specs.Model.FileNames.{table_name}
use Rattle.rk_bytes.specs.Model.BlockEntries.{with_fault, collected}
use Rattle.rk_bytes.specs.Model.TableStatus.{Good, table_status}
use Rattle.rk_bytes.specs.Model.Manifest.{ManifestUnit}
use Rattle.rk_bytes.specs.Model.Opening.{Best, Files, Listed, TableFile, in_order, table_fault, are_within, table_file}
use Rattle.rk_bytes.specs.Model.BestEfforts.{files_at, all_pass, Qualifies, best_points, can_be_used, is_whole_in, usable_units, are_complete, point_tables, tables_at, best_with, best_files}
use Rattle.rk_laws.proofs.EachElement.{each_so, each_append, each_filter, each_map, each_flat_map}
use Rattle.rk_laws.proofs.BestVector.{all_pass_at_zero, best_points-greatest}

-- one reading is refused as the other is
abbrev RefusedAlike : Result TableFile OpenErr → Result TableFile OpenErr → Type 0
RefusedAlike a b = (why : OpenErr) → a ≡ Err why → b ≡ Err why

alike : {A : Type 0} (r : Result A OpenErr) (f g : A → Result TableFile OpenErr) → ((a : A) → RefusedAlike (f a) (g a)) → RefusedAlike (r >>= f) (r >>= g)
alike (Ok a) f g so why e = so a why e
alike (Err fault) f g so why e = cc

-- A table is refused alike under any family.
under_any_family : (files : Files) (family other : ℕ) (file : FileMeta) → RefusedAlike (table_file files (record { family = family; file = file })) (table_file files (record { family = other; file = file }))
unfolding table_file
under_any_family files family other file =
    alike (ok_or (files (table_name file.number)) (MissingTable file.number)) _ _ λ bytes.
    alike (cond (length bytes == file.size) (Ok bytes) (Err (SizeMismatch file.number file.size (length bytes)))) _ _ λ whole.
    alike (with_fault (table_fault file.number) (table_status whole)) _ _ λ good. last good (are_within file good.records)
  where
    last : (good : Good) (told : Bool) → RefusedAlike (cond told (Ok (record { listed = record { family = family; file = file }; good = good })) (Err (OutOfBounds file.number))) (cond told (Ok (record { listed = record { family = other; file = file }; good = good })) (Err (OutOfBounds file.number)))
    last good true why e = absurd cc
    last good false why e = cc

IsUnsupported : OpenErr → Type 0
IsUnsupported why = (n : ℕ) × (what : TableWhat) × (why ≡ UnsupportedTable n what)

only_unsupported : (why : OpenErr) → can_be_used (Err why) ≡ true → IsUnsupported why
unfolding IsUnsupported
only_unsupported (UnsupportedTable n what) e = (n, what, refl)
only_unsupported _ e = absurd (false≢true e)

whole_refused : (files : Files) (listed : Listed) (why : OpenErr) → is_whole_in files listed.file ≡ true → table_file files listed ≡ Err why → IsUnsupported why
whole_refused files listed why whole e = only_unsupported why (ap can_be_used (sym (under_any_family files listed.family 0 listed.file why e)) ∙ whole)

first_refused : {A B : Type 0} (give : A → Result B OpenErr) (P : A → Type 0) (xs : List A) (why : OpenErr) → AllByRecursion P xs → collected give xs ≡ Err why → (x : A) × (give x ≡ Err why) × P x
first_refused give P [] why all e = absurd cc
first_refused {A} {B} give P (x ∷ xs) why all e = by (give x) refl e (first_refused give P xs why all.1)
  where
    rest : (told : Result (List B) OpenErr) (first : B) → told >>= (λ more. Ok (first ∷ more)) ≡ Err why → told ≡ Err why
    rest (Ok more) first e = absurd cc
    rest (Err fault) first e = cc

    by : (told : Result B OpenErr) → give x ≡ told → told >>= (λ first. collected give xs >>= λ more. Ok (first ∷ more)) ≡ Err why → (collected give xs ≡ Err why → (x : A) × (give x ≡ Err why) × P x) → (x : A) × (give x ≡ Err why) × P x
    by (Ok first) told e later = later (rest (collected give xs) first e)
    by (Err fault) told e later = let same : fault ≡ why = cc in (x, told ∙ ap Err same, all.0)

each_in_order : {A : Type 0} (P : A → Type 0) (number : A → ℕ) (things : List A) → AllByRecursion P things → AllByRecursion P (in_order number things)
each_in_order P number [] all = tt
each_in_order P number (thing ∷ things) all =
    let others = each_in_order P number things all.1 in
    each_append P (filter (λ other. nat_lt (number other) (number thing)) (in_order number things)) (thing ∷ filter (λ other. nat_le (number thing) (number other)) (in_order number things))
    (each_filter P (λ other. nat_lt (number other) (number thing)) (in_order number things) others)
    (all.0, each_filter P (λ other. nat_le (number thing) (number other)) (in_order number things) others)

passes_each : {A : Type 0} (test : A → Bool) (xs : List A) → list_all test xs ≡ true → AllByRecursion (λ x. test x ≡ true) xs
passes_each test [] e = tt
passes_each test (x ∷ xs) e = let (first, more) = and_parts (test x) (list_all test xs) e in (first, passes_each test xs more)

-- the tables at points that qualify are whole
whole_tables : (files : Files) (units : List ManifestUnit) (points : List Point) → Qualifies units (all_pass (is_whole_in files) units) points → AllByRecursion (λ table. is_whole_in files table.file ≡ true) (tables_at units points)
whole_tables files units points q =
    each_in_order (λ (table : Listed). is_whole_in files table.file ≡ true) (λ table. table.file.number) (flat_map (point_tables units) points)
    (each_flat_map (λ (table : Listed). is_whole_in files table.file ≡ true) (point_tables units) points
    (each_so (λ point. all_pass (is_whole_in files) units point.family point.at ≡ true) (λ point. AllByRecursion (λ table. is_whole_in files table.file ≡ true) (point_tables units point)) points
    (λ point pass. each_map (λ file. is_whole_in files file ≡ true) (λ (table : Listed). is_whole_in files table.file ≡ true) (λ file. record { family = point.family; file = file }) (files_at units point.family point.at) (λ file whole. whole)
    (passes_each (is_whole_in files) (files_at units point.family point.at) pass)) q.whole))

with_refused : (files : Files) (number : ℕ) (units : List ManifestUnit) (points : List Point) (why : OpenErr) → Qualifies units (all_pass (is_whole_in files) units) points → best_with files number units points ≡ Err why → IsUnsupported why
unfolding best_with
with_refused files number units points why q e =
    let (listed, refused, whole) = first_refused (table_file files) (λ table. is_whole_in files table.file ≡ true) (tables_at units points) why (whole_tables files units points q) (step (collected (table_file files) (tables_at units points)) _ e) in
    whole_refused files listed why whole refused
  where
    step : (told : Result (List TableFile) OpenErr) (f : List TableFile → Best) → told >>= (λ tables. Ok (f tables)) ≡ Err why → told ≡ Err why
    step (Ok tables) f e = absurd cc
    step (Err fault) f e = cc

pub best_refused : (files : Files) (numbers : List ℕ) (why : OpenErr) → best_files files numbers ≡ Err why → (why ≡ NoUsableManifest) ⊎ ((n : ℕ) × (what : TableWhat) × (why ≡ UnsupportedTable n what))
unfolding best_files IsUnsupported
best_refused files numbers why e = by (reduce max (filter (λ number. are_complete (usable_units files number)) numbers)) e
  where
    opened : ℕ → Result Best OpenErr
    opened number = best_with files number (usable_units files number) (best_points (usable_units files number) (all_pass (is_whole_in files) (usable_units files number)))

    by : (told : Option ℕ) → ok_or told NoUsableManifest >>= opened ≡ Err why → (why ≡ NoUsableManifest) ⊎ IsUnsupported why
    by None e = inl cc
    by (Some number) e =
        let units = usable_units files number in
        inr (with_refused files number units (best_points units (all_pass (is_whole_in files) units)) why (best_points-greatest units (all_pass (is_whole_in files) units) (λ id. all_pass_at_zero units (is_whole_in files) id)).qualifies e)
