-- Which files are whole, by what is answered of their tables.
use Rattle.std.proofs.Common.{◌≡◌, ℕ, zero, suc, ◌+◌, ◌<◌, Bool, true, false, cond, List, [], ◌∷◌, ◌++◌, length, get_or, map, take, Option, Some, None, Result, Ok, Err, refl, sym, ap, ◌∙◌, subst, arith}
use Rattle.std.specs.Prelude.{◌==◌, IfOk, IfSome, ok_or}
use Rattle.std.specs.FinMap.{get}
use Rattle.std.specs.List.{AllByRecursion, list_all}
use Rattle.std.specs.List.Sorted.{IsStrictlySortedBy}
use Rattle.std.proofs.lemmas.List.{map-append, take_more}
use Rattle.rk_bytes.specs.declared.model.key.Record.{Record}
use Rattle.rk_bytes.specs.declared.model.manifest.FileMeta.{FileMeta}
use Rattle.rk_bytes.specs.declared.model.open.OpenErr.{OpenErr}
use Rattle.rk_bytes.specs.declared.model.open.OpenErr.TheVariants.{MissingTable, SizeMismatch, OutOfBounds}
use Rattle.rk_bytes.specs.Model.Numbers.{◌>>=◌}
use Rattle.rk_bytes.specs.Model.BestEfforts.{can_be_used, is_whole_in}
use Rattle.rk_bytes.specs.Model.BlockEntries.{with_fault}
use Rattle.rk_bytes.specs.Model.DiskImages.{Directory}
use Rattle.rk_bytes.specs.Model.FileNames.{table_name}
use Rattle.rk_bytes.specs.Model.InternalKey.{key_cmp}
use Rattle.rk_bytes.specs.Model.KeyView.{lies_within, key_of}
use Rattle.rk_bytes.specs.Model.Opening.{Files, Listed, TableFile, of_family, table_fault, table_file}
use Rattle.rk_bytes.specs.Model.TableStatus.{Good, table_status}
use Rattle.rk_bytes.proofs.Callers.Readings.{both_steps, first_step}
use Rattle.rk_table.specs.Steps.{AreBelowTop}
use Rattle.rk_sst.specs.Rising.{IsOfTable}
use Rattle.rk_view.specs.Kept.{IsTableRun}
use Rattle.rk_open.specs.Answers.{RefusesAs}
use Rattle.rk_open.specs.Reads.{HoldsRun, IsRead, unlisted}
use Rattle.rk_open.specs.declared.read.ReadTable.{ReadTable}

-- what is read of a table, by what is stated of its file
abbrev read_as : Files → Listed → ℕ → ℕ → List ℕ → List ℕ → Result TableFile OpenErr
read_as files listed number size smallest largest =
    ok_or (files (table_name number)) (MissingTable number) >>= λ bytes. cond (length bytes == size) (Ok bytes) (Err (SizeMismatch number size (length bytes))) >>= λ whole.
    with_fault (table_fault number) (table_status whole) >>= λ good.
    cond (list_all (λ (r : Record). lies_within smallest largest (key_of r)) good.records) (Ok (record { listed = listed; good = good })) (Err (OutOfBounds number))

used_then : {A : Type 0} (r : Result A OpenErr) (f g : A → Result TableFile OpenErr) → ((a : A) → can_be_used (f a) ≡ can_be_used (g a)) → can_be_used (r >>= f) ≡ can_be_used (r >>= g)
used_then (Ok a) f g so = so a
used_then (Err why) f g so = refl

-- It doesn't matter by whom the table is listed.
by_any : (files : Files) (one other : Listed) (number size : ℕ) (smallest largest : List ℕ) → can_be_used (read_as files one number size smallest largest) ≡ can_be_used (read_as files other number size smallest largest)
by_any files one other number size smallest largest =
    used_then (ok_or (files (table_name number)) (MissingTable number)) _ _ λ bytes.
    used_then (cond (length bytes == size) (Ok bytes) (Err (SizeMismatch number size (length bytes)))) _ _ λ whole.
    used_then (with_fault (table_fault number) (table_status whole)) _ _ λ good. last good (list_all (λ (r : Record). lies_within smallest largest (key_of r)) good.records)
  where
    last : (good : Good) (told : Bool) → can_be_used (cond told (Ok (record { listed = one; good = good })) (Err (OutOfBounds number))) ≡ can_be_used (cond told (Ok (record { listed = other; good = good })) (Err (OutOfBounds number)))
    last good true = refl
    last good false = refl

read_is : (files : Files) (file : FileMeta) → is_whole_in files file ≡ can_be_used (read_as files (unlisted file) file.number file.size file.smallest file.largest)
unfolding table_file
read_is files file = refl

pub whole_alike : (files : Files) (one other : FileMeta) → one.number ≡ other.number → one.size ≡ other.size → one.smallest ≡ other.smallest → one.largest ≡ other.largest → is_whole_in files one ≡ is_whole_in files other
whole_alike files one other number size smallest largest =
    read_is files one
    ∙ by_any files (unlisted one) (unlisted other) one.number one.size one.smallest one.largest
    ∙ (λ i. can_be_used (read_as files (unlisted other) (number i) (size i) (smallest i) (largest i)))
    ∙ sym (read_is files other)

-- a table as another listing has it
abbrev relisted : Listed → TableFile → TableFile
relisted other table = record { listed = other; good = table.good }

-- What is read of a good table is that, by whom it is listed.
read_again : (files : Files) (one other : Listed) (number size : ℕ) (smallest largest : List ℕ) (table : TableFile) → read_as files one number size smallest largest ≡ Ok table → read_as files other number size smallest largest ≡ Ok (relisted other table)
read_again files one other number size smallest largest table e =
    both_steps (ok_or (files (table_name number)) (MissingTable number)) _ table e λ bytes there e1.
    both_steps (cond (length bytes == size) (Ok bytes) (Err (SizeMismatch number size (length bytes)))) _ table e1 λ whole sized e2.
    both_steps (with_fault (table_fault number) (table_status whole)) _ table e2 λ good is e3.
    first_step (ok_or (files (table_name number)) (MissingTable number)) _ bytes there
    ∙ first_step (cond (length bytes == size) (Ok bytes) (Err (SizeMismatch number size (length bytes)))) _ whole sized
    ∙ first_step (with_fault (table_fault number) (table_status whole)) _ good is
    ∙ last good (list_all (λ (r : Record). lies_within smallest largest (key_of r)) good.records) e3
  where
    last : (good : Good) (told : Bool) → cond {A = Result TableFile OpenErr} told (Ok (record { listed = one; good = good })) (Err (OutOfBounds number)) ≡ Ok table
        → cond {A = Result TableFile OpenErr} told (Ok (record { listed = other; good = good })) (Err (OutOfBounds number)) ≡ Ok (relisted other table)
    last good true e =
        let first : TableFile = record { listed = one; good = good } in
        let same : first ≡ table = cc in ap (λ (table : TableFile). Ok (relisted other table)) same
    last good false e = absurd cc

-- Two are stated to be the same file.
pub record AreAlike (one other : FileMeta) : Type 0 where
  pub number : one.number ≡ other.number
  pub size : one.size ≡ other.size
  pub smallest : one.smallest ≡ other.smallest
  pub largest : one.largest ≡ other.largest

file_again : (files : Files) (one other : Listed) (table : TableFile) → AreAlike one.file other.file → table_file files one ≡ Ok table → table_file files other ≡ Ok (relisted other table)
unfolding table_file
file_again files one other table alike e =
    sym (λ i. read_as files other (alike.number i) (alike.size i) (alike.smallest i) (alike.largest i))
    ∙ read_again files one other one.file.number one.file.size one.file.smallest one.file.largest table e

family_twice : (family other : ℕ) (records : List Record) → map (of_family family) (map (of_family other) records) ≡ map (of_family family) records
family_twice family other [] = refl
family_twice family other (r ∷ records) = ap (λ l. of_family family r ∷ l) (family_twice family other records)

keys_stay : (family : ℕ) (records : List Record) → map key_of (map (of_family family) records) ≡ map key_of records
keys_stay family [] = refl
keys_stay family (r ∷ records) = ap (λ l. key_of r ∷ l) (keys_stay family records)

each_under : (family other : ℕ) (records : List Record) → AllByRecursion (IsOfTable other) records → AllByRecursion (IsOfTable family) (map (of_family family) records)
each_under family other [] each = tt
each_under family other (r ∷ records) each = ((refl, each.0.1, each.0.2), each_under family other records each.1)

run_under : (family : ℕ) (records : List Record) → IsTableRun records → IsTableRun (map (of_family family) records)
run_under family records run = record {
  family = family;
  each = each_under family run.family records run.each;
  rises = subst (IsStrictlySortedBy key_cmp) (sym (keys_stay family records)) run.rises;
}

-- a table that was read, as another family lists it
pub read_alike : (o : Option Directory) (one other : Listed) (table result : ReadTable) → AreAlike one.file other.file → result.run ≡ map (of_family other.family) table.run → result.ranges ≡ table.ranges → IsRead o one table → IsRead o other result
read_alike o one other table result alike run ranges is = record {
  run = subst IsTableRun (sym run) (run_under other.family table.run is.run);
  below = subst AreBelowTop (sym ranges) is.below;
  told = told o is.told;
}
  where
    told : (o : Option Directory) → IfSome o (λ d. HoldsRun (get d) one table.run table.ranges) → IfSome o (λ d. HoldsRun (get d) other result.run result.ranges)
    told None holds = tt
    told (Some d) holds = record {
      good = holds.good;
      is = file_again (get d) one other (record { listed = one; good = holds.good }) alike holds.is;
      run_is = run ∙ ap (map (of_family other.family)) holds.run_is ∙ family_twice other.family one.family holds.good.records;
      ranges_are = ranges ∙ holds.ranges_are;
    }

-- the answer for one more file
pub answers_more : (o : Option Directory) (files : List FileMeta) (k : ℕ) (file : FileMeta) (old new : List Bool) (whole : Bool) → k < length files → file ≡ get_or files k file → new ≡ old ++ whole ∷ []
    → IfSome o (λ d. whole ≡ is_whole_in (get d) file) → IfSome o (λ d. old ≡ map (is_whole_in (get d)) (take k files)) → IfSome o (λ d. new ≡ map (is_whole_in (get d)) (take (k + 1) files))
answers_more None files k file old new whole in' is new_is told so = tt
answers_more (Some d) files k file old new whole in' is new_is told so =
    let whole_in = is_whole_in (get d) in
    new_is ∙ (λ i. so i ++ told i ∷ []) ∙ sym (ap (map whole_in) (take_more files k file in' ∙ ap (λ file. take k files ++ file ∷ []) (sym is)) ∙ map-append whole_in (take k files) (file ∷ []))

-- an answer that is there already
pub told_before : (o : Option Directory) (answers : List Bool) (files : List FileMeta) (k : ℕ) (file : FileMeta) (whole : Bool) → length answers ≡ k
    → ((among : Files) → answers ≡ map (is_whole_in among) (take (length answers) files) → whole ≡ is_whole_in among file) → IfSome o (λ d. answers ≡ map (is_whole_in (get d)) (take k files)) → IfSome o (λ d. whole ≡ is_whole_in (get d) file)
told_before None answers files k file whole len so told = tt
told_before (Some d) answers files k file whole len so told = so (get d) (told ∙ ap (λ n. map (is_whole_in (get d)) (take n files)) (sym len))

-- the answer in a place
pub answer_at : (among : Files) (files : List FileMeta) (answers : List Bool) (n place : ℕ) (one : FileMeta) (answer : Bool) → answers ≡ map (is_whole_in among) (take n files) → place < n → place < length files → one ≡ get_or files place one → answer ≡ get_or answers place answer → place < length answers
    → answer ≡ is_whole_in among one
answer_at among files answers n place one answer all below in' one_is answer_is within =
    answer_is ∙ ap (λ answers. get_or answers place answer) all ∙ by files n place below in' ∙ ap (is_whole_in among) (sym one_is)
  where
    by : (files : List FileMeta) (n place : ℕ) → place < n → place < length files → get_or (map (is_whole_in among) (take n files)) place answer ≡ is_whole_in among (get_or files place one)
    by [] n place below in' = absurd (omega arith)
    by (file ∷ files) zero place below in' = absurd (omega arith)
    by (file ∷ files) (suc n) zero below in' = refl
    by (file ∷ files) (suc n) (suc place) below in' = by files n place (omega arith) (omega arith)

-- what is answered of a table says whether it is whole
pub whole_read : (o : Option Directory) (file : FileMeta) (table : ReadTable) → IsRead o (unlisted file) table → IfSome o (λ d. true ≡ is_whole_in (get d) file)
whole_read o file table is = told o is.told
  where
    told : (o : Option Directory) → IfSome o (λ d. HoldsRun (get d) (unlisted file) table.run table.ranges) → IfSome o (λ d. true ≡ is_whole_in (get d) file)
    told None holds = tt
    told (Some d) holds = sym (ap can_be_used holds.is)

pub whole_refused : (o : Option Directory) (file : FileMeta) (why : OpenErr) (result : Result Bool OpenErr) → ((table : Result TableFile OpenErr) → RefusesAs table why → IfOk result (λ used. used ≡ can_be_used table)) → IfSome o (λ d. RefusesAs (table_file (get d) (unlisted file)) why)
    → IfOk result (λ whole. IfSome o (λ d. whole ≡ is_whole_in (get d) file))
whole_refused o file why (Err other) so refuses = tt
whole_refused None file why (Ok whole) so refuses = tt
whole_refused (Some d) file why (Ok whole) so refuses = so (table_file (get d) (unlisted file)) refuses
