-- Salvage depends on the files under the names of tables and logs alone.
use Rattle.std.proofs.Common.{◌≡◌, ℕ, Bool, true, false, List, [], ◌∷◌, map, cond, refl, sym, ap, ◌∙◌}
use Rattle.std.specs.Prelude.{T, Option, Some, None, is_some, filter_map, option_map}
use Rattle.std.specs.declared.cmp.Ordering.TheVariants.{Equal}
use Rattle.std.specs.Ordering.{nat_cmp}
use Rattle.std.specs.Cmp.Lexicographic.{slice_cmp, nat_list_cmp_total}
use Rattle.std.specs.FinMap.{entries, entries_sorted, get, get-entries, nat_cmp-IsAntisymmetric, slice_cmp-IsAntisymmetric}
use Rattle.std.specs.FinMap.Entries.{find, is_sorted, where_key, find-where_key, is_sorted-where_key, same_entries}
use Rattle.rk_bytes.specs.declared.model.name.FileName.{FileName}
use Rattle.rk_bytes.specs.declared.model.name.FileName.TheVariants.{Current, Manifest, Log, Table, Temp, Lost, Other}
use Rattle.rk_bytes.specs.Model.DiskImages.{Directory}
use Rattle.rk_bytes.specs.Model.FileNames.{name_of}
use Rattle.rk_bytes.specs.Model.Opening.{in_order}
use Rattle.rk_bytes.specs.Model.Salvage.{Files, FoundFiles, with_number, numbered, table_number, log_number, found_table, known_families, refused_file, refuses_file, taken_records, remainder_of, salvage_families, salvage_records, remainder}
use Rattle.rk_bytes.specs.Model.TableStatus.{table_status}
use Rattle.rk_bytes.specs.Model.LogItems.{log_items}
use Rattle.rk_bytes.specs.Model.Descent.{may_move}
use Rattle.rk_bytes.specs.Model.Records.{last_records}
use Rattle.std.specs.List.{cons_option}

-- the files with names of one kind
abbrev of_kind : (FileName → Option ℕ) → Files → Files
of_kind number_in files = where_key (slice_cmp nat_cmp) (λ name. is_some (number_in (name_of name))) files

same_text : (a b : List ℕ) → slice_cmp nat_cmp a b ≡ Equal → a ≡ b
same_text = slice_cmp-IsAntisymmetric nat_cmp-IsAntisymmetric

-- two directories agree on the names of a kind
abbrev AgreeOn : (FileName → Option ℕ) → Directory → Directory → Type 0
AgreeOn number_in x y = (name : List ℕ) → is_some (number_in (name_of name)) ≡ true → get x name ≡ get y name

same_of_kind : (number_in : FileName → Option ℕ) (x y : Directory) → AgreeOn number_in x y → of_kind number_in (entries x) ≡ of_kind number_in (entries y)
same_of_kind number_in x y agree = same_entries (slice_cmp nat_cmp) nat_list_cmp_total same_text _ _ (sorted x) (sorted y) same
  where
    test : List ℕ → Bool
    test name = is_some (number_in (name_of name))

    sorted : (d : Directory) → T (is_sorted (slice_cmp nat_cmp) (of_kind number_in (entries d)))
    sorted d = is_sorted-where_key (slice_cmp nat_cmp) (λ name. is_some (number_in (name_of name))) (entries d) (entries_sorted d)

    alike : (q a : List ℕ) → slice_cmp nat_cmp q a ≡ Equal → is_some (number_in (name_of a)) ≡ is_some (number_in (name_of q))
    alike q a e = ap (λ name. is_some (number_in (name_of name))) (sym (same_text q a e))

    at : (b : Bool) (q : List ℕ) → is_some (number_in (name_of q)) ≡ b → cond b (find (slice_cmp nat_cmp) q (entries x)) None ≡ cond b (find (slice_cmp nat_cmp) q (entries y)) None
    at true q is = sym (get-entries x q) ∙ agree q is ∙ get-entries y q
    at false q is = refl

    found : (d : Directory) (q : List ℕ) → find (slice_cmp nat_cmp) q (of_kind number_in (entries d)) ≡ cond (is_some (number_in (name_of q))) (find (slice_cmp nat_cmp) q (entries d)) None
    found d q = find-where_key (slice_cmp nat_cmp) (λ name. is_some (number_in (name_of name))) q (alike q) (entries d)

    same : (q : List ℕ) → find (slice_cmp nat_cmp) q (of_kind number_in (entries x)) ≡ find (slice_cmp nat_cmp) q (of_kind number_in (entries y))
    same q = found x q ∙ at (is_some (number_in (name_of q))) q refl ∙ sym (found y q)

-- the others have no number
numbers_of_kind : (number_in : FileName → Option ℕ) (files : Files) → filter_map (with_number number_in) files ≡ filter_map (with_number number_in) (of_kind number_in files)
numbers_of_kind number_in [] = refl
numbers_of_kind number_in (file ∷ files) = by (number_in (name_of file.0)) refl (numbers_of_kind number_in files)
  where
    by : (n : Option ℕ) → number_in (name_of file.0) ≡ n → filter_map (with_number number_in) files ≡ filter_map (with_number number_in) (of_kind number_in files)
        → cons_option (option_map (λ m. (m, file.1)) n) (filter_map (with_number number_in) files)
        ≡ filter_map (with_number number_in) (cond (is_some n) (file ∷ of_kind number_in files) (of_kind number_in files))
    by None is rest = rest
    by (Some n) is rest =
        ap (λ (more : List (ℕ × List ℕ)). (n, file.1) ∷ more) rest
        ∙ ap (λ o. cons_option (option_map (λ m. (m, file.1)) o) (filter_map (with_number number_in) (of_kind number_in files))) (sym is)

numbered-agree : (number_in : FileName → Option ℕ) (x y : Directory) → AgreeOn number_in x y → numbered number_in (entries x) ≡ numbered number_in (entries y)
unfolding numbered
numbered-agree number_in x y agree =
    ap (in_order (λ file. file.0)) (numbers_of_kind number_in (entries x) ∙ ap (filter_map (with_number number_in)) (same_of_kind number_in x y agree) ∙ sym (numbers_of_kind number_in (entries y)))

-- the tables and logs with these numbers, as they are found
abbrev read_files : List (ℕ × List ℕ) → List (ℕ × List ℕ) → FoundFiles
read_files tables logs = record {
  files = [];
  tables = map (λ file. found_table file (table_status file.1)) tables;
  logs = map (λ file. (file.0, log_items file.0 file.1)) logs;
}

-- two directories agree on the names of tables and logs
abbrev AgreeOnSalvaged : Directory → Directory → Type 0
AgreeOnSalvaged x y = (name : List ℕ) → may_move (name_of name) ≡ true → get x name ≡ get y name

table_moves : (name : FileName) → is_some (table_number name) ≡ true → may_move name ≡ true
table_moves (Table n) e = refl
table_moves (Log n) e = refl
table_moves Current e = e
table_moves (Manifest n) e = e
table_moves (Temp n) e = e
table_moves Lost e = e
table_moves Other e = e

log_moves : (name : FileName) → is_some (log_number name) ≡ true → may_move name ≡ true
log_moves (Table n) e = refl
log_moves (Log n) e = refl
log_moves Current e = e
log_moves (Manifest n) e = e
log_moves (Temp n) e = e
log_moves Lost e = e
log_moves Other e = e

module _ (x y : Directory) (agree : AgreeOnSalvaged x y) where
  same_tables : numbered table_number (entries x) ≡ numbered table_number (entries y)
  same_tables = numbered-agree table_number x y (λ name is. agree name (table_moves (name_of name) is))

  same_logs : numbered log_number (entries x) ≡ numbered log_number (entries y)
  same_logs = numbered-agree log_number x y (λ name is. agree name (log_moves (name_of name) is))

  pub refuses_file-agree : refuses_file x ≡ refuses_file y
  unfolding refuses_file
  refuses_file-agree = λ i. is_some (refused_file (read_files (same_tables i) (same_logs i)))

  pub families-agree : salvage_families x ≡ salvage_families y
  unfolding salvage_families
  families-agree = λ i. known_families (read_files (same_tables i) (same_logs i))

  pub records-agree : salvage_records x ≡ salvage_records y
  unfolding salvage_records
  records-agree = λ i. last_records (taken_records (read_files (same_tables i) (same_logs i)))

  pub remainder-agree : remainder x ≡ remainder y
  unfolding remainder
  remainder-agree = λ i. remainder_of (read_files (same_tables i) (same_logs i))
