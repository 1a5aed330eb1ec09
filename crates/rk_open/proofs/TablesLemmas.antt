-- The tables of a version are added to a state one after another.
use Rattle.std.proofs.Common.{◌≡◌, ℕ, ◌+◌, ◌<◌, ◌≤◌, Bool, true, false, cond, List, [], ◌∷◌, ◌++◌, length, get_or, map, take, drop, Option, Some, None, IfSome, Result, Ok, Err, refl, sym, ap, ◌∙◌, subst, append_assoc, arith}
use Rattle.std.specs.Prelude.{filter, flat_map, fold, max, nat_le, nat_lt}
use Rattle.std.specs.FinMap.{get}
use Rattle.std.specs.List.{AllByRecursion}
use Rattle.std.specs.Ordering.{nat_cmp, ord_max}
use Rattle.std.proofs.lemmas.Bool.Decides.{nat_tests}
use Rattle.std.proofs.lemmas.Grind.{flat_map-append}
use Rattle.std.proofs.lemmas.List.{map-append, take_more, take-append-drop}
use Rattle.rk_bytes.specs.declared.model.block.RangeDel.{RangeDel}
use Rattle.rk_bytes.specs.declared.model.key.Record.{Record}
use Rattle.rk_bytes.specs.declared.model.manifest.FamilyState.{FamilyState}
use Rattle.rk_bytes.specs.declared.model.manifest.FileMeta.{FileMeta}
use Rattle.rk_bytes.specs.declared.model.open.OpenErr.{OpenErr}
use Rattle.rk_bytes.specs.declared.model.open.OpenErr.TheVariants.{OutOfBounds}
use Rattle.rk_bytes.specs.declared.model.view.Tomb.{Tomb}
use Rattle.rk_bytes.specs.declared.model.view.FamilyLine.{FamilyLine}
use Rattle.rk_bytes.proofs.Callers.Readings.{both_steps, first_step}
use Rattle.rk_version.specs.Bounds.{HasWholeBounds}
use Rattle.rk_bytes.specs.Model.Numbers.{◌>>=◌}
use Rattle.rk_bytes.specs.Model.BlockEntries.{collected}
use Rattle.rk_bytes.specs.Model.DiskImages.{Directory}
use Rattle.rk_bytes.specs.Model.InternalKey.{top_sequence}
use Rattle.rk_bytes.specs.Model.KeyView.{State}
use Rattle.rk_bytes.specs.Model.Opening.{Files, Listed, TableFile, are_within, greatest_sequence, in_order, listed_by, listed_tables, range_record, state_with, table_file, table_records, table_tombs}
use Rattle.rk_bytes.specs.Model.Records.{over, last_records}
use Rattle.rk_bytes.specs.Model.TableStatus.{Good}
use Rattle.rk_table.specs.Steps.{AreBelowTop}
use Rattle.rk_sst.specs.Seen.{OpenSeen}
use Rattle.rk_sst.specs.Opened.{IsOpen, records_left}
use Rattle.rk_sst.specs.Rising.{RiseFrom}
use Rattle.rk_view.specs.Kept.{with_records}
use Rattle.rk_open.specs.Answers.{RefusesAs}
use Rattle.rk_open.specs.Opened.{IsTopOf}
use Rattle.rk_open.specs.Reads.{HoldsRun, IsRead}
use Rattle.rk_open.specs.declared.read.ReadTable.{ReadTable}
use Rattle.rk_open.specs.Tables.{HaveWholeBounds, IsListed, Adds, AddsTable, AddsTables, AreTables, IsTable, cut_ranges, run_within}
use Rattle.rk_open.proofs.AddLemmas.{adds_none, adds_both, adds_run}
use Rattle.rk_open.proofs.BoundLemmas.{within_family}
use Rattle.rk_open.proofs.RecordLemmas.{last_records-append, greatest-append, greatest_fits, max_from}
use Rattle.rk_open.proofs.RunLemmas.{numbered, refuses_on, table_run}

-- the sequence numbers of range deletions as records
ranges_top : (family : ℕ) (ranges : List RangeDel) → map (λ (r : Record). r.sequence) (map (range_record family) ranges) ≡ map (λ (range : RangeDel). range.sequence) ranges
ranges_top family [] = refl
ranges_top family (range ∷ ranges) = ap (λ l. range.sequence ∷ l) (ranges_top family ranges)

ranges_fit : (family : ℕ) (ranges : List RangeDel) → AreBelowTop ranges → AllByRecursion (λ (r : Record). r.sequence ≤ top_sequence) (map (range_record family) ranges)
ranges_fit family [] fit = tt
ranges_fit family (range ∷ ranges) fit = (fit.0, ranges_fit family ranges fit.1)

each_both : {A : Type 0} (P : A → Type 0) (xs ys : List A) → AllByRecursion P xs → AllByRecursion P ys → AllByRecursion P (xs ++ ys)
each_both P [] ys a b = b
each_both P (x ∷ xs) ys a b = (a.0, each_both P xs ys a.1 b)

-- a run within the bounds is all that is left
run_is : (file : FileMeta) (left run : List Record) → run_within file left ≡ Ok run → (are_within file left ≡ true) × (left ≡ run)
run_is file left run e = by (are_within file left) refl e
  where
    by : (b : Bool) → are_within file left ≡ b → cond b (Ok left) (Err (OutOfBounds file.number)) ≡ Ok run → (are_within file left ≡ true) × (left ≡ run)
    by true is e = (is, cc)
    by false is e = absurd cc

-- the table that is told
holds_run : (d : Directory) (listed : Listed) (seen : OpenSeen) (run : List Record) (ranges : List RangeDel) → IsListed d listed seen → run_within listed.file (records_left seen d) ≡ Ok run → ranges ≡ seen.table.ranges → HoldsRun (get d) listed run ranges
holds_run d listed seen run ranges is read same =
    let (within, left) = run_is listed.file (records_left seen d) run read in
    let good = is.good in
    let inside : are_within listed.file good.records ≡ true = sym (within_family listed.file listed.family good.records) ∙ ap (are_within listed.file) (sym is.left) ∙ within in
    record {
      good = good;
      is = is.is ∙ ap (λ (b : Bool). cond b (Ok (record { listed = listed; good = good })) (Err (OutOfBounds listed.file.number))) inside;
      run_is = sym left ∙ is.left;
      ranges_are = same ∙ is.ranges;
    }

-- An open table's run and its range deletions are read.
pub reads_table : (o : Option Directory) (listed : Listed) (seen : OpenSeen) (table : ReadTable) → IfSome o (λ d. IsListed d listed seen) → IfSome o (λ d. run_within listed.file (records_left seen d) ≡ Ok table.run)
    → RiseFrom seen.table.family seen.last table.run → table.ranges ≡ seen.table.ranges → AreBelowTop seen.table.ranges → IsRead o listed table
reads_table o listed seen table is read rises same below = record {
  run = table_run seen.table.family seen.last table.run rises;
  below = subst AreBelowTop (sym same) below;
  told = told o is read;
}
  where
    told : (o : Option Directory) → IfSome o (λ d. IsListed d listed seen) → IfSome o (λ d. run_within listed.file (records_left seen d) ≡ Ok table.run) → IfSome o (λ d. HoldsRun (get d) listed table.run table.ranges)
    told None is read = tt
    told (Some d) is read = holds_run d listed seen table.run table.ranges is read same

-- A table that was read is added.
pub adds_table : (o : Option Directory) (listed : Listed) (table : ReadTable) (old mid new : State) (top : ℕ) → IsRead o listed table → mid ≡ with_records table.run old
    → Adds (map (range_record listed.family) table.ranges) (cut_ranges listed table.ranges) mid new → top ≡ fold max (greatest_sequence table.run) (map (λ range. range.sequence) table.ranges) → AddsTable o listed old new top
adds_table o listed table old mid new top is added more top_is =
    let run = table.run in
    let ranges = table.ranges in
    let records = run ++ map (range_record listed.family) ranges in
    let greatest : top ≡ greatest_sequence records =
    top_is ∙ max_from (greatest_sequence run) (map (λ range. range.sequence) ranges) ∙ ap (λ ns. max (greatest_sequence run) (fold max 0 ns)) (sym (ranges_top listed.family ranges))
    ∙ sym (greatest-append run (map (range_record listed.family) ranges)) in
    let fit = each_both (λ (r : Record). r.sequence ≤ top_sequence) run (map (range_record listed.family) ranges) (numbered is.run.family run is.run.each) (ranges_fit listed.family ranges is.below) in
    record {
      records = records;
      tombs = cut_ranges listed ranges;
      adds = adds_both run (map (range_record listed.family) ranges) [] (cut_ranges listed ranges) old mid new (adds_run run old mid added) more;
      top_is = greatest;
      bound = subst (λ (n : ℕ). n ≤ top_sequence) (sym greatest) (greatest_fits records fit);
      told = told o is.told;
    }
  where
    told : (o : Option Directory) → IfSome o (λ d. HoldsRun (get d) listed table.run table.ranges) → IfSome o (λ d. IsTable (get d) listed (table.run ++ map (range_record listed.family) table.ranges) (cut_ranges listed table.ranges))
    told None holds = tt
    told (Some d) holds = record {
      table = record { listed = listed; good = holds.good };
      is = holds.is;
      records_are = λ i. holds.run_is i ++ map (range_record listed.family) (holds.ranges_are i);
      tombs_are = ap (cut_ranges listed) holds.ranges_are;
    }

-- what is told of a good table in the end
abbrev tested : Listed → Good → Bool → Result TableFile OpenErr
tested listed good b = cond b (Ok (record { listed = listed; good = good })) (Err (OutOfBounds listed.file.number))

-- a run that is refused refuses its table
out_of : (d : Directory) (listed : Listed) (seen : OpenSeen) (why : OpenErr) → IsListed d listed seen → run_within listed.file (records_left seen d) ≡ Err why → table_file (get d) listed ≡ Err why
out_of d listed seen why is e =
    is.is ∙ by (are_within listed.file is.good.records) (sym (ap (are_within listed.file) is.left ∙ within_family listed.file listed.family is.good.records)) e
  where
    by : (b : Bool) → b ≡ are_within listed.file (records_left seen d) → run_within listed.file (records_left seen d) ≡ Err why → tested listed is.good b ≡ Err why
    by true same e = let no : Ok (records_left seen d) ≡ Err why = ap (λ (b : Bool). cond b (Ok (records_left seen d)) (Err (OutOfBounds listed.file.number))) same ∙ e in absurd cc
    by false same e = let yes : Err (OutOfBounds listed.file.number) ≡ Err why = ap (λ (b : Bool). cond b (Ok (records_left seen d)) (Err (OutOfBounds listed.file.number))) same ∙ e in cc

pub run_refuses : (o : Option Directory) (listed : Listed) (seen : OpenSeen) (why : OpenErr) → IfSome o (λ d. IsListed d listed seen) → IfSome o (λ d. RefusesAs (run_within listed.file (records_left seen d)) why) → IfSome o (λ d. RefusesAs (table_file (get d) listed) why)
run_refuses None listed seen why is refuses = tt
run_refuses (Some d) listed seen why is refuses = refuses_on (run_within listed.file (records_left seen d)) (table_file (get d) listed) why (λ why e. out_of d listed seen why is e) refuses

pub is_open : (o : Option Directory) (listed : Listed) (seen : OpenSeen) → IfSome o (λ d. IsListed d listed seen) → IfSome o (IsOpen seen)
is_open None listed seen is = tt
is_open (Some d) listed seen is = is.opened

-- tables that are read one after another
collected_more : {A B : Type 0} (give : A → Result B OpenErr) (xs : List A) (ys : List B) (x : A) (y : B) → collected give xs ≡ Ok ys → give x ≡ Ok y → collected give (xs ++ x ∷ []) ≡ Ok (ys ++ y ∷ [])
collected_more give [] ys x y e is = let none : [] ≡ ys = cc in first_step (give x) _ y is ∙ ap (λ l. Ok (l ++ y ∷ [])) none
collected_more give (one ∷ xs) ys x y e is =
    both_steps (give one) _ ys e λ first read e1.
    both_steps (collected give xs) _ ys e1 λ rest read' e2.
    let same : first ∷ rest ≡ ys = cc in
    first_step (give one) _ first read ∙ first_step (collected give (xs ++ x ∷ [])) _ (rest ++ y ∷ []) (collected_more give xs rest x y read' is) ∙ ap (λ l. Ok (l ++ y ∷ [])) same

collected_refuses : {A B : Type 0} (give : A → Result B OpenErr) (xs later : List A) (ys : List B) (x : A) (why : OpenErr) → collected give xs ≡ Ok ys → give x ≡ Err why → collected give (xs ++ x ∷ later) ≡ Err why
collected_refuses give [] later ys x why e is = ap (λ r. r >>= (λ first. collected give later >>= (λ rest. Ok (first ∷ rest)))) is
collected_refuses give (one ∷ xs) later ys x why e is =
    both_steps (give one) _ ys e λ first read e1.
    both_steps (collected give xs) _ ys e1 λ rest read' e2.
    first_step (give one) _ first read ∙ ap (λ r. r >>= (λ rest. Ok (first ∷ rest))) (collected_refuses give xs later rest x why read' is)

append_none : {A : Type 0} (xs : List A) → xs ++ [] ≡ xs
append_none [] = refl
append_none (x ∷ xs) = ap (λ l. x ∷ l) (append_none xs)

one_more : {B : Type 0} (f : TableFile → List B) (tables : List TableFile) (table : TableFile) → flat_map f tables ++ f table ≡ flat_map f (tables ++ table ∷ [])
one_more f tables table = ap (λ l. flat_map f tables ++ l) (sym (append_none (f table))) ∙ sym (flat_map-append f tables (table ∷ []))

tables_are : (files : Files) (done : List Listed) (next : Listed) (xs ys : List Record) (ts us : List Tomb) → AreTables files done xs ts → IsTable files next ys us → AreTables files (done ++ next ∷ []) (xs ++ ys) (ts ++ us)
tables_are files done next xs ys ts us a b = record {
  tables = a.tables ++ b.table ∷ [];
  are = collected_more (table_file files) done a.tables next b.table a.are b.is;
  records_are = (λ i. a.records_are i ++ b.records_are i) ∙ one_more table_records a.tables b.table;
  tombs_are = (λ i. a.tombs_are i ++ b.tombs_are i) ∙ one_more table_tombs a.tables b.table;
}

pub greater_is : (m n r : ℕ) → r ≡ ord_max nat_cmp m n → r ≡ max m n
greater_is m n r e = grind (arith, nat_tests)

-- no table is added yet
pub tables_none : (o : Option Directory) (state : State) → AddsTables o [] state state 0
tables_none o state = record { records = []; tombs = []; adds = adds_none state; top_is = refl; bound = omega arith; told = told o }
  where
    told : (o : Option Directory) → IfSome o (λ d. AreTables (get d) [] [] [])
    told None = tt
    told (Some d) = record { tables = []; are = refl; records_are = refl; tombs_are = refl }

-- one more table is added
pub tables_more : (o : Option Directory) (done : List Listed) (next : Listed) (old mid new : State) (top own after : ℕ) → AddsTables o done old mid top → AddsTable o next mid new own → after ≡ max top own → AddsTables o (done ++ next ∷ []) old new after
tables_more o done next old mid new top own after a b is = record {
  records = a.records ++ b.records;
  tombs = a.tombs ++ b.tombs;
  adds = adds_both a.records b.records a.tombs b.tombs old mid new a.adds b.adds;
  top_is = is ∙ (λ i. max (a.top_is i) (b.top_is i)) ∙ sym (greatest-append a.records b.records);
  bound = let low = a.bound in let high = b.bound in omega arith;
  told = told o a.told b.told;
}
  where
    told : (o : Option Directory) → IfSome o (λ d. AreTables (get d) done a.records a.tombs) → IfSome o (λ d. IsTable (get d) next b.records b.tombs) → IfSome o (λ d. AreTables (get d) (done ++ next ∷ []) (a.records ++ b.records) (a.tombs ++ b.tombs))
    told None one other = tt
    told (Some d) one other = tables_are (get d) done next a.records b.records a.tombs b.tombs one other

-- the parts of a list at a place
parted : {A : Type 0} (xs : List A) (k : ℕ) (x : A) → x ≡ get_or xs k x → k < length xs → xs ≡ take k xs ++ x ∷ drop (k + 1) xs
parted xs k x at less =
    sym (take-append-drop (k + 1) xs) ∙ ap (λ l. l ++ drop (k + 1) xs) (take_more xs k x less ∙ ap (λ y. take k xs ++ y ∷ []) (sym at)) ∙ append_assoc (take k xs) (x ∷ []) (drop (k + 1) xs)

module _ {A : Type 0} (f : A → Listed) (tables : List A) (k : ℕ) (table : A) (at : table ≡ get_or tables k table) (less : k < length tables) where
  pub each_more : (o : Option Directory) (old mid new : State) (top own after : ℕ) → AddsTables o (map f (take k tables)) old mid top → AddsTable o (f table) mid new own → after ≡ max top own → AddsTables o (map f (take (k + 1) tables)) old new after
  each_more o old mid new top own after a b is =
      subst (λ (l : List Listed). AddsTables o l old new after) (sym (ap (map f) (take_more tables k table less ∙ ap (λ y. take k tables ++ y ∷ []) (sym at)) ∙ map-append f (take k tables) (table ∷ [])))
      (tables_more o (map f (take k tables)) (f table) old mid new top own after a b is)

  -- a table that is refused refuses all
  pub each_refuses : (o : Option Directory) (old mid : State) (top : ℕ) (why : OpenErr) → AddsTables o (map f (take k tables)) old mid top → IfSome o (λ d. RefusesAs (table_file (get d) (f table)) why) → IfSome o (λ d. RefusesAs (collected (table_file (get d)) (map f tables)) why)
  each_refuses o old mid top why a refuses = by o a.told refuses
    where
      whole : map f tables ≡ map f (take k tables) ++ f table ∷ map f (drop (k + 1) tables)
      whole = ap (map f) (parted tables k table at less) ∙ map-append f (take k tables) (table ∷ drop (k + 1) tables)

      by : (o : Option Directory) → IfSome o (λ d. AreTables (get d) (map f (take k tables)) a.records a.tombs) → IfSome o (λ d. RefusesAs (table_file (get d) (f table)) why) → IfSome o (λ d. RefusesAs (collected (table_file (get d)) (map f tables)) why)
      by None are refuses = tt
      by (Some d) are refuses =
          refuses_on (table_file (get d) (f table)) (collected (table_file (get d)) (map f tables)) why
          (λ why e. ap (collected (table_file (get d))) whole ∙ collected_refuses (table_file (get d)) (map f (take k tables)) (map f (drop (k + 1) tables)) are.tables (f table) why are.are e) refuses

-- The state and the greatest sequence number in the end.
pub top_of : (o : Option Directory) (listed : List Listed) (lines : List FamilyLine) (old new : State) (top : ℕ) → old ≡ state_with lines [] [] → AddsTables o listed old new top → IsTopOf top new
top_of o listed lines old new top begun a = record {
  all = a.records;
  records = records_of lines old new a.records a.tombs begun a.adds;
  greatest = a.top_is;
  bound = a.bound;
}
  where
    records_of : (lines : List FamilyLine) (old new : State) (records : List Record) (tombs : List Tomb) → old ≡ state_with lines [] [] → Adds records tombs old new → new.records ≡ last_records records
    records_of lines old new records tombs begun adds = adds.records_are ∙ ap (λ (s : State). over s.records (last_records records)) begun ∙ sym (last_records-append [] records)

abbrev pub Loads : List FamilyLine → State → ℕ → List TableFile → Type 0
Loads lines new top tables = (new ≡ state_with lines tables []) × (top ≡ greatest_sequence (flat_map table_records tables))

pub loads : (o : Option Directory) (listed wanted : List Listed) (lines : List FamilyLine) (old new : State) (top : ℕ) → listed ≡ wanted → old ≡ state_with lines [] [] → AddsTables o listed old new top
    → IfSome o (λ d. (tables : List TableFile) × (collected (table_file (get d)) wanted ≡ Ok tables) × Loads lines new top tables)
loads o listed wanted lines old new top same begun a = by o a.told
  where
    by : (o : Option Directory) → IfSome o (λ d. AreTables (get d) listed a.records a.tombs) → IfSome o (λ d. (tables : List TableFile) × (collected (table_file (get d)) wanted ≡ Ok tables) × Loads lines new top tables)
    by None are = tt
    by (Some d) are =
        let families : new.families ≡ lines = a.adds.families ∙ ap (λ (s : State). s.families) begun in
        let all = flat_map table_records are.tables in
        let records : new.records ≡ last_records (all ++ []) = a.adds.records_are ∙ ap (λ (s : State). over s.records (last_records a.records)) begun ∙ sym (last_records-append [] a.records) ∙ ap last_records (are.records_are ∙ sym (append_none all)) in
        let tombs : new.tombs ≡ flat_map table_tombs are.tables ++ [] = a.adds.tombs_are ∙ ap (λ (s : State). s.tombs ++ a.tombs) begun ∙ are.tombs_are ∙ sym (append_none (flat_map table_tombs are.tables)) in
        (are.tables, ap (collected (table_file (get d))) (sym same) ∙ are.are, ((λ i. record { families = families i; records = records i; tombs = tombs i }), a.top_is ∙ ap greatest_sequence are.records_are))

-- the bounds of listed tables
pub each_flat : {A B : Type 0} (P : B → Type 0) (f : A → List B) (xs : List A) → AllByRecursion (λ x. AllByRecursion P (f x)) xs → AllByRecursion P (flat_map f xs)
each_flat P f [] each = tt
each_flat P f (x ∷ xs) each = each_both P (f x) (flat_map f xs) each.0 (each_flat P f xs each.1)

pub each_kept : {A : Type 0} (P : A → Type 0) (test : A → Bool) (xs : List A) → AllByRecursion P xs → AllByRecursion P (filter test xs)
each_kept P test [] each = tt
each_kept P test (x ∷ xs) each = by (test x) (each_kept P test xs each.1)
  where
    by : (b : Bool) → AllByRecursion P (filter test xs) → AllByRecursion P (cond b (x ∷ filter test xs) (filter test xs))
    by true later = (each.0, later)
    by false later = later

each_ordered : {A : Type 0} (P : A → Type 0) (number : A → ℕ) (xs : List A) → AllByRecursion P xs → AllByRecursion P (in_order number xs)
each_ordered P number [] each = tt
each_ordered P number (x ∷ xs) each =
    let others = in_order number xs in
    let later = each_ordered P number xs each.1 in
    each_both P (filter (λ other. nat_lt (number other) (number x)) others) (x ∷ filter (λ other. nat_le (number x) (number other)) others) (each_kept P (λ other. nat_lt (number other) (number x)) others later) (each.0, each_kept P (λ other. nat_le (number x) (number other)) others later)

each_of : {A B : Type 0} (P : B → Type 0) (f : A → B) (xs : List A) → AllByRecursion P (map f xs) → AllByRecursion (λ x. P (f x)) xs
each_of P f [] each = tt
each_of P f (x ∷ xs) each = (each.0, each_of P f xs each.1)

each_made : {A B : Type 0} (P : B → Type 0) (f : A → B) (xs : List A) → AllByRecursion (λ x. P (f x)) xs → AllByRecursion P (map f xs)
each_made P f [] each = tt
each_made P f (x ∷ xs) each = (each.0, each_made P f xs each.1)

families_made : (families : List FamilyState) → HaveWholeBounds families → AllByRecursion (λ live. AllByRecursion (λ (listed : Listed). HasWholeBounds listed.file) (listed_by live)) families
families_made [] each = tt
families_made (live ∷ families) each = (each_made (λ (listed : Listed). HasWholeBounds listed.file) (λ file. record { family = live.id; file = file }) live.files each.0, families_made families each.1)

pub listed_whole : {A : Type 0} (f : A → Listed) (tables : List A) (families : List FamilyState) → map f tables ≡ listed_tables families → HaveWholeBounds families → AllByRecursion (λ table. HasWholeBounds (f table).file) tables
listed_whole f tables families same each =
    each_of (λ (listed : Listed). HasWholeBounds listed.file) f tables (subst (AllByRecursion (λ (listed : Listed). HasWholeBounds listed.file)) (sym same)
    (each_ordered (λ (listed : Listed). HasWholeBounds listed.file) (λ table. table.file.number) (flat_map listed_by families) (each_flat (λ (listed : Listed). HasWholeBounds listed.file) listed_by families (families_made families each))))
