-- The logs of a directory, by their names' numbers.
use Rattle.std.proofs.Common.{◌≡◌, ℕ, ◌+◌, ◌<◌, Bool, true, false, cond, List, [], ◌∷◌, ◌++◌, length, get_or, map, take, Option, Some, None, Result, Err, refl, sym, ap, subst, ◌∙◌}
use Rattle.std.specs.Prelude.{IfSome, filter, filter_map, nat_le, unwrap_or, T, ◌&&◌, ◌≢◌}
use Rattle.std.specs.List.{AllByRecursion, cons_option}
use Rattle.std.specs.declared.cmp.Ordering.{Ordering}
use Rattle.std.specs.declared.cmp.Ordering.TheVariants.{Less, Equal, Greater}
use Rattle.std.specs.Ordering.{nat_cmp, is_lt, is_eq, ordering_reverse}
use Rattle.std.specs.Cmp.Lexicographic.{slice_cmp, nat_list_cmp_total}
use Rattle.std.specs.FinMap.{get, entries, keys, get-entries, entries_sorted}
use Rattle.std.specs.FinMap.Entries.{find, below_all, is_sorted}
use Rattle.std.proofs.lemmas.Cmp.{tied_itself}
use Rattle.std.proofs.lemmas.List.{take_more}
use Rattle.std.proofs.lemmas.List.Elements.{filter_map-append}
use Rattle.rk_bytes.specs.declared.model.name.FileName.{FileName}
use Rattle.rk_bytes.specs.declared.model.name.FileName.TheVariants.{Current, Manifest, Log as log_file, Table, Temp, Lost, Other}
use Rattle.rk_bytes.specs.declared.model.manifest.Version.{Version}
use Rattle.rk_bytes.specs.declared.model.open.OpenErr.{OpenErr}
use Rattle.rk_bytes.specs.declared.model.open.OpenErr.TheVariants.{Wal}
use Rattle.rk_bytes.specs.declared.model.wal.Mode.{Mode}
use Rattle.rk_bytes.specs.Model.BlockEntries.{with_fault}
use Rattle.rk_bytes.specs.Model.DiskImages.{Directory}
use Rattle.rk_bytes.specs.Model.FileNames.{log_name, name_of, printed_name}
use Rattle.rk_bytes.specs.Model.Opening.{in_order, log_of, logs_of}
use Rattle.rk_bytes.specs.Model.Replay.{Log, replay}
use Rattle.rk_bytes.proofs.Callers.Names.{printed-name_of}
use Rattle.rk_walmode.specs.declared.outcome.Replayed.{Replayed}
use Rattle.rk_open.specs.Answers.{IsCause}
use Rattle.rk_open.specs.Logs.{log_number, log_numbers, log_in, needed_logs}
use Rattle.rk_open.proofs.OrderLemmas.{in_order-map}
use Rattle.rk_open.proofs.PassLemmas.{refuses_by_cause}
use Rattle.rk_open.proofs.ReplayedLemmas.{AnswersReplay, needed}

abbrev IsLog : FileName → Type 0
IsLog (log_file number) = Unit {0}
IsLog _ = ⊥

-- what is kept of things that others stand for
filter-map : {A B : Type 0} (f : A → B) (p : B → Bool) (xs : List A) → filter p (map f xs) ≡ map f (filter (λ x. p (f x)) xs)
filter-map f p [] = refl
filter-map f p (x ∷ xs) = by (p (f x)) (filter-map f p xs)
  where
    by : (b : Bool) → filter p (map f xs) ≡ map f (filter (λ x. p (f x)) xs) → cond b (f x ∷ filter p (map f xs)) (filter p (map f xs)) ≡ map f (cond b (x ∷ filter (λ x. p (f x)) xs) (filter (λ x. p (f x)) xs))
    by true e = ap (λ l. f x ∷ l) e
    by false e = e

-- the bytes under each name are those that stand beside it
abbrev order : List ℕ → List ℕ → Ordering
order = slice_cmp nat_cmp

above : (x y : List ℕ) → T (is_lt (order x y)) → is_eq (order y x) ≡ false
above x y less = ap is_eq (nat_list_cmp_total.antisymm y x) ∙ by (order x y) less
  where
    by : (o : Ordering) → T (is_lt o) → is_eq (ordering_reverse o) ≡ false
    by Less less = refl
    by Equal less = absurd less
    by Greater less = absurd less

parts : (a b : Bool) → T (a && b) → T a × T b
parts true b told = (tt, told)
parts false b told = absurd told

later_found : (x : List ℕ × List ℕ) (all es : List (List ℕ × List ℕ)) → T (below_all order x.0 es) → AllByRecursion (λ e. find order e.0 all ≡ Some e.1) es → AllByRecursion (λ e. find order e.0 (x ∷ all) ≡ Some e.1) es
later_found x all [] below found = tt
later_found x all (e ∷ es) below found =
    let (one, others) = parts (is_lt (order x.0 e.0)) (below_all order x.0 es) below in
    (ap (λ told. cond told (Some x.1) (find order e.0 all)) (above x.0 e.0 one) ∙ found.0, later_found x all es others found.1)

each_found : (es : List (List ℕ × List ℕ)) → T (is_sorted order es) → AllByRecursion (λ e. find order e.0 es ≡ Some e.1) es
each_found [] sorted = tt
each_found (e ∷ es) sorted =
    let (below, others) = parts (below_all order e.0 es) (is_sorted order es) sorted in
    (ap (λ (told : Ordering). cond (is_eq told) (Some e.1) (find order e.0 es)) (tied_itself nat_list_cmp_total e.0), later_found e es es below (each_found es others))

found_in : (d : Directory) (all es : List (List ℕ × List ℕ)) → entries d ≡ all → AllByRecursion (λ e. find order e.0 all ≡ Some e.1) es → AllByRecursion (λ (e : List ℕ × List ℕ). get d e.0 ≡ Some e.1) es
found_in d all [] is found = tt
found_in d all (e ∷ es) is found = (get-entries d e.0 ∙ ap (find order e.0) is ∙ found.0, found_in d all es is found.1)

-- an entry is the log with its name's number, or no log
module _ (d : Directory) where
  one_log : (name bytes : List ℕ) (kind : FileName) → name_of name ≡ kind → get d name ≡ Some bytes → (numbers : List ℕ) (logs : List Log) → map (log_in d) numbers ≡ logs
      → map (log_in d) (cons_option (log_number kind) numbers) ≡ cons_option (log_of kind bytes) logs
  one_log name bytes (log_file number) is found numbers logs same =
      let kept : name_of name ≢ Lost = λ lost. absurd (subst IsLog (sym is ∙ lost) tt) in
      let known : name_of name ≢ Other = λ other. absurd (subst IsLog (sym is ∙ other) tt) in
      let printed : log_name number ≡ name = subst (λ (kind : FileName). printed_name kind ≡ name) is (printed-name_of name kept known).1 in
      λ i. record { number = number; bytes = unwrap_or ((ap (get d) printed ∙ found) i) [] } ∷ same i
  one_log name bytes Current is found numbers logs same = same
  one_log name bytes (Manifest n) is found numbers logs same = same
  one_log name bytes (Table n) is found numbers logs same = same
  one_log name bytes (Temp n) is found numbers logs same = same
  one_log name bytes Lost is found numbers logs same = same
  one_log name bytes Other is found numbers logs same = same

  all_logs : (es : List (List ℕ × List ℕ)) → AllByRecursion (λ (e : List ℕ × List ℕ). get d e.0 ≡ Some e.1) es
      → map (log_in d) (filter_map (λ name. log_number (name_of name)) (map (λ (e : List ℕ × List ℕ). e.0) es)) ≡ filter_map (λ (file : List ℕ × List ℕ). log_of (name_of file.0) file.1) es
  all_logs [] found = refl
  all_logs (e ∷ es) found = one_log e.0 e.1 (name_of e.0) refl found.0 _ _ (all_logs es found.1)

  -- the logs by their numbers
  pub logs_by_number : map (log_in d) (log_numbers (keys d)) ≡ logs_of (entries d)
  logs_by_number =
      let numbers = filter_map (λ name. log_number (name_of name)) (keys d) in
      sym (in_order-map (log_in d) (λ log. log.number) numbers)
      ∙ ap (in_order (λ (log : Log). log.number)) (all_logs (entries d) (found_in d (entries d) (entries d) refl (each_found (entries d) (entries_sorted d))))

  pub logs_needed : (first : ℕ) → map (log_in d) (filter (nat_le first) (log_numbers (keys d))) ≡ needed_logs first d
  logs_needed first = sym (filter-map (log_in d) (λ log. nat_le first log.number) (log_numbers (keys d))) ∙ ap (filter (λ (log : Log). nat_le first log.number)) logs_by_number

-- the numbers of one more name
pub numbers_more : (names : List (List ℕ)) (k : ℕ) (name : List ℕ) (numbers after : List ℕ) → name ≡ get_or names k name → k < length names
    → numbers ≡ filter_map (λ name. log_number (name_of name)) (take k names) → after ≡ numbers ++ cons_option (log_number (name_of name)) [] → after ≡ filter_map (λ name. log_number (name_of name)) (take (k + 1) names)
numbers_more names k name numbers after is less so_far pushed =
    let number : List ℕ → Option ℕ = λ name. log_number (name_of name) in
    pushed ∙ ap (λ numbers. numbers ++ cons_option (number name) []) so_far ∙ sym (filter_map-append number (take k names) (name ∷ []))
    ∙ ap (filter_map number) (sym (take_more names k name less ∙ ap (λ n. take k names ++ n ∷ []) (sym is)))

-- what is answered of a directory
module _ (mode : Mode) (version : Version) (first : ℕ) where
  pub replay_named : (result : Result Replayed OpenErr) (numbers : List ℕ) (o : Option Directory) → IfSome o (λ d. numbers ≡ log_numbers (keys d))
      → IfSome o (λ d. AnswersReplay mode version result (needed first d numbers)) → IfSome o (λ d. AnswersReplay mode version result (needed_logs first d))
  replay_named result numbers None is answers = tt
  replay_named result numbers (Some d) is answers = subst (AnswersReplay mode version result) (ap (needed first d) is ∙ logs_needed d first) answers

  pub replay_not_named : (why : OpenErr) → IsCause why → (o : Option Directory) → IfSome o (λ d. AnswersReplay mode version (Err why) (needed_logs first d))
  replay_not_named why is None = tt
  replay_not_named why is (Some d) = refuses_by_cause (with_fault Wal (replay mode version (needed_logs first d))) why is
