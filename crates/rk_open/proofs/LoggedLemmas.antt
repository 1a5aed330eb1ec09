-- What records of logs make of a state.
use Rattle.std.proofs.Common.{◌≡◌, ℕ, ◌≤◌, cond, List, [], ◌∷◌, ◌++◌, map, filter, None, refl, sym, ap, ◌∙◌, append-nil, arith}
use Rattle.std.specs.Prelude.{flat_map, fold, max}
use Rattle.std.specs.List.{All}
use Rattle.std.proofs.lemmas.List.{map-append}
use Rattle.std.proofs.lemmas.List.Elements.{filter-append, recursion_from_All}
use Rattle.rk_bytes.specs.declared.model.key.Kind.{Kind}
use Rattle.rk_bytes.specs.declared.model.key.Kind.TheVariants.{Deletion, Value, Merge, SingleDeletion, RangeDeletion}
use Rattle.rk_bytes.specs.declared.model.key.Record.{Record}
use Rattle.rk_bytes.specs.declared.model.view.FamilyLine.{FamilyLine}
use Rattle.rk_bytes.specs.declared.model.view.Tomb.{Tomb}
use Rattle.rk_bytes.specs.Model.InternalKey.{top_sequence}
use Rattle.rk_bytes.specs.Model.KeyView.{State, is_point, tomb_of}
use Rattle.rk_bytes.specs.Model.Opening.{TableFile, greatest_sequence, log_tombs, state_with, table_records, table_tombs}
use Rattle.rk_bytes.specs.Model.Records.{last_records, over}
use Rattle.rk_bytes.specs.Model.TableStatus.{is_range_deletion}
use Rattle.rk_view.specs.Kept.{tombs_of, with_replayed}
use Rattle.rk_open.specs.Logged.{with_logged}
use Rattle.rk_open.specs.Opened.{IsTopOf}
use Rattle.rk_open.proofs.RecordLemmas.{last_records-append, max_from, greatest-append, greatest_fits}

-- the range deletion of one record
one_tomb : (r : Record) → log_tombs (r ∷ []) ≡ tombs_of None r
one_tomb r = by r.kind
  where
    by : (kind : Kind) → map (tomb_of None) (cond (is_range_deletion kind) (r ∷ []) []) ≡ cond (is_point kind) [] (tomb_of None r ∷ [])
    by Deletion = refl
    by Value = refl
    by Merge = refl
    by SingleDeletion = refl
    by RangeDeletion = refl

log_tombs-append : (a b : List Record) → log_tombs (a ++ b) ≡ log_tombs a ++ log_tombs b
log_tombs-append a b =
    ap (map (tomb_of None)) (filter-append (λ r. is_range_deletion r.kind) a b) ∙ map-append (tomb_of None) (filter (λ r. is_range_deletion r.kind) a) (filter (λ r. is_range_deletion r.kind) b)

-- the range deletions of all records
each_tomb : (records : List Record) → flat_map (tombs_of None) records ≡ log_tombs records
each_tomb [] = refl
each_tomb (r ∷ records) = (λ i. sym (one_tomb r) i ++ each_tomb records i) ∙ sym (log_tombs-append (r ∷ []) records)

pub logged-replayed : (records : List Record) (state : State) → with_replayed records state ≡ with_logged records state
logged-replayed records state = ap (λ (tombs : List Tomb). record { families = state.families; records = over state.records (last_records records); tombs = state.tombs ++ tombs }) (each_tomb records)

-- the state of families, tables and logs, where that without logs is given
pub logged-told : (state : State) (lines : List FamilyLine) (tables : List TableFile) (records : List Record) → state ≡ state_with lines tables [] → with_logged records state ≡ state_with lines tables records
logged-told state lines tables records is =
    let held = flat_map table_records tables in
    let tombs = flat_map table_tombs tables in
    ap (with_logged records) is
    ∙ ap (λ all. record { families = lines; records = over (last_records all) (last_records records); tombs = (tombs ++ []) ++ log_tombs records }) (append-nil held)
    ∙ ap (λ all. record { families = lines; records = all; tombs = (tombs ++ []) ++ log_tombs records }) (sym (last_records-append held records))
    ∙ ap (λ all. record { families = lines; records = last_records (held ++ records); tombs = all ++ log_tombs records }) (append-nil tombs)

-- the greatest sequence number
pub greatest_after : (all records : List Record) (top : ℕ) → top ≡ greatest_sequence all → fold max top (map (λ r. r.sequence) records) ≡ greatest_sequence (all ++ records)
greatest_after all records top is =
    let from = max_from top (map (λ r. r.sequence) records) in let whole = greatest-append all records in omega (arith, is)

pub top_after : (state : State) (top : ℕ) (records : List Record) (greatest : ℕ) → All (λ r. r.sequence ≤ top_sequence) records → greatest ≡ fold max top (map (λ r. r.sequence) records) → IsTopOf top state → IsTopOf greatest (with_logged records state)
top_after state top records greatest fit is old =
    let from = max_from top (map (λ r. r.sequence) records) in
    let later = greatest_fits records (recursion_from_All (λ r. r.sequence ≤ top_sequence) records fit) in
    record {
      all = old.all ++ records;
      records = ap (λ before. over before (last_records records)) old.records ∙ sym (last_records-append old.all records);
      greatest = is ∙ greatest_after old.all records top old.greatest;
      bound = omega (arith, is, old.bound, from, later);
    }
