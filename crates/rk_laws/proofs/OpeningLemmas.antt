-- What an opened directory tells of its records, and the modes that open alike.
use Rattle.std.proofs.Common.{◌≡◌, ℕ, List, [], ◌∷◌, ◌++◌, map, reverse, refl, sym, ap, subst, ◌∙◌, arith}
use Rattle.std.proofs.lemmas.List.{reverse-append}
use Rattle.std.specs.Prelude.{max, fold, filter, flat_map, nat_le, Result, Ok}
use Rattle.std.specs.declared.cmp.Ordering.{Ordering}
use Rattle.std.specs.declared.cmp.Ordering.TheVariants.{Less, Equal, Greater}
use Rattle.std.specs.FinMap.{entries, get, values}
use Rattle.std.specs.FinMap.Entries.{put, by_order}
use Rattle.rk_bytes.specs.declared.model.key.Record.{Record}
use Rattle.rk_bytes.specs.declared.model.manifest.Version.{Version}
use Rattle.rk_bytes.specs.declared.model.open.OpenErr.{OpenErr}
use Rattle.rk_bytes.specs.declared.model.open.OpenErr.TheVariants.{Wal}
use Rattle.rk_bytes.specs.declared.model.wal.Mode.{Mode}
use Rattle.rk_bytes.specs.declared.model.wal.Mode.TheVariants.{Absolute}
use Rattle.rk_bytes.specs.Model.Numbers.{◌>>=◌}
use Rattle.rk_bytes.specs.Model.BlockEntries.{with_fault, collected}
use Rattle.rk_bytes.specs.Model.DiskImages.{Directory}
use Rattle.rk_bytes.specs.Model.InternalKey.{packed_of}
use Rattle.rk_bytes.specs.Model.Records.{Slot, slot_cmp, slot_of, last_records}
use Rattle.rk_bytes.specs.Model.Manifest.{first_log}
use Rattle.rk_bytes.specs.Model.Salvage.{placed}
use Rattle.rk_bytes.specs.Model.Replay.{Log, Replayed, replay}
use Rattle.rk_bytes.specs.Model.Opening.{Files, Opened, TableFile, greatest_sequence, table_records, table_file, tracked_log, listed_tables, named_manifest, version_in, logs_of, opened, open_files, open_directory}
use Rattle.rk_laws.proofs.Orders.{slot_cmp-only_equal}
use Rattle.rk_laws.proofs.RecordMaps.{entry_of}
use Rattle.rk_bytes.proofs.Callers.Readings.{both_steps, first_step, with_fault_ok}
use Rattle.rk_laws.proofs.SalvageLemmas.{kind_number-small, last_placed-entries}
use Rattle.rk_laws.proofs.KeyViewLemmas.{InSlots, placed_in_slots}

-- the greatest of numbers after others
max_from : (a : ℕ) (ns : List ℕ) → fold max a ns ≡ max a (fold max 0 ns)
max_from a [] = omega arith
max_from a (n ∷ ns) = let one = max_from (max a n) ns in let other = max_from (max 0 n) ns in omega arith

greatest-cons : (r : Record) (records : List Record) → greatest_sequence (r ∷ records) ≡ max r.sequence (greatest_sequence records)
greatest-cons r records = let from = max_from (max 0 r.sequence) (map (λ x. x.sequence) records) in omega arith

greatest-append : (a b : List Record) → greatest_sequence (a ++ b) ≡ max (greatest_sequence a) (greatest_sequence b)
greatest-append [] b = omega arith
greatest-append (r ∷ a) b =
    let whole = greatest-cons r (a ++ b) in let part = greatest-cons r a in let later = greatest-append a b in omega arith

greatest-reverse : (records : List Record) → greatest_sequence (reverse records) ≡ greatest_sequence records
greatest-reverse [] = refl
greatest-reverse (r ∷ records) =
    let parts : reverse (r ∷ records) ≡ reverse records ++ reverse (r ∷ []) = reverse-append (r ∷ []) records in
    let whole = greatest-cons r records in
    let later = greatest-reverse records in
    let alone : greatest_sequence (reverse (r ∷ [])) ≡ max r.sequence 0 = greatest-cons r [] in
    let joined = greatest-append (reverse records) (reverse (r ∷ [])) in
    ap greatest_sequence parts ∙ joined ∙ omega arith

-- records in one slot have one sequence number
same_sequence : (r s : Record) → slot_of r ≡ slot_of s → r.sequence ≡ s.sequence
same_sequence r s slot =
    let packed : packed_of r.sequence r.kind ≡ packed_of s.sequence s.kind = ap (λ (q : Slot). q.packed) slot in
    let small = kind_number-small r.kind in
    let other = kind_number-small s.kind in
    omega arith

abbrev records_of : List (Slot × Record) → List Record
records_of es = map (λ e. e.1) es

greatest-put : (r : Record) (es : List (Slot × Record)) → InSlots es → greatest_sequence (records_of (put slot_cmp (slot_of r) r es)) ≡ max r.sequence (greatest_sequence (records_of es))
greatest-put r [] in_slots = greatest-cons r []
greatest-put r (e ∷ es) in_slots = by (slot_cmp (slot_of r) e.0) refl (greatest-put r es in_slots.1)
  where
    by : (o : Ordering) → slot_cmp (slot_of r) e.0 ≡ o → greatest_sequence (records_of (put slot_cmp (slot_of r) r es)) ≡ max r.sequence (greatest_sequence (records_of es))
        → greatest_sequence (records_of (by_order o ((slot_of r, r) ∷ e ∷ es) ((e.0, r) ∷ es) (e ∷ put slot_cmp (slot_of r) r es))) ≡ max r.sequence (greatest_sequence (records_of (e ∷ es)))
    by Less is later = greatest-cons r (records_of (e ∷ es))
    by Equal is later =
        let same = same_sequence r e.1 (slot_cmp-only_equal (slot_of r) e.0 is ∙ sym in_slots.0) in
        let new = greatest-cons r (records_of es) in
        let old = greatest-cons e.1 (records_of es) in
        omega arith
    by Greater is later =
        let new = greatest-cons e.1 (records_of (put slot_cmp (slot_of r) r es)) in
        let old = greatest-cons e.1 (records_of es) in
        omega arith

greatest-placed : (records : List Record) → greatest_sequence (records_of (placed (map entry_of records))) ≡ greatest_sequence records
unfolding placed
greatest-placed [] = refl
greatest-placed (r ∷ records) = greatest-put r (placed (map entry_of records)) (placed_in_slots records) ∙ ap (max r.sequence) (greatest-placed records) ∙ sym (greatest-cons r records)

greatest-last : (records : List Record) → greatest_sequence records ≡ greatest_sequence (values (last_records records))
greatest-last records =
    sym (greatest-reverse records) ∙ sym (greatest-placed (reverse records)) ∙ ap (λ es. greatest_sequence (records_of es)) (last_placed-entries records)

-- the steps of opening, the last of which alone looks at the mode
abbrev replayed_in : Mode → List Log → Version → Result Replayed OpenErr
replayed_in mode logs version = with_fault Wal (replay mode version (filter (λ log. nat_le (first_log version) log.number) logs))

abbrev from_logs : Mode → Files → List Log → ℕ → Version → List TableFile → Result Opened OpenErr
from_logs mode files logs number version tables =
    collected (tracked_log files (first_log version)) version.wals >>= λ synced. replayed_in mode logs version >>= λ replayed. Ok (opened number version tables replayed)

abbrev from_tables : Mode → Files → List Log → ℕ → Version → Result Opened OpenErr
from_tables mode files logs number version = collected (table_file files) (listed_tables version.families) >>= from_logs mode files logs number version

abbrev from_version : Mode → Files → List Log → ℕ → Result Opened OpenErr
from_version mode files logs number = version_in files number >>= from_tables mode files logs number

same_top : (number : ℕ) (version : Version) (tables : List TableFile) (replayed : Replayed) (found : Opened) → opened number version tables replayed ≡ found → found.top ≡ greatest_sequence (values found.state.records)
same_top number version tables replayed found e = subst (λ (o : Opened). o.top ≡ greatest_sequence (values o.state.records)) e (greatest-last (flat_map table_records tables ++ replayed.records))

in_ok : (x y : Opened) (r : Result Opened OpenErr) → r ≡ Ok x → r ≡ Ok y → x ≡ y
in_ok x y r a b = cc

pub top-greatest : (mode : Mode) (d : Directory) (found : Opened) → open_directory mode d ≡ Ok found → found.top ≡ greatest_sequence (values found.state.records)
unfolding open_files
top-greatest mode d found e =
    let files = get d in
    let logs = logs_of (entries d) in
    both_steps (named_manifest files) (from_version mode files logs) found e (λ number _ e.
    both_steps (version_in files number) (from_tables mode files logs number) found e (λ version _ e.
    both_steps (collected (table_file files) (listed_tables version.families)) (from_logs mode files logs number version) found e (λ tables _ e.
    both_steps (collected (tracked_log files (first_log version)) version.wals) (λ synced. replayed_in mode logs version >>= λ replayed. Ok (opened number version tables replayed)) found e (λ synced _ e.
    both_steps (replayed_in mode logs version) (λ replayed. Ok (opened number version tables replayed)) found e (λ replayed _ e. same_top number version tables replayed found (in_ok (opened number version tables replayed) found (Ok (opened number version tables replayed)) refl e))))))

-- a mode that replays alike opens alike
pub opens-alike : (mode : Mode) → ((version : Version) (logs : List Log) (added : Replayed) → replay Absolute version logs ≡ Ok added → replay mode version logs ≡ Ok added)
    → (d : Directory) (found : Opened) → open_directory Absolute d ≡ Ok found → open_directory mode d ≡ Ok found
unfolding open_files
opens-alike mode alike d found e =
    let files = get d in
    let logs = logs_of (entries d) in
    both_steps (named_manifest files) (from_version Absolute files logs) found e (λ number one e. first_step (named_manifest files) (from_version mode files logs) number one ∙
    both_steps (version_in files number) (from_tables Absolute files logs number) found e (λ version two e. first_step (version_in files number) (from_tables mode files logs number) version two ∙
    both_steps (collected (table_file files) (listed_tables version.families)) (from_logs Absolute files logs number version) found e (λ tables three e.
    first_step (collected (table_file files) (listed_tables version.families)) (from_logs mode files logs number version) tables three ∙
    both_steps (collected (tracked_log files (first_log version)) version.wals) (λ synced. replayed_in Absolute logs version >>= λ replayed. Ok (opened number version tables replayed)) found e (λ synced four e.
    first_step (collected (tracked_log files (first_log version)) version.wals) (λ synced. replayed_in mode logs version >>= λ replayed. Ok (opened number version tables replayed)) synced four ∙
    both_steps (replayed_in Absolute logs version) (λ replayed. Ok (opened number version tables replayed)) found e (λ replayed five e.
    first_step (replayed_in mode logs version) (λ replayed. Ok (opened number version tables replayed)) replayed
    (ap (with_fault Wal) (alike version (filter (λ log. nat_le (first_log version) log.number) logs) replayed (with_fault_ok Wal _ replayed five))) ∙ e)))))
