-- What a database shows of a key (RocksDB's wiki, "DeleteRange" and "Merge Operator Implementation";
-- table/get_context.cc). That a range deletion of a table acts between the bounds of its file alone is
-- db/range_del_aggregator.cc. Merge operands are shown and never combined, which is this project's own rule.
use Rattle.std.specs.Prelude.{◌≡◌, ℕ, ◌-◌, ◌^◌, ◌==◌, Bool, true, false, not, ◌&&◌, List, [], ◌∷◌, ◌++◌, length, map, take, drop, filter, filter_map, find, take_while, sum, min, max, nat_lt, Option, Some, None, option_map, bytes_eq, codes, T, refl}
use Rattle.std.specs.List.{list_any, reduce, dedup}
use Rattle.std.specs.Option.{option_map_or}
use Rattle.std.specs.Ordering.{nat_cmp, is_lt, is_le}
use Rattle.std.specs.Cmp.Lexicographic.{slice_cmp}
use Rattle.std.specs.FinMap.{values, len, is_sorted, from_sorted, entries-from_sorted}
use Rattle.rk_bytes.specs.declared.model.key.Kind.{Kind}
use Rattle.rk_bytes.specs.declared.model.key.Kind.TheVariants.{Deletion, Value, Merge, RangeDeletion}
use Rattle.rk_bytes.specs.declared.model.key.Record.{Record}
use Rattle.rk_bytes.specs.declared.model.view.Cut.{Cut}
use Rattle.rk_bytes.specs.declared.model.view.Tomb.{Tomb}
use Rattle.rk_bytes.specs.declared.model.view.FamilyLine.{FamilyLine}
use Rattle.rk_bytes.specs.Model.InternalKey.{internal_key, key_cmp}
use Rattle.rk_bytes.specs.Model.Records.{Slot, RecordMap, slot_cmp, slot_of}

-- What a directory is opened to: the live families in rising id, the record map, and the range deletions,
-- each with the bounds that it is cut to.
pub record State : Type 0 where
  pub families : List FamilyLine
  pub records : RecordMap
  pub tombs : List Tomb

-- What is shown of a key: a value, nothing, or the operands of merges, the newest first, and the value that
-- they are to be applied to.
pub data Answer : Type 0 where
  found : List ℕ → Answer
  absent : Answer
  merge : List (List ℕ) → Option (List ℕ) → Answer

-- a key and what is shown of it
pub record Row : Type 0 where
  pub key : List ℕ
  pub answer : Answer

-- the kind is that of a put
abbrev pub is_put : Kind → Bool
is_put Value = true
is_put _ = false

-- the kind is that of a merge
abbrev pub is_merge : Kind → Bool
is_merge Merge = true
is_merge _ = false

-- the record is of a single key, and no range deletion
abbrev pub is_point : Kind → Bool
is_point RangeDeletion = false
is_point _ = true

-- the internal key of a record
abbrev pub key_of : Record → List ℕ
key_of r = internal_key r.key r.sequence r.kind

-- An internal key lies between two others, both included.
abbrev pub lies_within : List ℕ → List ℕ → List ℕ → Bool
lies_within smallest largest key = is_le (key_cmp smallest key) && is_le (key_cmp key largest)

-- a user key is at or above a start
abbrev pub is_from : List ℕ → List ℕ → Bool
is_from start user = is_le (slice_cmp nat_cmp start user)

-- a user key is below an end, which is excluded
abbrev pub is_before : List ℕ → List ℕ → Bool
is_before end user = is_lt (slice_cmp nat_cmp user end)

-- the internal key lies within the bounds, where there are any
abbrev pub is_uncut : Option Cut → List ℕ → Bool
is_uncut None key = true
is_uncut (Some cut) key = lies_within cut.smallest cut.largest key

-- The range deletion covers the record: one of its family, at a key of its range, with a smaller sequence
-- number, and within the bounds that it is cut to.
unfoldable pub covers : Tomb → Record → Bool
covers tomb r =
    tomb.family == r.family && is_from tomb.start r.key && is_before tomb.end r.key && nat_lt r.sequence tomb.sequence && is_uncut tomb.cut (key_of r)

-- some of the range deletions covers the record
abbrev pub is_covered : List Tomb → Record → Bool
is_covered tombs r = list_any (λ tomb. covers tomb r) tombs

-- the greatest sequence number of a range deletion that covers the record
abbrev pub covering : List Tomb → Record → Option ℕ
covering tombs r = reduce max (map (λ tomb. tomb.sequence) (filter (λ tomb. covers tomb r) tombs))

-- a record that is a range deletion, as the tables' bounds cut it
abbrev pub tomb_of : Option Cut → Record → Tomb
tomb_of cut r = record { family = r.family; start = r.key; end = r.value; sequence = r.sequence; cut = cut }

-- the record is one of the key, and of that key alone
abbrev pub is_of_key : ℕ → List ℕ → Record → Bool
is_of_key family key r = r.family == family && bytes_eq r.key key && is_point r.kind

-- The records of a key that no range deletion covers. In a record map they stand by falling sequence number
-- and then by falling kind.
abbrev pub uncovered : List Tomb → ℕ → List ℕ → List Record → List Record
uncovered tombs family key records = filter (λ r. is_of_key family key r && not (is_covered tombs r)) records

-- the merges at the front
abbrev pub front_merges : List Record → List Record
front_merges records = take_while (λ r. is_merge r.kind) records

-- the record after the merges at the front, if it is a put
abbrev pub base_put : List Record → List Record
base_put records = take_while (λ r. is_put r.kind) (take 1 (drop (length (front_merges records)) records))

-- The front of a key's records that decides what is shown: nothing, a put, or merges and the put after them.
abbrev pub deciding : List Record → List Record
deciding records = front_merges records ++ base_put records

-- the records that decide what is shown of a key of the family with this id, the newest first
unfoldable pub view_records : State → ℕ → List ℕ → List Record
view_records state family key = deciding (uncovered state.tombs family key (values state.records))

-- the value that records which decide put, where they put one
abbrev pub base_value : List Record → Option (List ℕ)
base_value records = option_map (λ r. r.value) (find (λ r. is_put r.kind) records)

-- the operands of their merges, the newest first
abbrev pub operands : List Record → List (List ℕ)
operands records = map (λ r. r.value) (front_merges records)

-- what operands and the value that they are to be applied to show
abbrev pub merged : List (List ℕ) → Option (List ℕ) → Answer
merged [] None = absent
merged [] (Some value) = found value
merged (value ∷ more) base = merge (value ∷ more) base

-- what the records that decide show
abbrev pub shown : List Record → Answer
shown records = merged (operands records) (base_value records)

-- what is shown of a key of the family with this id
abbrev pub answer : State → ℕ → List ℕ → Answer
answer state family key = shown (view_records state family key)

-- the keys of a family's records, each once
abbrev pub keys_in : List Record → ℕ → List (List ℕ)
keys_in records family = dedup bytes_eq (map (λ r. r.key) (filter (λ r. r.family == family) records))

-- the key isn't below the one bound, and is below the other, where there are such
abbrev pub is_between : Option (List ℕ) → Option (List ℕ) → List ℕ → Bool
is_between from to key = option_map_or (λ start. is_from start key) from true && option_map_or (λ end. is_before end key) to true

-- the key's row, where anything is shown of it
abbrev pub row_of : List ℕ → Answer → Option Row
row_of key absent = None
row_of key answer = Some (record { key = key; answer = answer })

-- The rows of a family's keys between the bounds, in rising order.
unfoldable pub rows : State → ℕ → Option (List ℕ) → Option (List ℕ) → List Row
rows state family from to = filter_map (λ key. row_of key (answer state family key)) (filter (is_between from to) (keys_in (values state.records) family))

-- the lowest id of a live family with this name
abbrev pub family_named : State → List ℕ → Option ℕ
family_named state name = reduce min (map (λ line. line.id) (filter (λ line. bytes_eq line.name name) state.families))

-- how many records the map holds, at most 2 ^ 64 - 1
abbrev pub record_count : State → ℕ
record_count state = min (len state.records) (2 ^ 64 - 1)

-- of how many keys of all families something is shown, at most 2 ^ 64 - 1
abbrev pub key_count : State → ℕ
key_count state = min (sum (map (λ line. length (rows state line.id None None)) state.families)) (2 ^ 64 - 1)

-- a record of the default family
of_default : List ℕ → ℕ → Kind → List ℕ → Record
of_default key sequence kind value = record { family = 0; key = key; sequence = sequence; kind = kind; value = value }

-- The range deletion of `b` to `d` at 10, in a table that ends before all records of `c`.
cut_before_c : Tomb
unfolding of_default internal_key
cut_before_c = tomb_of (Some (record { smallest = internal_key (codes "b") 10 RangeDeletion; largest = internal_key (codes "c") (2 ^ 56 - 1) RangeDeletion })) (of_default (codes "b") 10 RangeDeletion (codes "d"))

-- It covers up to its own sequence number and up to its bound. Uncut it covers up to its end.
of_a_cut_range_deletion : map (covering (cut_before_c ∷ [])) (of_default (codes "b") 9 Value [] ∷ of_default (codes "b") 10 Merge [] ∷ of_default (codes "c") 0 Value [] ∷ []) ≡ Some 10 ∷ None ∷ None ∷ []
unfolding cut_before_c of_default covers internal_key
of_a_cut_range_deletion = refl

of_an_uncut_range_deletion : map (is_covered (tomb_of None (of_default (codes "b") 10 RangeDeletion (codes "d")) ∷ [])) (of_default (codes "a") 9 Value [] ∷ of_default (codes "b") 9 Value [] ∷ of_default (codes "c") 0 Value [] ∷ of_default (codes "d") 9 Value [] ∷ []) ≡ false ∷ true ∷ true ∷ false ∷ []
unfolding of_default covers internal_key
of_an_uncut_range_deletion = refl

-- both bounds are included
of_the_bounds : map (lies_within (internal_key (codes "b") 5 Value) (internal_key (codes "b") 3 Value)) (map (λ sequence. internal_key (codes "b") sequence Value) (6 ∷ 5 ∷ 4 ∷ 3 ∷ 2 ∷ [])) ≡ false ∷ true ∷ true ∷ true ∷ false ∷ []
unfolding internal_key
of_the_bounds = refl

-- a put of `k` and two merges, as they stand in a record map
two_merges : List Record
unfolding of_default
two_merges = of_default (codes "k") 3 Merge (codes "z") ∷ of_default (codes "k") 2 Merge (codes "y") ∷ of_default (codes "k") 1 Value (codes "x") ∷ []

of_two_merges : shown (deciding (uncovered [] 0 (codes "k") two_merges)) ≡ merge (codes "z" ∷ codes "y" ∷ []) (Some (codes "x"))
unfolding two_merges of_default
of_two_merges = refl

-- merges end at a deletion, and have no base there
of_a_merge_after_a_deletion : shown (deciding (of_default (codes "k") 3 Merge (codes "z") ∷ of_default (codes "k") 2 Deletion [] ∷ of_default (codes "k") 1 Value (codes "x") ∷ [])) ≡ merge (codes "z" ∷ []) None
unfolding of_default
of_a_merge_after_a_deletion = refl

-- of one sequence number the greatest kind decides
of_a_deletion : map (λ records. shown (deciding records)) ((of_default (codes "k") 2 Deletion [] ∷ of_default (codes "k") 1 Value (codes "x") ∷ []) ∷ (of_default (codes "k") 2 Value (codes "y") ∷ of_default (codes "k") 2 Deletion [] ∷ []) ∷ [] ∷ []) ≡ absent ∷ found (codes "y") ∷ absent ∷ []
unfolding of_default
of_a_deletion = refl

-- the records as they stand in a record map, and the state of these and of these range deletions
placed : List Record → List (Slot × Record)
placed records = map (λ r. (slot_of r, r)) records

state_of : List Record → List Tomb → State
state_of records tombs = record { families = record { id = 0; name = codes "default"; log = 3; files = 1 } ∷ []; records = from_sorted (placed records); tombs = tombs }

-- what is made of the values of such a record map
of_values : {A : Type 0} (make : List Record → A) (records : List Record) → T (is_sorted slot_cmp (placed records)) → make (values (from_sorted {R = slot_cmp} (placed records))) ≡ make (map (λ (e : Slot × Record). e.1) (placed records))
of_values make records sorted = λ i. make (map (λ (e : Slot × Record). e.1) (entries-from_sorted slot_cmp (placed records) sorted i))

-- `a` is put twice, `b` is covered, `c` isn't and `d` is deleted
four_keys : List Record
unfolding of_default
four_keys = of_default (codes "a") 8 Value (codes "2") ∷ of_default (codes "a") 7 Value (codes "1") ∷ of_default (codes "b") 9 Value (codes "3") ∷ of_default (codes "c") 0 Value (codes "4") ∷ of_default (codes "d") 1 Deletion [] ∷ []

of_four_keys : rows (state_of four_keys (cut_before_c ∷ [])) 0 None None ≡ record { key = codes "a"; answer = found (codes "2") } ∷ record { key = codes "c"; answer = found (codes "4") } ∷ []
unfolding rows state_of placed four_keys of_default view_records cut_before_c covers internal_key slot_cmp
of_four_keys = of_values (λ records. filter_map (λ key. row_of key (shown (deciding (uncovered (cut_before_c ∷ []) 0 key records)))) (filter (is_between None None) (keys_in records 0))) four_keys tt

of_a_count : key_count (state_of four_keys (cut_before_c ∷ [])) ≡ 2
unfolding state_of
of_a_count = λ i. min (sum (length (of_four_keys i) ∷ [])) (2 ^ 64 - 1)

-- of two families with one name the lower id counts
of_names : map (family_named (record {
  families = record { id = 0; name = codes "default"; log = 3; files = 1 } ∷ record { id = 7; name = codes "x"; log = 3; files = 0 } ∷ record { id = 9; name = codes "x"; log = 3; files = 0 } ∷ [];
  records = from_sorted [];
  tombs = [];
})) (codes "x" ∷ codes "default" ∷ codes "y" ∷ []) ≡ Some 7 ∷ Some 0 ∷ None ∷ []
of_names = refl

-- An empty lower bound leaves every key in, an empty upper one none.
of_bounds : map (λ (bounds : Option (List ℕ) × Option (List ℕ)). map (is_between bounds.0 bounds.1) (codes "a" ∷ codes "b" ∷ codes "bb" ∷ codes "c" ∷ [])) ((Some (codes "b"), Some (codes "c")) ∷ (Some [], None) ∷ (None, Some []) ∷ [])
    ≡ (false ∷ true ∷ true ∷ false ∷ []) ∷ (true ∷ true ∷ true ∷ true ∷ []) ∷ (false ∷ false ∷ false ∷ false ∷ []) ∷ []
of_bounds = refl
