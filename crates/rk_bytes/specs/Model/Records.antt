-- Records and record maps (this project's own words for what tables and write batches hold).
use Rattle.std.specs.Prelude.{◌≡◌, ℕ, Bool, true, false, cond, List, [], ◌∷◌, ◌++◌, map, reverse, Some, None, codes, refl}
use Rattle.std.proofs.Common.{sym, ◌∙◌}
use Rattle.std.specs.Option.{option_or}
use Rattle.std.specs.declared.cmp.Ordering.{Ordering}
use Rattle.std.specs.declared.cmp.Ordering.TheVariants.{Less, Equal}
use Rattle.std.specs.Ordering.{nat_cmp, ordering_then, eq_by_cmp}
use Rattle.std.specs.Cmp.{IsTotalOrder, on_total, back_total, then_total, nat_cmp_total}
use Rattle.std.specs.Cmp.Lexicographic.{slice_cmp, nat_list_cmp_total}
use Rattle.std.specs.FinMap.{FinMap, entries, from_entries, get, get-entries, get-from_entries}
use Rattle.std.specs.FinMap.Entries.{find}
use Rattle.rk_bytes.specs.declared.model.key.Kind.{Kind}
use Rattle.rk_bytes.specs.declared.model.key.Kind.TheVariants.{Deletion, Value, RangeDeletion}
use Rattle.rk_bytes.specs.declared.model.key.Record.{Record}
use Rattle.rk_bytes.specs.Model.InternalKey.{packed_of}

-- What a record is kept under: its family, its user key, the number after that in an internal key and, of a
-- range deletion, its end.
pub record Slot : Type 0 where
  pub family : ℕ
  pub user : List ℕ
  pub packed : ℕ
  pub end : List ℕ

-- the end of a range deletion; nothing of another kind
abbrev pub end_of : Kind → List ℕ → List ℕ
end_of RangeDeletion value = value
end_of _ value = []

-- the slot of a record
abbrev pub slot_of : Record → Slot
slot_of r = record { family = r.family; user = r.key; packed = packed_of r.sequence r.kind; end = end_of r.kind r.value }

-- slots by family, then in the order of internal keys, then by end
unfoldable pub slot_cmp : Slot → Slot → Ordering
slot_cmp a b =
    ordering_then (nat_cmp a.family b.family)
    (ordering_then (slice_cmp nat_cmp a.user b.user) (ordering_then (nat_cmp b.packed a.packed) (slice_cmp nat_cmp a.end b.end)))

-- at most one record for each slot
abbrev pub RecordMap : Type 0
RecordMap = FinMap slot_cmp Record

-- a record under its slot
abbrev pub entry_of : Record → Slot × Record
entry_of r = (slot_of r, r)

-- the records under their slots, the last first
abbrev pub slotted : List Record → List (Slot × Record)
slotted records = map entry_of (reverse records)

-- the record map that holds, for each slot in the list, the last record there
unfoldable pub last_records : List Record → RecordMap
last_records records = from_entries (slotted records)

-- the records of b, and those of a in slots where b has none
unfoldable pub over : RecordMap → RecordMap → RecordMap
over a b = from_entries (entries b ++ entries a)

-- What a record map holds is computed by these words: slots are in a total order, and so a look-up goes
-- through the list that the map was made of.
pub slot_cmp-total : IsTotalOrder slot_cmp
unfolding slot_cmp
slot_cmp-total =
    then_total (on_total (λ (p : Slot). p.family) nat_cmp_total) (then_total (on_total (λ (p : Slot). p.user) nat_list_cmp_total)
    (then_total (on_total (λ (p : Slot). p.packed) (back_total nat_cmp_total)) (on_total (λ (p : Slot). p.end) nat_list_cmp_total)))

-- a look-up in two lists, one after the other
pub find-append : (q : Slot) (xs ys : List (Slot × Record)) → find slot_cmp q (xs ++ ys) ≡ option_or (find slot_cmp q xs) (find slot_cmp q ys)
find-append q [] ys = refl
find-append q (x ∷ xs) ys = by (eq_by_cmp slot_cmp q x.0) (find-append q xs ys)
  where
    by : (b : Bool) → find slot_cmp q (xs ++ ys) ≡ option_or (find slot_cmp q xs) (find slot_cmp q ys)
        → cond b (Some x.1) (find slot_cmp q (xs ++ ys)) ≡ option_or (cond b (Some x.1) (find slot_cmp q xs)) (find slot_cmp q ys)
    by true after = refl
    by false after = after

-- what the map of a list holds in a slot
pub get-last_records : (records : List Record) (q : Slot) → get (last_records records) q ≡ find slot_cmp q (slotted records)
unfolding last_records
get-last_records records q = get-from_entries slot_cmp-total (slotted records) q

-- what a map over another holds in a slot
pub get-over : (a b : RecordMap) (q : Slot) → get (over a b) q ≡ option_or (get b q) (get a q)
unfolding over
get-over a b q =
    get-from_entries slot_cmp-total (entries b ++ entries a) q ∙ find-append q (entries b) (entries a)
    ∙ (λ i. option_or (sym (get-entries b q) i) (sym (get-entries a q) i))

-- a record of the key `k` in the default family
of_k : ℕ → Kind → List ℕ → Record
of_k sequence kind value = record { family = 0; key = codes "k"; sequence = sequence; kind = kind; value = value }

newer_first : slot_cmp (slot_of (of_k 2 Deletion [])) (slot_of (of_k 1 Value (codes "x"))) ≡ Less
unfolding slot_cmp of_k
newer_first = refl

one_slot_for_two_values : slot_cmp (slot_of (of_k 1 Value (codes "x"))) (slot_of (of_k 1 Value (codes "y"))) ≡ Equal
unfolding slot_cmp of_k
one_slot_for_two_values = refl

two_slots_for_two_ends : slot_cmp (slot_of (of_k 1 RangeDeletion (codes "x"))) (slot_of (of_k 1 RangeDeletion (codes "y"))) ≡ Less
unfolding slot_cmp of_k
two_slots_for_two_ends = refl

last_of_one_slot : get (last_records (of_k 1 Value (codes "x") ∷ of_k 1 Value (codes "y") ∷ of_k 2 Deletion [] ∷ [])) (slot_of (of_k 1 Value [])) ≡ Some (of_k 1 Value (codes "y"))
unfolding slot_cmp of_k
last_of_one_slot = get-last_records (of_k 1 Value (codes "x") ∷ of_k 1 Value (codes "y") ∷ of_k 2 Deletion [] ∷ []) (slot_of (of_k 1 Value []))

none_in_an_empty_slot : get (last_records (of_k 1 Value (codes "x") ∷ of_k 2 Deletion [] ∷ [])) (slot_of (of_k 2 Value [])) ≡ None
unfolding slot_cmp of_k
none_in_an_empty_slot = get-last_records (of_k 1 Value (codes "x") ∷ of_k 2 Deletion [] ∷ []) (slot_of (of_k 2 Value []))

-- a map of two records, and one of one record over it
two : RecordMap
two = last_records (of_k 1 Value (codes "x") ∷ of_k 2 Value (codes "y") ∷ [])

one : RecordMap
one = last_records (of_k 1 Value (codes "z") ∷ [])

over_one_record : get (over two one) (slot_of (of_k 1 Value [])) ≡ Some (of_k 1 Value (codes "z"))
unfolding slot_cmp of_k two one
over_one_record =
    get-over two one (slot_of (of_k 1 Value []))
    ∙ (λ i. option_or (get-last_records (of_k 1 Value (codes "z") ∷ []) (slot_of (of_k 1 Value [])) i) (get two (slot_of (of_k 1 Value []))))

over_no_record : get (over two one) (slot_of (of_k 2 Value [])) ≡ Some (of_k 2 Value (codes "y"))
unfolding slot_cmp of_k two one
over_no_record =
    get-over two one (slot_of (of_k 2 Value []))
    ∙ (λ i. option_or (get-last_records (of_k 1 Value (codes "z") ∷ []) (slot_of (of_k 2 Value [])) i)
    (get-last_records (of_k 1 Value (codes "x") ∷ of_k 2 Value (codes "y") ∷ []) (slot_of (of_k 2 Value [])) i))
