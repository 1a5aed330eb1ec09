-- What a writer of a table keeps.
use Rattle.std.specs.Prelude.{map, unwrap_or}
use Rattle.std.specs.List.{sum_by}
use Rattle.std.proofs.Common.{◌≡◌, ℕ, ◌+◌, ◌*◌, ◌^◌, ◌<◌, ◌≤◌, List, [], ◌∷◌, ◌++◌, length, refl, sym, ap, ◌∙◌, subst, arith, length-append}
use Rattle.std.proofs.lemmas.List.{map-append, length_push}
use Rattle.std.proofs.lemmas.List.Sums.{sum_by-append}
use Rattle.rk_bytes.specs.declared.model.block.RangeDel.{RangeDel}
use Rattle.rk_bytes.specs.declared.model.key.Kind.{Kind}
use Rattle.rk_bytes.specs.declared.model.key.Kind.TheVariants.{Deletion, Value, Merge, SingleDeletion, RangeDeletion}
use Rattle.rk_bytes.specs.declared.model.key.Record.{Record}
use Rattle.rk_bytes.specs.Model.Numbers.{fixed_of}
use Rattle.rk_bytes.specs.Model.InternalKey.{internal_key, kind_number, kind_of, packed_of}
use Rattle.rk_bytes.specs.Model.TableStatus.{start_key}
use Rattle.rk_bytes.specs.Model.Writers.{KeyValue, last_entry_key}
use Rattle.rk_block.specs.Building.{Building, built_block, with_entry}
use Rattle.rk_tablew.specs.Data.{EntryPut, IsData, empty_block, weight}
use Rattle.rk_tablew.specs.Writing.{IsWriting, deletion_entries, keys_len, noted_range, noted_record, range_with, ranges_weight, record_entries, record_with, records_weight, values_len}
use Rattle.rk_tablew.proofs.DataLemmas.{IsData-start, IsData-more, last_key-light}

pub length-internal_key : (user : List ℕ) (sequence : ℕ) (kind : Kind) → length (internal_key user sequence kind) ≡ length user + 8
unfolding internal_key
length-internal_key user sequence kind = length-append user (fixed_of 8 (packed_of sequence kind))

pub sum_by-cons : {X : Type 0} (f : X → ℕ) (x : X) (xs : List X) → sum_by f (x ∷ xs) ≡ f x + sum_by f xs
sum_by-cons f x xs = let first : sum_by f (x ∷ []) ≡ f x = omega arith in sum_by-append f (x ∷ []) xs ∙ ap (λ n. n + sum_by f xs) first

sum_by-push : {X : Type 0} (f : X → ℕ) (xs : List X) (x : X) → sum_by f (xs ++ x ∷ []) ≡ sum_by f xs + f x
sum_by-push f xs x = let last : sum_by f (x ∷ []) ≡ f x = omega arith in sum_by-append f xs (x ∷ []) ∙ ap (λ n. sum_by f xs + n) last

-- entries are as heavy as their records
weight-records : (records : List Record) → weight (record_entries records) ≡ records_weight records
weight-records [] = refl
weight-records (r ∷ records) =
    let entries = sum_by-cons (λ (entry : KeyValue). length entry.0 + 56) (internal_key r.key r.sequence r.kind, r.value) (record_entries records) in
    let all = sum_by-cons (λ (r : Record). length r.key + 64) r records in
    omega (arith, entries, all, weight-records records, length-internal_key r.key r.sequence r.kind)

keys-records : (records : List Record) → keys_len (record_entries records) + 56 * length records ≡ records_weight records
keys-records [] = refl
keys-records (r ∷ records) =
    let entries = sum_by-cons (λ (entry : KeyValue). length entry.0) (internal_key r.key r.sequence r.kind, r.value) (record_entries records) in
    let all = sum_by-cons (λ (r : Record). length r.key + 64) r records in
    omega (arith, entries, all, keys-records records, length-internal_key r.key r.sequence r.kind)

keys-ranges : (ranges : List RangeDel) → keys_len (deletion_entries ranges) + 56 * length ranges ≤ ranges_weight ranges
keys-ranges [] = omega arith
keys-ranges (range ∷ ranges) =
    let entries = sum_by-cons (λ (entry : KeyValue). length entry.0) (start_key range, range.end) (deletion_entries ranges) in
    let all = sum_by-cons (λ (range : RangeDel). length range.start + length range.end + 64) range ranges in
    omega (arith, entries, all, keys-ranges ranges, length-internal_key range.start range.sequence RangeDeletion)

-- what is counted fits
pub record Fitting (record_count range_count keys values : ℕ) : Type 0 where
  pub records_fit : record_count + 1 < 2 ^ 32
  pub ranges_fit : range_count + 1 < 2 ^ 32
  pub keys_fit : keys < 2 ^ 31
  pub values_fit : values < 2 ^ 60

pub fitting : (records : List Record) (deletions : List RangeDel) (out : List ℕ) (index block ranges : Building) (record_count range_count keys values : ℕ) → IsWriting records deletions out index block ranges record_count range_count keys values → Fitting record_count range_count keys values
fitting records deletions out index block ranges record_count range_count keys values w =
    let c = w.counted in
    let first = keys-records records in
    let second = keys-ranges deletions in
    record {
      records_fit = omega (arith, first, second, w.light, c.records_are, c.ranges_are);
      ranges_fit = omega (arith, first, second, w.light, c.records_are, c.ranges_are);
      keys_fit = omega (arith, first, second, w.light, c.keys_are);
      values_fit = omega (arith, first, second, w.light, c.records_are, c.ranges_are, c.small);
    }

-- the index has room for one block more
pub index_room : (records : List Record) (deletions : List RangeDel) (out : List ℕ) (index block ranges : Building) (record_count range_count keys values : ℕ) → IsWriting records deletions out index block ranges record_count range_count keys values
    → length (built_block index) + length (last_entry_key block.entries) + 52 < 2 ^ 32
index_room records deletions out index block ranges record_count range_count keys values w = omega (arith, w.data_is.small, last_key-light block.entries, weight-records records, w.light)

-- nothing was added
pub IsWriting-start : (out : List ℕ) (index block ranges : Building) → out ≡ [] → index ≡ record { restart_every = 1; entries = [] } → length (built_block index) ≡ 8 → block ≡ empty_block → ranges ≡ record { restart_every = 1; entries = [] } → length (built_block ranges) ≡ 8
    → IsWriting [] [] out index block ranges 0 0 0 0
IsWriting-start out index block ranges no_out no_index small no_block no_ranges ranges_small = record {
  data_is = IsData-start out index block no_out no_index small no_block;
  ranges_are = no_ranges;
  ranges_small = omega (arith, ranges_small);
  counted = record { records_are = refl; ranges_are = refl; keys_are = refl; values_are = refl; small = omega arith };
  light = omega arith;
}

record_entries-push : (records : List Record) (r : Record) → record_entries (records ++ r ∷ []) ≡ record_entries records ++ (internal_key r.key r.sequence r.kind, r.value) ∷ []
record_entries-push records r = map-append (λ (r : Record). (internal_key r.key r.sequence r.kind, r.value)) records (r ∷ [])

deletion_entries-push : (ranges : List RangeDel) (range : RangeDel) → deletion_entries (ranges ++ range ∷ []) ≡ deletion_entries ranges ++ (start_key range, range.end) ∷ []
deletion_entries-push ranges range = map-append (λ (range : RangeDel). (start_key range, range.end)) ranges (range ∷ [])

-- one record more
pub IsWriting-record : (records : List Record) (deletions : List RangeDel) (out new_out : List ℕ) (index block ranges new_index new_block : Building) (record_count range_count keys values : ℕ) (r : Record) → IsWriting records deletions out index block ranges record_count range_count keys values
    → EntryPut out index block (internal_key r.key r.sequence r.kind) r.value new_out new_index new_block → length r.value < 2 ^ 31
    → records_weight records + ranges_weight deletions + length r.key + 64 < 2 ^ 31
    → IsWriting (records ++ r ∷ []) deletions new_out new_index new_block ranges (record_count + 1) range_count (keys + (length r.key + 8)) (values + length r.value)
IsWriting-record records deletions out new_out index block ranges new_index new_block record_count range_count keys values r w p value_fits room =
    let more : IsData (record_entries records ++ (internal_key r.key r.sequence r.kind, r.value) ∷ []) new_out new_index new_block =
    IsData-more (record_entries records) out index block (internal_key r.key r.sequence r.kind) r.value new_out new_index new_block w.data_is p in
    let entries = record_entries-push records r in
    let len = length_push records r in
    let key_len = length-internal_key r.key r.sequence r.kind in
    let keys_more : keys_len (record_entries (records ++ r ∷ [])) ≡ keys_len (record_entries records) + length (internal_key r.key r.sequence r.kind) =
    ap keys_len entries ∙ sum_by-push (λ (entry : KeyValue). length entry.0) (record_entries records) (internal_key r.key r.sequence r.kind, r.value) in
    let values_more : values_len (record_entries (records ++ r ∷ [])) ≡ values_len (record_entries records) + length r.value =
    ap values_len entries ∙ sum_by-push (λ (entry : KeyValue). length entry.1) (record_entries records) (internal_key r.key r.sequence r.kind, r.value) in
    let heavier = sum_by-push (λ (r : Record). length r.key + 64) records r in
    record {
      data_is = subst (λ (entries : List KeyValue). IsData entries new_out new_index new_block) (sym entries) more;
      ranges_are = w.ranges_are;
      ranges_small = w.ranges_small;
      counted = record {
        records_are = omega (arith, w.counted.records_are, len);
        ranges_are = w.counted.ranges_are;
        keys_are = omega (arith, w.counted.keys_are, keys_more, key_len);
        values_are = omega (arith, w.counted.values_are, values_more);
        small = omega (arith, w.counted.small, value_fits);
      };
      light = omega (arith, heavier, room);
    }

-- one range deletion more
pub IsWriting-range : (records : List Record) (deletions : List RangeDel) (out : List ℕ) (index block ranges new_ranges : Building) (record_count range_count keys values : ℕ) (range : RangeDel) → IsWriting records deletions out index block ranges record_count range_count keys values
    → new_ranges ≡ with_entry ranges (internal_key range.start range.sequence RangeDeletion) range.end → length (built_block new_ranges) ≤ length (built_block ranges) + length range.start + length range.end + 27
    → length range.end < 2 ^ 30 → records_weight records + ranges_weight deletions + length range.start + length range.end + 64 < 2 ^ 31
    → IsWriting records (deletions ++ range ∷ []) out index block new_ranges record_count (range_count + 1) (keys + (length range.start + 8)) (values + length range.end)
IsWriting-range records deletions out index block ranges new_ranges record_count range_count keys values range w is grows end_fits room =
    let entries = deletion_entries-push deletions range in
    let len = length_push deletions range in
    let key_len = length-internal_key range.start range.sequence RangeDeletion in
    let keys_more : keys_len (deletion_entries (deletions ++ range ∷ [])) ≡ keys_len (deletion_entries deletions) + length (start_key range) =
    ap keys_len entries ∙ sum_by-push (λ (entry : KeyValue). length entry.0) (deletion_entries deletions) (start_key range, range.end) in
    let values_more : values_len (deletion_entries (deletions ++ range ∷ [])) ≡ values_len (deletion_entries deletions) + length range.end =
    ap values_len entries ∙ sum_by-push (λ (entry : KeyValue). length entry.1) (deletion_entries deletions) (start_key range, range.end) in
    let heavier = sum_by-push (λ (range : RangeDel). length range.start + length range.end + 64) deletions range in
    record {
      data_is = w.data_is;
      ranges_are = is ∙ (λ i. with_entry (w.ranges_are i) (start_key range) range.end) ∙ (λ i. record { restart_every = 1; entries = sym entries i });
      ranges_small = omega (arith, grows, w.ranges_small, heavier);
      counted = record {
        records_are = w.counted.records_are;
        ranges_are = omega (arith, w.counted.ranges_are, len);
        keys_are = omega (arith, w.counted.keys_are, keys_more, key_len);
        values_are = omega (arith, w.counted.values_are, values_more);
        small = omega (arith, w.counted.small, end_fits);
      };
      light = omega (arith, heavier, room);
    }

-- a kind is read off its number
kind_again : (kind : Kind) → unwrap_or (kind_of (kind_number kind)) Value ≡ kind
kind_again Deletion = refl
kind_again Value = refl
kind_again Merge = refl
kind_again SingleDeletion = refl
kind_again RangeDeletion = refl

-- one record more was noted
pub noted_records-push : (notes new_notes : List (List ℕ × List ℕ × List ℕ)) (key value : List ℕ) (sequence : ℕ) (kind : Kind) → new_notes ≡ notes ++ (sequence ∷ kind_number kind ∷ [], key, value) ∷ []
    → map noted_record new_notes ≡ map noted_record notes ++ record_with key sequence kind value ∷ []
noted_records-push notes new_notes key value sequence kind is =
    ap (map noted_record) is
    ∙ map-append noted_record notes ((sequence ∷ kind_number kind ∷ [], key, value) ∷ [])
    ∙ ap (λ kind. map noted_record notes ++ record_with key sequence kind value ∷ []) (kind_again kind)

-- one range deletion more was noted
pub noted_ranges-push : (notes new_notes : List (List ℕ × List ℕ × List ℕ)) (start end : List ℕ) (sequence : ℕ) → new_notes ≡ notes ++ (sequence ∷ [], start, end) ∷ []
    → map noted_range new_notes ≡ map noted_range notes ++ range_with start end sequence ∷ []
noted_ranges-push notes new_notes start end sequence is = ap (map noted_range) is ∙ map-append noted_range notes ((sequence ∷ [], start, end) ∷ [])

-- nothing was noted
pub IsWriting-new : (notes range_notes : List (List ℕ × List ℕ × List ℕ)) (out : List ℕ) (index block ranges : Building) → notes ≡ [] → range_notes ≡ [] → out ≡ [] → index ≡ record { restart_every = 1; entries = [] } → length (built_block index) ≡ 8 → block ≡ empty_block
    → ranges ≡ record { restart_every = 1; entries = [] } → length (built_block ranges) ≡ 8 → IsWriting (map noted_record notes) (map noted_range range_notes) out index block ranges 0 0 0 0
IsWriting-new notes range_notes out index block ranges no_notes no_range_notes no_out no_index small no_block no_ranges ranges_small =
    subst (λ (notes : List (List ℕ × List ℕ × List ℕ)). IsWriting (map noted_record notes) (map noted_range range_notes) out index block ranges 0 0 0 0) (sym no_notes)
    (subst (λ (notes : List (List ℕ × List ℕ × List ℕ)). IsWriting [] (map noted_range notes) out index block ranges 0 0 0 0) (sym no_range_notes)
    (IsWriting-start out index block ranges no_out no_index small no_block no_ranges ranges_small))

-- one record more, which was noted
pub IsWriting-record-noted : (notes new_notes : List (List ℕ × List ℕ × List ℕ)) (deletions : List RangeDel) (out new_out : List ℕ) (index block ranges new_index new_block : Building) (record_count range_count keys values : ℕ) (key value : List ℕ) (sequence : ℕ) (kind : Kind)
    → IsWriting (map noted_record notes) deletions out index block ranges record_count range_count keys values → EntryPut out index block (internal_key key sequence kind) value new_out new_index new_block → length value < 2 ^ 31
    → records_weight (map noted_record notes) + ranges_weight deletions + length key + 64 < 2 ^ 31 → new_notes ≡ notes ++ (sequence ∷ kind_number kind ∷ [], key, value) ∷ []
    → IsWriting (map noted_record new_notes) deletions new_out new_index new_block ranges (record_count + 1) range_count (keys + (length key + 8)) (values + length value)
IsWriting-record-noted notes new_notes deletions out new_out index block ranges new_index new_block record_count range_count keys values key value sequence kind w p value_fits room noted =
    subst (λ (records : List Record). IsWriting records deletions new_out new_index new_block ranges (record_count + 1) range_count (keys + (length key + 8)) (values + length value)) (sym (noted_records-push notes new_notes key value sequence kind noted))
    (IsWriting-record (map noted_record notes) deletions out new_out index block ranges new_index new_block record_count range_count keys values (record_with key sequence kind value) w p value_fits room)

-- one range deletion more, which was noted
pub IsWriting-range-noted : (records : List Record) (notes new_notes : List (List ℕ × List ℕ × List ℕ)) (out : List ℕ) (index block ranges new_ranges : Building) (record_count range_count keys values : ℕ) (start end : List ℕ) (sequence : ℕ)
    → IsWriting records (map noted_range notes) out index block ranges record_count range_count keys values → new_ranges ≡ with_entry ranges (internal_key start sequence RangeDeletion) end
    → length (built_block new_ranges) ≤ length (built_block ranges) + length start + length end + 27 → length end < 2 ^ 30
    → records_weight records + ranges_weight (map noted_range notes) + length start + length end + 64 < 2 ^ 31 → new_notes ≡ notes ++ (sequence ∷ [], start, end) ∷ []
    → IsWriting records (map noted_range new_notes) out index block new_ranges record_count (range_count + 1) (keys + (length start + 8)) (values + length end)
IsWriting-range-noted records notes new_notes out index block ranges new_ranges record_count range_count keys values start end sequence w is grows end_fits room noted =
    subst (λ (deletions : List RangeDel). IsWriting records deletions out index block new_ranges record_count (range_count + 1) (keys + (length start + 8)) (values + length end)) (sym (noted_ranges-push notes new_notes start end sequence noted))
    (IsWriting-range records (map noted_range notes) out index block ranges new_ranges record_count range_count keys values (range_with start end sequence) w is grows end_fits room)
