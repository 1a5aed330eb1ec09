-- What was added to a writer of a table can be written, and reads again.
use Rattle.std.specs.Prelude.{Bool, map, sum_by}
use Rattle.std.specs.List.{AllByRecursion}
use Rattle.std.specs.List.Sorted.{IsStrictlySortedBy}
use Rattle.std.specs.Cmp.{IsTotalOrder, on_total, back_total, then_total, nat_cmp_total}
use Rattle.std.specs.Cmp.Lexicographic.{nat_list_cmp_total}
use Rattle.std.specs.declared.cmp.Ordering.TheVariants.{Less}
use Rattle.std.proofs.Common.{◌≡◌, ℕ, ◌+◌, ◌^◌, ◌<◌, ◌≤◌, List, [], ◌∷◌, ◌++◌, length, refl, sym, ap, subst, arith, false}
use Rattle.rk_bytes.specs.declared.model.block.RangeDel.{RangeDel}
use Rattle.rk_bytes.specs.declared.model.key.Kind.{Kind}
use Rattle.rk_bytes.specs.declared.model.key.Record.{Record}
use Rattle.rk_bytes.specs.Model.InternalKey.{internal_key, kind_number, key_cmp, packed, top_sequence, user_key}
use Rattle.rk_bytes.specs.Model.TableStatus.{is_range_deletion}
use Rattle.rk_laws.specs.WritableTables.{IsWritableRange, IsWritableRecord, IsWritableTable, record_room}
use Rattle.rk_tablew.specs.Writing.{AreInOrder, ComesNext, contents_of, noted_range, noted_record, range_with, record_key, record_with, table_weight}
use Rattle.rk_tablew.proofs.WritingLemmas.{noted_ranges-push, noted_records-push, sum_by-cons}

key_cmp-total : IsTotalOrder key_cmp
key_cmp-total = then_total (on_total user_key nat_list_cmp_total) (back_total (on_total packed nat_cmp_total))

each_push : {A : Type 0} (P : A → Type 0) (xs : List A) (x : A) → AllByRecursion P xs → P x → AllByRecursion P (xs ++ x ∷ [])
each_push P [] x all is = (is, tt)
each_push P (y ∷ xs) x all is = (all.0, each_push P xs x all.1 is)

-- what is above a key is above each that is below it
each_above : (low key : List ℕ) (keys : List (List ℕ)) → key_cmp low key ≡ Less → AllByRecursion (λ k. key_cmp key k ≡ Less) keys → AllByRecursion (λ k. key_cmp low k ≡ Less) keys
each_above low key [] less all = tt
each_above low key (k ∷ keys) less all = (key_cmp-total.trans low key k less all.0, each_above low key keys less all.1)

-- one key above the last one
rising-push : (records : List Record) (r : Record) → IsStrictlySortedBy key_cmp (map record_key records) → ComesNext records (record_key r) → IsStrictlySortedBy key_cmp (map record_key (records ++ r ∷ []))
unfolding IsStrictlySortedBy
rising-push [] r sorted next = (tt, tt)
rising-push (first ∷ []) r sorted next = ((next [] first refl, tt), (tt, tt))
rising-push (first ∷ second ∷ records) r sorted next =
    let more = rising-push (second ∷ records) r sorted.1 (λ before last is. next (first ∷ before) last (ap (λ rest. first ∷ rest) is)) in
    ((sorted.0.0, each_above (record_key first) (record_key second) (map record_key (records ++ r ∷ [])) sorted.0.0 more.0), more)

-- nothing was noted
AreInOrder-none : AreInOrder [] []
unfolding IsStrictlySortedBy
AreInOrder-none = record { records_fit = tt; ranges_fit = tt; rising = tt }

pub AreInOrder-new : (notes range_notes : List (List ℕ × List ℕ × List ℕ)) → notes ≡ [] → range_notes ≡ [] → AreInOrder (map noted_record notes) (map noted_range range_notes)
AreInOrder-new notes range_notes no_notes no_range_notes =
    subst (λ (notes : List (List ℕ × List ℕ × List ℕ)). AreInOrder (map noted_record notes) (map noted_range range_notes)) (sym no_notes)
    (subst (λ (notes : List (List ℕ × List ℕ × List ℕ)). AreInOrder [] (map noted_range notes)) (sym no_range_notes) AreInOrder-none)

-- one record more, which was noted
pub AreInOrder-record-noted : (notes new_notes : List (List ℕ × List ℕ × List ℕ)) (deletions : List RangeDel) (key value : List ℕ) (sequence : ℕ) (kind : Kind) → AreInOrder (map noted_record notes) deletions
    → is_range_deletion kind ≡ false → ComesNext (map noted_record notes) (internal_key key sequence kind) → sequence ≤ top_sequence → length key < 2 ^ 30 → length value < 2 ^ 31
    → new_notes ≡ notes ++ (sequence ∷ kind_number kind ∷ [], key, value) ∷ [] → AreInOrder (map noted_record new_notes) deletions
AreInOrder-record-noted notes new_notes deletions key value sequence kind w no_range next low key_fits value_fits noted =
    let r : Record = record_with key sequence kind value in
    let fits : IsWritableRecord r = record { key = key_fits; value = value_fits; sequence = low; kind = no_range } in
    subst (λ (records : List Record). AreInOrder records deletions) (sym (noted_records-push notes new_notes key value sequence kind noted))
    (record { records_fit = each_push IsWritableRecord (map noted_record notes) r w.records_fit fits; ranges_fit = w.ranges_fit; rising = rising-push (map noted_record notes) r w.rising next })

-- one range deletion more, which was noted
pub AreInOrder-range-noted : (records : List Record) (notes new_notes : List (List ℕ × List ℕ × List ℕ)) (start end : List ℕ) (sequence : ℕ) → AreInOrder records (map noted_range notes)
    → sequence ≤ top_sequence → length start < 2 ^ 30 → length end < 2 ^ 30 → new_notes ≡ notes ++ (sequence ∷ [], start, end) ∷ [] → AreInOrder records (map noted_range new_notes)
AreInOrder-range-noted records notes new_notes start end sequence w low start_fits end_fits noted =
    let range : RangeDel = range_with start end sequence in
    let fits : IsWritableRange range = record { start = start_fits; end = end_fits; sequence = low } in
    subst (λ (deletions : List RangeDel). AreInOrder records deletions) (sym (noted_ranges-push notes new_notes start end sequence noted))
    (record { records_fit = w.records_fit; ranges_fit = each_push IsWritableRange (map noted_range notes) range w.ranges_fit fits; rising = w.rising })

-- a record in a family
abbrev in_family : ℕ → Record → Record
in_family family r = record r { family = family }

fit_in_family : (family : ℕ) (records : List Record) → AllByRecursion IsWritableRecord records → AllByRecursion IsWritableRecord (map (in_family family) records)
fit_in_family family [] all = tt
fit_in_family family (r ∷ records) all = (record { key = all.0.key; value = all.0.value; sequence = all.0.sequence; kind = all.0.kind }, fit_in_family family records all.1)

keys_in_family : (family : ℕ) (records : List Record) → map record_key records ≡ map record_key (map (in_family family) records)
keys_in_family family [] = refl
keys_in_family family (r ∷ records) = ap (λ keys. record_key r ∷ keys) (keys_in_family family records)

room_in_family : (family : ℕ) (records : List Record) → sum_by record_room (map (in_family family) records) ≡ sum_by record_room records
room_in_family family [] = refl
room_in_family family (r ∷ records) =
    let one = sum_by-cons record_room (in_family family r) (map (in_family family) records) in
    let other = sum_by-cons record_room r records in
    omega (arith, one, other, room_in_family family records)

-- what was added makes a table that can be written
pub writable : (family : ℕ) (name : List ℕ) (records : List Record) (deletions : List RangeDel) (failed : Bool) → AreInOrder records deletions → family < 2 ^ 32 → length name < 2 ^ 30
    → table_weight (record { records = records; ranges = deletions; failed = failed }) + length name < 2 ^ 31 → IsWritableTable (contents_of family name (record { records = records; ranges = deletions; failed = failed }))
writable family name records deletions failed w family_fits name_fits room = record {
  family = family_fits;
  name = name_fits;
  records = fit_in_family family records w.records_fit;
  ranges = w.ranges_fit;
  rising = subst (λ (keys : List (List ℕ)). IsStrictlySortedBy key_cmp keys) (keys_in_family family records) w.rising;
  room = omega (arith, room, room_in_family family records);
}
