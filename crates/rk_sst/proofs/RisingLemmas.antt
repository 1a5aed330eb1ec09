-- The records of a block of bytes rise.
use Rattle.std.proofs.Common.{◌≡◌, ℕ, suc, ◌-◌, ◌≤◌, true, false, List, [], ◌∷◌, length, map, Option, Some, IfSome, refl, sym, ap, ◌∙◌, subst, arith, length-append}
use Rattle.std.specs.Prelude.{slice_get}
use Rattle.std.specs.List.{AllByRecursion, last_or}
use Rattle.rk_bytes.specs.declared.model.key.Kind.{Kind}
use Rattle.rk_bytes.specs.declared.model.key.Kind.TheVariants.{Deletion, Value, Merge, SingleDeletion, RangeDeletion}
use Rattle.rk_bytes.specs.declared.model.key.Record.{Record}
use Rattle.rk_bytes.specs.Model.Numbers.{AreBytes, fixed_of}
use Rattle.rk_bytes.specs.Model.InternalKey.{packed_of, internal_key, key_cmp}
use Rattle.rk_bytes.specs.Model.KeyView.{is_point, key_of}
use Rattle.rk_bytes.specs.Model.TableStatus.{DataEntry, is_above, is_range_deletion, record_in}
use Rattle.rk_bytes.proofs.Callers.FixedNumbers.{length-fixed_of}
use Rattle.rk_table.specs.Blocks.{Rise}
use Rattle.rk_table.specs.Rows.{AreBlockRecords}
use Rattle.rk_sst.specs.Rising.{IsOfTable, Ascend, RiseFrom, last_given}
use Rattle.rk_sst.proofs.KeyLemmas.{IsEntry, block_entries_are}

single : (kind : Kind) → is_range_deletion kind ≡ false → is_point kind ≡ true
single Deletion e = refl
single Value e = refl
single Merge e = refl
single SingleDeletion e = refl
single RangeDeletion e = absurd cc

entries_of_table : (family : ℕ) (entries : List DataEntry) → AllByRecursion IsEntry entries → AllByRecursion (IsOfTable family) (map (record_in family) entries)
entries_of_table family [] are = tt
entries_of_table family (entry ∷ entries) are = ((refl, single entry.parts.kind are.0.point, are.0.key.sequence), entries_of_table family entries are.1)

keys_ascend : (family : ℕ) (before : Option (List ℕ)) (entries : List DataEntry) → AllByRecursion IsEntry entries → Rise before entries → Ascend before (map key_of (map (record_in family) entries))
keys_ascend family before [] are rise = tt
keys_ascend family before (entry ∷ entries) are rise =
    subst (λ (key : List ℕ). (is_above key_cmp key before ≡ true) × Ascend (Some key) (map key_of (map (record_in family) entries))) (sym are.0.key.made)
    (rise.1, keys_ascend family (Some entry.key) entries are.1 rise.2)

-- the records' keys are those of the entries
pub same_last : (family : ℕ) (before : Option (List ℕ)) (entries : List DataEntry) → AllByRecursion IsEntry entries → last_given before (map (record_in family) entries) ≡ last_or before (map (λ entry. entry.key) entries)
same_last family before [] are = refl
same_last family before (entry ∷ entries) are =
    subst (λ (key : List ℕ). last_or (Some key) (map key_of (map (record_in family) entries)) ≡ last_or (Some entry.key) (map (λ (entry : DataEntry). entry.key) entries)) (sym are.0.key.made)
    (same_last family (Some entry.key) entries are.1)

pub block_rises : (family place : ℕ) (before : Option (List ℕ)) (block : List ℕ) (records : List Record) → AreBytes block → AreBlockRecords family place before block records → RiseFrom family before records
block_rises family place before block records are is =
    let entries_are = block_entries_are place before block is.entries are is.told in
    subst (RiseFrom family before) (sym is.are) (record { each = entries_of_table family is.entries entries_are; rise = keys_ascend family before is.entries entries_are is.rise })

long_key : (r : Record) → 8 ≤ length (key_of r)
unfolding internal_key
long_key r = let n = packed_of r.sequence r.kind in omega (arith, length-append r.key (fixed_of 8 n), length-fixed_of 8 n)

-- the last key has at least 8 bytes
pub long_last : (before : Option (List ℕ)) (records : List Record) → IfSome before (λ key. 8 ≤ length key) → IfSome (last_given before records) (λ key. 8 ≤ length key)
long_last before [] long = long
long_last before (r ∷ records) long = long_last (Some (key_of r)) records (long_key r)

-- the last key is that of the last record
pub last_is : (before : Option (List ℕ)) (records : List Record) (last : Record) → slice_get records (length records - 1) ≡ Some last → last_given before records ≡ Some (key_of last)
last_is before [] last e = absurd cc
last_is before (r ∷ []) last e = let same : r ≡ last = cc in ap (λ (r : Record). Some (key_of r)) same
last_is before (r ∷ s ∷ records) last e =
    let here : length (r ∷ s ∷ records) - 1 ≡ suc (length records) = omega arith in
    let there : length records ≡ length (s ∷ records) - 1 = omega arith in
    last_is (Some (key_of r)) (s ∷ records) last (ap (slice_get (s ∷ records)) (sym there) ∙ ap (slice_get (r ∷ s ∷ records)) (sym here) ∙ e)
