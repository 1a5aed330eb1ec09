-- What the data entries of a block's bytes say of their keys.
use Rattle.std.proofs.Common.{◌≡◌, ℕ, ◌-◌, ◌/◌, ◌%◌, ◌^◌, ◌<◌, ◌≤◌, false, List, [], ◌∷◌, ◌++◌, length, take, drop, Option, Some, None, Result, Ok, Err, refl, sym, ◌∙◌, ap, subst, arith, length-drop}
use Rattle.std.proofs.lemmas.Bool.{ltb-false}
use Rattle.std.proofs.lemmas.Bool.Decides.{Decides-eqb}
use Rattle.std.proofs.lemmas.List.{take-append-drop}
use Rattle.std.specs.Prelude.{◌==◌, nat_lt, option_map, ok_or}
use Rattle.std.specs.List.{AllByRecursion}
use Rattle.rk_bytes.specs.declared.model.key.Kind.{Kind}
use Rattle.rk_bytes.specs.declared.model.key.KeyFault.{KeyFault}
use Rattle.rk_bytes.specs.declared.model.key.KeyFault.TheVariants.{Short, UnsupportedKind, UnknownKind}
use Rattle.rk_bytes.specs.declared.model.table.TableWhy.TheVariants.{BadKey, BadOrder}
use Rattle.rk_bytes.specs.Model.Numbers.{AreBytes, little_endian, fixed_of}
use Rattle.rk_bytes.specs.Model.BlockEntries.{Entry, with_fault, block_entries}
use Rattle.rk_bytes.specs.Model.InternalKey.{KeyParts, user_key, packed, kind_number, all_kinds, kind_of, packed_of, internal_key, key_cmp, key_parts, top_sequence}
use Rattle.rk_bytes.specs.Model.TableStatus.{damaged, DataEntry, block_status, is_above, is_range_deletion, entry_after, records_after}
use Rattle.rk_bytes.proofs.Callers.FixedNumbers.{fixed_bound, fixed_of-little_endian}
use Rattle.rk_bytes.proofs.Callers.Readings.{both_steps, with_fault_ok, passed, taken, found_passes, bytes_after}
use Rattle.rk_table.specs.Walks.{block_told}
use Rattle.rk_table.proofs.Callers.KeyBytes.{KeysAreBytes, keys_bytes, little_endian-below}

-- what is made of a key that reads
parts_made : (o : Option Kind) (user : List ℕ) (sequence : ℕ) (fault : KeyFault) (parts : KeyParts) → ok_or (option_map (λ kind. record { user = user; sequence = sequence; kind = kind }) o) fault ≡ Ok parts → (o ≡ Some parts.kind) × (parts.user ≡ user) × (parts.sequence ≡ sequence)
parts_made (Some kind) user sequence fault parts e =
    let made : KeyParts = record { user = user; sequence = sequence; kind = kind } in
    let same : made ≡ parts = cc in
    (ap (λ (parts : KeyParts). Some parts.kind) same, ap (λ (parts : KeyParts). parts.user) (sym same), ap (λ (parts : KeyParts). parts.sequence) (sym same))
parts_made None user sequence fault parts e = absurd cc

-- What is known of an internal key that reads: its last eight bytes, its sequence number, and that it is made of its parts.
pub record IsKeyOf (key : List ℕ) (parts : KeyParts) : Type 0 where
  pub sequence : parts.sequence ≤ top_sequence
  pub made : internal_key parts.user parts.sequence parts.kind ≡ key

pub key_of_parts : (key : List ℕ) (parts : KeyParts) → AreBytes key → key_parts key ≡ Ok parts → IsKeyOf key parts
unfolding internal_key
key_of_parts key parts are e =
    let long = passed (nat_lt (length key) 8) Short _ parts e in
    let at_least : 8 ≤ length key = ltb-false (length key) 8 long.0 in
    let front = length key - 8 in
    let last = drop front key in
    let eight : length last ≡ 8 = omega (arith, length-drop front key) in
    let last_are = bytes_after key (take front key) last are (sym (take-append-drop front key)) in
    let below : packed key < 2 ^ 64 = subst (λ n. packed key < fixed_bound n) eight (little_endian-below last last_are) in
    let (kind, user, sequence) = parts_made (kind_of (packed key % 256)) (user_key key) (packed key / 256) _ parts long.1 in
    let number : kind_number parts.kind ≡ packed key % 256 = (Decides-eqb (kind_number parts.kind) (packed key % 256)).0 (found_passes (λ kind. kind_number kind == packed key % 256) all_kinds parts.kind kind) in
    let whole : packed_of parts.sequence parts.kind ≡ packed key = omega (arith, number, sequence) in
    let end : fixed_of 8 (packed_of parts.sequence parts.kind) ≡ last = ap (fixed_of 8) whole ∙ ap (λ n. fixed_of n (little_endian last)) (sym eight) ∙ fixed_of-little_endian last last_are in
    record {
      sequence = omega (arith, sequence, below);
      made = (λ i. user i ++ end i) ∙ take-append-drop front key;
    }

-- a data entry of a block of bytes
pub record IsEntry (entry : DataEntry) : Type 0 where
  pub key : IsKeyOf entry.key entry.parts
  pub point : is_range_deletion entry.parts.kind ≡ false

-- an entry's record has the entry's key and its parts
entry_is : (place : ℕ) (before : Option (List ℕ)) (entry : Entry (List ℕ)) (parts : Result KeyParts KeyFault) (first : DataEntry) → key_parts entry.key ≡ parts → AreBytes entry.key → entry_after place before entry parts ≡ Ok first → IsEntry first
entry_is place before entry (Err Short) first is are e = absurd cc
entry_is place before entry (Err (UnsupportedKind kind)) first is are e = absurd cc
entry_is place before entry (Err (UnknownKind kind)) first is are e = absurd cc
entry_is place before entry (Ok parts) first is are e =
    let made : DataEntry = record { key = entry.key; parts = parts; value = entry.value } in
    let one = passed (is_range_deletion parts.kind) (damaged BadKey place) _ first e in
    let two = taken (is_above key_cmp entry.key before) (damaged BadOrder place) made first one.1 in
    subst IsEntry two.1 (record { key = key_of_parts entry.key parts are is; point = one.0 })

entries_are : (place : ℕ) (before : Option (List ℕ)) (entries : List (Entry (List ℕ))) (records : List DataEntry) → KeysAreBytes entries → records_after place before entries ≡ Ok records → AllByRecursion IsEntry records
entries_are place before [] records are e = let same : [] ≡ records = cc in subst (AllByRecursion IsEntry) same tt
entries_are place before (entry ∷ entries) records are e =
    both_steps (entry_after place before entry (key_parts entry.key)) _ records e λ first read e1.
    both_steps (records_after place (Some entry.key) entries) _ records e1 λ more read' e2.
    let here = entry_is place before entry (key_parts entry.key) first refl are.0 read in
    let later = entries_are place (Some entry.key) entries more are.1 read' in
    let same : first ∷ more ≡ records = cc in
    subst (AllByRecursion IsEntry) same (here, later)

-- the data entries of a block of bytes
pub block_entries_are : (place : ℕ) (before : Option (List ℕ)) (block : List ℕ) (records : List DataEntry) → AreBytes block → block_told place before block ≡ Ok records → AllByRecursion IsEntry records
block_entries_are place before block records are e =
    both_steps (with_fault (block_status place) (block_entries block)) _ records e λ entries read e1.
    entries_are place before entries records (keys_bytes block entries are (with_fault_ok (block_status place) (block_entries block) entries read)) e1
