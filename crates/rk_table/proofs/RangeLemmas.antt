-- The sequence numbers of range deletions that bytes spell are at most the greatest.
use Rattle.std.proofs.Common.{◌≡◌, ℕ, ◌-◌, ◌/◌, ◌%◌, ◌^◌, ◌<◌, ◌≤◌, List, [], ◌∷◌, length, take, drop, Option, Some, None, Result, Ok, Err, refl, sym, ◌∙◌, ◌⊎◌, inl, inr, subst, arith, length-drop}
use Rattle.std.proofs.lemmas.Bool.{ltb-false}
use Rattle.std.proofs.lemmas.List.{take-append-drop}
use Rattle.std.specs.Prelude.{nat_lt, option_map, ok_or}
use Rattle.rk_bytes.specs.declared.model.block.RangeDel.{RangeDel}
use Rattle.rk_bytes.specs.declared.model.block.RangeFault.{RangeFault}
use Rattle.rk_bytes.specs.declared.model.block.RangeFault.TheVariants.{Block, BadKey, Memory}
use Rattle.rk_bytes.specs.declared.model.key.Kind.{Kind}
use Rattle.rk_bytes.specs.declared.model.key.KeyFault.{KeyFault}
use Rattle.rk_bytes.specs.Model.Numbers.{AreBytes}
use Rattle.rk_bytes.specs.Model.BlockEntries.{Entry, with_fault, collected, block_entries}
use Rattle.rk_bytes.specs.Model.InternalKey.{KeyParts, user_key, packed, kind_of, key_parts, top_sequence}
use Rattle.rk_bytes.specs.Model.TableStatus.{is_range_deletion, range_of, range_list}
use Rattle.rk_bytes.proofs.Callers.FixedNumbers.{fixed_bound}
use Rattle.rk_bytes.proofs.Callers.Readings.{both_steps, with_fault_ok, passed, taken, bytes_after}
use Rattle.rk_table.specs.Steps.{AreBelowTop}
use Rattle.rk_table.proofs.Callers.KeyBytes.{KeysAreBytes, keys_bytes, little_endian-below}

-- the sequence number of a key that reads
sequence_made : (o : Option Kind) (user : List ℕ) (sequence : ℕ) (fault : KeyFault) (parts : KeyParts) → ok_or (option_map (λ kind. record { user = user; sequence = sequence; kind = kind }) o) fault ≡ Ok parts → parts.sequence ≡ sequence
sequence_made (Some kind) user sequence fault parts e = cc
sequence_made None user sequence fault parts e = absurd cc

sequence_fits : (key : List ℕ) (parts : KeyParts) → AreBytes key → key_parts key ≡ Ok parts → parts.sequence ≤ top_sequence
sequence_fits key parts are e =
    let long = passed (nat_lt (length key) 8) _ _ parts e in
    let at_least : 8 ≤ length key = ltb-false (length key) 8 long.0 in
    let last = drop (length key - 8) key in
    let eight : length last ≡ 8 = omega (arith, length-drop (length key - 8) key) in
    let last_are = bytes_after key (take (length key - 8) key) last are (sym (take-append-drop (length key - 8) key)) in
    let below : packed key < 2 ^ 64 = subst (λ n. packed key < fixed_bound n) eight (little_endian-below last last_are) in
    let is = sequence_made (kind_of (packed key % 256)) (user_key key) (packed key / 256) _ parts long.1 in
    omega (arith, is, below)

range_fits : (entry : Entry (List ℕ)) (r : Result KeyParts KeyFault) (range : RangeDel) → ((parts : KeyParts) → r ≡ Ok parts → parts.sequence ≤ top_sequence) → range_of entry r ≡ Ok range → range.sequence ≤ top_sequence
range_fits entry (Err fault) range fits e = absurd cc
range_fits entry (Ok parts) range fits e =
    let same = (taken (is_range_deletion parts.kind) BadKey (record { start = parts.user; end = entry.value; sequence = parts.sequence }) range e).1 in
    subst (λ (range : RangeDel). range.sequence ≤ top_sequence) same (fits parts refl)

collected_fit : (entries : List (Entry (List ℕ))) (ranges : List RangeDel) → KeysAreBytes entries → collected (λ entry. range_of entry (key_parts entry.key)) entries ≡ Ok ranges → AreBelowTop ranges
collected_fit [] ranges are e = let same : [] ≡ ranges = cc in subst AreBelowTop same tt
collected_fit (entry ∷ entries) ranges are e =
    both_steps (range_of entry (key_parts entry.key)) _ ranges e λ first read e1.
    both_steps (collected (λ entry. range_of entry (key_parts entry.key)) entries) _ ranges e1 λ more read' e2.
    let fits = range_fits entry (key_parts entry.key) first (λ parts is. sequence_fits entry.key parts are.0 is) read in
    let later = collected_fit entries more are.1 read' in
    let same : first ∷ more ≡ ranges = cc in
    subst AreBelowTop same (fits, later)

pub ranges_below_top : (block : List ℕ) (ranges : List RangeDel) → AreBytes block → range_list block ≡ Ok ranges → AreBelowTop ranges
unfolding range_list
ranges_below_top block ranges are e =
    both_steps (with_fault Block (block_entries block)) _ ranges e λ entries read e1.
    collected_fit entries ranges (keys_bytes block entries are (with_fault_ok Block (block_entries block) entries read)) e1

-- the same of what is read, unless memory runs out
pub told_below_top : (block : List ℕ) (r : Result (List RangeDel) RangeFault) (ranges : List RangeDel) → AreBytes block → (r ≡ range_list block) ⊎ (r ≡ Err Memory) → r ≡ Ok ranges → AreBelowTop ranges
told_below_top block r ranges are (inl e) is = ranges_below_top block ranges are (sym e ∙ is)
told_below_top block r ranges are (inr e) is = let no : Ok ranges ≡ Err Memory = sym is ∙ e in absurd cc
