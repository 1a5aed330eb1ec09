-- The keys of a block of bytes are bytes.
use Rattle.std.proofs.Common.{◌≡◌, ℕ, zero, suc, ◌+◌, ◌-◌, ◌*◌, ◌^◌, ◌<◌, List, [], ◌∷◌, ◌++◌, length, get_or, take, drop, Result, Ok, Err, sym, ap, subst, arith}
use Rattle.std.proofs.lemmas.List.{take-append-drop}
use Rattle.std.specs.Prelude.{◌==◌, ◌||◌, nat_lt, nat_le}
use Rattle.std.specs.List.{AllByRecursion}
use Rattle.rk_bytes.specs.declared.model.block.BlockFault.{BlockFault}
use Rattle.rk_bytes.specs.declared.model.block.BlockFault.TheVariants.{HashIndex, BadEntry, BadRestarts, Short}
use Rattle.rk_bytes.specs.Model.Numbers.{AreBytes, little_endian, part_of, varint32_at}
use Rattle.rk_bytes.specs.Model.BlockEntries.{Entry, with_fault, entry_at, next_entry, no_entry, entries_after, restart_count, fixed32s, block_parts, right_restarts, block_entries}
use Rattle.rk_bytes.proofs.Callers.FixedNumbers.{fixed_bound}
use Rattle.rk_bytes.proofs.Callers.Readings.{both_steps, with_fault_ok, passed, taken, bytes_after, bytes_before, part_of_ok, varint32_ok}

both_bytes : (a b : List ℕ) → AreBytes a → AreBytes b → AreBytes (a ++ b)
both_bytes [] b are are' = are'
both_bytes (x ∷ a) b are are' = (are.0, both_bytes a b are.1 are')

entry_bytes : (place : ℕ) (before bytes : List ℕ) (r : Entry (List ℕ) × List ℕ) → AreBytes before → AreBytes bytes → entry_at place before bytes ≡ Ok r → AreBytes r.0.key × AreBytes r.1
entry_bytes place before bytes r before-are are e =
    both_steps (varint32_at bytes) _ r e λ shared read1 e1.
    both_steps (varint32_at shared.1) _ r e1 λ rest_len read2 e2.
    both_steps (varint32_at rest_len.1) _ r e2 λ value_len read3 e3.
    both_steps (part_of shared.0 before) _ r e3 λ front read4 e4.
    both_steps (part_of rest_len.0 value_len.1) _ r e4 λ rest read5 e5.
    both_steps (part_of value_len.0 rest.1) _ r e5 λ value read6 e6.
    let (part1, whole1, is1, after1) = varint32_ok bytes shared are read1 in
    let (part2, whole2, is2, after2) = varint32_ok shared.1 rest_len after1 read2 in
    let (part3, whole3, is3, after3) = varint32_ok rest_len.1 value_len after2 read3 in
    let front_are = bytes_before before front.0 front.1 before-are (part_of_ok shared.0 before front read4).0 in
    let split = part_of_ok rest_len.0 value_len.1 rest read5 in
    let rest_are = bytes_before value_len.1 rest.0 rest.1 after3 split.0 in
    let left_are = bytes_after value_len.1 rest.0 rest.1 after3 split.0 in
    let after = bytes_after rest.1 value.0 value.1 left_are (part_of_ok value_len.0 rest.1 value read6).0 in
    let same : (record { place = place; shared = shared.0; key = front.0 ++ rest.0; value = value.0 }, value.1) ≡ r = cc in
    subst (λ (r : Entry (List ℕ) × List ℕ). AreBytes r.0.key × AreBytes r.1) same (both_bytes front.0 rest.0 front_are rest_are, after)

-- the keys are bytes
abbrev pub KeysAreBytes : List (Entry (List ℕ)) → Type 0
KeysAreBytes entries = AllByRecursion (λ (entry : Entry (List ℕ)). AreBytes entry.key) entries

entries_bytes : (len n : ℕ) (before : Entry (List ℕ)) (bytes : List ℕ) (entries : List (Entry (List ℕ))) → AreBytes before.key → AreBytes bytes → entries_after (next_entry len) n before bytes ≡ Ok entries → KeysAreBytes entries
unfolding entries_after
entries_bytes len n before [] entries before-are are e = let same : [] ≡ entries = cc in subst KeysAreBytes same tt
entries_bytes len zero before (b ∷ bytes) entries before-are are e =
    both_steps (next_entry len before []) (λ entry. Ok (entry.0 ∷ [])) entries e λ entry read e1.
    let place : ℕ = len - length {A = ℕ} [] in
    let is = entry_bytes place before.key [] entry before-are tt (with_fault_ok (λ fault. BadEntry place) (entry_at place before.key []) entry read) in
    let same : entry.0 ∷ [] ≡ entries = cc in
    subst KeysAreBytes same (is.0, tt)
entries_bytes len (suc n) before (b ∷ bytes) entries before-are are e =
    both_steps (next_entry len before (b ∷ bytes)) _ entries e λ entry read e1.
    both_steps (entries_after (next_entry len) n entry.0 entry.1) _ entries e1 λ more read' e2.
    let place = len - length (b ∷ bytes) in
    let is = entry_bytes place before.key (b ∷ bytes) entry before-are are (with_fault_ok (λ fault. BadEntry place) (entry_at place before.key (b ∷ bytes)) entry read) in
    let later = entries_bytes len n entry.0 entry.1 more is.0 is.1 read' in
    let same : entry.0 ∷ more ≡ entries = cc in
    subst KeysAreBytes same (is.0, later)

-- the entries' part of a block is bytes
parts_bytes : (block : List ℕ) (parts : List ℕ × List ℕ) → AreBytes block → block_parts block ≡ Ok parts → AreBytes parts.0
parts_bytes block parts are e =
    let count = restart_count block in
    let len = length block - 4 - 4 * count in
    let made : Result (List ℕ × List ℕ) BlockFault = Ok (take len block, fixed32s (take (4 * count) (drop len block))) in
    let one = passed (nat_lt (length block) 4) Short _ parts e in
    let two = passed (nat_le (2 ^ 31) count) HashIndex _ parts one.1 in
    let three = passed (count == 0 || nat_lt (length block) (4 + 4 * count)) BadRestarts made parts two.1 in
    let same : take len block ≡ parts.0 = ap (λ (r : Result (List ℕ × List ℕ) BlockFault). elim r [ Ok parts ↦ parts.0 | Err fault ↦ [] ]) three.1 in
    subst AreBytes same (bytes_before block (take len block) (drop len block) are (sym (take-append-drop len block)))

pub keys_bytes : (block : List ℕ) (entries : List (Entry (List ℕ))) → AreBytes block → block_entries block ≡ Ok entries → KeysAreBytes entries
unfolding block_entries
keys_bytes block entries are e =
    both_steps (with_fault (λ fault. fault) (block_parts block)) _ entries e λ parts read e1.
    both_steps (entries_after (next_entry (length parts.0)) (length parts.0) (no_entry []) parts.0) _ entries e1 λ found read' e2.
    let parts_are = parts_bytes block parts are (with_fault_ok (λ fault. fault) (block_parts block) parts read) in
    let same = (taken (right_restarts found parts.1) BadRestarts found entries e2).1 in
    subst KeysAreBytes same (entries_bytes (length parts.0) (length parts.0) (no_entry []) parts.0 found tt parts_are read')

pub are_bytes : (bytes : List ℕ) → ((i : ℕ) → get_or bytes i 0 < 2 ^ 8) → AreBytes bytes
are_bytes [] fit = tt
are_bytes (b ∷ bytes) fit = (fit 0, are_bytes bytes (λ i. fit (suc i)))

-- the number that bytes spell
pub little_endian-below : (bytes : List ℕ) → AreBytes bytes → little_endian bytes < fixed_bound (length bytes)
little_endian-below [] are = omega arith
little_endian-below (b ∷ bytes) are = let later = little_endian-below bytes are.1 in let first = are.0 in omega arith
