-- What is written of handles is read again, and a block of them is an index block.
use Rattle.std.proofs.Common.{◌≡◌, ℕ, ◌^◌, ◌<◌, false, List, [], ◌∷◌, ◌++◌, length, map, Ok, refl, sym, ◌∙◌, ap}
use Rattle.std.specs.Prelude.{option_map, ok_or}
use Rattle.std.specs.List.{AllByRecursion}
use Rattle.std.proofs.lemmas.List.{append-nil}
use Rattle.rk_bytes.specs.declared.model.block.Handle.{Handle}
use Rattle.rk_bytes.specs.declared.model.block.IndexFault.TheVariants.{Block, BadHandle}
use Rattle.rk_bytes.specs.Model.Numbers.{Read, varint_of}
use Rattle.rk_bytes.specs.Model.BlockEntries.{Entry, with_fault, collected, whole, block_entries, handle_at, SpellsHandle, with_value, with_handle, whole_handles, index_entry, index_entries}
use Rattle.rk_bytes.specs.Model.Writers.{KeyValue, block_bytes, handle_bytes}
use Rattle.rk_bytes.proofs.Callers.Readings.{first_step}
use Rattle.rk_bytes.proofs.Callers.Varints.{IsVarint64-varint_of}
use Rattle.rk_laws.proofs.DeltaLemmas.{exact_handle}
use Rattle.rk_laws.proofs.WrittenBlocks.{block_read}

-- its numbers have 64 bits
abbrev pub FitsHandle : Handle → Type 0
FitsHandle handle = (handle.offset < 2 ^ 64) × (handle.size < 2 ^ 64)

pub handle_spelled : (handle : Handle) → FitsHandle handle → SpellsHandle (handle_bytes handle) handle
handle_spelled handle fits = record {
  offset_bytes = varint_of handle.offset;
  size_bytes = varint_of handle.size;
  spelled = refl;
  offset = IsVarint64-varint_of handle.offset fits.0;
  size = IsVarint64-varint_of handle.size fits.1;
}

pub handle_read : (handle : Handle) (rest : List ℕ) → FitsHandle handle → handle_at (handle_bytes handle ++ rest) ≡ Ok (handle, rest)
handle_read handle rest fits = exact_handle.spelled (handle_bytes handle) rest handle (handle_spelled handle fits)

-- a key and a handle, as they are written
abbrev pub with_bytes : List ℕ × Handle → KeyValue
with_bytes entry = (entry.0, handle_bytes entry.1)

-- an entry of the bytes of a handle
value_read : (entry : Entry (List ℕ)) (handle : Handle) → FitsHandle handle → entry.value ≡ handle_bytes handle → with_handle entry ≡ Ok (with_value entry handle)
value_read entry handle fits is =
    let read : handle_at entry.value ≡ Ok (handle, []) = ap handle_at (is ∙ sym (append-nil (handle_bytes handle))) ∙ handle_read handle [] fits in
    ap (λ (read : Read Handle). ok_or (option_map (with_value entry) (whole read)) BadHandle) read

-- what is read of each
record HandlesRead (read : List (Entry (List ℕ))) (entries : List (List ℕ × Handle)) : Type 0 where
  handles : List (Entry Handle)
  are : collected with_handle read ≡ Ok handles
  shown : map (λ entry. (entry.key, entry.value)) handles ≡ entries

handles_read : (read : List (Entry (List ℕ))) (entries : List (List ℕ × Handle)) → AllByRecursion (λ entry. FitsHandle entry.1) entries → map (λ entry. (entry.key, entry.value)) read ≡ map with_bytes entries → HandlesRead read entries
handles_read [] [] fit same = record { handles = []; are = refl; shown = refl }
handles_read [] (entry ∷ entries) fit same = absurd cc
handles_read (one ∷ read) [] fit same = absurd cc
handles_read (one ∷ read) (entry ∷ entries) fit same =
    let first : (one.key, one.value) ≡ with_bytes entry = cc in
    let more = handles_read read entries fit.1 cc in
    let key : one.key ≡ entry.0 = ap (λ (pair : KeyValue). pair.0) first in
    let value = value_read one entry.1 fit.0 (ap (λ (pair : KeyValue). pair.1) first) in
    record {
      handles = with_value one entry.1 ∷ more.handles;
      are = first_step (with_handle one) _ (with_value one entry.1) value ∙ first_step (collected with_handle read) _ more.handles more.are;
      shown = λ i. (key i, entry.1) ∷ more.shown i;
    }

-- an index block is read as what it is written of
pub handles_block_read : (restart_every : ℕ) (entries : List (List ℕ × Handle)) → AllByRecursion (λ entry. FitsHandle entry.1) entries → length (block_bytes restart_every (map with_bytes entries)) < 2 ^ 32
    → (read : List (Entry Handle)) × (whole_handles (block_bytes restart_every (map with_bytes entries)) ≡ Ok read) × (map (λ entry. (entry.key, entry.value)) read ≡ entries)
handles_block_read restart_every entries fit short =
    let block = block_bytes restart_every (map with_bytes entries) in
    let (raw, raw_read, shown) = block_read restart_every (map with_bytes entries) short in
    let r = handles_read raw entries fit shown in
    (r.handles, first_step (with_fault Block (block_entries block)) _ raw (ap (with_fault Block) raw_read) ∙ r.are, r.shown)

pub index_block_read : (restart_every : ℕ) (entries : List (List ℕ × Handle)) → AllByRecursion (λ entry. FitsHandle entry.1) entries → length (block_bytes restart_every (map with_bytes entries)) < 2 ^ 32
    → index_entries false (block_bytes restart_every (map with_bytes entries)) ≡ Ok (map (λ entry. record { separator = entry.0; block = entry.1 }) entries)
unfolding index_entries
index_block_read restart_every entries fit short =
    let block = block_bytes restart_every (map with_bytes entries) in
    let (handles, read, shown) = handles_block_read restart_every entries fit short in
    first_step (whole_handles block) _ handles read ∙ ap Ok (index_of handles entries shown)
  where
    index_of : (handles : List (Entry Handle)) (entries : List (List ℕ × Handle)) → map (λ entry. (entry.key, entry.value)) handles ≡ entries → map index_entry handles ≡ map (λ entry. record { separator = entry.0; block = entry.1 }) entries
    index_of handles entries shown = index_of_pairs handles ∙ ap (map (λ (entry : List ℕ × Handle). record { separator = entry.0; block = entry.1 })) shown
      where
        index_of_pairs : (handles : List (Entry Handle)) → map index_entry handles ≡ map (λ (entry : List ℕ × Handle). record { separator = entry.0; block = entry.1 }) (map (λ entry. (entry.key, entry.value)) handles)
        index_of_pairs [] = refl
        index_of_pairs (handle ∷ handles) = ap (λ more. index_entry handle ∷ more) (index_of_pairs handles)
