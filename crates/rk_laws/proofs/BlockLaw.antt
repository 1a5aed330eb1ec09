-- A block's entries are read just where its bytes are a block of them, in each form of block.
use Rattle.std.proofs.Common.{◌≡◌, ℕ, ◌<◌, List, [], ◌∷◌, length, Result, Ok, ◌∙◌, ap, subst, arith}
use Rattle.std.specs.Prelude.{IsTrue}
use Rattle.rk_bytes.specs.declared.model.block.BlockFault.{BlockFault}
use Rattle.rk_bytes.specs.declared.model.block.IndexFault.TheVariants.{Block}
use Rattle.rk_bytes.specs.declared.model.block.Handle.{Handle}
use Rattle.rk_bytes.specs.Model.BlockEntries.{Entry, with_fault, no_entry, next_entry, entries_after, block_parts, block_with, right_restarts, block_entries, Spelling, IsBlock, SpellsEntry, no_handle, next_delta_entry, delta_handles, SpellsDeltaEntry}
use Rattle.rk_bytes.specs.Model.Numbers.{AreBytes}
use Rattle.rk_bytes.proofs.Callers.Readings.{both_steps, first_step, with_fault_ok, taken, bytes_before}
use Rattle.rk_laws.proofs.BlockLemmas.{Form, entries_ok, entries-spelled}
use Rattle.rk_laws.proofs.EntryLemmas.{entry_form}
use Rattle.rk_laws.proofs.DeltaLemmas.{delta_form}
use Rattle.rk_laws.proofs.RestartLemmas.{MadeOf, block_parts_ok, block_parts-made}

module _ {V F : Type 0} (word : BlockFault → F) (nothing : V) (next : ℕ → Entry V → List ℕ → Result (Entry V × List ℕ) F) (Spells : Spelling V) (form : Form next Spells) where
  -- what is read is a block of these entries
  pub block_with_ok : (block : List ℕ) (entries : List (Entry V)) → AreBytes block → block_with word nothing next block ≡ Ok entries → IsBlock Spells nothing block entries
  block_with_ok block entries are e =
      both_steps (with_fault word (block_parts block)) _ entries e λ parts parts_read e1.
      both_steps (entries_after (next (length parts.0)) (length parts.0) (no_entry nothing) parts.0) _ entries e1 λ read read_is e2.
      let (right, same) = taken (right_restarts read parts.1) _ read entries e2 in
      let made = block_parts_ok block parts are (with_fault_ok _ _ parts parts_read) in
      let inner = bytes_before block parts.0 _ are made.whole in
      subst (λ entries. IsBlock Spells nothing block entries) same (record {
        spelled = parts.0;
        offsets = parts.1;
        parts = made.whole;
        few = made.few;
        fit = made.fit;
        are = entries_ok next Spells form (length parts.0) (length parts.0) 0 (no_entry nothing) parts.0 read inner (omega arith) (omega arith) read_is;
        restarts = right;
      })

  -- right offsets are there
  some_offsets : (entries : List (Entry V)) (offsets : List ℕ) → IsTrue (right_restarts entries offsets) → 0 < length offsets
  some_offsets [] [] h = absurd cc
  some_offsets (entry ∷ entries) [] h = absurd cc
  some_offsets entries (offset ∷ offsets) h = omega arith

  -- a block of entries is read as them
  pub block_with-block : (block : List ℕ) (entries : List (Entry V)) → IsBlock Spells nothing block entries → block_with word nothing next block ≡ Ok entries
  block_with-block block entries b =
      let made : MadeOf block (b.spelled, b.offsets) = record { whole = b.parts; few = b.few; fit = b.fit } in
      let parts_read : block_parts block ≡ Ok (b.spelled, b.offsets) = block_parts-made block (b.spelled, b.offsets) (some_offsets entries b.offsets b.restarts) made in
      let read : entries_after (next (length b.spelled)) (length b.spelled) (no_entry nothing) b.spelled ≡ Ok entries =
      entries-spelled next Spells form (length b.spelled) (length b.spelled) 0 (no_entry nothing) b.spelled entries (omega arith) (omega arith) b.are in
      first_step (with_fault word (block_parts block)) _ _ (ap (with_fault word) parts_read)
      ∙ first_step _ _ _ read
      ∙ rw b.restarts

pub block_entries_ok : (block : List ℕ) (entries : List (Entry (List ℕ))) → AreBytes block → block_entries block ≡ Ok entries → IsBlock SpellsEntry [] block entries
unfolding block_entries
block_entries_ok = block_with_ok (λ fault. fault) [] next_entry SpellsEntry entry_form

pub block_entries-block : (block : List ℕ) (entries : List (Entry (List ℕ))) → IsBlock SpellsEntry [] block entries → block_entries block ≡ Ok entries
unfolding block_entries
block_entries-block = block_with-block (λ fault. fault) [] next_entry SpellsEntry entry_form

pub delta_handles_ok : (block : List ℕ) (entries : List (Entry Handle)) → AreBytes block → delta_handles block ≡ Ok entries → IsBlock SpellsDeltaEntry no_handle block entries
delta_handles_ok = block_with_ok Block no_handle next_delta_entry SpellsDeltaEntry delta_form

pub delta_handles-block : (block : List ℕ) (entries : List (Entry Handle)) → IsBlock SpellsDeltaEntry no_handle block entries → delta_handles block ≡ Ok entries
delta_handles-block = block_with-block Block no_handle next_delta_entry SpellsDeltaEntry delta_form
