-- An index block is read just where its bytes are one, with whole handles as with delta-encoded ones.
use Rattle.std.proofs.Common.{◌≡◌, ℕ, ◌+◌, ◌≤◌, Bool, true, false, List, [], ◌∷◌, ◌++◌, length, Option, Some, None, Ok, Err, refl, sym, ◌∙◌, ap, subst}
use Rattle.std.specs.Prelude.{IsTrue, ◌==◌, ◌&&◌, ◌||◌, bytes_eq, take, option_map, ok_or}
use Rattle.std.specs.List.{list_all}
use Rattle.std.proofs.lemmas.List.{append-nil}
use Rattle.rk_bytes.specs.declared.model.block.IndexFault.TheVariants.{Block, BadHandle}
use Rattle.rk_bytes.specs.declared.model.block.Handle.{Handle}
use Rattle.rk_bytes.specs.declared.model.block.IndexEntry.{IndexEntry}
use Rattle.rk_bytes.specs.Model.Numbers.{AreBytes, Read}
use Rattle.rk_bytes.specs.Model.BlockEntries.{Entry, with_fault, collected, whole, rises, is_restart, right_restarts, no_entry, block_entries, AreEntries, IsBlock, SpellsEntryWith, SpellsEntry, handle_at, no_handle, SpellsHandle, delta_handles, with_value, with_handle, whole_handles, index_entries, IsIndex}
use Rattle.rk_bytes.proofs.Callers.Readings.{both_steps, first_step, with_fault_ok, rest_of_bytes, bytes_after, bytes_before}
use Rattle.rk_laws.proofs.DeltaLemmas.{exact_handle}
use Rattle.rk_laws.proofs.BlockLaw.{block_entries_ok, block_entries-block, delta_handles_ok, delta_handles-block}

-- the entry's value is this handle, and nothing else
record Handled (raw : Entry (List ℕ)) (entry : Entry Handle) : Type 0 where
  handle : Handle
  read : handle_at raw.value ≡ Ok (handle, [])
  same : with_value raw handle ≡ entry

whole_ok : {A : Type 0} (read : Read A) (x : A) → whole read ≡ Some x → read ≡ Ok (x, [])
whole_ok (Ok (y, [])) x e = let same : y ≡ x = cc in ap (λ y. Ok (y, [])) same
whole_ok (Ok (y, b ∷ rest)) x e = absurd cc
whole_ok (Err fault) x e = absurd cc

with_handle_ok : (raw : Entry (List ℕ)) (entry : Entry Handle) → with_handle raw ≡ Ok entry → Handled raw entry
with_handle_ok raw entry e = by (whole (handle_at raw.value)) refl e
  where
    by : (found : Option Handle) → whole (handle_at raw.value) ≡ found → ok_or (option_map (with_value raw) found) BadHandle ≡ Ok entry → Handled raw entry
    by (Some handle) told e = record { handle = handle; read = whole_ok (handle_at raw.value) handle told; same = cc }
    by None told e = absurd cc

-- the value of an entry that bytes spell is bytes
value_bytes : (before : Entry (List ℕ)) (part : List ℕ) (entry : Entry (List ℕ)) → AreBytes part → SpellsEntry before part entry → AreBytes entry.value
value_bytes before part entry are s =
    let after = rest_of_bytes s.rest s.value_bytes (rest_of_bytes s.value_len (s.rest ++ s.value_bytes) (rest_of_bytes s.rest_len (s.value_len ++ (s.rest ++ s.value_bytes))
    (bytes_after part s.shared_len (s.rest_len ++ (s.value_len ++ (s.rest ++ s.value_bytes))) are s.spelled))) in
    subst (λ value. AreBytes value) s.value after

-- an entry with its value's bytes is one with the handle that they spell
handle_spelled : (before : Entry Handle) (before_raw : Entry (List ℕ)) (part : List ℕ) (raw : Entry (List ℕ)) (entry : Entry Handle) → AreBytes part → before_raw.key ≡ before.key → SpellsEntry before_raw part raw → Handled raw entry → SpellsEntryWith SpellsHandle before part entry
handle_spelled before before_raw part raw entry are key s h =
    let f = exact_handle.reads raw.value (h.handle, []) (value_bytes before_raw part raw are s) h.read in
    let spells : SpellsHandle s.value_bytes h.handle = subst (λ bytes. SpellsHandle bytes h.handle) (sym (append-nil f.part) ∙ sym f.whole ∙ sym s.value) f.spells in
    subst (λ entry. SpellsEntryWith SpellsHandle before part entry) h.same (record {
      shared_len = s.shared_len;
      rest_len = s.rest_len;
      value_len = s.value_len;
      rest = s.rest;
      value_bytes = s.value_bytes;
      spelled = s.spelled;
      shares = s.shares;
      rests = s.rests;
      holds = s.holds;
      within = subst (λ key. raw.shared ≤ length key) key s.within;
      key = s.key ∙ ap (λ key. take raw.shared key ++ s.rest) key;
      value = spells;
    })

-- and the other way round
value_spelled : (before : Entry Handle) (before_raw : Entry (List ℕ)) (part : List ℕ) (entry : Entry Handle) → before_raw.key ≡ before.key → (s : SpellsEntryWith SpellsHandle before part entry) → SpellsEntry before_raw part (with_value entry s.value_bytes)
value_spelled before before_raw part entry key s = record {
  shared_len = s.shared_len;
  rest_len = s.rest_len;
  value_len = s.value_len;
  rest = s.rest;
  value_bytes = s.value_bytes;
  spelled = s.spelled;
  shares = s.shares;
  rests = s.rests;
  holds = s.holds;
  within = subst (λ key. entry.shared ≤ length key) (sym key) s.within;
  key = s.key ∙ ap (λ key. take entry.shared key ++ s.rest) (sym key);
  value = refl;
}

value_handled : (part : List ℕ) (before : Entry Handle) (entry : Entry Handle) (s : SpellsEntryWith SpellsHandle before part entry) → with_handle (with_value entry s.value_bytes) ≡ Ok entry
value_handled part before entry s =
    let read : handle_at s.value_bytes ≡ Ok (entry.value, []) = ap handle_at (sym (append-nil s.value_bytes)) ∙ exact_handle.spelled s.value_bytes [] entry.value s.value in
    ap (λ (read : Read Handle). ok_or (option_map (with_value (with_value entry s.value_bytes)) (whole read)) BadHandle) read

handles_ok : (place : ℕ) (before : Entry Handle) (before_raw : Entry (List ℕ)) (bytes : List ℕ) (raw : List (Entry (List ℕ))) (entries : List (Entry Handle)) → AreBytes bytes → before_raw.key ≡ before.key → AreEntries SpellsEntry place before_raw bytes raw → collected with_handle raw ≡ Ok entries → AreEntries (SpellsEntryWith SpellsHandle) place before bytes entries
handles_ok place before before_raw bytes [] entries are key none e = let same : [] ≡ entries = cc in subst (λ entries. AreEntries (SpellsEntryWith SpellsHandle) place before bytes entries) same none
handles_ok place before before_raw bytes (raw ∷ raws) entries are key (part, rest, split, place_is, s, more) e =
    both_steps (with_handle raw) _ entries e λ entry read e1.
    both_steps (collected with_handle raws) _ entries e1 λ after after_read e2.
    let h = with_handle_ok raw entry read in
    let same : entry ∷ after ≡ entries = cc in
    subst (λ entries. AreEntries (SpellsEntryWith SpellsHandle) place before bytes entries) same (
      part,
      rest,
      split,
      ap (λ (entry : Entry Handle). entry.place) (sym h.same) ∙ place_is,
      handle_spelled before before_raw part raw entry (bytes_before bytes part rest are split) key s h,
      handles_ok (place + length part) entry raw rest raws after (bytes_after bytes part rest are split) (ap (λ (entry : Entry Handle). entry.key) h.same) more after_read,
    )

-- entries with their values' bytes, of which these are the handles
record Raw (place : ℕ) (before_raw : Entry (List ℕ)) (bytes : List ℕ) (entries : List (Entry Handle)) : Type 0 where
  raws : List (Entry (List ℕ))
  are : AreEntries SpellsEntry place before_raw bytes raws
  handled : collected with_handle raws ≡ Ok entries

raw_of : (place : ℕ) (before : Entry Handle) (before_raw : Entry (List ℕ)) (bytes : List ℕ) (entries : List (Entry Handle)) → before_raw.key ≡ before.key → AreEntries (SpellsEntryWith SpellsHandle) place before bytes entries → Raw place before_raw bytes entries
raw_of place before before_raw bytes [] key none = record { raws = []; are = none; handled = refl }
raw_of place before before_raw bytes (entry ∷ entries) key (part, rest, split, place_is, s, more) =
    let raw = with_value entry s.value_bytes in
    let after = raw_of (place + length part) entry raw rest entries refl more in
    record {
      raws = raw ∷ after.raws;
      are = (part, rest, split, place_is, value_spelled before before_raw part entry key s, after.are);
      handled = first_step (with_handle raw) _ entry (value_handled part before entry s) ∙ first_step (collected with_handle after.raws) _ entries after.handled;
    }

-- Restart offsets are right for entries whatever their values are.
same_restart : (offset : ℕ) (raws : List (Entry (List ℕ))) (entries : List (Entry Handle)) → collected with_handle raws ≡ Ok entries → is_restart raws offset ≡ is_restart entries offset
same_restart offset [] entries e = let same : [] ≡ entries = cc in ap (λ entries. is_restart entries offset) same
same_restart offset (raw ∷ raws) entries e =
    both_steps (with_handle raw) _ entries e λ entry read e1.
    both_steps (collected with_handle raws) _ entries e1 λ after after_read e2.
    let h = with_handle_ok raw entry read in
    let same : entry ∷ after ≡ entries = cc in
    let later = same_restart offset raws after after_read in
    (λ i. (h.same i).place == offset && (h.same i).shared == 0 || later i) ∙ ap (λ entries. is_restart entries offset) same

same_restarts : (offsets : List ℕ) (raws : List (Entry (List ℕ))) (entries : List (Entry Handle)) → collected with_handle raws ≡ Ok entries → right_restarts raws offsets ≡ right_restarts entries offsets
same_restarts offsets [] entries e = let same : [] ≡ entries = cc in ap (λ entries. right_restarts entries offsets) same
same_restarts offsets (raw ∷ raws) entries e =
    both_steps (with_handle raw) _ entries e λ entry read e1.
    both_steps (collected with_handle raws) _ entries e1 λ after after_read e2.
    let same : entry ∷ after ≡ entries = cc in
    let all : collected with_handle (raw ∷ raws) ≡ Ok (entry ∷ after) = e ∙ ap Ok (sym same) in
    (λ i. bytes_eq (take 1 offsets) (0 ∷ []) && rises offsets && list_all (λ offset. same_restart offset (raw ∷ raws) (entry ∷ after) all i) offsets)
    ∙ ap (λ entries. right_restarts entries offsets) same

pub whole_handles_ok : (block : List ℕ) (entries : List (Entry Handle)) → AreBytes block → whole_handles block ≡ Ok entries → IsBlock (SpellsEntryWith SpellsHandle) no_handle block entries
whole_handles_ok block entries are e =
    both_steps (with_fault Block (block_entries block)) _ entries e λ raws raws_read e1.
    let b = block_entries_ok block raws are (with_fault_ok _ _ raws raws_read) in
    record {
      spelled = b.spelled;
      offsets = b.offsets;
      parts = b.parts;
      few = b.few;
      fit = b.fit;
      are = handles_ok 0 (no_entry no_handle) (no_entry []) b.spelled raws entries (bytes_before block b.spelled _ are b.parts) refl b.are e1;
      restarts = subst (λ test. IsTrue test) (same_restarts b.offsets raws entries e1) b.restarts;
    }

pub whole_handles-block : (block : List ℕ) (entries : List (Entry Handle)) → IsBlock (SpellsEntryWith SpellsHandle) no_handle block entries → whole_handles block ≡ Ok entries
whole_handles-block block entries b =
    let raw = raw_of 0 (no_entry no_handle) (no_entry []) b.spelled entries refl b.are in
    let is : IsBlock SpellsEntry [] block raw.raws = record {
      spelled = b.spelled;
      offsets = b.offsets;
      parts = b.parts;
      few = b.few;
      fit = b.fit;
      are = raw.are;
      restarts = subst (λ test. IsTrue test) (sym (same_restarts b.offsets raw.raws entries raw.handled)) b.restarts;
    } in
    first_step (with_fault Block (block_entries block)) _ raw.raws (ap (with_fault Block) (block_entries-block block raw.raws is)) ∙ raw.handled

pub index_entries_ok : (is_delta : Bool) (block : List ℕ) (index : List IndexEntry) → AreBytes block → index_entries is_delta block ≡ Ok index → IsIndex is_delta block index
unfolding index_entries
index_entries_ok true block index are e =
    both_steps (delta_handles block) _ index e λ entries read e1.
    record { entries = entries; are = delta_handles_ok block entries are read; shown = cc }
index_entries_ok false block index are e =
    both_steps (whole_handles block) _ index e λ entries read e1.
    record { entries = entries; are = whole_handles_ok block entries are read; shown = cc }

pub index_entries-index : (is_delta : Bool) (block : List ℕ) (index : List IndexEntry) → IsIndex is_delta block index → index_entries is_delta block ≡ Ok index
unfolding index_entries
index_entries-index true block index is = first_step (delta_handles block) _ is.entries (delta_handles-block block is.entries is.are) ∙ ap Ok (sym is.shown)
index_entries-index false block index is = first_step (whole_handles block) _ is.entries (whole_handles-block block is.entries is.are) ∙ ap Ok (sym is.shown)
