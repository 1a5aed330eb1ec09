-- The entries of a block that are tested when their turn comes.
use Rattle.std.specs.Prelude.{◌==◌, not}
use Rattle.std.proofs.Common.{◌≡◌, ℕ, ◌+◌, ◌<◌, ◌≤◌, Bool, true, false, cond, List, [], ◌∷◌, ◌++◌, length, drop, Ok, Err, refl, sym, ap, ◌∙◌, arith, length-drop}
use Rattle.std.proofs.lemmas.Bool.{le-ltb, cond-false}
use Rattle.rk_bytes.specs.declared.model.block.BlockFault.{BlockFault}
use Rattle.rk_bytes.specs.declared.model.block.BlockFault.TheVariants.{BadRestarts}
use Rattle.rk_bytes.specs.Model.Numbers.{◌>>=◌}
use Rattle.rk_bytes.specs.Model.BlockEntries.{Entry, next_entry, no_entry, entries_after, right_restarts, block_parts}
use Rattle.rk_bytes.proofs.Callers.Readings.{both_steps}
use Rattle.rk_block.specs.declared.entry.RawEntry.{RawEntry}
use Rattle.rk_block.specs.Parts.{entries_in, restarts_in}
use Rattle.rk_block.specs.Raw.{key_after, entry_of}
use Rattle.rk_block.specs.Read.{last_of, IsReadTo}
use Rattle.rk_block.specs.Restarts.{RestartsSeen, are_met}
use Rattle.rk_block.specs.Seen.{entries_or_none, entries_from, key_before}
use Rattle.rk_block.specs.Tested.{Told, TestedSeen, told_of, left_from, key_at, tested_from, preceded, IsBegun, Gives}
use Rattle.rk_block.specs.Walked.{IsWalked}
use Rattle.rk_block.proofs.ReadLemmas.{hands_out, seen_at_end, parted}
use Rattle.rk_block.proofs.WalkLemmas.{ReadsHere, IsWalked-end}

-- all places follow 0
from_start : (entries : List (Entry (List ℕ))) → entries_from 0 entries ≡ entries
from_start [] = refl
from_start (entry ∷ entries) = cond-false _ _ _ (le-ltb entry.place 0 (omega arith))

key_at_start : (entries : List (Entry (List ℕ))) → key_before 0 [] entries ≡ []
key_at_start [] = refl
key_at_start (entry ∷ entries) = cond-false _ _ _ (le-ltb entry.place 0 (omega arith))

left_at_start : (told : Told) → left_from 0 told ≡ told
left_at_start (Ok entries) = ap Ok (from_start entries)
left_at_start (Err fault) = refl

-- a block whose parts are these begins
pub begins : (block part offsets : List ℕ) → Ok (part, offsets) ≡ block_parts block → IsBegun (tested_from part offsets 0 0) block
begins block part offsets e = record {
  left = left_at_start (told_of part offsets) ∙ parted block (part, offsets) e;
  key = key_at_start (entries_or_none (entries_in part));
  key_len = refl;
}

-- a walk so far over entries that read
walked_reads : (part offsets : List ℕ) (place key_len : ℕ) (now : RestartsSeen) (entries : List (Entry (List ℕ))) → IsWalked part offsets place key_len now → entries_in part ≡ Ok entries → IsReadTo part place
walked_reads part offsets place key_len now entries w e =
    both_steps (entries_after (next_entry (length part)) w.room (last_of w.front (no_entry [])) (drop place part)) (λ more. Ok (w.front ++ more)) entries (sym w.whole ∙ e) λ more read e1.
    record {
      front = w.front;
      left = more;
      room = w.room;
      within = w.within;
      enough = w.enough;
      passed = w.passed;
      whole = e ∙ sym e1;
      follow = read;
    }

-- what is left after an entry
module _ (part offsets : List ℕ) (place key_len : ℕ) (now : RestartsSeen) (raw : RawEntry) (len : ℕ) (w : IsWalked part offsets place key_len now) (some : 0 < length (drop place part)) (reads : ReadsHere (drop place part) raw len) (longer : 0 < len) (fits : len ≤ length (drop place part)) where
  abbrev then_right : Told → Told
  then_right r = r >>= λ entries. cond (right_restarts entries offsets) (Ok entries) (Err BadRestarts)

  one_left : (entries : List (Entry (List ℕ))) (right : Bool) → entries_from place entries ≡ entry_of place (key_at part place) raw ∷ entries_from (place + len) entries
      → left_from place (cond right (Ok entries) (Err BadRestarts)) ≡ preceded (entry_of place (key_at part place) raw) (left_from (place + len) (cond right (Ok entries) (Err BadRestarts)))
  one_left entries true from = ap Ok from
  one_left entries false from = refl

  pub tested_left : left_from place (told_of part offsets) ≡ preceded (entry_of place (key_at part place) raw) (left_from (place + len) (told_of part offsets))
  tested_left = by (entries_in part) refl
    where
      by : (r : Told) → entries_in part ≡ r → left_from place (then_right r) ≡ preceded (entry_of place (key_at part place) raw) (left_from (place + len) (then_right r))
      by (Err fault) e = refl
      by (Ok entries) e =
          let out = hands_out part place raw len (walked_reads part offsets place key_len now entries w e) some reads longer fits in
          one_left entries (right_restarts entries offsets) (ap (λ (r : Told). entries_from place (entries_or_none r)) (sym e) ∙ out.left ∙ ap (λ (r : Told). entry_of place (key_at part place) raw ∷ entries_from (place + len) (entries_or_none r)) e)

  pub tested_key : (entries : List (Entry (List ℕ))) → left_from place (told_of part offsets) ≡ Ok entries → key_at part (place + len) ≡ key_after (key_at part place) raw
  tested_key entries told = by (entries_in part) refl told
    where
      by : (r : Told) → entries_in part ≡ r → left_from place (then_right r) ≡ Ok entries → key_at part (place + len) ≡ key_after (key_at part place) raw
      by (Err fault) e told = absurd cc
      by (Ok found) e told = (hands_out part place raw len (walked_reads part offsets place key_len now found w e) some reads longer fits).key

-- where no entry is left
pub tested_end : (part offsets : List ℕ) (place key_len : ℕ) (now : RestartsSeen) (has right : Bool) → IsWalked part offsets place key_len now → length (drop place part) ≡ 0 → has ≡ not (length part == 0) → right ≡ are_met has now → left_from place (told_of part offsets) ≡ cond right (Ok []) (Err BadRestarts)
tested_end part offsets place key_len now has right w none is met = by (entries_in part) refl (IsWalked-end part offsets place key_len now has w (omega (arith, none, length-drop place part, w.within)) is)
  where
    ended : (entries : List (Entry (List ℕ))) (right : Bool) → entries_from place entries ≡ [] → left_from place (cond right (Ok entries) (Err BadRestarts)) ≡ cond right (Ok []) (Err BadRestarts)
    ended entries true from = ap Ok from
    ended entries false from = refl

    by : (r : Told) → entries_in part ≡ r → Ok (are_met has now) ≡ (r >>= λ entries. Ok (right_restarts entries offsets)) → left_from place (r >>= λ entries. cond (right_restarts entries offsets) (Ok entries) (Err BadRestarts)) ≡ cond right (Ok []) (Err BadRestarts)
    by (Err fault) e told = absurd cc
    by (Ok entries) e told =
        let same : right_restarts entries offsets ≡ right = let t : are_met has now ≡ right_restarts entries offsets = cc in sym t ∙ sym met in
        let from = ap (λ (r : Told). entries_from place (entries_or_none r)) (sym e) ∙ seen_at_end part place (walked_reads part offsets place key_len now entries w e) none in
        ap (λ right. left_from place (cond right (Ok entries) (Err BadRestarts))) same ∙ ended entries right from

-- where an entry doesn't read
pub tested_fault : (part offsets : List ℕ) (place : ℕ) (why : BlockFault) → Err why ≡ restarts_in part offsets → left_from place (told_of part offsets) ≡ Err why
tested_fault part offsets place why told = by (entries_in part) told
  where
    by : (r : Told) → Err why ≡ (r >>= λ entries. Ok (right_restarts entries offsets)) → left_from place (r >>= λ entries. cond (right_restarts entries offsets) (Ok entries) (Err BadRestarts)) ≡ Err why
    by (Ok entries) told = absurd cc
    by (Err other) told = let same : why ≡ other = cc in ap Err (sym same)

-- what is found of what is left is found of all
pub record IsRest (first rest : Told) : Type 0 where
  pub fault : (why : BlockFault) → rest ≡ Err why → first ≡ Err why
  pub reads : (entries : List (Entry (List ℕ))) → rest ≡ Ok entries → (all : List (Entry (List ℕ))) × (first ≡ Ok all)

pub rest_of_all : (all : Told) → IsRest all all
rest_of_all all = record { fault = λ why e. e; reads = λ entries e. (entries, e) }

pub rest_further : (first : Told) (old new : TestedSeen) (raw : RawEntry) → Gives old raw new → IsRest first old.left → IsRest first new.left
rest_further first old new raw gives so_far = record {
  fault = λ why e. so_far.fault why (gives.left ∙ ap (preceded (entry_of old.place old.key raw)) e);
  reads = λ entries e. so_far.reads _ (gives.left ∙ ap (preceded (entry_of old.place old.key raw)) e);
}
