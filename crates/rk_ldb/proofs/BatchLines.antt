-- The lines of a write batch.
use Rattle.std.proofs.Common.{◌≡◌, ℕ, Bool, List, [], ◌∷◌, map, Result, Ok, Err, refl, sym, ap, ◌∙◌}
use Rattle.rk_bytes.specs.declared.model.batch.BatchFault.{BatchFault}
use Rattle.rk_bytes.specs.Model.WriteBatch.{Batch, batch_of}
use Rattle.rk_bytes.specs.Model.Lines.{batch_line, part_line, bad_line, batch_fault_words, batch_lines}
use Rattle.rk_batch.specs.Seen.{BatchSeen}
use Rattle.rk_batch.specs.Read.{ReadAs}

abbrev lines_of : Bool → Result Batch BatchFault → List (List ℕ)
lines_of hex (Ok batch) = batch_line batch ∷ map (part_line hex) batch.parts
lines_of hex (Err why) = bad_line (batch_fault_words why) ∷ []

these_lines : (hex : Bool) (payload : List ℕ) → batch_lines hex payload ≡ lines_of hex (batch_of payload)
unfolding batch_lines
these_lines hex payload = by (batch_of payload)
  where
    by : (read : Result Batch BatchFault) → elim read [ Ok batch ↦ batch_line batch ∷ map (part_line hex) batch.parts | Err why ↦ bad_line (batch_fault_words why) ∷ [] ] ≡ lines_of hex read
    by (Ok batch) = refl
    by (Err why) = refl

pub good_lines : (hex : Bool) (payload : List ℕ) (seen : BatchSeen) → ReadAs (Ok seen) (batch_of payload) → batch_lines hex payload ≡ batch_line seen.batch ∷ map (part_line hex) seen.left
good_lines hex payload seen read = these_lines hex payload ∙ by (batch_of payload) read
  where
    by : (r : Result Batch BatchFault) → ReadAs (Ok seen) r → lines_of hex r ≡ batch_line seen.batch ∷ map (part_line hex) seen.left
    by (Ok batch) same = ap (λ (seen : BatchSeen). batch_line seen.batch ∷ map (part_line hex) seen.left) (sym same)
    by (Err why) same = absurd same

pub bad_lines : (hex : Bool) (payload : List ℕ) (fault : BatchFault) → ReadAs (Err fault) (batch_of payload) → batch_lines hex payload ≡ bad_line (batch_fault_words fault) ∷ []
bad_lines hex payload fault read = these_lines hex payload ∙ by (batch_of payload) read
  where
    by : (r : Result Batch BatchFault) → ReadAs (Err fault) r → lines_of hex r ≡ bad_line (batch_fault_words fault) ∷ []
    by (Ok batch) same = absurd same
    by (Err why) same = ap (λ why. bad_line (batch_fault_words why) ∷ []) (sym same)
