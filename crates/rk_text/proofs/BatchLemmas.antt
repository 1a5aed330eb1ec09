-- The lines of the batch that was read.
use Rattle.std.proofs.Common.{◌≡◌, ℕ, Bool, List, [], ◌∷◌, map, sym, ap, ◌∙◌, Result, Ok, Err}
use Rattle.std.proofs.lemmas.List.{append-nil}
use Rattle.rk_bytes.specs.declared.model.batch.BatchFault.{BatchFault}
use Rattle.rk_bytes.specs.Model.WriteBatch.{Batch, batch_of}
use Rattle.rk_bytes.specs.Model.Lines.{part_line, batch_line, bad_line, batch_fault_words, batch_lines}
use Rattle.rk_bytes.specs.Model.Output.{joined}
use Rattle.rk_batch.specs.Seen.{BatchSeen}
use Rattle.rk_batch.specs.Read.{ReadAs}

abbrev lines_of : Bool → Result Batch BatchFault → List (List ℕ)
lines_of hex read = elim read [
  | Ok batch ↦ batch_line batch ∷ map (part_line hex) batch.parts
  | Err why ↦ bad_line (batch_fault_words why) ∷ []
]

abbrev seen_lines : Bool → BatchSeen → List (List ℕ)
seen_lines hex seen = batch_line seen.batch ∷ map (part_line hex) seen.left

whole : (hex : Bool) (seen : BatchSeen) (read : Result Batch BatchFault) → ReadAs (Ok seen) read → joined (seen_lines hex seen) ≡ joined (lines_of hex read)
whole hex seen (Ok batch) is = ap (λ seen. joined (seen_lines hex seen)) is
whole hex seen (Err why) is = absurd is

bad : (hex : Bool) (fault : BatchFault) (read : Result Batch BatchFault) → ReadAs (Err fault) read → bad_line (batch_fault_words fault) ≡ joined (lines_of hex read)
bad hex fault (Ok batch) is = absurd is
bad hex fault (Err why) is = ap (λ why. bad_line (batch_fault_words why)) is ∙ sym (append-nil (bad_line (batch_fault_words why)))

pub whole_lines : (hex : Bool) (bytes : List ℕ) (seen : BatchSeen) → ReadAs (Ok seen) (batch_of bytes) → joined (batch_line seen.batch ∷ map (part_line hex) seen.left) ≡ joined (batch_lines hex bytes)
unfolding batch_lines
whole_lines hex bytes seen is = whole hex seen (batch_of bytes) is

pub bad_lines : (hex : Bool) (bytes : List ℕ) (fault : BatchFault) → ReadAs (Err fault) (batch_of bytes) → bad_line (batch_fault_words fault) ≡ joined (batch_lines hex bytes)
unfolding batch_lines
bad_lines hex bytes fault is = bad hex fault (batch_of bytes) is
