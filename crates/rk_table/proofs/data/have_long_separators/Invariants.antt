use Rattle.std.proofs.Common.{◌≡◌, drop, length, nat_le}
use Rattle.std.specs.List.{list_all}
use Rattle.rk_bytes.specs.declared.model.block.IndexEntry.{IndexEntry}
use Rattle.rk_table.proofs.data.have_long_separators.Given as goal

abbrev pub invariant-loop-entry : goal.invariant-loop-entry
invariant-loop-entry l = list_all (λ (entry : IndexEntry). nat_le 8 (length entry.separator)) (drop l.entry-index l.index) ≡ list_all (λ (entry : IndexEntry). nat_le 8 (length entry.separator)) l.index
