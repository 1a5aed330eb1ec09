use Rattle.rk_bytes.specs.Model.Lines.{entry_line}
use Rattle.rk_sst.proofs.LineLemmas.{IsPut}
use Rattle.rk_sst.proofs.lines.put_entries.Given as goal

-- the lines of those before are put
abbrev pub invariant-loop-record : goal.invariant-loop-record
invariant-loop-record l = IsPut (entry_line l.hex) l.records l.initial.text l.record-index l.text
