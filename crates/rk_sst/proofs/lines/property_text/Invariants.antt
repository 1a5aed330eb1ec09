use Rattle.std.proofs.Common.{[]}
use Rattle.rk_bytes.specs.Model.Lines.{property_line}
use Rattle.rk_sst.proofs.LineLemmas.{IsPut}
use Rattle.rk_sst.proofs.lines.property_text.Given as goal

-- the lines of those before are put
abbrev pub invariant-loop-property : goal.invariant-loop-property
invariant-loop-property l = IsPut (property_line l.hex) l.properties [] l.property-index l.text
