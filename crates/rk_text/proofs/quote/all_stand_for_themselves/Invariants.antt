use Rattle.std.proofs.Common.{◌≡◌, take}
use Rattle.std.specs.List.{list_all}
use Rattle.rk_bytes.specs.Model.Lines.{stands_for_itself}
use Rattle.rk_text.proofs.quote.all_stand_for_themselves.Given as goal

abbrev pub invariant-loop-byte : goal.invariant-loop-byte
invariant-loop-byte l = l.all ≡ list_all stands_for_itself (take l.byte-index l.bytes)
