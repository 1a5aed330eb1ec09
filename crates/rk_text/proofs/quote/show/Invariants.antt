use Rattle.std.proofs.Common.{◌≡◌, ◌*◌, ◌≤◌, take}
use Rattle.std.specs.Prelude.{flat_map}
use Rattle.rk_bytes.specs.Model.Lines.{shown_byte}
use Rattle.rk_text.proofs.quote.show.Given as goal

abbrev pub invariant-loop-byte : goal.invariant-loop-byte
invariant-loop-byte l = record {
  within : l.len ≤ 4 * l.byte-index;
  shown : take l.len l.buffer ≡ flat_map shown_byte (take l.byte-index l.chunk);
}
