use Rattle.std.proofs.Common.{◌≡◌, ◌*◌, length, take}
use Rattle.hex.specs.Hex.{encode_lower}
use Rattle.rk_text.proofs.quote.digits.Given as goal

abbrev pub invariant-loop-index : goal.invariant-loop-index
invariant-loop-index l = record {
  len : length l.text ≡ 64;
  spelled : take (2 * l.index) l.text ≡ encode_lower (take l.index l.bytes);
}
