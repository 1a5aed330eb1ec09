use Rattle.std.proofs.Common.{◌≡◌, ◌≤◌, take}
use Rattle.rk_bytes.specs.Model.Numbers.{high_count, groups_value}
use Rattle.rk_bytes.proofs.varint.read_varint.Given as goal

-- the bytes so far have their top bit set, and their groups make the value
abbrev pub invariant-loop-i : goal.invariant-loop-i
invariant-loop-i l = (l.i ≤ high_count l.bytes) × (l.value ≡ groups_value (take l.i l.bytes))
