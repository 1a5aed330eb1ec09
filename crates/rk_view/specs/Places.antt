-- Places among records that stand in the order of their slots.
use Rattle.std.specs.Prelude.{ℕ, Bool, List, not}
use Rattle.std.specs.Ordering.{nat_cmp, ordering_then, is_lt}
use Rattle.std.specs.Cmp.Lexicographic.{slice_cmp}
use Rattle.rk_bytes.specs.declared.model.key.Record.{Record}
use Rattle.rk_bytes.specs.Model.InternalKey.{packed_of}
use Rattle.rk_bytes.specs.Model.Records.{Slot, slot_cmp, slot_of}

-- The record comes after the records of a family's key whose numbers aren't below a limit: it is one of that key
-- with a number below the limit, or one of a later key, or one of a later family.
abbrev pub is_after : ℕ → List ℕ → ℕ → Record → Bool
is_after family user below r =
    is_lt (ordering_then (nat_cmp family r.family) (ordering_then (slice_cmp nat_cmp user r.key) (nat_cmp (packed_of r.sequence r.kind) below)))

-- the record has the slot or a later one
abbrev pub is_from : Slot → Record → Bool
is_from q r = not (is_lt (slot_cmp (slot_of r) q))
