use Rattle.std.proofs.Common.{◌≡◌, ◌++◌, map, take, drop}
use Rattle.rk_bytes.specs.Model.Opening.{of_family}
use Rattle.rk_open.proofs.read.set_family.Given as goal

-- the records so far are under the family, and the others are as they were
abbrev pub invariant-loop-record : goal.invariant-loop-record
invariant-loop-record l = l.records ≡ map (of_family l.family) (take l.record-index l.initial.records) ++ drop l.record-index l.initial.records
