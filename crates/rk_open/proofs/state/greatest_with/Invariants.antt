use Rattle.std.proofs.Common.{◌≡◌, map, fold, max, drop}
use Rattle.rk_bytes.specs.declared.model.key.Record.{Record}
use Rattle.rk_open.proofs.state.greatest_with.Given as goal

-- the greatest number so far and those of the records that are left
abbrev pub invariant-loop-record : goal.invariant-loop-record
invariant-loop-record l = fold max l.top (map (λ (r : Record). r.sequence) (drop l.record-index l.records)) ≡ fold max l.fn.top (map (λ (r : Record). r.sequence) l.records)
