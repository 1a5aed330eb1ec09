use Rattle.std.proofs.Common.{◌≡◌, map, fold, max, drop}
use Rattle.rk_bytes.specs.declared.model.key.Record.{Record}
use Rattle.rk_open.proofs.run.greatest_sequence.Given as goal

abbrev pub invariant-loop-record : goal.invariant-loop-record
invariant-loop-record l = fold max l.top (map (λ (r : Record). r.sequence) (drop l.record-index l.records)) ≡ fold max 0 (map (λ (r : Record). r.sequence) l.records)
