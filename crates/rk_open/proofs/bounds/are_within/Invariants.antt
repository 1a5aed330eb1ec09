use Rattle.std.proofs.Common.{◌≡◌, ◌≤◌, drop}
use Rattle.std.specs.List.{AllByRecursion, list_all}
use Rattle.rk_bytes.specs.declared.model.key.Record.{Record}
use Rattle.rk_bytes.specs.Model.InternalKey.{top_sequence}
use Rattle.rk_bytes.specs.Model.KeyView.{lies_within, key_of}
use Rattle.rk_open.proofs.bounds.are_within.Given as goal

-- what is left to test decides
abbrev pub invariant-loop-one : goal.invariant-loop-one
invariant-loop-one l = record {
  sequences : AllByRecursion (λ (r : Record). r.sequence ≤ top_sequence) (drop l.one-index l.records);
  same :
      list_all (λ (r : Record). lies_within l.file.smallest l.file.largest (key_of r)) (drop l.one-index l.records)
      ≡ list_all (λ (r : Record). lies_within l.file.smallest l.file.largest (key_of r)) l.records;
}
