use Rattle.std.proofs.Common.{◌≡◌, ℕ, ◌<◌, false, get_or, min, take}
use Rattle.std.specs.FinMap.{contains_key, len}
use Rattle.rk_bytes.specs.declared.model.key.Record.{Record}
use Rattle.rk_bytes.specs.Model.Records.{over, slot_of}
use Rattle.rk_view.specs.Maps.{map_of, run_map}
use Rattle.rk_view.specs.Kept.{most}
use Rattle.rk_view.proofs.runs.counted.Given as goal

abbrev pub invariant-loop-sought : goal.invariant-loop-sought
invariant-loop-sought l = record {
  total : l.total ≡ min (len (over (map_of l.runs) (run_map (take l.sought-index l.records)))) most;
  free : l.some ≡ false → (k : ℕ) (d : Record) → k < l.sought-index → contains_key (map_of l.runs) (slot_of (get_or l.records k d)) ≡ false;
}
