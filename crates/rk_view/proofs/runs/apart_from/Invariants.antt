use Rattle.std.proofs.Common.{◌≡◌, ℕ, ◌<◌, Bool, List, true, None, length, get_or}
use Rattle.std.specs.List.{All}
use Rattle.rk_bytes.specs.declared.model.key.Record.{Record}
use Rattle.rk_bytes.specs.Model.Records.{slot_of}
use Rattle.rk_view.specs.Maps.{look}
use Rattle.rk_view.proofs.runs.apart_from.Given as goal

abbrev pub invariant-loop-index : goal.invariant-loop-index
invariant-loop-index l = record {
  len : length l.apart ≡ 32;
  marks : (k : ℕ) (mark : Bool) (run : List Record) → k < l.index → get_or l.apart k mark ≡ true → All (λ (r : Record). look (slot_of r) (get_or l.runs k run) ≡ None) l.records;
}
