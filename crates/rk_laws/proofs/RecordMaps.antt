-- The last records of a list.
use Rattle.std.proofs.Common.{◌≡◌, List, ◌++◌, map, reverse, sym, ap, ◌∙◌}
use Rattle.std.proofs.lemmas.List.{reverse-append, map-append}
use Rattle.std.specs.Option.{option_or}
use Rattle.std.specs.FinMap.{get, same_map}
use Rattle.std.specs.FinMap.Entries.{find}
use Rattle.rk_bytes.specs.declared.model.key.Record.{Record}
use Rattle.rk_bytes.specs.Model.Records.{Slot, slot_cmp, slotted, last_records, over, find-append}
pub use Rattle.rk_bytes.specs.Model.Records.{entry_of, get-last_records, get-over}
use Rattle.rk_laws.proofs.Orders.{slot_cmp-total, slot_cmp-only_equal}

get-append : (a b : List Record) (q : Slot) → get (last_records (a ++ b)) q ≡ get (over (last_records a) (last_records b)) q
get-append a b q =
    get-last_records (a ++ b) q
    ∙ ap (find slot_cmp q) (ap (map entry_of) (reverse-append a b) ∙ map-append entry_of (reverse b) (reverse a))
    ∙ find-append q (slotted b) (slotted a)
    ∙ (λ i. option_or (sym (get-last_records b q) i) (sym (get-last_records a q) i))
    ∙ sym (get-over (last_records a) (last_records b) q)

pub last_records-append : (a b : List Record) → last_records (a ++ b) ≡ over (last_records a) (last_records b)
last_records-append a b =
    same_map slot_cmp-total slot_cmp-only_equal (last_records (a ++ b)) (over (last_records a) (last_records b)) (get-append a b)
