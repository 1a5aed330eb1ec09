use Rattle.std.proofs.Common.{◌≡◌, ◌∙◌, ◌<◌, false, length, sym, ap, subst}
use Rattle.std.specs.FinMap.{contains_key}
use Rattle.std.specs.List.{All}
use Rattle.rk_bytes.specs.declared.model.key.Record.{Record}
use Rattle.rk_bytes.specs.Model.Records.{slot_of, last_records, over}
use Rattle.rk_view.specs.Maps.{map_of, run_map}
use Rattle.rk_view.proofs.AttachLemmas.{map_of-set}
use Rattle.rk_view.proofs.runs.attach.Goals as goal

pub returns-in-Ok-clause-map : goal.returns-in-Ok-clause-map
returns-in-Ok-clause-map c =
    let runs = c.loop-index.runs in
    let same = c.loop-index.invariant.same in
    let list = c.args.records.items in
    let within : c.loop-index.index < length runs = subst (λ rs. c.loop-index.index < length rs) (sym same) c.loop-index-test.true in
    let free = subst (λ rs. All (λ (r : Record). contains_key (map_of rs) (slot_of r) ≡ false) list) (sym same) c.requires.free in
    map_of-set runs c.loop-index.index c.index-runs-index.result c.take_in.new.self list within c.index-runs-index.is (c.in-Ok.ensures.ok ∙ ap (λ run. over (run_map run) (run_map c.loop-index.left.items)) (sym c.index-runs-index.is) ∙ ap (λ rs. over (run_map c.index-runs-index.result) (run_map rs)) c.loop-index.invariant.left) free c.requires.records.rises
    ∙ ap (λ rs. over (map_of rs) (last_records list)) same
