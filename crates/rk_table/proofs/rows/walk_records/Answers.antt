use Rattle.std.proofs.Common.{List, [], ◌∷◌, ◌++◌, ℕ, Option, Ok, sym, ap, ◌∙◌, subst}
use Rattle.rk_table.specs.declared.walk.Checked.{Checked}
use Rattle.rk_table.specs.Told.{value_of}
use Rattle.rk_bytes.specs.declared.model.key.Record.{Record}
use Rattle.rk_bytes.specs.Model.TableStatus.{record_in}
use Rattle.rk_table.specs.Walks.{Steps, handed_out}
use Rattle.rk_table.proofs.RowLemmas.{Gathering, gathering_on, gathered_none, block_records_are}
use Rattle.rk_table.proofs.rows.walk_records.Goals as goal

pub loop-records-preserved : goal.loop-records-preserved
loop-records-preserved c =
    let l = c.loop-records in
    let out = subst (λ (o : Option Checked). Steps l.walk (Ok o) c.next.new.self) c.in-Some.is c.in_ok-checked.ensures in
    let pushed = c.in_ok-push_record.ensures.ok ∙ ap (λ (key : List ℕ). l.records ++ record_in c.args.family (handed_out c.in-Some.checked key) ∷ []) c.key.ensures in
    subst (λ (records : List Record). Gathering c.args.family c.in_ok-walk.walk c.next.new.self records) (sym pushed)
    (gathering_on c.args.family c.in_ok-walk.walk l.walk c.next.new.self l.records c.in-Some.checked l.invariant out)

pub returns : goal.returns
returns c =
    let l = c.loop-records in
    let (walk, told, before) = c.in_ok-walk.ensures in
    let ended = subst (λ (o : Option Checked). Steps l.walk (Ok o) c.next.new.self) c.in_default.is c.in_ok-checked.ensures in
    block_records_are c.args.family c.args.place (value_of c.args.after) c.args.block.now c.in_ok-walk.walk l.records told before
    (l.invariant.all l.records (gathered_none c.args.family l.walk l.records ended.0))
