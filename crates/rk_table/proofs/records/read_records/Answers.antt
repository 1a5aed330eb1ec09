use Rattle.std.proofs.Common.{◌∙◌, Option, Ok, refl, subst}
use Rattle.rk_table.specs.declared.walk.Checked.{Checked}
use Rattle.rk_table.specs.Told.{value_of}
use Rattle.rk_table.specs.Walks.{Steps}
use Rattle.rk_table.proofs.WalkLemmas.{records_are}
use Rattle.rk_table.proofs.records.read_records.Goals as goal

pub returns : goal.returns
returns c =
    let (walk, told, before) = c.in_ok-walk.ensures in
    let out = subst (λ (o : Option Checked). Steps c.in_ok-walk.walk (Ok o) c.next.new.self) c.in-Some.is c.in_ok-record.ensures in
    records_are (value_of c.args.before) _ c.in_ok-walk.walk c.next.new.self c.in-Some.record (c.in_ok-entries.entries, c.in_ok-entries.top) c.count_rest.new.walk.key _
    told before out c.in_ok-entries.ensures refl refl (c.in_ok-first.ensures.ok ∙ c.key.ensures) (c.in_ok-last.ensures.ok ∙ c.key-2.ensures)
