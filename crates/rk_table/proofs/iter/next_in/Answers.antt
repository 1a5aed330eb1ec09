use Rattle.std.proofs.Common.{◌≡◌, ◌∷◌, Option, Some, None, Ok, rules, sym, subst, ap, ◌∙◌}
use Rattle.rk_bytes.specs.declared.model.key.Record.{Record}
use Rattle.rk_table.specs.Told.{value_of}
use Rattle.rk_table.specs.Walks.{handed_out, before_of}
use Rattle.rk_table.specs.Left.{RecordOf, last_of, from_block, entries_left, records_left}
use Rattle.rk_table.proofs.LeftLemmas.{handed_left, one_out, walked, walk_reads, opened_steps}
use Rattle.rk_table.proofs.iter.next_in.Goals as goal
use Rattle.rk_table.proofs.iter.next_in.Goals.{in_default-via-in-None-1, in_default-via-in-Some+in_ok-record+in-None-1}

pub returns : goal.returns
returns c =
    let bytes = c.args.bytes.now in
    let table = c.args.table.now in
    let number = c.args.number.now in
    let new = c.next_of_walk.new.walk in
    let (checked, out, are) = subst (λ (o : Option Record). RecordOf table.family c.in-Some.open (Ok o) new) c.in-Some-2.is c.in_ok-record.ensures in
    let told = ap (entries_left bytes table number) (sym c.in-Some.is) ∙ c.requires.told in
    let (later, rest, split) = one_out table.family (entries_left bytes table number (Some c.in-Some.open)) (entries_left bytes table number (Some new)) (handed_out checked new.key) c.requires.entries (handed_left bytes table number c.in-Some.open new checked out) told in (
      record { entries = later; told = rest; walks = out.walk },
      ap (records_left bytes table number) c.in-Some.is ∙ split ∙ ap (λ (one : Record). one ∷ records_left bytes table number (Some new)) (sym are),
    )

pub next_of_walk-requires-clause-reads : goal.next_of_walk-requires-clause-reads
next_of_walk-requires-clause-reads c =
    let told = ap (entries_left c.args.bytes.now c.args.table.now c.args.number.now) (sym c.in-Some.is) ∙ c.requires.told in
    walk_reads c.args.bytes.now c.args.table.now c.args.number.now c.in-Some.open c.requires.entries told

pub next_of_walk-requires-2-clause-reads : goal.next_of_walk-requires-2-clause-reads
next_of_walk-requires-2-clause-reads c = (c.in_ok-next.ensures.first ∷ c.in_ok-next.ensures.more, c.in_ok-next.ensures.here)

pub returns-2 : goal.returns-2
returns-2 c =
    let bytes = c.args.bytes.now in
    let table = c.args.table.now in
    let number = c.args.number.now in
    let steps = λ (same : entries_left bytes table number c.args.walk.now ≡ from_block bytes table number (value_of c.last_key.result)).
    opened_steps bytes table number c.args.walk.now (value_of c.last_key.result) c.in_ok-next.next c.next_of_walk-2.new.walk c.in_ok-record-2.record c.requires.entries same c.requires.told c.in_ok-next.ensures c.in_ok-record-2.ensures in
    elim c.in_default.branch [
      | in_default-via-in-None-1 w ↦
          let none : c.args.walk.now ≡ None = search rules in
          steps (ap (entries_left bytes table number) none ∙ ap (from_block bytes table number) (sym (c.last_key.ensures.value ∙ ap last_of (w.walk-is ∙ none))))
      | in_default-via-in-Some+in_ok-record+in-None-1 w ↦
          let none : w.in_ok-record.field-0 ≡ None = search rules in
          let ended = subst (λ (o : Option Record). RecordOf table.family w.in-Some.open (Ok o) w.next_of_walk.new.walk) none w.in_ok-record.ensures in
          steps (
          ap (entries_left bytes table number) w.in-Some.is ∙ walked bytes table number w.in-Some.open ended.0
          ∙ ap (from_block bytes table number) (sym (c.last_key.ensures.value ∙ ap last_of w.walk-is ∙ ap before_of ended.1))
          )
    ]
