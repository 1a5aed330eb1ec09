use Rattle.std.proofs.Common.{◌≡◌, ◌∙◌, ap, sym}
use Rattle.std.specs.Prelude.{false}
use Rattle.std.specs.Option.{option_copied}
use Rattle.rk_bytes.specs.declared.model.key.Record.{Record}
use Rattle.rk_view.specs.Sources.{merged}
use Rattle.rk_view.specs.Shown.{is_below}
use Rattle.rk_view.proofs.ValuesLemmas.{values-run}
use Rattle.rk_view.proofs.SourceLemmas.{nothing_first}
use Rattle.rk_view.proofs.RowLemmas.{no_rows, no_rows_past, no_rows_below}
use Rattle.rk_view.proofs.walk.next_key.Goals as goal

pub returns-in-None : goal.returns-in-None
returns-in-None c = λ tombs.
    no_rows tombs c.args.family (option_copied c.args.to) c.args.cursors.now (values-run c.args.cursors.now c.first.ensures.runs) (nothing_first (merged c.args.cursors.now) c.in-None.ensures.first)

pub returns-then-first-family : goal.returns-then-first-family
returns-then-first-family c = λ tombs.
    no_rows_past tombs c.args.family (option_copied c.args.to) c.args.cursors.now (values-run c.args.cursors.now c.first.ensures.runs) c.requires c.in-Some.first.now (sym c.in-Some.ensures.first) c.if-first-family.true

pub returns-else-is_before : goal.returns-else-is_before
returns-else-is_before c = λ tombs.
    let to = option_copied c.args.to in
    let first : Record = c.in-Some.first.now in
    let past : is_below to first.key ≡ false = ap (is_below to) (sym c.as_slice.ensures) ∙ sym c.is_before.ensures ∙ c.if-is_before.false in
    no_rows_below tombs c.args.family to c.args.cursors.now (values-run c.args.cursors.now c.first.ensures.runs) c.requires first (sym c.in-Some.ensures.first) c.if-first-family.false past
