use Rattle.std.proofs.Common.{Ok, Err, sym, ap, ◌∙◌}
use Rattle.std.proofs.lemmas.Result.{err_from_is_err_and}
use Rattle.rk_block.proofs.ReadLemmas.{faulty_parts, faulty_entries, wrong_restarts, right_block}
use Rattle.rk_block.proofs.view.BlockView.read.Goals as goal

pub returns-in_err-entries : goal.returns-in_err-entries
returns-in_err-entries c =
    let told = err_from_is_err_and c.from_residual.result c.from_residual.ensures.1 in
    told.1 ∙ ap Err told.2 ∙ faulty_parts c.args.bytes.now c.in_err-entries.field-0.0 c.in_err-entries.ensures.parts

pub returns-in_err-has_right_restarts : goal.returns-in_err-has_right_restarts
returns-in_err-has_right_restarts c =
    let told = err_from_is_err_and c.from_residual-in_err-has_right_restarts.result c.from_residual-in_err-has_right_restarts.ensures.1 in
    told.1 ∙ ap Err told.2
    ∙ faulty_entries c.args.bytes.now c.in_ok-entries.field-0.entries.now c.in_ok-entries.field-0.restarts.left c.in_err-has_right_restarts.field-0.0 c.in_ok-entries.ensures.parts c.in_err-has_right_restarts.ensures

pub returns-then-branch : goal.returns-then-branch
returns-then-branch c =
    let block = right_block c.args.bytes.now c.in_ok-entries.field-0.entries.now c.in_ok-entries.field-0.restarts.left c.in_ok-entries.ensures.parts (ap Ok (sym c.if-branch.true) ∙ c.in_ok-has_right_restarts.ensures) in
    block.1

pub returns-else-branch : goal.returns-else-branch
returns-else-branch c = wrong_restarts c.args.bytes.now c.in_ok-entries.field-0.entries.now c.in_ok-entries.field-0.restarts.left c.in_ok-entries.ensures.parts (ap Ok (sym c.if-branch.false) ∙ c.in_ok-has_right_restarts.ensures)
