use Rattle.std.proofs.Common.{◌++◌, sym, ap, ◌∙◌}
use Rattle.std.specs.Prelude.{codes}
use Rattle.std.proofs.lemmas.Result.{on_ok_weaker}
use Rattle.rk_bytes.specs.Model.Lines.{wal_err_words, then_number}
use Rattle.rk_text.proofs.line.Line.put_wal_err.Goals as goal

pub returns-in-FamilyAhead : goal.returns-in-FamilyAhead
returns-in-FamilyAhead c =
    on_ok_weaker c.put_numbers.result
    (λ put. put ∙ ap (λ family. c.args.self.now ++ (codes "FamilyAhead" ++ then_number family ++ then_number c.in-FamilyAhead.log)) c.from.ensures ∙ ap (λ why. c.args.self.now ++ wal_err_words why) (sym c.in-FamilyAhead.is))
    c.put_numbers.ensures
