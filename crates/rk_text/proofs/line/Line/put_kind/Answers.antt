use Rattle.std.proofs.Common.{◌++◌, sym, ap, ◌∙◌}
use Rattle.std.specs.Prelude.{codes}
use Rattle.std.proofs.lemmas.Result.{on_ok_weaker}
use Rattle.rk_bytes.specs.Model.Lines.{kind_words, then_number}
use Rattle.rk_text.proofs.line.Line.put_kind.Goals as goal

pub returns-in-Unsupported : goal.returns-in-Unsupported
returns-in-Unsupported c =
    on_ok_weaker c.put_with_number.result
    (λ put. put ∙ ap (λ number. c.args.self.now ++ (codes "Unsupported" ++ then_number number)) c.from.ensures ∙ ap (λ kind. c.args.self.now ++ kind_words kind) (sym c.in-Unsupported.is))
    c.put_with_number.ensures
