use Rattle.std.proofs.Common.{◌++◌, ◌∷◌, [], length, ap, ◌∙◌, append_assoc}
use Rattle.std.specs.Prelude.{codes}
use Rattle.std.proofs.lemmas.Result.{on_ok_weaker}
use Rattle.rk_bytes.specs.Model.Lines.{then_number}
use Rattle.rk_text.proofs.line.Line.put_log_bytes.Goals as goal

pub returns : goal.returns
returns c =
    on_ok_weaker c.end.result
    (λ ended. ended ∙ ap (λ text. text ++ 10 ∷ []) c.in_ok-put_with_number.ensures ∙ append_assoc c.args.self.now (codes "  log_bytes" ++ then_number (length c.args.bytes.now)) (10 ∷ []))
    c.end.ensures
