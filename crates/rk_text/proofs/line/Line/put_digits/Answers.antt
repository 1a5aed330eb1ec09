use Rattle.std.proofs.Common.{◌++◌, ap, ◌∙◌}
use Rattle.std.proofs.lemmas.Result.{on_ok_weaker}
use Rattle.rk_text.proofs.QuoteLemmas.{front_spelled}
use Rattle.rk_text.proofs.line.Line.put_digits.Goals as goal

pub returns : goal.returns
returns c =
    on_ok_weaker c.put.result
    (λ put. put ∙ ap (λ text. c.args.self.now ++ text) (front_spelled _ c.args.chunk.now _ c.digits-text.result c.digits-text.ensures c.copy_from_slice.ensures.after))
    c.put.ensures
