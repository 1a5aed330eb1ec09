use Rattle.std.proofs.Common.{◌++◌, sym, ap, ◌∙◌}
use Rattle.std.specs.Prelude.{codes}
use Rattle.std.proofs.lemmas.Result.{on_ok_weaker}
use Rattle.rk_bytes.specs.Model.Lines.{batch_fault_words, then_number}
use Rattle.rk_text.proofs.line.Line.put_fault.Goals as goal

pub returns-in-UnsupportedTag : goal.returns-in-UnsupportedTag
returns-in-UnsupportedTag c =
    on_ok_weaker c.put_with_number-in-UnsupportedTag.result
    (λ put. put ∙ ap (λ tag. c.args.self.now ++ (codes "UnsupportedTag" ++ then_number tag)) c.from.ensures ∙ ap (λ fault. c.args.self.now ++ batch_fault_words fault) (sym c.in-UnsupportedTag.is))
    c.put_with_number-in-UnsupportedTag.ensures

pub returns-in-SequenceTop : goal.returns-in-SequenceTop
returns-in-SequenceTop c =
    on_ok_weaker c.put-in-SequenceTop.result (λ put. put ∙ ap (λ fault. c.args.self.now ++ batch_fault_words fault) (sym c.in-SequenceTop.is)) c.put-in-SequenceTop.ensures
