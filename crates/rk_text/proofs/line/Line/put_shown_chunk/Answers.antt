use Rattle.std.proofs.Common.{◌++◌, sym, ap, ◌∙◌}
use Rattle.std.proofs.lemmas.Result.{on_ok_weaker}
use Rattle.rk_text.proofs.QuoteLemmas.{shown_plain}
use Rattle.rk_text.proofs.line.Line.put_shown_chunk.Goals as goal

pub returns-then-all_stand_for_themselves : goal.returns-then-all_stand_for_themselves
returns-then-all_stand_for_themselves c =
    on_ok_weaker c.put.result
    (λ put. put ∙ ap (λ text. c.args.self.now ++ text) (sym (shown_plain c.args.chunk.now (sym c.all_stand_for_themselves.ensures ∙ c.if-all_stand_for_themselves.true))))
    c.put.ensures
