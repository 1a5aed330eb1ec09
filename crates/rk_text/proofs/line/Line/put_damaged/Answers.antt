use Rattle.std.proofs.Common.{◌++◌, ap, ◌∙◌, sym, append_assoc}
use Rattle.std.specs.Prelude.{codes}
use Rattle.std.proofs.lemmas.Result.{on_ok_weaker}
use Rattle.rk_bytes.specs.Model.Lines.{table_why_word, then_number}
use Rattle.rk_text.proofs.EditLemmas.{then_both_put}
use Rattle.rk_text.proofs.line.Line.put_damaged.Goals as goal

pub returns : goal.returns
returns c =
    on_ok_weaker c.put_with_number.result
    (λ put. then_both_put c.args.self.now (codes "DamagedTable" ++ then_number c.args.n ++ codes " ") (table_why_word c.args.why) (then_number c.args.place) c.put_led.new.self c.put_with_number.new.self c.in_ok-put_led.ensures
    (put ∙ ap (λ word. c.put_led.new.self ++ (word ++ then_number c.args.place)) (c.as_bytes.ensures.value ∙ c.table_why_word.ensures)
    ∙ sym (append_assoc c.put_led.new.self (table_why_word c.args.why) (then_number c.args.place))))
    c.put_with_number.ensures
