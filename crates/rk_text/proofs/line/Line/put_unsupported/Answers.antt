use Rattle.std.proofs.Common.{◌++◌}
use Rattle.std.specs.Prelude.{codes}
use Rattle.std.proofs.lemmas.Result.{on_ok_weaker}
use Rattle.rk_bytes.specs.Model.Lines.{table_what_words, then_number}
use Rattle.rk_text.proofs.EditLemmas.{then_put}
use Rattle.rk_text.proofs.line.Line.put_unsupported.Goals as goal

pub returns : goal.returns
returns c =
    on_ok_weaker c.put_table_what.result
    (λ put. then_put c.args.self.now (codes "UnsupportedTable" ++ then_number c.args.n ++ codes " ") (table_what_words c.args.what) c.put_led.new.self c.put_table_what.new.self c.in_ok-put_led.ensures put)
    c.put_table_what.ensures
