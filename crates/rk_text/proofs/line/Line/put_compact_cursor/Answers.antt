use Rattle.std.proofs.Common.{◌++◌}
use Rattle.std.specs.Prelude.{codes}
use Rattle.std.proofs.lemmas.Result.{on_ok_weaker}
use Rattle.rk_bytes.specs.Model.Lines.{key_text, then_number}
use Rattle.rk_text.proofs.EditLemmas.{then_both_put}
use Rattle.rk_text.proofs.line.Line.put_compact_cursor.Goals as goal

pub returns : goal.returns
returns c =
    on_ok_weaker c.put_bound.result
    (λ put. then_both_put c.args.self.now (codes "compact_cursor" ++ then_number c.args.level) (codes " ") (key_text c.args.hex c.args.key.now) c.put_with_id.new.self c.put_bound.new.self c.in_ok-put_with_id.ensures put)
    c.put_bound.ensures
