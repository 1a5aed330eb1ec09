use Rattle.std.proofs.Common.{◌++◌}
use Rattle.std.specs.Prelude.{codes}
use Rattle.std.proofs.lemmas.Result.{on_ok_weaker}
use Rattle.rk_bytes.specs.Model.Lines.{manifest_why_words, then_number}
use Rattle.rk_text.proofs.EditLemmas.{then_put}
use Rattle.rk_text.proofs.line.Line.put_manifest_damage.Goals as goal

pub returns : goal.returns
returns c =
    on_ok_weaker c.put_manifest_why.result
    (λ put. then_put c.args.self.now (codes "ManifestDamaged" ++ then_number c.args.place ++ codes " ") (manifest_why_words c.args.why) c.put_led.new.self c.put_manifest_why.new.self c.in_ok-put_led.ensures put)
    c.put_manifest_why.ensures
