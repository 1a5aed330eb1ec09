use Rattle.std.proofs.Common.{sym, ap, subst, ◌∙◌}
use Rattle.rk_bytes.specs.Model.LogItems.{log_items}
use Rattle.rk_log.specs.Writing.{Writing, GivesBack}
use Rattle.rk_log.proofs.ReadBack.{GivesBack-written}
use Rattle.rk_log.proofs.writer.LogWriter.finish.Goals as goal

pub returns-clause-reads : goal.returns-clause-reads
returns-clause-reads c = λ reader payloads same is.
    subst (λ bytes. GivesBack payloads (log_items reader bytes))
    (sym (c.from_vec.ensures ∙ (ap (λ (w : Writing). w.bytes) c.self.view_is ∙ is)))
    (GivesBack-written reader c.args.self.number payloads same)
