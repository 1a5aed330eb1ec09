use Rattle.std.proofs.Common.{◌≡◌, ◌≤◌, ap, ◌∙◌, subst, Ok}
use Rattle.rk_bytes.specs.Model.InternalKey.{top_sequence}
use Rattle.rk_bytes.specs.Model.WriteBatch.{batch_of}
use Rattle.rk_bytes.specs.Model.Writers.{batch_bytes}
use Rattle.rk_batch.specs.Building.{Building, parts_from}
use Rattle.rk_batch.proofs.BuilderLemmas.{finished, batch-written}
use Rattle.rk_batch.proofs.builder.BatchBuilder.finish.Goals as goal

pub returns-clause-bytes : goal.returns-clause-bytes
returns-clause-bytes c =
    finished c.self.inside.sequence c.self.inside.count c.self.inside.out c.with_count.result c.self.invariant c.with_count.ensures
    ∙ ap (λ (b : Building). batch_bytes b.sequence b.records) c.self.view_is

pub returns-clause-reads : goal.returns-clause-reads
returns-clause-reads c =
    let whole = finished c.self.inside.sequence c.self.inside.count c.self.inside.out c.with_count.result c.self.invariant c.with_count.ensures in
    let read = λ (below : c.self.inside.sequence ≤ top_sequence). ap batch_of whole ∙ batch-written c.self.inside.sequence c.self.inside.count c.self.inside.out c.self.invariant below in
    subst (λ (b : Building). b.sequence ≤ top_sequence → batch_of c.with_count.result ≡ Ok (record { sequence = b.sequence; parts = parts_from 12 b.records })) c.self.view_is read
