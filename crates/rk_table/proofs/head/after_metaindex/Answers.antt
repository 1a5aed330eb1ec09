use Rattle.std.proofs.Common.{sym, subst, ◌∙◌}
use Rattle.std.specs.Prelude.{IfOk, Result, codes}
use Rattle.rk_bytes.specs.Model.BlockEntries.{with_fault, index_entries}
use Rattle.rk_bytes.specs.Model.TableStatus.{index_status, reader_of}
use Rattle.rk_table.specs.declared.stage.Stage.{Stage}
use Rattle.rk_table.specs.declared.stage.Stage.TheVariants.{Metaindex}
use Rattle.rk_table.specs.Stages.{after_metaindex}
use Rattle.rk_table.specs.Steps.{meta_named, Continues}
use Rattle.rk_table.proofs.StageLemmas.{reads, metaindex_read, metaindex_faulty, stopped_continues}
use Rattle.rk_table.proofs.head.after_metaindex.Goals as goal

pub returns-in-Ok-clause-ok : goal.returns-in-Ok-clause-ok
returns-in-Ok-clause-ok c = λ len table hands.
    let footer = c.args.footer in
    c.with_metas.ensures.left table
    ∙ (λ i. after_metaindex (reader_of table footer) footer (meta_named (codes "rocksdb.properties") (c.as_slice.ensures i)) (meta_named (codes "rocksdb.range_del") (c.as_slice.ensures i)))
    ∙ sym (metaindex_read (reader_of table footer) footer c.args.block.now c.in-Ok.metas (reads table footer footer.metaindex c.args.block.now hands) c.in-Ok.ensures)

pub returns-in-Err-clause-ok : goal.returns-in-Err-clause-ok
returns-in-Err-clause-ok c =
    let footer = c.args.footer in
    subst (λ (r : Result Stage Stage). IfOk r (Continues (Metaindex footer) c.args.block.now)) (sym c.stopped.ensures)
    (stopped_continues (Metaindex footer) c.args.block.now (with_fault (index_status footer.metaindex.offset) (index_entries _ c.args.block.now)) c.in-Err.error c.in-Err.ensures
    (λ fault told len table hands. metaindex_faulty (reader_of table footer) footer c.args.block.now fault (reads table footer footer.metaindex c.args.block.now hands) told))
