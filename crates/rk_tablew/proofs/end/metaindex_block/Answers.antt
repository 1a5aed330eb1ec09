use Rattle.std.proofs.Common.{◌≡◌, ap, ◌∙◌}
use Rattle.std.specs.Prelude.{codes}
use Rattle.std.proofs.lemmas.Result.{IfOk-weaker}
use Rattle.rk_bytes.specs.Model.Writers.{block_bytes, handle_bytes}
use Rattle.rk_block.specs.Building.{Building, built_block, with_entry}
use Rattle.rk_tablew.specs.Parts.{metaindex_entries, range_handle_entries, with_entries}
use Rattle.rk_tablew.proofs.end.metaindex_block.Goals as goal

pub returns : goal.returns
returns c =
    let built = c.in_ok-put_ranges.ensures ∙ ap (λ (b : Building). with_entries b (range_handle_entries c.args.ranges))
    (c.in_ok-put_named.ensures.added ∙ ap (λ (b : Building). with_entry b (codes "rocksdb.properties") (handle_bytes c.args.properties)) c.new-metaindex.ensures.empty) in
    IfOk-weaker c.finish.result (λ block. block ≡ built_block c.put_ranges.new.metaindex) (λ block. block ≡ block_bytes 1 (metaindex_entries c.args.properties c.args.ranges))
    (λ block is. is ∙ ap built_block built) c.finish.ensures.block
