use Rattle.std.proofs.Common.{◌∙◌}
use Rattle.rk_tablew.proofs.PartLemmas.{Ends-written}
use Rattle.rk_tablew.proofs.end.with_end.Goals as goal

pub returns : goal.returns
returns c =
    Ends-written c.args.data_blocks c.put_any.new.out c.put_block.new.out c.put_block-2.new.out c.put_block-3.new.out c.put_footer.new.out c.args.ranges.now c.in_ok-ranges_handle.ranges_handle
    c.args.properties.now c.as_slice.result.now c.args.index.now c.in_ok-properties_handle.properties_handle c.in_ok-metaindex_handle.metaindex_handle c.in_ok-index_handle.index_handle
    c.in_ok-ranges_handle.ensures c.in_ok-properties_handle.ensures (c.as_slice.ensures ∙ c.in_ok-metaindex.ensures) c.in_ok-metaindex_handle.ensures c.in_ok-index_handle.ensures c.in_ok-put_footer.ensures
