use Rattle.rk_log.proofs.WriteLemmas.{padded_place-at, Extends-record}
use Rattle.rk_log.proofs.writer.write_record.Goals as goal

pub write_parts-requires : goal.write_parts-requires
write_parts-requires c = padded_place-at c.args.number c.args.out.now.items c.fill_block.new.out.items c.in_ok-fill_block.ensures

pub returns : goal.returns
returns c =
    Extends-record c.write_parts.result c.args.number c.args.payload.now c.args.out.now.items c.fill_block.new.out.items c.write_parts.new.out.items
    c.in_ok-fill_block.ensures c.write_parts.ensures
