use Rattle.std.proofs.Common.{[], ◌∷◌}
use Rattle.std.specs.Prelude.{codes}
use Rattle.rk_bytes.specs.Model.Numbers.{varint_of}
use Rattle.rk_tablew.proofs.PartLemmas.{added-last}
use Rattle.rk_tablew.proofs.properties.put_both_sizes.Goals as goal

pub returns : goal.returns
returns c =
    added-last c.put_number-2.result c.args.properties.now c.put_number.new.properties c.put_number-2.new.properties ((codes "rocksdb.raw.key.size", varint_of c.args.sizes.keys) ∷ []) (codes "rocksdb.raw.value.size", varint_of c.args.sizes.values)
    c.in_ok-put_number.ensures.added c.put_number-2.ensures.added
