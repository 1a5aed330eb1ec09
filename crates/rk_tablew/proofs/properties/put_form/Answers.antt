use Rattle.std.proofs.Common.{[], ◌∷◌}
use Rattle.std.specs.Prelude.{codes}
use Rattle.rk_bytes.specs.Model.Numbers.{varint_of}
use Rattle.rk_bytes.specs.Model.InternalKey.{bytewise_name}
use Rattle.rk_tablew.proofs.PartLemmas.{added-more, added-last}
use Rattle.rk_tablew.proofs.properties.put_form.Goals as goal

pub returns-clause-added : goal.returns-clause-added
returns-clause-added c =
    let old = c.args.properties.now in
    added-last c.add-4.result old c.add-3.new.self c.add-4.new.self ((codes "rocksdb.comparator", bytewise_name) ∷ (codes "rocksdb.index.key.is.user.key", varint_of 0) ∷ (codes "rocksdb.index.value.is.delta.encoded", varint_of 0) ∷ []) (codes "rocksdb.num.entries", c.args.count.now)
    (added-more old c.add-2.new.self c.add-3.new.self ((codes "rocksdb.comparator", bytewise_name) ∷ (codes "rocksdb.index.key.is.user.key", varint_of 0) ∷ []) (codes "rocksdb.index.value.is.delta.encoded", varint_of 0)
    (added-more old c.add.new.self c.add-2.new.self ((codes "rocksdb.comparator", bytewise_name) ∷ []) (codes "rocksdb.index.key.is.user.key", varint_of 0) c.in_ok-add.ensures.ok c.in_ok-add-2.ensures.ok)
    c.in_ok-add-3.ensures.ok)
    c.add-4.ensures.ok
