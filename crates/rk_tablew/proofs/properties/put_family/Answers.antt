use Rattle.std.proofs.Common.{[], ◌∷◌}
use Rattle.std.specs.Prelude.{codes}
use Rattle.rk_bytes.specs.Model.Numbers.{fixed_of}
use Rattle.rk_tablew.proofs.PartLemmas.{added-more, added-last}
use Rattle.rk_tablew.proofs.properties.put_family.Goals as goal

pub returns-clause-added : goal.returns-clause-added
returns-clause-added c =
    let old = c.args.properties.now in
    added-last c.add-3.result old c.add-2.new.self c.add-3.new.self ((codes "rocksdb.block.based.table.index.type", fixed_of 4 0) ∷ (codes "rocksdb.column.family.id", c.args.family.now) ∷ []) (codes "rocksdb.column.family.name", c.args.name.now)
    (added-more old c.add.new.self c.add-2.new.self ((codes "rocksdb.block.based.table.index.type", fixed_of 4 0) ∷ []) (codes "rocksdb.column.family.id", c.args.family.now) c.in_ok-add.ensures.ok c.in_ok-add-2.ensures.ok)
    c.add-3.ensures.ok
