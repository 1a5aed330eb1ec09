use Rattle.std.proofs.Common.{map, Ok, ap, ◌∙◌, inl}
use Rattle.rk_block.specs.Seen.{EntriesSeen}
use Rattle.rk_meta.specs.declared.properties.PropFault.TheVariants.{Block}
use Rattle.rk_meta.specs.Walk.{property_of}
use Rattle.rk_meta.proofs.BlockLemmas.{properties_of, properties_of-fault}
use Rattle.rk_meta.proofs.properties.read_properties.Goals as goal

pub returns-in-Ok-properties_in : goal.returns-in-Ok-properties_in
returns-in-Ok-properties_in c =
    inl (ap Ok c.in-Ok-properties_in.ensures ∙ ap (λ (seen : EntriesSeen). Ok (map property_of seen.left)) c.entries.ensures ∙ properties_of Block c.args.block.now c.in-Ok.view c.in-Ok.ensures)

pub returns-in-Err : goal.returns-in-Err
returns-in-Err c = inl (properties_of-fault Block c.args.block.now c.in-Err.fault c.in-Err.ensures)
