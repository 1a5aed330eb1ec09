use Rattle.std.proofs.Common.{ap, ◌∙◌}
use Rattle.rk_bytes.specs.Model.DiskImages.{contents_told}
use Rattle.rk_open.specs.Best.{manifests_among}
use Rattle.rk_open.proofs.BestLemmas.{manifests_named}
use Rattle.rk_open.proofs.manifests.manifest_numbers.Goals as goal

pub returns-in-Ok-numbers_in_order-clause-numbers : goal.returns-in-Ok-numbers_in_order-clause-numbers
returns-in-Ok-numbers_in_order-clause-numbers g c =
    manifests_named (contents_told (g.D.Disk.told c.args.disk.now)) c.in-Ok.names c.in-Ok-numbers_in_order.numbers.items c.in-Ok.ensures.names (c.in-Ok-numbers_in_order.ensures ∙ ap manifests_among c.as_slice.ensures)
