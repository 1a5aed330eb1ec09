use Rattle.std.proofs.Common.{IfSome, subst}
use Rattle.rk_bytes.specs.Model.DiskImages.{contents_told}
use Rattle.rk_table.specs.declared.status.Status.{Status}
use Rattle.rk_table.specs.Runs.{IsStatus}
use Rattle.rk_cache.specs.Answers.{table_in}
use Rattle.rk_sst.proofs.OpenLemmas.{opens_good}
use Rattle.rk_sst.proofs.open.open_sized.Goals as goal

pub returns-in-Good-clause-table : goal.returns-in-Good-clause-table
returns-in-Good-clause-table g c =
    let told = contents_told (g.D.Disk.told c.args.disk.now) in
    let is = subst (λ (s : Status). IfSome told (λ files. IsStatus s (table_in files c.args.number))) c.in-Good.is c.in_ok-table.ensures.status in
    opens_good told c.args.number c.args.file_len c.in-Good.table c.read_status.new.self c.requires.there is c.in_ok-table.ensures.holds
