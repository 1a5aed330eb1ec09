use Rattle.std.proofs.Common.{IfSome, sym, subst}
use Rattle.std.specs.FinMap.{get}
use Rattle.rk_bytes.specs.Model.DiskImages.{contents_told}
use Rattle.rk_bytes.specs.declared.model.open.OpenErr.{OpenErr}
use Rattle.rk_bytes.specs.Model.Opening.{table_file}
use Rattle.rk_sst.specs.Seen.{OpenSeen}
use Rattle.rk_sst.specs.Opened.{Opens, OpensGood}
use Rattle.rk_open.specs.Answers.{RefusesAs}
use Rattle.rk_open.specs.Tables.{listed_of, IsListed}
use Rattle.std.specs.Prelude.{Err}
use Rattle.rk_open.proofs.TableLemmas.{opens_in, refused_in}
use Rattle.rk_open.proofs.open_listed.open_table.Goals as goal

pub returns-in-Ok-clause-opened : goal.returns-in-Ok-clause-opened
returns-in-Ok-clause-opened g c =
    let o = contents_told (g.D.Disk.told c.args.disk.now) in
    let listed = listed_of c.args.listed.now in
    let opens = subst (λ told. IfSome (contents_told told) (λ d. OpensGood d listed.file.number c.in-Ok.table)) c.in_ok-check_size.ensures.left c.in-Ok.ensures.table in
    subst (λ (seen : OpenSeen). IfSome o (λ d. IsListed d listed seen)) (sym c.set_family.ensures) (opens_in o listed c.in-Ok.table c.in_ok-check_size.ensures.size opens)

pub returns-in-Err-clause-opened : goal.returns-in-Err-clause-opened
returns-in-Err-clause-opened g c =
    let o = contents_told (g.D.Disk.told c.args.disk.now) in
    let listed = listed_of c.args.listed.now in
    let opens = subst (λ told. IfSome (contents_told told) (λ d. Opens d listed.file.number (Err c.in-Err.why))) c.in_ok-check_size.ensures.left c.in-Err.ensures.table in
    subst (λ (why : OpenErr). IfSome o (λ d. RefusesAs (table_file (get d) listed) why)) (sym c.table_fault.ensures) (refused_in o listed c.in-Err.why c.in_ok-check_size.ensures.size opens)
