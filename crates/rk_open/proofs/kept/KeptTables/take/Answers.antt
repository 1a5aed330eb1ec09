use Rattle.std.proofs.Common.{IfSome, refl, sym, subst}
use Rattle.rk_open.specs.Reads.{IsKept, unlisted}
use Rattle.rk_open.specs.Tables.{listed_of}
use Rattle.rk_open.proofs.WholeLemmas.{read_alike}
use Rattle.rk_open.proofs.kept.KeptTables.take.Goals as goal

pub returns-clause-table : goal.returns-clause-table
returns-clause-table c = λ disk kept.
    let listed = c.args.listed.now in
    let found = c.in_ok-file.field-0 in
    let alike = c.if-not-is_alike.ensures in
    read_alike disk (unlisted found.file) (listed_of listed) found.table c.under_family.result
    (record { number = alike.number refl; size = alike.size refl; smallest = alike.smallest refl; largest = alike.largest refl })
    c.under_family.ensures.run c.under_family.ensures.ranges
    (subst (λ found. IfSome found (IsKept disk)) (sym c.in_ok-file.ensures.value) (kept listed.file.now.number))
