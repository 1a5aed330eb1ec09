use Rattle.std.proofs.Common.{◌≡◌, length, IfSome, ◌∙◌, subst}
use Rattle.std.specs.Prelude.{option_map}
use Rattle.std.specs.FinMap.{get}
use Rattle.rk_bytes.specs.Model.DiskImages.{contents_told}
use Rattle.rk_open.specs.Tables.{listed_of}
use Rattle.rk_open.proofs.TableLemmas.{size_in, absent_in}
use Rattle.rk_open.proofs.open_listed.check_size.Goals as goal

pub returns-in-Ok-Some-clause-size : goal.returns-in-Ok-Some-clause-size
returns-in-Ok-Some-clause-size g c =
    let o = contents_told (g.D.Disk.told c.args.disk.now) in
    let size = subst (λ size. IfSome o (λ d. size ≡ option_map length (get d c.as_str.result.now))) c.in-Ok-Some.field-0-is c.in-Ok-Some.ensures.size in
    size_in o (listed_of c.args.listed.now) c.as_str.result.now c.in-Ok-Some.found c.same_size.result (c.as_str.ensures ∙ c.in-Ok.ensures.printed) size c.same_size.ensures.same c.same_size.ensures.differs

pub returns-in-Ok-None-clause-size : goal.returns-in-Ok-None-clause-size
returns-in-Ok-None-clause-size g c =
    let o = contents_told (g.D.Disk.told c.args.disk.now) in
    let size = subst (λ size. IfSome o (λ d. size ≡ option_map length (get d c.as_str.result.now))) c.in-Ok-None.field-0-is c.in-Ok-None.ensures.size in
    absent_in o (listed_of c.args.listed.now) c.as_str.result.now (c.as_str.ensures ∙ c.in-Ok.ensures.printed) size
