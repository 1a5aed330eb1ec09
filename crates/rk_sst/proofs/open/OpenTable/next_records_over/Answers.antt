use Rattle.std.proofs.Common.{◌≡◌, ◌+◌, ◌++◌, IfSome, Err, sym, ap, ◌∙◌, subst}
use Rattle.std.proofs.lemmas.Result.{err_from_is_err_and}
use Rattle.rk_bytes.specs.Model.DiskImages.{contents_told}
use Rattle.rk_sst.specs.Seen.{OpenSeen}
use Rattle.rk_sst.specs.Opened.{records_left, IsOpen, GivesNext}
use Rattle.rk_sst.proofs.OpenLemmas.{gives_records, goes_on, only_causes}
use Rattle.rk_sst.proofs.open.OpenTable.next_records_over.Goals as goal

pub returns-in_err-records-clause-records : goal.returns-in_err-records-clause-records
returns-in_err-records-clause-records g c =
    let told = contents_told (g.D.Disk.told c.args.disk.now) in
    let inside = c.self.inside in
    let seen : OpenSeen = record { number = inside.number; table = inside.table; block = inside.block; last = inside.last; cache = inside.cache } in
    let is = subst (λ (seen : OpenSeen). IfSome told (IsOpen seen)) (sym c.self.view_is) c.requires in
    let new : OpenSeen = record { number = inside.number; table = inside.table; block = inside.block; last = c.take_block.new.last; cache = c.take_block.new.cache } in
    let stopped = err_from_is_err_and c.from_residual.result c.from_residual.ensures.1 in
    subst (λ (old : OpenSeen). IfSome told (λ files. GivesNext old files c.from_residual.result new)) c.self.view_is
    (only_causes told seen c.take_block.new.cache c.take_block.new.last c.in_err-records.field-0.0 c.from_residual.result new (stopped.1 ∙ ap Err stopped.2) is c.in_err-records.ensures.records)

pub returns-clause-records : goal.returns-clause-records
returns-clause-records g c =
    let told = contents_told (g.D.Disk.told c.args.disk.now) in
    let inside = c.self.inside in
    let seen : OpenSeen = record { number = inside.number; table = inside.table; block = inside.block; last = inside.last; cache = inside.cache } in
    let is = subst (λ (seen : OpenSeen). IfSome told (IsOpen seen)) (sym c.self.view_is) c.requires in
    let further : OpenSeen = record { number = inside.number; table = inside.table; block = inside.block + 1; last = c.take_block.new.last; cache = c.take_block.new.cache } in
    subst (λ (old : OpenSeen). IfSome told (λ files. records_left old files ≡ c.in_ok-records.records ++ records_left further files)) c.self.view_is
    (gives_records told seen c.take_block.new.cache c.take_block.new.last c.in_ok-records.records c.in_ok-records.ensures.last is c.in_ok-records.ensures.records)

pub returns-clause-open : goal.returns-clause-open
returns-clause-open g c =
    let told = contents_told (g.D.Disk.told c.args.disk.now) in
    let inside = c.self.inside in
    let seen : OpenSeen = record { number = inside.number; table = inside.table; block = inside.block; last = inside.last; cache = inside.cache } in
    let is = subst (λ (seen : OpenSeen). IfSome told (IsOpen seen)) (sym c.self.view_is) c.requires in
    goes_on told seen c.take_block.new.cache c.take_block.new.last c.in_ok-records.records c.in_ok-records.ensures.last is c.in_ok-records.ensures.records c.in_ok-records.ensures.holds
