use Rattle.std.proofs.Common.{rules, ◌≡◌, length, subst}
use Rattle.std.specs.Prelude.{IfSome, IsOk}
use Rattle.std.specs.FinMap.{get}
use Rattle.rk_bytes.specs.Model.BlockEntries.{collected}
use Rattle.rk_bytes.specs.Model.DiskImages.{contents_told}
use Rattle.rk_bytes.specs.Model.Opening.{tracked_log}
use Rattle.rk_open.proofs.PassLemmas.{all_passed}
use Rattle.rk_open.proofs.tracked.check_tracked.Goals as goal

pub returns-clause-logs : goal.returns-clause-logs
returns-clause-logs g c =
    let wals = c.args.version.now.wals in
    let rest = c.loop-tracked.rest.now in
    let none : length rest ≡ 0 = search rules in
    subst (λ first. IfSome (contents_told (g.D.Disk.told c.args.disk.now)) (λ d. IsOk (collected (tracked_log (get d) first) wals))) c.first_log-first.ensures
    (all_passed (λ d. tracked_log (get d) c.first_log-first.result) (contents_told (g.D.Disk.told c.args.disk.now)) wals rest none c.loop-tracked.invariant.logs)
