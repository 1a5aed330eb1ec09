use Rattle.rk_bytes.specs.Model.DiskImages.{contents_told}
use Rattle.rk_open.proofs.ReplayedLemmas.{passed_over, one_needed}
use Rattle.rk_open.proofs.logs.feed_if_needed.Goals as goal

pub returns-then-number-first-clause-fed : goal.returns-then-number-first-clause-fed
returns-then-number-first-clause-fed g c = passed_over c.args.run.now c.args.first c.args.number c.if-number-first.true (contents_told (g.D.Disk.told c.args.disk.now))

pub returns-clause-fed : goal.returns-clause-fed
returns-clause-fed g c =
    one_needed c.args.run.now c.feed_log.new.run c.args.first c.args.number c.if-number-first.false (contents_told (g.D.Disk.told c.args.disk.now)) c.feed_log.result c.feed_log.ensures.fed
