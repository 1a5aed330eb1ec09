use Rattle.std.proofs.Common.{◌≡◌, refl, ap, subst}
use Rattle.std.specs.Prelude.{IfOk}
use Rattle.std.specs.Option.{option_copied, option_map}
use Rattle.rk_bytes.specs.Model.DiskImages.{contents_told}
use Rattle.rk_bytes.specs.Model.Grammar.{scan, get, families, manifest_dump, dump_wal, check, repair, sst, drill}
use Rattle.rk_bytes.specs.Model.Output.{Output}
use Rattle.rk_ldb.specs.Commands.{told, told_key, IsSmall}
use Rattle.rk_ldb.specs.Stops.{TookUpTo}
use Rattle.rk_ldb.proofs.Dumps.{output_of_scan, output_of_get, output_of_families, output_of_log, output_of_manifest, output_of_check, output_of_table, output_of_drill, output_of_none}
use Rattle.rk_ldb.proofs.Endings.{ends_command, ends_without}
use Rattle.rk_ldb.proofs.program.write_answer.Goals as goal

pub returns-in-Scan-clause-lines : goal.returns-in-Scan-clause-lines
returns-in-Scan-clause-lines g c =
    output_of_scan (contents_told (g.D.Disk.told c.args.disk.now)) (told c.args.command) (option_copied c.in-Scan.family) c.in-Scan.how (option_map told_key c.in-Scan.from) (option_map told_key c.in-Scan.to) c.in-Scan.hex (λ (o : Output). TookUpTo (g.S.Sink.taken c.args.out.now) (g.S.Sink.taken c.scan.new.out) o.lines c.scan.result) (ap told c.in-Scan.is) c.scan.ensures.lines

pub returns-in-Scan-clause-status : goal.returns-in-Scan-clause-status
returns-in-Scan-clause-status g c =
    output_of_scan (contents_told (g.D.Disk.told c.args.disk.now)) (told c.args.command) (option_copied c.in-Scan.family) c.in-Scan.how (option_map told_key c.in-Scan.from) (option_map told_key c.in-Scan.to) c.in-Scan.hex (λ (o : Output). IfOk c.scan.result (λ status. status ≡ o.status)) (ap told c.in-Scan.is) c.scan.ensures.status

pub returns-in-Scan-clause-ends : goal.returns-in-Scan-clause-ends
returns-in-Scan-clause-ends g c =
    ends_command (g.S.Sink.taken c.args.out.now) (g.S.Sink.taken c.scan.new.out) (told c.args.command) (scan (option_copied c.in-Scan.family) c.in-Scan.how (option_map told_key c.in-Scan.from) (option_map told_key c.in-Scan.to) c.in-Scan.hex) c.scan.result (ap told c.in-Scan.is) refl c.scan.ensures.answers

pub returns-in-Get-clause-lines : goal.returns-in-Get-clause-lines
returns-in-Get-clause-lines g c =
    output_of_get (contents_told (g.D.Disk.told c.args.disk.now)) (told c.args.command) (told_key c.in-Get.key) (option_copied c.in-Get.family) c.in-Get.how c.in-Get.hex (λ (o : Output). TookUpTo (g.S.Sink.taken c.args.out.now) (g.S.Sink.taken c.get.new.out) o.lines c.get.result) (ap told c.in-Get.is) c.get.ensures.lines

pub returns-in-Get-clause-status : goal.returns-in-Get-clause-status
returns-in-Get-clause-status g c =
    output_of_get (contents_told (g.D.Disk.told c.args.disk.now)) (told c.args.command) (told_key c.in-Get.key) (option_copied c.in-Get.family) c.in-Get.how c.in-Get.hex (λ (o : Output). IfOk c.get.result (λ status. status ≡ o.status)) (ap told c.in-Get.is) c.get.ensures.status

pub returns-in-Get-clause-ends : goal.returns-in-Get-clause-ends
returns-in-Get-clause-ends g c =
    ends_command (g.S.Sink.taken c.args.out.now) (g.S.Sink.taken c.get.new.out) (told c.args.command) (get (told_key c.in-Get.key) (option_copied c.in-Get.family) c.in-Get.how c.in-Get.hex) c.get.result (ap told c.in-Get.is) refl c.get.ensures.answers

pub returns-in-Check-clause-lines : goal.returns-in-Check-clause-lines
returns-in-Check-clause-lines g c =
    output_of_check (contents_told (g.D.Disk.told c.args.disk.now)) (told c.args.command) c.in-Check.how (λ (o : Output). TookUpTo (g.S.Sink.taken c.args.out.now) (g.S.Sink.taken c.check.new.out) o.lines c.check.result) (ap told c.in-Check.is) c.check.ensures.lines

pub returns-in-Check-clause-status : goal.returns-in-Check-clause-status
returns-in-Check-clause-status g c =
    output_of_check (contents_told (g.D.Disk.told c.args.disk.now)) (told c.args.command) c.in-Check.how (λ (o : Output). IfOk c.check.result (λ status. status ≡ o.status)) (ap told c.in-Check.is) c.check.ensures.status

pub returns-in-Check-clause-ends : goal.returns-in-Check-clause-ends
returns-in-Check-clause-ends g c =
    ends_command (g.S.Sink.taken c.args.out.now) (g.S.Sink.taken c.check.new.out) (told c.args.command) (check c.in-Check.how) c.check.result (ap told c.in-Check.is) refl c.check.ensures.answers

pub returns-in-Families-clause-lines : goal.returns-in-Families-clause-lines
returns-in-Families-clause-lines g c =
    output_of_families (contents_told (g.D.Disk.told c.args.disk.now)) (told c.args.command) (λ (o : Output). TookUpTo (g.S.Sink.taken c.args.out.now) (g.S.Sink.taken c.families.new.out) o.lines c.families.result) (ap told c.in-Families.is) c.families.ensures.lines

pub returns-in-Families-clause-status : goal.returns-in-Families-clause-status
returns-in-Families-clause-status g c =
    output_of_families (contents_told (g.D.Disk.told c.args.disk.now)) (told c.args.command) (λ (o : Output). IfOk c.families.result (λ status. status ≡ o.status)) (ap told c.in-Families.is) c.families.ensures.status

pub returns-in-Families-clause-ends : goal.returns-in-Families-clause-ends
returns-in-Families-clause-ends g c =
    ends_command (g.S.Sink.taken c.args.out.now) (g.S.Sink.taken c.families.new.out) (told c.args.command) families c.families.result (ap told c.in-Families.is) refl c.families.ensures.answers

pub returns-in-ManifestDump-clause-lines : goal.returns-in-ManifestDump-clause-lines
returns-in-ManifestDump-clause-lines g c =
    output_of_manifest (contents_told (g.D.Disk.told c.args.disk.now)) (told c.args.command) c.in-ManifestDump.hex (λ (o : Output). TookUpTo (g.S.Sink.taken c.args.out.now) (g.S.Sink.taken c.manifest_dump.new.out) o.lines c.manifest_dump.result) (ap told c.in-ManifestDump.is) c.manifest_dump.ensures.lines

pub returns-in-ManifestDump-clause-status : goal.returns-in-ManifestDump-clause-status
returns-in-ManifestDump-clause-status g c =
    output_of_manifest (contents_told (g.D.Disk.told c.args.disk.now)) (told c.args.command) c.in-ManifestDump.hex (λ (o : Output). IfOk c.manifest_dump.result (λ status. status ≡ o.status)) (ap told c.in-ManifestDump.is) c.manifest_dump.ensures.status

pub returns-in-ManifestDump-clause-ends : goal.returns-in-ManifestDump-clause-ends
returns-in-ManifestDump-clause-ends g c =
    ends_command (g.S.Sink.taken c.args.out.now) (g.S.Sink.taken c.manifest_dump.new.out) (told c.args.command) (manifest_dump c.in-ManifestDump.hex) c.manifest_dump.result (ap told c.in-ManifestDump.is) refl c.manifest_dump.ensures.answers

pub returns-in-DumpWal-clause-lines : goal.returns-in-DumpWal-clause-lines
returns-in-DumpWal-clause-lines g c =
    output_of_log (contents_told (g.D.Disk.told c.args.disk.now)) (told c.args.command) c.in-DumpWal.number c.in-DumpWal.hex (λ (o : Output). TookUpTo (g.S.Sink.taken c.args.out.now) (g.S.Sink.taken c.dump_wal.new.out) o.lines c.dump_wal.result) (ap told c.in-DumpWal.is) c.dump_wal.ensures.lines

pub returns-in-DumpWal-clause-status : goal.returns-in-DumpWal-clause-status
returns-in-DumpWal-clause-status g c =
    output_of_log (contents_told (g.D.Disk.told c.args.disk.now)) (told c.args.command) c.in-DumpWal.number c.in-DumpWal.hex (λ (o : Output). IfOk c.dump_wal.result (λ status. status ≡ o.status)) (ap told c.in-DumpWal.is) c.dump_wal.ensures.status

pub returns-in-DumpWal-clause-ends : goal.returns-in-DumpWal-clause-ends
returns-in-DumpWal-clause-ends g c =
    ends_command (g.S.Sink.taken c.args.out.now) (g.S.Sink.taken c.dump_wal.new.out) (told c.args.command) (dump_wal c.in-DumpWal.number c.in-DumpWal.hex) c.dump_wal.result (ap told c.in-DumpWal.is) refl c.dump_wal.ensures.answers

pub returns-in-Sst-clause-lines : goal.returns-in-Sst-clause-lines
returns-in-Sst-clause-lines g c =
    output_of_table (contents_told (g.D.Disk.told c.args.disk.now)) (told c.args.command) c.in-Sst.number c.in-Sst.part c.in-Sst.hex (λ (o : Output). TookUpTo (g.S.Sink.taken c.args.out.now) (g.S.Sink.taken c.sst.new.out) o.lines c.sst.result) (ap told c.in-Sst.is) c.sst.ensures.lines

pub returns-in-Sst-clause-status : goal.returns-in-Sst-clause-status
returns-in-Sst-clause-status g c =
    output_of_table (contents_told (g.D.Disk.told c.args.disk.now)) (told c.args.command) c.in-Sst.number c.in-Sst.part c.in-Sst.hex (λ (o : Output). IfOk c.sst.result (λ status. status ≡ o.status)) (ap told c.in-Sst.is) c.sst.ensures.status

pub returns-in-Sst-clause-ends : goal.returns-in-Sst-clause-ends
returns-in-Sst-clause-ends g c =
    ends_command (g.S.Sink.taken c.args.out.now) (g.S.Sink.taken c.sst.new.out) (told c.args.command) (sst c.in-Sst.number c.in-Sst.part c.in-Sst.hex) c.sst.result (ap told c.in-Sst.is) refl c.sst.ensures.answers

pub returns-in-Repair-clause-lines : goal.returns-in-Repair-clause-lines
returns-in-Repair-clause-lines g c =
    output_of_none (contents_told (g.D.Disk.told c.args.disk.now)) (told c.args.command) repair (λ (o : Output). TookUpTo (g.S.Sink.taken c.args.out.now) (g.S.Sink.taken c.answer_with_usage.new.out) o.lines c.answer_with_usage.result) (ap told c.in-Repair.is) refl c.answer_with_usage.ensures.lines

pub returns-in-Repair-clause-status : goal.returns-in-Repair-clause-status
returns-in-Repair-clause-status g c =
    output_of_none (contents_told (g.D.Disk.told c.args.disk.now)) (told c.args.command) repair (λ (o : Output). IfOk c.answer_with_usage.result (λ status. status ≡ o.status)) (ap told c.in-Repair.is) refl c.answer_with_usage.ensures.status

pub returns-in-Repair-clause-ends : goal.returns-in-Repair-clause-ends
returns-in-Repair-clause-ends g c =
    ends_without (g.S.Sink.taken c.args.out.now) (g.S.Sink.taken c.answer_with_usage.new.out) (told c.args.command) repair c.answer_with_usage.result (g.S.Sink.faults c.args.out.now) (g.S.Sink.faults c.answer_with_usage.new.out) (ap told c.in-Repair.is) refl c.answer_with_usage.ensures.line c.answer_with_usage.ensures.status c.answer_with_usage.ensures.counts

pub returns-in-Drill-clause-lines : goal.returns-in-Drill-clause-lines
returns-in-Drill-clause-lines g c =
    output_of_drill (contents_told (g.D.Disk.told c.args.disk.now)) (told c.args.command) c.in-Drill.number (λ (o : Output). TookUpTo (g.S.Sink.taken c.args.out.now) (g.S.Sink.taken c.drill.new.out) o.lines c.drill.result) (ap told c.in-Drill.is) c.drill.ensures.lines

pub returns-in-Drill-clause-status : goal.returns-in-Drill-clause-status
returns-in-Drill-clause-status g c =
    output_of_drill (contents_told (g.D.Disk.told c.args.disk.now)) (told c.args.command) c.in-Drill.number (λ (o : Output). IfOk c.drill.result (λ status. status ≡ o.status)) (ap told c.in-Drill.is) c.drill.ensures.status

pub returns-in-Drill-clause-ends : goal.returns-in-Drill-clause-ends
returns-in-Drill-clause-ends g c =
    ends_command (g.S.Sink.taken c.args.out.now) (g.S.Sink.taken c.drill.new.out) (told c.args.command) (drill c.in-Drill.number) c.drill.result (ap told c.in-Drill.is) refl c.drill.ensures.answers

pub drill-requires : goal.drill-requires
drill-requires g c = subst IsSmall c.in-Drill.is c.requires
