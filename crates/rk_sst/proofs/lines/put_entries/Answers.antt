use Rattle.std.proofs.Common.{◌++◌, ap, ◌∙◌}
use Rattle.rk_bytes.specs.Model.Lines.{entry_line}
use Rattle.rk_sst.proofs.LineLemmas.{put_next, put_all}
use Rattle.rk_sst.proofs.lines.put_entries.Goals as goal

pub loop-record-preserved : goal.loop-record-preserved
loop-record-preserved c =
    let l = c.loop-record in
    put_next (entry_line c.args.hex) c.args.records.now c.args.text.now l.text c.append.new.self l.record-index c.record-item.result c.loop-record-test.true c.record-item.is (c.in_ok-append.ensures.ok ∙ ap (λ line. l.text ++ line) (c.as_slice.ensures ∙ c.in_ok-set_entry.ensures)) l.invariant

pub returns : goal.returns
returns c = put_all (entry_line c.args.hex) c.args.records.now c.args.text.now c.loop-record.text c.loop-record.record-index c.loop-record-test.false c.loop-record.invariant
