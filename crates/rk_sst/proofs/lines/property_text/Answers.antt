use Rattle.std.proofs.Common.{[], ◌++◌, ap, ◌∙◌}
use Rattle.rk_bytes.specs.Model.Lines.{property_line}
use Rattle.rk_sst.proofs.LineLemmas.{put_next, put_all}
use Rattle.rk_sst.proofs.lines.property_text.Goals as goal

pub loop-property-preserved : goal.loop-property-preserved
loop-property-preserved c =
    let l = c.loop-property in
    put_next (property_line c.args.hex) c.args.properties.now [] l.text c.append.new.self l.property-index c.property-item.result c.loop-property-test.true c.property-item.is (c.in_ok-append.ensures.ok ∙ ap (λ line. l.text ++ line) (c.as_slice.ensures ∙ c.in_ok-set_property.ensures)) l.invariant

pub returns : goal.returns
returns c = put_all (property_line c.args.hex) c.args.properties.now [] c.loop-property.text c.loop-property.property-index c.loop-property-test.false c.loop-property.invariant
