use Rattle.std.proofs.Common.{◌<◌, ◌+◌, ◌*◌, length, set, refl, ◌∙◌, arith}
use Rattle.std.proofs.lemmas.List.{length-set}
use Rattle.hex.specs.Hex.{encode_with}
use Rattle.rk_text.proofs.QuoteLemmas.{digits_more}
use Rattle.rk_text.proofs.quote.digits.Goals as goal

pub loop-index-init : goal.loop-index-init
unfolding encode_with
loop-index-init c = record { len = refl; spelled = refl }

pub loop-index-preserved : goal.loop-index-preserved
loop-index-preserved c =
    let i = c.loop-index.index in
    let text = c.loop-index.text in
    let bytes = c.args.bytes.now in
    let high = c.digit.result in
    let low = c.digit-in-loop-index.result in
    let inv = c.loop-index.invariant in
    let here : i < length bytes = omega (arith, c.told-bytes, c.loop-index-test.true) in
    let room : 2 * i + 1 < length text = omega (arith, inv.len, c.loop-index-test.true) in
    record {
      len = length-set (set text (2 * i) high) (2 * i + 1) low ∙ length-set text (2 * i) high ∙ inv.len;
      spelled = digits_more i high low text bytes here room c.digit.ensures c.digit-in-loop-index.ensures inv.spelled;
    }
