use Rattle.std.proofs.Common.{◌+◌, ◌-◌, take, ap, ◌∙◌, arith, rules}
use borrow.Rule.Slice.PartMut.{put_mid}
use Rattle.rk_text.proofs.QuoteLemmas.{shown_more}
use Rattle.rk_text.proofs.quote.show.Goals as goal

pub loop-byte-preserved : goal.loop-byte-preserved
loop-byte-preserved c =
    let at = c.loop-byte.len in
    let more = c.shown-text_len.result.1 in
    let text = c.shown-text_len.result.0 in
    record {
      within = omega (arith, c.loop-byte.invariant.within, c.shown-text_len.ensures.within);
      shown = ap (λ text. take (at + more) (put_mid at (at + 4 - at) c.loop-byte.buffer text)) c.copy_from_slice.ensures.after
          ∙ shown_more at more (at + 4 - at) c.loop-byte.byte-index c.loop-byte.buffer text c.args.chunk.now (search rules) (search rules) c.loop-byte-test.true c.loop-byte.invariant.shown c.shown-text_len.ensures.shown;
    }
