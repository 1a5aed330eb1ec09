use Rattle.std.proofs.Common.{length, refl, sym}
use Rattle.std.proofs.lemmas.Bool.{eqb-true}
use Rattle.std.proofs.lemmas.List.{nil_from_length}
use Rattle.hex.specs.Hex.{encode_with, encode_lower, lower_digits}
use Rattle.rk_text.proofs.QuoteLemmas.{encode_with-append, chunk_step, chunk_end}
use Rattle.rk_text.proofs.line.Line.put_hex.Goals as goal

pub loop-rest-preserved : goal.loop-rest-preserved
loop-rest-preserved c =
    chunk_step encode_lower (encode_with-append lower_digits) c.args.self.now c.loop-rest.self c.put_digits.new.self c.args.bytes.now c.loop-rest.rest.now c.split_chunk.result.0.now c.split_chunk.result.1.now
    c.loop-rest.invariant c.split_chunk.ensures.parts c.in_ok-put_digits.ensures

pub returns : goal.returns
unfolding encode_with
returns c =
    let rest = c.loop-rest.rest.now in
    chunk_end encode_lower refl c.args.self.now c.loop-rest.self c.args.bytes.now rest c.loop-rest.invariant (nil_from_length rest (eqb-true (length rest) 0 (sym c.loop-rest-test.ensures)))
