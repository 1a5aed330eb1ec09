use Rattle.std.proofs.Common.{length, refl, sym}
use Rattle.std.specs.Prelude.{flat_map}
use Rattle.std.proofs.lemmas.Bool.{eqb-true}
use Rattle.std.proofs.lemmas.Grind.{flat_map-append}
use Rattle.std.proofs.lemmas.List.{nil_from_length}
use Rattle.rk_bytes.specs.Model.Lines.{shown_byte}
use Rattle.rk_text.proofs.QuoteLemmas.{chunk_step, chunk_end}
use Rattle.rk_text.proofs.line.Line.put_shown.Goals as goal

pub loop-rest-preserved : goal.loop-rest-preserved
loop-rest-preserved c =
    chunk_step (flat_map shown_byte) (flat_map-append shown_byte) c.args.self.now c.loop-rest.self c.put_shown_chunk.new.self c.args.bytes.now c.loop-rest.rest.now c.split_chunk.result.0.now c.split_chunk.result.1.now
    c.loop-rest.invariant c.split_chunk.ensures.parts c.in_ok-put_shown_chunk.ensures

pub returns : goal.returns
returns c =
    let rest = c.loop-rest.rest.now in
    chunk_end (flat_map shown_byte) refl c.args.self.now c.loop-rest.self c.args.bytes.now rest c.loop-rest.invariant (nil_from_length rest (eqb-true (length rest) 0 (sym c.loop-rest-test.ensures)))
