use Rattle.std.proofs.Common.{sym, ap, ◌∙◌}
use Rattle.std.specs.Prelude.{slice_index}
use Rattle.std.proofs.lemmas.Bool.{eq-eqb, ne_eqb}
use Rattle.rk_bytes.specs.Model.TableFooter.{has_sum}
use Rattle.rk_meta.proofs.TrailerLemmas.{out-of-file, wrong-sum, compressed, plain}
use Rattle.rk_meta.proofs.trailer.checked_block.Goals as goal

pub returns-in_default : goal.returns-in_default
returns-in_default c = sym (out-of-file c.args.bytes.now c.args.handle c.args.sum c.in_default.ensures.none)

pub returns-then-not-has_sum : goal.returns-then-not-has_sum
returns-then-not-has_sum c =
    let e = c.in-Some.ensures in
    let sum = ap (λ stored. has_sum c.args.sum stored c.in-Some.block.now (slice_index c.in-Some.trailer.now 0)) (sym c.stored_sum.ensures) ∙ sym c.has_sum.ensures in
    sym (wrong-sum c.args.bytes.now c.args.handle c.args.sum c.in-Some.block.now c.in-Some.trailer.now e.small e.within e.block e.trailer (sum ∙ c.if-not-has_sum.true))

pub returns-then-type_byte-ne0 : goal.returns-then-type_byte-ne0
returns-then-type_byte-ne0 c =
    let e = c.in-Some.ensures in
    let sum = ap (λ stored. has_sum c.args.sum stored c.in-Some.block.now (slice_index c.in-Some.trailer.now 0)) (sym c.stored_sum.ensures) ∙ sym c.has_sum.ensures in
    sym (compressed c.args.bytes.now c.args.handle c.args.sum c.in-Some.block.now c.in-Some.trailer.now e.small e.within e.block e.trailer (sum ∙ c.if-not-has_sum.false) (ne_eqb _ _ c.if-type_byte-ne0.true))

pub returns : goal.returns
returns c =
    let e = c.in-Some.ensures in
    let sum = ap (λ stored. has_sum c.args.sum stored c.in-Some.block.now (slice_index c.in-Some.trailer.now 0)) (sym c.stored_sum.ensures) ∙ sym c.has_sum.ensures in
    sym (plain c.args.bytes.now c.args.handle c.args.sum c.in-Some.block.now c.in-Some.trailer.now e.small e.within e.block e.trailer (sum ∙ c.if-not-has_sum.false) (eq-eqb _ _ c.if-type_byte-ne0.false))
