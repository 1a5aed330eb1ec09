use Rattle.std.proofs.Common.{◌≡◌, ◌<◌, ◌+◌, ◌%◌, length, get_or, sym, ap, ◌∙◌, arith, Ok, drop}
use Rattle.std.proofs.lemmas.Bool.{ltb-true}
use Rattle.std.proofs.lemmas.Grind.{get_or_default_zero}
use Rattle.rk_bytes.proofs.VarintLemmas.{varint_at-stop, varint_at-great, next_value, last_group, high_count-more}
use Rattle.rk_bytes.proofs.varint.read_varint.Goals as goal

pub returns-then-group-gt1-clause-value : goal.returns-then-group-gt1-clause-value
returns-then-group-gt1-clause-value c =
    let bytes = c.args.bytes.now in
    let nine = c.if-i-eq9.true in
    let within : c.loop-i.i < length bytes = ltb-true c.loop-i.i (length bytes) (sym c.in-Some.ensures.lookup.0) in
    let byte : get_or bytes 9 0 ≡ c.in-Some.byte.now = ap (λ i. get_or bytes i 0) (sym nine) ∙ sym (c.in-Some.ensures.lookup.1 ∙ get_or_default_zero bytes c.loop-i.i c.in-Some.byte.now within) in
    let group : 1 < get_or bytes 9 0 % 128 = omega (arith, byte, c.from-group.ensures, c.if-group-gt1.true) in
    sym (varint_at-great c.args.most bytes (omega arith) (omega arith) (omega (arith, c.loop-i.invariant.0)) (omega arith) group)

pub overflow_add-value : goal.overflow_add-value
overflow_add-value c =
    let bytes = c.args.bytes.now in
    let within : c.loop-i.i < length bytes = ltb-true c.loop-i.i (length bytes) (sym c.in-Some.ensures.lookup.0) in
    let byte : c.in-Some.byte.now ≡ get_or bytes c.loop-i.i 0 = c.in-Some.ensures.lookup.1 ∙ get_or_default_zero bytes c.loop-i.i c.in-Some.byte.now within in
    let next = next_value bytes c.loop-i.i c.loop-i.value c.from-group.result (omega arith) within c.loop-i.invariant.1
    (c.from-group.ensures ∙ ap (λ b. b % 128) byte) (last_group c.loop-i.i c.from-group.result c.else-i-eq9.either) in
    omega (arith, next.0, next.1)

pub returns-then-byte-lt128-clause-value : goal.returns-then-byte-lt128-clause-value
returns-then-byte-lt128-clause-value c =
    let bytes = c.args.bytes.now in
    let within : c.loop-i.i < length bytes = ltb-true c.loop-i.i (length bytes) (sym c.in-Some.ensures.lookup.0) in
    let byte : c.in-Some.byte.now ≡ get_or bytes c.loop-i.i 0 = c.in-Some.ensures.lookup.1 ∙ get_or_default_zero bytes c.loop-i.i c.in-Some.byte.now within in
    let next = next_value bytes c.loop-i.i c.loop-i.value c.from-group.result (omega arith) within c.loop-i.invariant.1
    (c.from-group.ensures ∙ ap (λ b. b % 128) byte) (last_group c.loop-i.i c.from-group.result c.else-i-eq9.either) in
    ap (λ value. Ok (value, drop (c.loop-i.i + 1) bytes)) next.0
    ∙ sym (varint_at-stop c.args.most bytes c.loop-i.i (omega arith) c.loop-i.invariant.0 within (omega (arith, byte, c.if-byte-lt128.true)) next.1)

pub loop-i-preserved : goal.loop-i-preserved
loop-i-preserved c =
    let bytes = c.args.bytes.now in
    let within : c.loop-i.i < length bytes = ltb-true c.loop-i.i (length bytes) (sym c.in-Some.ensures.lookup.0) in
    let byte : c.in-Some.byte.now ≡ get_or bytes c.loop-i.i 0 = c.in-Some.ensures.lookup.1 ∙ get_or_default_zero bytes c.loop-i.i c.in-Some.byte.now within in
    let next = next_value bytes c.loop-i.i c.loop-i.value c.from-group.result (omega arith) within c.loop-i.invariant.1
    (c.from-group.ensures ∙ ap (λ b. b % 128) byte) (last_group c.loop-i.i c.from-group.result c.else-i-eq9.either) in
    (high_count-more bytes c.loop-i.i c.loop-i.invariant.0 within (omega (arith, byte, c.if-byte-lt128.false)), next.0)
