use Rattle.std.proofs.Common.{◌≡◌, ◌++◌, ◌-◌, ◌%◌, length, sym, ap, ◌∙◌, arith}
use Rattle.rk_bytes.specs.Model.WrittenLogs.{fragment_bytes}
use Rattle.rk_log.proofs.WriteLemmas.{IsWriting-start, IsWriting-last, IsWriting-more, Extends-on}
use Rattle.rk_log.proofs.writer.write_parts.Goals as goal

pub loop-rest-init : goal.loop-rest-init
loop-rest-init c = IsWriting-start c.args.number c.args.out.now.items c.args.payload.now c.requires

pub returns-then-rest-room : goal.returns-then-rest-room
returns-then-rest-room c =
    let inside = c.loop-rest.invariant in
    Extends-on c.write_fragment.result c.args.out.now.items _ c.loop-rest.out.items _ inside.more c.write_fragment.new.out.items inside.front
    (IsWriting-last c.args.number c.args.out.now.items _ c.loop-rest.out.items c.loop-rest.begins c.loop-rest.rest.now inside (omega (arith, c.header_len.ensures, c.len.ensures))
    ∙ ap (λ kind. c.loop-rest.out.items ++ fragment_bytes c.args.number kind c.loop-rest.rest.now) (sym c.part_type.ensures.value))
    c.write_fragment.ensures

pub loop-rest-preserved : goal.loop-rest-preserved
loop-rest-preserved c =
    let out = c.loop-rest.out.items in
    let len : c.len.result ≡ length out = omega (arith, c.len.ensures) in
    IsWriting-more c.args.number c.args.out.now.items _ out c.write_fragment-in-loop-rest.new.out.items c.loop-rest.begins c.loop-rest.rest.now c.split_at.result.1.now
    (32768 - c.len.result % 32768 - c.header_len.result) c.loop-rest.invariant
    (λ i. 32768 - len i % 32768 - c.header_len.ensures i) (omega arith) c.split_at.ensures.back
    (c.in_ok-write_fragment.ensures ∙ (λ i. out ++ fragment_bytes c.args.number (c.part_type-in-loop-rest.ensures.value i) (c.split_at.ensures.front i)))
