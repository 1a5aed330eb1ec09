use Rattle.std.proofs.Common.{◌≡◌, ◌-◌, ◌%◌, ◌≤◌, ◌++◌, length, take, sym, ap, ◌∙◌, arith}
use Rattle.std.specs.Prelude.{replicate}
use Rattle.std.proofs.lemmas.List.{take-replicate, append-nil}
use Rattle.rk_log.specs.Writing.{padding}
use Rattle.rk_log.proofs.WriteLemmas.{header_len-range, padding-some, padding-none, Extends-append}
use Rattle.rk_log.proofs.writer.fill_block.Goals as goal

pub returns-then-left-header_len : goal.returns-then-left-header_len
returns-then-left-header_len c =
    let out = c.args.out.now.items in
    let len : c.len.result ≡ length out = omega (arith, c.len.ensures) in
    let header = header_len-range c.args.number in
    let short : 32768 - c.len.result % 32768 ≤ 11 = omega (arith, c.header_len.ensures, header.1) in
    let zeros : take (32768 - c.len.result % 32768) (replicate 11 0) ≡ padding c.args.number (length out) =
    take-replicate (32768 - c.len.result % 32768) 11 0 short
    ∙ (ap (λ n. replicate (32768 - n % 32768) 0) len ∙ sym (padding-some c.args.number (length out) (omega (arith, c.header_len.ensures)))) in
    Extends-append c.append.result out _ _ c.append.new.out.items c.append.ensures.ok c.append.ensures.err zeros

pub returns-else-left-header_len : goal.returns-else-left-header_len
returns-else-left-header_len c =
    let out = c.args.out.now.items in
    let len : c.len.result ≡ length out = omega (arith, c.len.ensures) in
    sym (ap (λ more. out ++ more) (padding-none c.args.number (length out) (omega (arith, c.header_len.ensures))) ∙ append-nil out)
