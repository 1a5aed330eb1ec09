use Rattle.std.proofs.Common.{◌≡◌, ◌∙◌, arith, length-drop, take, drop, length, ◌-◌}
use Rattle.std.proofs.lemmas.List.{take_all}
use Rattle.rk_sum.proofs.Registers.{front_taken}
use Rattle.rk_sum.proofs.crc.after_bytes.Goals as goal

pub loop-rest-preserved : goal.loop-rest-preserved
loop-rest-preserved c =
    let rest = c.loop-rest.rest.now in
    let whole : take (length rest - 8) (drop 8 rest) ≡ drop 8 rest = take_all (length rest - 8) (drop 8 rest) (omega (arith, length-drop 8 rest)) in
    rw (whole, c.after_eight-register.ensures) (front_taken c.loop-rest.register rest c.in-len8-up.len_at_least ∙ c.loop-rest.invariant)
