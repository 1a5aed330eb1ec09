use Rattle.std.proofs.Common.{◌≡◌, length, ap, arith}
use Rattle.rk_bytes.specs.declared.model.view.Cut.{Cut}
use Rattle.format_tests.proofs.tomb.bounds.Goals as goal

pub returns : goal.returns
returns c = λ cut is.
    let made : Cut = record { smallest = c.in_ok-copy_of.field-0; largest = c.in_ok-copy_of-2.field-0 } in
    let same : made ≡ cut = cc in
    let smallest = ap (λ (bounds : Cut). length bounds.smallest) same in
    let largest = ap (λ (bounds : Cut). length bounds.largest) same in (
      omega (arith, smallest, ap length c.in_ok-copy_of.ensures, c.requires.smallest),
      omega (arith, largest, ap length c.in_ok-copy_of-2.ensures, c.requires.largest),
    )
