-- What a number is printed as.
use Rattle.std.proofs.Common.{◌≡◌, ℕ, ◌-◌, ◌++◌, false, [], length, arith}
use Rattle.std.specs.Prelude.{replicate, decimal}
use Rattle.std.specs.Fmt.{padded_integral, format_spec, char_count}
use Rattle.std.proofs.lemmas.List.{append-nil}
use Rattle.rk_bytes.specs.Model.FileNames.{six_digits}

-- what `{n:06}` prints
pub padded_to_six : (n : ℕ) → padded_integral (format_spec 32 0 4 6 18446744073709551615) false [] (decimal n) ≡ six_digits n
unfolding padded_integral char_count
padded_to_six n =
    let d = decimal n in
    let zeros : 6 - length d - 0 - 0 ≡ 6 - length d = omega arith in
    λ i. replicate (zeros i) 48 ++ append-nil d i
