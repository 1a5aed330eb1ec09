use Rattle.std.proofs.Common.{◌≡◌, ◌/◌, ◌%◌, ◌∙◌, get_or, arith}
use Rattle.std.proofs.Math.ListN.{set}
use Rattle.rk_batch.specs.Building.{with_header}
use Rattle.rk_batch.proofs.builder.with_count.Goals as goal

pub returns : goal.returns
returns c sequence back is =
    let n = c.args.count in
    let header = c.into_vec-bytes.ensures ∙ is in
    let spelled = c.to_le_bytes.ensures in
    let third : n / 65536 % 256 ≡ n / 256 / 256 % 256 = omega arith in
    let fourth : n / 16777216 % 256 ≡ n / 256 / 256 / 256 % 256 = omega arith in
    c.from_vec.ensures
    ∙ (λ i. set (set (set (set (header i) 8 (get_or (spelled i) 0 0)) 9 (get_or (spelled i) 1 0)) 10 (get_or (spelled i) 2 0)) 11 (get_or (spelled i) 3 0))
    ∙ (λ i. set (set (set (set (with_header sequence 0 back) 8 (n % 256)) 9 (n / 256 % 256)) 10 (third i)) 11 (fourth i))
