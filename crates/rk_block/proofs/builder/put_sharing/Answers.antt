use Rattle.std.proofs.Common.{◌≡◌, ℕ, ◌-◌, List, ◌++◌, length, take, drop, sym, ap, ◌∙◌, append_assoc}
use Rattle.std.proofs.lemmas.List.{take_rest}
use Rattle.rk_bytes.specs.Model.Numbers.{varint_of}
use Rattle.rk_block.proofs.BuildLemmas.{Extends-then}
use Rattle.rk_block.proofs.builder.put_sharing.Goals as goal

pub returns : goal.returns
returns c =
    let shared : ℕ = c.args.shared in
    let key : List ℕ = c.args.key.now in
    let value : List ℕ = c.args.value.now in
    let rest : List ℕ = take (length key - shared) (drop shared key) in
    let lengths : List ℕ = varint_of shared ++ varint_of (length key - shared) ++ varint_of (length value) in
    let whole : lengths ++ (rest ++ value) ≡ lengths ++ drop shared key ++ value =
    sym (append_assoc lengths rest value) ∙ ap (λ rest. lengths ++ rest ++ value) (take_rest key shared) in
    Extends-then c.args.out.now lengths c.put_lengths.new.out (rest ++ value) _ c.append_both.result c.append_both.new.self c.in_ok-put_lengths.ensures whole c.append_both.ensures.ok c.append_both.ensures.err
