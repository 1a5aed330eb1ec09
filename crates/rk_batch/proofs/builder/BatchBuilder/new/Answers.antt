use Rattle.std.proofs.Common.{◌++◌, ap, ◌∙◌}
use Rattle.rk_bytes.specs.Model.Numbers.{fixed_of}
use Rattle.rk_batch.proofs.BuilderLemmas.{IsBuilt-start}
use Rattle.rk_batch.proofs.builder.BatchBuilder.new.Goals as goal

pub invariant_of-result : goal.invariant_of-result
invariant_of-result c =
    let written = c.in_ok-put_fixed32.ensures.ok ∙ ap (λ out. out ++ fixed_of 4 0) (c.in_ok-put_fixed64.ensures.ok ∙ ap (λ out. out ++ fixed_of 8 c.args.sequence) c.new-out.ensures) in
    (IsBuilt-start c.args.sequence c.put_fixed32.new.out written).0

pub returns : goal.returns
returns c =
    let written = c.in_ok-put_fixed32.ensures.ok ∙ ap (λ out. out ++ fixed_of 4 0) (c.in_ok-put_fixed64.ensures.ok ∙ ap (λ out. out ++ fixed_of 8 c.args.sequence) c.new-out.ensures) in
    let none = (IsBuilt-start c.args.sequence c.put_fixed32.new.out written).1 in
    λ i. record { sequence = c.args.sequence; records = none i }
