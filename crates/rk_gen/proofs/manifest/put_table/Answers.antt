use Rattle.std.proofs.Common.{◌≡◌, List, ℕ, length, ap, ◌∙◌, arith}
use Rattle.rk_bytes.specs.declared.model.key.Kind.TheVariants.{Value}
use Rattle.rk_bytes.specs.Model.InternalKey.{internal_key}
use Rattle.rk_gen.proofs.RisingKeys.{length-internal_key}
use Rattle.rk_gen.proofs.manifest.put_table.Goals as goal

pub write_field-requires : goal.write_field-requires
write_field-requires c =
    let smallest : length c.as_slice.result.now ≡ 16 =
    ap (λ (key : List ℕ). length key) (c.as_slice.ensures ∙ c.in_ok-smallest.ensures ∙ ap (λ (user : List ℕ). internal_key user 1 Value) c.key_with.ensures) ∙ length-internal_key 1 1 Value in
    let largest : length c.as_slice-2.result.now ≡ 16 =
    ap (λ (key : List ℕ). length key) (c.as_slice-2.ensures ∙ c.in_ok-largest.ensures ∙ ap (λ (user : List ℕ). internal_key user c.args.number Value) c.key_with-2.ensures) ∙ length-internal_key c.args.number c.args.number Value in
    (omega arith, omega arith)
