use Rattle.std.proofs.Common.{◌≡◌, true, false, sym, ap, ◌∙◌, refl}
use Rattle.std.specs.Prelude.{nat_eq, bytes_eq, unwrap_or}
use Rattle.std.specs.List.{starts_with}
use Rattle.rk_bytes.specs.Model.FileNames.{name_of, numbered_name, lost_prefix, current_name}
use Rattle.rk_bytes.specs.declared.model.name.FileName.TheVariants.{Other}
use Rattle.rk_names.proofs.name.read_name.Goals as goal

pub returns-then-starts_with : goal.returns-then-starts_with
unfolding name_of
returns-then-starts_with c =
    let lost : starts_with nat_eq c.args.name.now lost_prefix ≡ true =
    ap (λ text. starts_with nat_eq text lost_prefix) (sym c.as_bytes.ensures.value) ∙ sym c.starts_with.ensures.value ∙ c.if-starts_with.true in
    rw lost refl

pub returns-then-eq : goal.returns-then-eq
unfolding name_of
returns-then-eq c =
    let lost : starts_with nat_eq c.args.name.now lost_prefix ≡ false =
    ap (λ text. starts_with nat_eq text lost_prefix) (sym c.as_bytes.ensures.value) ∙ sym c.starts_with.ensures.value ∙ c.if-starts_with.false in
    let current : bytes_eq c.args.name.now current_name ≡ true = sym c.eq.ensures ∙ c.if-eq.true in
    rw (lost, current) refl

pub returns : goal.returns
unfolding name_of
returns c =
    let lost : starts_with nat_eq c.args.name.now lost_prefix ≡ false =
    ap (λ text. starts_with nat_eq text lost_prefix) (sym c.as_bytes.ensures.value) ∙ sym c.starts_with.ensures.value ∙ c.if-starts_with.false in
    let current : bytes_eq c.args.name.now current_name ≡ false = sym c.eq.ensures ∙ c.if-eq.false in
    rw (lost, current) (c.unwrap_or.ensures ∙ ap (λ name. unwrap_or name Other) (c.read_numbered.ensures ∙ ap numbered_name c.as_bytes-2.ensures.value))
