use Rattle.std.proofs.Common.{◌≡◌, ◌-◌, drop, length, sym, ◌∙◌, take-append-drop}
use Rattle.std.specs.Prelude.{◌++◌}
use Rattle.std.proofs.lemmas.Bool.{false≢true}
use Rattle.std.proofs.lemmas.Slice.Eq.{bytes_eq-Decides}
use Rattle.rk_names.proofs.Named.{before_ending, other_ending}
use Rattle.rk_names.proofs.number.number_before.Goals as goal

pub returns-in_err-digits : goal.returns-in_err-digits
returns-in_err-digits c =
    let name = c.args.name.now in
    let ending = c.args.ending.now in
    c.from_residual.ensures ∙ sym (other_ending ending name (λ same.
    false≢true (sym c.in_err-digits.ensures.cases ∙ (bytes_eq-Decides (drop (length name - length ending) name) ending).1 same)))

pub returns : goal.returns
returns c =
    let name = c.args.name.now in
    let ending = c.args.ending.now in
    let found = c.in_ok-digits.ensures.cases in
    let last : drop (length name - length ending) name ≡ ending = (bytes_eq-Decides (drop (length name - length ending) name) ending).0 found.0 in
    let whole : name ≡ c.in_ok-digits.digits.now ++ ending =
    sym (take-append-drop (length name - length ending) name) ∙ (λ i. sym found.1 i ++ last i) in
    c.read_number.ensures ∙ before_ending ending name c.in_ok-digits.digits.now found.1 whole
