use Rattle.std.proofs.Common.{◌≡◌, ℕ, List, ◌++◌, sym, ap, ◌∙◌}
use Rattle.std.specs.Prelude.{codes, decimal, false, []}
use Rattle.std.specs.Fmt.{styled_decimal, padded_integral, format_spec}
use Rattle.std.proofs.lemmas.Result.{IfOk-weaker}
use Rattle.rk_bytes.specs.Model.FileNames.{printed_name, six_digits}
use Rattle.rk_names.proofs.Printed.{padded_to_six}
use Rattle.rk_names.proofs.name.printed.Goals as goal

-- six digits at least before an ending
before : (styled : List ℕ) (n : ℕ) (ending : List ℕ) → styled ≡ padded_integral (format_spec 32 0 4 6 18446744073709551615) false [] (decimal n) → styled ++ ending ≡ six_digits n ++ ending
before styled n ending is = ap (λ digits. digits ++ ending) (is ∙ padded_to_six n)

pub returns-in-Manifest-clause-text : goal.returns-in-Manifest-clause-text
returns-in-Manifest-clause-text c =
    IfOk-weaker c.format.result _ _ (λ text told.
    told ∙ ap (λ spec. codes "MANIFEST-" ++ styled_decimal spec c.in-Manifest.number) c.laid_out.ensures
    ∙ ap (λ digits. codes "MANIFEST-" ++ digits) (padded_to_six c.in-Manifest.number) ∙ ap printed_name (sym c.in-Manifest.is)) c.format.ensures.ok

pub returns-in-Log-clause-text : goal.returns-in-Log-clause-text
returns-in-Log-clause-text c =
    IfOk-weaker c.format-in-Log.result _ _ (λ text told.
    told ∙ before (styled_decimal c.laid_out-in-Log.result c.in-Log.number) c.in-Log.number (codes ".log") (ap (λ spec. styled_decimal spec c.in-Log.number) c.laid_out-in-Log.ensures) ∙ ap printed_name (sym c.in-Log.is)) c.format-in-Log.ensures.ok

pub returns-in-Table-clause-text : goal.returns-in-Table-clause-text
returns-in-Table-clause-text c =
    IfOk-weaker c.format-in-Table.result _ _ (λ text told.
    told ∙ before (styled_decimal c.laid_out-in-Table.result c.in-Table.number) c.in-Table.number (codes ".sst") (ap (λ spec. styled_decimal spec c.in-Table.number) c.laid_out-in-Table.ensures) ∙ ap printed_name (sym c.in-Table.is)) c.format-in-Table.ensures.ok

pub returns-in-Temp-clause-text : goal.returns-in-Temp-clause-text
returns-in-Temp-clause-text c =
    IfOk-weaker c.format-in-Temp.result _ _ (λ text told.
    told ∙ before (styled_decimal c.laid_out-in-Temp.result c.in-Temp.number) c.in-Temp.number (codes ".dbtmp") (ap (λ spec. styled_decimal spec c.in-Temp.number) c.laid_out-in-Temp.ensures) ∙ ap printed_name (sym c.in-Temp.is)) c.format-in-Temp.ensures.ok
