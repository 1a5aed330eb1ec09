-- What is written of the manifest that CURRENT names.
use Rattle.std.proofs.Common.{◌≡◌, ℕ, Bool, List, Option, Some, None, Result, Ok, Err, refl, sym, ap, ◌∙◌, subst}
use Rattle.std.specs.Prelude.{IfSome, ok_or}
use Rattle.std.specs.FinMap.{get}
use Rattle.rk_bytes.specs.declared.model.open.OpenErr.{OpenErr}
use Rattle.rk_bytes.specs.declared.model.open.OpenErr.TheVariants as open_err
use Rattle.rk_bytes.specs.Model.Numbers.{◌>>=◌}
use Rattle.rk_bytes.specs.Model.DiskImages.{Directory}
use Rattle.rk_bytes.specs.Model.FileNames.{manifest_name}
use Rattle.rk_bytes.specs.Model.Lines.{open_err_words}
use Rattle.rk_bytes.specs.Model.LogItems.{log_items}
use Rattle.rk_bytes.specs.Model.Opening.{Files, named_manifest}
use Rattle.rk_bytes.specs.Model.Output.{Output, written, refused, written_or_refused, manifest_dump_output}
use Rattle.rk_open.specs.Answers.{Answers}
use Rattle.rk_ldb.proofs.Openings.{refused_as}
use Rattle.rk_ldb.specs.declared.items.Form.{Form}
use Rattle.rk_ldb.specs.declared.items.Records.TheVariants.{Edits}
use Rattle.rk_ldb.specs.declared.refusal.Refusal.{Refusal}
use Rattle.rk_ldb.specs.declared.refusal.Refusal.TheVariants.{Open}
use Rattle.rk_ldb.specs.Refusals.{words_of, open_stop}
use Rattle.rk_ldb.specs.Wrote.{dump_lines, file_output}

-- the form of a manifest's records
abbrev pub edits : Bool → Form
edits hex = record { records = Edits; hex = hex }

-- what is written, by what CURRENT names
by_name : Bool → Files → Result ℕ OpenErr → Output
by_name hex files named =
    written_or_refused open_err_words (λ bytes. written (dump_lines (edits hex) (log_items 0 bytes))) (named >>= (λ number. ok_or (files (manifest_name number)) (open_err.NoManifest number)))

by_file : (hex : Bool) (number : ℕ) (file : Option (List ℕ))
    → file_output (words_of (Open (open_err.NoManifest number))) (edits hex) 0 file ≡ written_or_refused open_err_words (λ bytes. written (dump_lines (edits hex) (log_items 0 bytes))) (ok_or file (open_err.NoManifest number))
by_file hex number None = refl
by_file hex number (Some bytes) = refl

pub lines_of_named : (o : Option Directory) (hex : Bool) (number : ℕ) (P : Output → Type 0) → IfSome o (λ d. Answers (named_manifest (get d)) (Ok number))
    → IfSome o (λ d. P (file_output (words_of (Open (open_err.NoManifest number))) (edits hex) 0 (get d (manifest_name number)))) → IfSome o (λ d. P (manifest_dump_output hex (get d)))
unfolding by_name
lines_of_named None hex number P named h = tt
lines_of_named (Some d) hex number P named h = subst P (by_file hex number (get d (manifest_name number)) ∙ ap (by_name hex (get d)) (sym named)) h

pub lines_of_refused : (o : Option Directory) (hex : Bool) (why : OpenErr) (refusal : Refusal) (P : Output → Type 0) → IfSome o (λ d. Answers (named_manifest (get d)) (Err why)) → Ok refusal ≡ open_stop why
    → P (refused (words_of refusal)) → IfSome o (λ d. P (manifest_dump_output hex (get d)))
unfolding by_name
lines_of_refused None hex why refusal P named is h = tt
lines_of_refused (Some d) hex why refusal P named is h =
    let same = refused_as ℕ why refusal (named_manifest (get d)) is named in
    subst P (ap (λ refusal. refused (words_of refusal)) (sym same.1) ∙ ap (by_name hex (get d)) (sym same.0)) h
