use Rattle.std.proofs.Common.{◌∷◌, sym, ap, ◌∙◌}
use Rattle.std.specs.Prelude.{option_map}
use Rattle.std.proofs.lemmas.List.{nil_from_length}
use Rattle.rk_ldb.specs.Commands.{told}
use Rattle.rk_ldb.proofs.CommandWords.{no_words, other_words, scan_words, get_words, families_words, manifest_words, log_words, check_words, repair_words, sst_words, drill_words}
use Rattle.rk_ldb.proofs.command.read_command.Goals as goal

pub returns-in_err-verb : goal.returns-in_err-verb
returns-in_err-verb c = ap (option_map told) c.from_residual.ensures ∙ sym (no_words c.args.words.now (nil_from_length c.args.words.now c.in_err-verb.ensures.cases))

pub returns-in-scan : goal.returns-in-scan
returns-in-scan c =
    let arguments = c.in_ok-verb.arguments.now in
    c.read_scan.ensures ∙ sym (scan_words c.args.words.now arguments (c.in_ok-verb.ensures.cases.0 ∙ ap (λ verb. verb ∷ arguments) (sym c.as_str.ensures ∙ c.in-scan.is)))

pub returns-in-get : goal.returns-in-get
returns-in-get c =
    let arguments = c.in_ok-verb.arguments.now in
    c.read_get.ensures ∙ sym (get_words c.args.words.now arguments (c.in_ok-verb.ensures.cases.0 ∙ ap (λ verb. verb ∷ arguments) (sym c.as_str.ensures ∙ c.in-get.is)))

pub returns-in-families : goal.returns-in-families
returns-in-families c =
    let arguments = c.in_ok-verb.arguments.now in
    c.read_families.ensures ∙ sym (families_words c.args.words.now arguments (c.in_ok-verb.ensures.cases.0 ∙ ap (λ verb. verb ∷ arguments) (sym c.as_str.ensures ∙ c.in-families.is)))

pub returns-in-manifest_dump : goal.returns-in-manifest_dump
returns-in-manifest_dump c =
    let arguments = c.in_ok-verb.arguments.now in
    c.read_manifest_dump.ensures ∙ sym (manifest_words c.args.words.now arguments (c.in_ok-verb.ensures.cases.0 ∙ ap (λ verb. verb ∷ arguments) (sym c.as_str.ensures ∙ c.in-manifest_dump.is)))

pub returns-in-dump_wal : goal.returns-in-dump_wal
returns-in-dump_wal c =
    let arguments = c.in_ok-verb.arguments.now in
    c.read_dump_wal.ensures ∙ sym (log_words c.args.words.now arguments (c.in_ok-verb.ensures.cases.0 ∙ ap (λ verb. verb ∷ arguments) (sym c.as_str.ensures ∙ c.in-dump_wal.is)))

pub returns-in-check : goal.returns-in-check
returns-in-check c =
    let arguments = c.in_ok-verb.arguments.now in
    c.read_check.ensures ∙ sym (check_words c.args.words.now arguments (c.in_ok-verb.ensures.cases.0 ∙ ap (λ verb. verb ∷ arguments) (sym c.as_str.ensures ∙ c.in-check.is)))

pub returns-in-repair : goal.returns-in-repair
returns-in-repair c =
    let arguments = c.in_ok-verb.arguments.now in
    c.read_repair.ensures ∙ sym (repair_words c.args.words.now arguments (c.in_ok-verb.ensures.cases.0 ∙ ap (λ verb. verb ∷ arguments) (sym c.as_str.ensures ∙ c.in-repair.is)))

pub returns-in-sst : goal.returns-in-sst
returns-in-sst c =
    let arguments = c.in_ok-verb.arguments.now in
    c.read_sst.ensures ∙ sym (sst_words c.args.words.now arguments (c.in_ok-verb.ensures.cases.0 ∙ ap (λ verb. verb ∷ arguments) (sym c.as_str.ensures ∙ c.in-sst.is)))

pub returns-in-drill : goal.returns-in-drill
returns-in-drill c =
    let arguments = c.in_ok-verb.arguments.now in
    c.read_drill.ensures ∙ sym (drill_words c.args.words.now arguments (c.in_ok-verb.ensures.cases.0 ∙ ap (λ verb. verb ∷ arguments) (sym c.as_str.ensures ∙ c.in-drill.is)))

pub returns-in_default : goal.returns-in_default
returns-in_default c =
    sym (other_words c.args.words.now c.in_ok-verb.arguments.now c.in_ok-verb.verb.now c.in_ok-verb.ensures.cases.0
    (λ is. c.in_default.not-scan (c.as_str.ensures ∙ is))
    (λ is. c.in_default.not-get (c.as_str.ensures ∙ is))
    (λ is. c.in_default.not-families (c.as_str.ensures ∙ is))
    (λ is. c.in_default.not-manifest_dump (c.as_str.ensures ∙ is))
    (λ is. c.in_default.not-dump_wal (c.as_str.ensures ∙ is))
    (λ is. c.in_default.not-check (c.as_str.ensures ∙ is))
    (λ is. c.in_default.not-repair (c.as_str.ensures ∙ is))
    (λ is. c.in_default.not-sst (c.as_str.ensures ∙ is))
    (λ is. c.in_default.not-drill (c.as_str.ensures ∙ is)))
