use Rattle.std.proofs.Common.{Some, None, ap, ◌∙◌}
use Rattle.std.specs.Option.{option_map, option_copied}
use Rattle.std.proofs.lemmas.List.{nil_from_length}
use Rattle.rk_bytes.specs.Model.Grammar.{key_word_of}
use Rattle.rk_ldb.specs.Commands.{told, told_key}
use Rattle.rk_ldb.proofs.CommandWords.{no_key, bad_key, get_command}
use Rattle.rk_ldb.proofs.command.read_get.Goals as goal

pub returns-in_err-word : goal.returns-in_err-word
returns-in_err-word c = ap (option_map told) c.from_residual.ensures ∙ no_key c.args.arguments.now (nil_from_length c.args.arguments.now c.in_err-word.ensures.cases)

pub returns-in_err-key : goal.returns-in_err-key
returns-in_err-key c =
    ap (option_map told) c.from_residual-in_err-key.ensures
    ∙ bad_key c.args.arguments.now c.in_ok-word.options.now c.in_ok-word.word.now c.in_ok-word.ensures.cases.0 (c.in_err-key.ensures ∙ ap key_word_of (c.as_bytes.ensures.value ∙ c.as_str.ensures))

pub returns-in_err-hex : goal.returns-in_err-hex
returns-in_err-hex c =
    ap (option_map told) c.from_residual-in_err-hex.ensures
    ∙ get_command c.args.arguments.now c.in_ok-word.options.now c.read_family.result.1.now c.read_how-how.result.1.now c.in_ok-word.word.now
    (Some (told_key c.in_ok-key.key)) (option_copied c.read_family.result.0) c.read_how-how.result.0 None
    c.in_ok-word.ensures.cases.0 (c.in_ok-key.ensures ∙ ap key_word_of (c.as_bytes.ensures.value ∙ c.as_str.ensures))
    c.read_family.ensures.value c.read_family.ensures.rest c.read_how-how.ensures.value c.read_how-how.ensures.rest c.in_err-hex.ensures

pub returns : goal.returns
returns c =
    get_command c.args.arguments.now c.in_ok-word.options.now c.read_family.result.1.now c.read_how-how.result.1.now c.in_ok-word.word.now
    (Some (told_key c.in_ok-key.key)) (option_copied c.read_family.result.0) c.read_how-how.result.0 (Some c.in_ok-hex.hex)
    c.in_ok-word.ensures.cases.0 (c.in_ok-key.ensures ∙ ap key_word_of (c.as_bytes.ensures.value ∙ c.as_str.ensures))
    c.read_family.ensures.value c.read_family.ensures.rest c.read_how-how.ensures.value c.read_how-how.ensures.rest c.in_ok-hex.ensures
