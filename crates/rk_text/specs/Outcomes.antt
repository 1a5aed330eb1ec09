-- What is written of an opening.
use Rattle.std.specs.Prelude.{ℕ, List}
use Rattle.rk_bytes.specs.Model.Lines.{count_words, open_err_words, refused_words}
use Rattle.rk_text.specs.declared.outcome.Outcome.{Outcome}
use Rattle.rk_text.specs.declared.outcome.Outcome.TheVariants.{Counts, Refused}

abbrev pub outcome_words : Outcome → List ℕ
outcome_words (Counts records keys) = count_words records keys
outcome_words (Refused why) = refused_words (open_err_words why)
