use Rattle.std.proofs.Common.{◌≡◌, ℕ, MatchOption, subst, sym, ◌∙◌}
use Rattle.std.specs.Prelude.{◌<◌, ◌^◌, decimal}
use Rattle.std.proofs.lemmas.Bool.{false≢true}
use Rattle.rk_ldb.proofs.CommandWords.{number_of-read}
use Rattle.rk_ldb.proofs.NumberWords.{BeginsOtherwise, decimal_begins, parsed_number}
use Rattle.rk_ldb.proofs.words.read_number.Goals as goal

pub returns-then-begins_otherwise : goal.returns-then-begins_otherwise
returns-then-begins_otherwise c =
    number_of-read c.args.word.now _ (λ n fits is. decimal_begins n fits (subst BeginsOtherwise (c.as_bytes.ensures.value ∙ is) (c.begins_otherwise.ensures.0 c.if-begins_otherwise.true)))

pub returns : goal.returns
returns c =
    let word = c.args.word.now in
    number_of-read word c.ok.result (subst (λ o. MatchOption o ((n : ℕ) → n < 2 ^ 64 → word ≡ decimal n → ⊥) (λ n. (n < 2 ^ 64) × (word ≡ decimal n))) (sym c.ok.ensures.value)
    (parsed_number word c.parse.result c.parse.ensures.value.0 (λ begins.
    false≢true (sym c.if-begins_otherwise.false ∙ c.begins_otherwise.ensures.1 (subst BeginsOtherwise (sym c.as_bytes.ensures.value) begins)))))
