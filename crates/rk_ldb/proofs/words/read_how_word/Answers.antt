use Rattle.std.proofs.Common.{sym}
use Rattle.rk_ldb.proofs.CommandWords.{no_how}
use Rattle.rk_ldb.proofs.words.read_how_word.Goals as goal

pub returns-in_default : goal.returns-in_default
returns-in_default c = sym (no_how c.args.word.now c.in_default.not-text c.in_default.not-text-2 c.in_default.not-text-3 c.in_default.not-text-4 c.in_default.not-text-5)
