use Rattle.std.proofs.Common.{rules, length, ◌∙◌}
use Rattle.rk_open.proofs.WholeLemmas.{answer_at, whole_alike}
use Rattle.rk_open.proofs.whole.Tested.answer_at.Goals as goal

pub returns : goal.returns
returns c = λ among told.
    let answers = c.args.self.now.answers.items in
    let one = c.index-files-place.result in
    answer_at among c.args.files.now answers (length answers) c.args.place one c.index.result.now told (search rules) (search rules) c.index-files-place.is (search rules) (search rules)
    ∙ whole_alike among one c.args.file.now (search rules) (search rules) (search rules) (search rules)
