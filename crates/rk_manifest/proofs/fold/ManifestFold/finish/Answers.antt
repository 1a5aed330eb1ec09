use Rattle.std.proofs.Common.{Ok, Err, sym, ap, ◌∙◌, subst}
use Rattle.std.proofs.lemmas.Result.{err_from_is_err_and}
use Rattle.rk_bytes.specs.Model.Manifest.{manifest_units, last_version}
use Rattle.rk_manifest.specs.Last.{IsLast}
use Rattle.rk_manifest.proofs.FoldLemmas.{fed_all}
use Rattle.rk_manifest.proofs.fold.ManifestFold.finish.Goals as goal

pub returns-in_err-finish-in-Ended-clause-last : goal.returns-in_err-finish-in-Ended-clause-last
returns-in_err-finish-in-Ended-clause-last c = λ bytes fed.
    let told = err_from_is_err_and c.from_residual-in_err-finish-in-Ended.result c.from_residual-in_err-finish-in-Ended.ensures.1 in
    let all = fed_all c.args.self bytes c.in-Ended.fault (c.in_ok-self.was ∙ ap Ok c.in-Ended.is) fed in
    subst (IsLast (last_version (manifest_units bytes))) (sym (told.1 ∙ ap Err told.2)) (all ∙ sym c.finish.ensures ∙ c.in_err-finish-in-Ended.was)

pub returns-clause-last : goal.returns-clause-last
returns-clause-last c = λ bytes fed. fed_all c.args.self bytes c.in-Ended.fault (c.in_ok-self.was ∙ ap Ok c.in-Ended.is) fed ∙ sym c.finish.ensures ∙ c.in_ok-finish-in-Ended.was
