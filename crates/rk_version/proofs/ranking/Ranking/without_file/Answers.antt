use Rattle.std.proofs.Common.{filter, not, List, sym, ap, ◌∙◌}
use Rattle.rk_bytes.specs.declared.model.manifest.FileMeta.{FileMeta}
use Rattle.rk_bytes.specs.Model.Manifest.{has_number}
use Rattle.rk_version.specs.Rankings.{ranking_of}
use Rattle.rk_version.proofs.PlaceLemmas.{removed, none_removed}
use Rattle.rk_version.proofs.ranking.Ranking.without_file.Goals as goal

pub returns-in-Ok : goal.returns-in-Ok
returns-in-Ok c =
    let others : List FileMeta → List FileMeta = filter (λ file. not (has_number c.args.number file)) in
    c.without.ensures ∙ ap ranking_of (sym (removed (λ file. file.number) c.args.number c.in-Ok.at c.as_slice-files.result.now c.in-Ok.ensures))
    ∙ ap (λ files. ranking_of (others files)) c.as_slice-files.ensures

pub returns-in-Err : goal.returns-in-Err
returns-in-Err c =
    let others : List FileMeta → List FileMeta = filter (λ file. not (has_number c.args.number file)) in
    let same = c.as_slice-files.ensures in
    c.requires.kept ∙ ap ranking_of (sym (ap others (sym same) ∙ none_removed (λ file. file.number) c.args.number c.in-Err.field-0 c.as_slice-files.result.now c.in-Err.ensures ∙ same))
