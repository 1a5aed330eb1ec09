use Rattle.std.proofs.Common.{◌+◌, ◌++◌, drop, sym, ap, Some, ◌∙◌}
use Rattle.rk_bytes.specs.declared.model.manifest.FileMeta.{FileMeta}
use Rattle.rk_version.specs.Keyed.{found_all}
use Rattle.rk_version.proofs.Keyed.{more_found, none_more}
use Rattle.rk_version.proofs.PlaceLemmas.{found_at, not_found}
use Rattle.rk_version.proofs.files.copy_found.Goals as goal
use Rattle.rk_version.proofs.files.copy_found.Goals.{in-Ok+in_ok-copy_file+in_ok-push, in_default}

pub loop-number-preserved : goal.loop-number-preserved
loop-number-preserved c =
    elim c.match-place_of_file.branch [
      | in-Ok+in_ok-copy_file+in_ok-push w ↦
          more_found (λ (file : FileMeta). file.number) c.args.files.now c.args.numbers.now c.loop-number.number-index c.loop-number-test.true c.loop-number.found c.match-place_of_file.found _ _ (w.found-is ∙ w.in_ok-push.ensures.ok)
          (found_at (λ (file : FileMeta). file.number) _ w.in-Ok.place c.args.files.now w.index-files-place.result w.in-Ok.ensures ∙ ap Some (sym (w.in_ok-copy_file.ensures ∙ w.index-files-place.is))) c.loop-number.invariant
      | in_default w ↦
          ap (λ found. found ++ found_all (λ (file : FileMeta). file.number) c.args.files.now (drop (c.loop-number.number-index + 1) c.args.numbers.now)) w.found-is
          ∙ none_more (λ (file : FileMeta). file.number) c.args.files.now c.args.numbers.now c.loop-number.number-index c.loop-number-test.true c.loop-number.found _
          (not_found (λ (file : FileMeta). file.number) _ w.in_default.field-0 c.args.files.now w.in_default.ensures) c.loop-number.invariant
    ]
