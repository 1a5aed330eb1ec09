use Rattle.std.proofs.Common.{◌+◌, List, drop, refl, ap, ◌∙◌}
use Rattle.rk_bytes.specs.declared.model.manifest.FamilyState.{FamilyState}
use Rattle.rk_bytes.specs.declared.model.manifest.FileMeta.{FileMeta}
use Rattle.rk_version.specs.Keyed.{without_all}
use Rattle.rk_version.proofs.Keyed.{gone_more, all_gone}
use Rattle.rk_version.proofs.ranked.RankedFamily.without_files.Goals as goal

pub loop-number-preserved : goal.loop-number-preserved
loop-number-preserved c =
    let family : FamilyState = c.loop-number.family in
    let i = c.loop-number.number-index in
    ap (λ (live : FamilyState). record live { files = without_all (λ (file : FileMeta). file.number) (drop (i + 1) c.args.numbers.now) live.files }) c.without_file-family.ensures
    ∙ ap (λ (files : List FileMeta). record family { files = files }) (gone_more (λ (file : FileMeta). file.number) c.args.numbers.now i c.loop-number-test.true family.files _ _ refl refl)
    ∙ c.loop-number.invariant

pub returns : goal.returns
returns c =
    let family : FamilyState = c.loop-number.family in
    ap (λ (files : List FileMeta). record family { files = files }) (all_gone (λ (file : FileMeta). file.number) c.args.numbers.now c.loop-number.number-index c.loop-number-test.false family.files _ refl) ∙ c.loop-number.invariant
