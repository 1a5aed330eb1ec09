use Rattle.std.proofs.Common.{rules, ◌≡◌, map, sym, ap, subst, ◌∙◌}
use Rattle.std.specs.List.{All}
use Rattle.std.specs.Ordering.{is_lt}
use Rattle.std.proofs.lemmas.Fn.{always_returns_same}
use Rattle.std.proofs.lemmas.List.Elements.{recursion_from_All}
use Rattle.std.proofs.lemmas.List.Sorted.{All-permutation, ranks_by, sorted_far}
use Rattle.rk_version.specs.declared.spot.Spot.{Spot}
use Rattle.rk_version.specs.Spots.{spot_cmp, file_at, IsSpot, first_clash}
use Rattle.rk_version.proofs.Turning.{spot_total, sorted_clash, all_taken}
use Rattle.rk_version.proofs.overlap.overlapping_level.Goals as goal

pub first_clash-requires : goal.first_clash-requires
first_clash-requires c =
    subst (All IsSpot) (sym c.as_slice.ensures.value) (All-permutation IsSpot c.loop-file.spots.items c.sort_by.new.self.items c.sort_by.ensures.permutation c.loop-file.invariant.1)

pub returns : goal.returns
returns c =
    let sorted = c.sort_by.new.self.items in
    let before = c.loop-file.spots.items in
    let files = c.args.files.now in
    let order = ranks_by spot_total (λ (s : Spot). s) in
    let up = c.in_ok-sort_by.ensures.sorted (λ a b. is_lt (spot_cmp a b)) order
    (always_returns_same _ (λ a r. is_lt r ≡ is_lt (spot_cmp a.0.now a.1.0.now)) _ (λ a r f' k. let e : r ≡ spot_cmp a.0.now a.1.0.now = search rules in (ap is_lt e, search rules))) in
    let all = all_taken files c.loop-file.file-index c.loop-file-test.false in
    c.first_clash.ensures ∙ ap (λ spots. first_clash (map file_at spots)) c.as_slice.ensures.value
    ∙ sym (sorted_clash files before sorted c.requires.rise (c.loop-file.invariant.0 ∙ all) (recursion_from_All IsSpot before c.loop-file.invariant.1) c.sort_by.ensures.permutation
    (λ i j d least in'. sorted_far (λ a b. is_lt (spot_cmp a b)) order sorted up i j d least in'))
