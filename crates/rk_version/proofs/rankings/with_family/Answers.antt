use Rattle.std.proofs.Common.{◌∙◌}
use Rattle.std.specs.List.{list_any}
use Rattle.std.proofs.lemmas.Bool.{both_ways}
use Rattle.rk_bytes.specs.Model.Manifest.{has_id}
use Rattle.rk_version.proofs.PlaceLemmas.{there_at}
use Rattle.rk_version.proofs.RankingsLemmas.{with_new}
use Rattle.rk_version.proofs.rankings.with_family.Goals as goal

pub unreachable-requires : goal.unreachable-requires
unreachable-requires c =
    let there = there_at (λ live. live.id) c.args.id c.in-Ok.field-0 c.args.families.now c.in-Ok.ensures in
    both_ways (list_any (has_id c.args.id) c.args.families.now) c.requires.free there

pub returns : goal.returns
returns c name =
    c.from_vec.ensures ∙ c.in_ok-insert-in-Err.ensures.items
    ∙ with_new c.args.families.now c.into_vec-rankings.result.items (c.into_vec-rankings.ensures ∙ c.requires.kept) c.args.id c.in-Err.place name c.new.result c.new.ensures c.in-Err.ensures
