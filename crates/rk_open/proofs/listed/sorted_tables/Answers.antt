use Rattle.std.proofs.Common.{◌≡◌, rules, ap, ◌∙◌}
use Rattle.std.specs.Prelude.{flat_map}
use Rattle.std.proofs.lemmas.Fn.{always_returns_same}
use Rattle.std.proofs.lemmas.List.{take_all}
use Rattle.std.proofs.lemmas.List.Sorted.{IsNonDecreasingBy-from_sort_by_key}
use Rattle.rk_bytes.specs.Model.Opening.{listed_by}
use Rattle.rk_open.proofs.ListedLemmas.{family_more, listed_sorted, number_of}
use Rattle.rk_open.proofs.listed.sorted_tables.Goals as goal

pub loop-live-preserved : goal.loop-live-preserved
loop-live-preserved c =
    family_more c.loop-live.tables.items c.push_tables.new.tables.items c.live-item.result c.args.families.now c.loop-live.live-index c.in_ok-push_tables.ensures c.live-item.is c.loop-live-test.true c.loop-live.invariant

pub returns : goal.returns
returns c =
    listed_sorted c.loop-live.tables.items c.sort_by_key.new.self.items c.args.families.now
    (IsNonDecreasingBy-from_sort_by_key number_of c.sort_by_key.new.self.items c.in_ok-sort_by_key.ensures.sorted (λ a r q k. search rules))
    (c.sort_by_key.ensures.stable number_of (always_returns_same _ (λ a r. r ≡ number_of a.0.now) _ (λ a r q k. search rules)))
    (c.loop-live.invariant ∙ ap (flat_map listed_by) (take_all c.loop-live.live-index c.args.families.now c.loop-live-test.false))
