use Rattle.std.proofs.Common.{◌∙◌, rules, of_calls}
use Rattle.std.proofs.lemmas.Fn.{always_returns_same}
use Rattle.std.proofs.lemmas.List.Sorted.{IsPermutation-trans}
use Rattle.rk_view.specs.Leads.{lead_of}
use Rattle.rk_view.proofs.LeadLemmas.{slots_stay}
use Rattle.rk_view.proofs.sort.near.Goals as goal

pub returns-clause-permutation : goal.returns-clause-permutation
returns-clause-permutation c = IsPermutation-trans _ _ _ c.in_ok-sort_by_cached_key.ensures.permutation c.in_ok-sort_by_key.ensures.permutation

pub returns-clause-stable : goal.returns-clause-stable
returns-clause-stable c r =
    let from = c.shared-from.result in
    let xs = c.args.records.items in
    let near = c.sort_by_cached_key.new.self.items in
    let by_lead = c.in_ok-sort_by_cached_key.ensures.stable (λ x. lead_of from x.key) (always_returns_same _ _ _ (λ a r f k. search (rules, of_calls))) in
    let by_family = c.in_ok-sort_by_key.ensures.stable (λ x. x.family) (always_returns_same _ _ _ (λ a r f k. search (rules, of_calls))) in
    slots_stay (λ q. q.family) near c.sort_by_key.new.self.items by_family r ∙ slots_stay (λ q. lead_of from q.user) xs near by_lead r
