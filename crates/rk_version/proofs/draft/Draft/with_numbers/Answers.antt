use Rattle.std.proofs.Common.{◌≡◌, ℕ, List, max, map, cond, is_some, Option, Ok, sym, ap, subst, ◌∙◌}
use Rattle.std.specs.Prelude.{◌||◌}
use Rattle.std.specs.Option.{option_or, unwrap_or}
use Rattle.rk_bytes.specs.declared.model.manifest.FamilyState.{FamilyState}
use Rattle.rk_bytes.specs.Model.Manifest.{has_id, tracked_after}
use Rattle.rk_version.specs.Places.{Rises}
use Rattle.rk_version.specs.Rankings.{rankings_of}
use Rattle.rk_version.proofs.RankingsLemmas.{kept_logged}
use Rattle.rk_version.proofs.VersionOrder.{order_families, order_logged, order_tracked}
use Rattle.rk_version.proofs.draft.Draft.with_numbers.Goals as goal

-- the families with the log number of one raised
abbrev logged : ℕ → ℕ → List FamilyState → List FamilyState
logged id log = map (λ live. cond (has_id id live) (record live { log = max live.log log }) live)

pub invariant_of-result : goal.invariant_of-result
invariant_of-result c =
    let before = c.self.inside.version in
    let families_are = c.with_log.ensures ∙ ap (logged c.unwrap_or-id.result c.unwrap_or.result) c.replace-families.ensures.value in
    let o = order_families before c.with_log.result (logged c.unwrap_or-id.result c.unwrap_or.result before.families) (order_logged c.unwrap_or-id.result (λ log. max log c.unwrap_or.result) before.families) families_are c.self.invariant.order in
    record {
      order = record {
        ids = o.ids;
        files = o.files;
        logs = subst (Rises (λ tracked. tracked.log)) (sym (c.in-Ok.ensures ∙ ap (tracked_after c.args.view) c.replace-wals.ensures.value)) (order_tracked c.args.view before.wals o.logs);
      };
      kept = c.self.invariant.kept ∙ sym (kept_logged c.unwrap_or-id.result (λ log. max log c.unwrap_or.result) before.families) ∙ ap rankings_of (sym families_are);
    }

pub returns-in-Ok : goal.returns-in-Ok
returns-in-Ok c =
    let before = c.self.inside.version in
    let or_zero : Option ℕ → ℕ = λ o. unwrap_or o 0 in
    let id_is = c.unwrap_or-id.ensures ∙ ap or_zero c.requires.family in
    let log_is = c.unwrap_or.ensures ∙ ap or_zero c.requires.log_number in
    let families_is = c.with_log.ensures ∙ ap (logged c.unwrap_or-id.result c.unwrap_or.result) c.replace-families.ensures.value ∙ (λ i. logged (id_is i) (log_is i) before.families) in
    let seen_is = c.is_log_seen.ensures ∙ ap (λ (o : Option ℕ). before.log_seen || is_some o) c.requires.log_number in
    let next_is = c.or-version.ensures ∙ ap (λ (o : Option ℕ). option_or o before.next_file) c.requires.next_file in
    let last_is = c.or-version-2.ensures ∙ ap (λ (o : Option ℕ). option_or o before.last_sequence) c.requires.last_sequence in
    let least_is = c.max.ensures ∙ ap (max before.least_log) (c.unwrap_or-2.ensures ∙ ap or_zero c.requires.least_log) in
    let greatest_is = c.max-2.ensures ∙ ap (max before.greatest_family) (c.unwrap_or-3.ensures ∙ ap or_zero c.requires.greatest_family) in
    let logs_is = c.in-Ok.ensures ∙ ap (tracked_after c.args.view) c.replace-wals.ensures.value in
    let built : before ≡ c.args.self = c.self.view_is in
    rw (← built) (λ i. Ok (record {
      families = sym families_is i;
      log_seen = sym seen_is i;
      next_file = sym next_is i;
      last_sequence = sym last_is i;
      least_log = sym least_is i;
      greatest_family = sym greatest_is i;
      wals = sym logs_is i;
    }))
