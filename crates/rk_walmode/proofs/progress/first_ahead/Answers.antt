use Rattle.std.proofs.Common.{◌≡◌, true, ap, sym, ◌∙◌}
use Rattle.std.specs.Prelude.{option_map}
use Rattle.rk_bytes.specs.declared.model.manifest.FamilyState.{FamilyState}
use Rattle.rk_bytes.specs.Model.Replay.{is_ahead}
use Rattle.rk_walmode.proofs.BatchLemmas.{first_passing, ahead_from}
use Rattle.rk_walmode.proofs.progress.first_ahead.Goals as goal

pub returns-then-not-is_empty : goal.returns-then-not-is_empty
returns-then-not-is_empty c =
    let live = c.live-item.result in
    let passes : is_ahead c.args.log live ≡ true = ahead_from c.args.log live c.as_slice.result.now c.as_slice.ensures c.if-live-log.true (sym c.is_empty.ensures ∙ c.if-not-is_empty.true) in
    sym (ap (option_map (λ (live : FamilyState). live.id)) (first_passing (is_ahead c.args.log) c.args.families.now c.loop-live.live-index live c.loop-live-test.true c.live-item.is c.loop-live.invariant passes))
