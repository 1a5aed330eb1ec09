use Rattle.std.proofs.Common.{not, sym, subst}
use Rattle.rk_bytes.specs.declared.model.manifest.Tracked.{Tracked}
use Rattle.rk_version.specs.Keyed.{is_among, without_all}
use Rattle.rk_version.specs.Places.{Rises}
use Rattle.rk_version.proofs.Keyed.{rises_put_all}
use Rattle.rk_version.proofs.Rising.{rises_filter}
use Rattle.rk_version.proofs.draft.Draft.with_numbers_before.Goals as goal

pub invariant_of-result : goal.invariant_of-result
invariant_of-result c =
    let o = c.self.invariant.order in
    let tracks = c.as_slice.result.now in
    let rises = subst (Rises (λ (tracked : Tracked). tracked.log)) (sym c.replace-wals.ensures.value) o.logs in
    record {
      order = record {
        ids = o.ids;
        files = o.files;
        logs = subst (Rises (λ (tracked : Tracked). tracked.log)) (sym c.in_ok-version.ensures)
            (rises_put_all (λ (tracked : Tracked). tracked.log) c.as_slice-2.result.now (without_all (λ tracked. tracked.log) tracks c.replace-wals.result)
            (rises_filter (λ (tracked : Tracked). tracked.log) (λ tracked. not (is_among tracks tracked.log)) c.replace-wals.result rises));
      };
      kept = c.self.invariant.kept;
    }
