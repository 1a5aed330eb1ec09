use Rattle.std.proofs.Common.{◌≡◌, ℕ, length, Option, Err, refl, subst, sym, ap, ◌∙◌, arith}
use Rattle.std.specs.Prelude.{IfSome}
use Rattle.std.proofs.lemmas.List.{length-append}
use Rattle.std.proofs.lemmas.Result.{err_from_is_err_and}
use Rattle.rk_walmode.specs.Fed.{log_of}
use Rattle.rk_walmode.specs.Runs.{version_of, mode_of}
use Rattle.rk_walmode.specs.Parts.{RefusesLogs}
use Rattle.rk_walmode.proofs.LogsLemmas.{within_more, within_end, within_refused, end_refused, refuses_in, all_ok, front_and_rest}
use Rattle.rk_walmode.proofs.logs.feed_log.Goals as goal

pub returns-in_err-feed-clause-refused : goal.returns-in_err-feed-clause-refused
returns-in_err-feed-clause-refused c = λ whole fed.
    let h = c.loop-rest.invariant in
    let told = err_from_is_err_and c.from_residual.result c.from_residual.ensures.1 in
    let log = log_of c.args.log.now in
    let parts = front_and_rest c.loop-rest.rest.now c.split_at.result.0.now c.split_at.result.1.now 32768 c.split_at.ensures.front c.split_at.ensures.back in
    let refused = within_refused c.loop-rest.run (mode_of c.loop-rest.run) (version_of c.loop-rest.run) whole log c.loop-rest.rest.now c.split_at.result.0.now c.split_at.result.1.now (Err c.in_err-feed.field-0.0) parts c.in_err-feed.ensures.refused (h.within whole fed) in
    subst (RefusesLogs (mode_of c.args.run.now) (version_of c.args.run.now) _) (sym (told.1 ∙ ap Err told.2))
    (refuses_in (mode_of c.loop-rest.run) (mode_of c.args.run.now) (version_of c.loop-rest.run) (version_of c.args.run.now) _ (Err c.in_err-feed.field-0.0) h.mode h.version refused)

pub loop-rest-preserved : goal.loop-rest-preserved
loop-rest-preserved c =
    let h = c.loop-rest.invariant in
    let parts = front_and_rest c.loop-rest.rest.now c.split_at.result.0.now c.split_at.result.1.now 32768 c.split_at.ensures.front c.split_at.ensures.back in
    record {
      within = λ whole fed. within_more c.loop-rest.run c.feed.new.self whole (log_of c.args.log.now) c.loop-rest.rest.now c.split_at.result.0.now c.split_at.result.1.now parts c.feed.ensures.fed (h.within whole fed);
      mode = c.feed.ensures.mode ∙ h.mode;
      version = c.feed.ensures.version ∙ h.version;
      log = subst (λ (log : Option ℕ). IfSome log (λ number. number ≡ c.args.log.now.number)) (sym c.feed.ensures.log) refl;
      read = omega (arith, c.feed.ensures.read, h.read, ap length parts, length-append c.split_at.result.0.now c.split_at.result.1.now);
    }

pub returns-clause-fed : goal.returns-clause-fed
returns-clause-fed c = λ whole fed. all_ok c.feed-2.result _ (within_end c.loop-rest.run c.feed-2.new.self whole (log_of c.args.log.now) c.loop-rest.rest.now c.feed-2.ensures.fed (c.loop-rest.invariant.within whole fed))

pub returns-clause-refused : goal.returns-clause-refused
returns-clause-refused c = λ whole fed.
    let h = c.loop-rest.invariant in
    refuses_in (mode_of c.loop-rest.run) (mode_of c.args.run.now) (version_of c.loop-rest.run) (version_of c.args.run.now) _ c.feed-2.result h.mode h.version
    (end_refused c.loop-rest.run (mode_of c.loop-rest.run) (version_of c.loop-rest.run) whole (log_of c.args.log.now) c.loop-rest.rest.now c.feed-2.result c.feed-2.ensures.refused (h.within whole fed))
