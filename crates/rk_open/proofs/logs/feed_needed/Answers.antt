use Rattle.std.proofs.Common.{Ok, Err, [], ◌∷◌, get_or, rules, refl, sym, ap, ◌∙◌, subst}
use Rattle.std.specs.Prelude.{IfSome}
use Rattle.std.proofs.lemmas.List.{take_all}
use Rattle.std.proofs.lemmas.Result.{err_from_is_err_and}
use Rattle.rk_bytes.specs.Model.DiskImages.{contents_told}
use Rattle.rk_open.specs.Logs.{FeedsLogs}
use Rattle.rk_open.proofs.ReplayedLemmas.{needed, needed_fed, needed_refused, needed_all, none_needed}
use Rattle.rk_open.proofs.logs.feed_needed.Goals as goal

pub loop-number-init : goal.loop-number-init
loop-number-init g c = record {
  room = c.requires.room;
  version = search rules;
  mode = search rules;
  log = c.requires.log;
  read = c.requires.read;
  left = search rules;
  faults = search rules;
  fed = none_needed c.args.run.now c.args.first (contents_told (g.D.Disk.told c.args.disk.now));
}

pub returns-in_err-feed_if_needed-clause-fed : goal.returns-in_err-feed_if_needed-clause-fed
returns-in_err-feed_if_needed-clause-fed g c =
    let inv = c.loop-number.invariant in
    let told = g.D.Disk.told c.args.disk.now in
    let k = c.loop-number.number-index in
    let numbers = c.args.numbers.now in
    let number = get_or numbers k 0 in
    let new = c.feed_if_needed.new.run in
    let why = c.in_err-feed_if_needed.field-0.0 in
    let answer = err_from_is_err_and c.from_residual.result c.from_residual.ensures.1 in
    let feeds = subst (λ told. IfSome (contents_told told) (λ d. FeedsLogs c.loop-number.run (needed c.args.first d (number ∷ [])) (Err why) new)) inv.left c.in_err-feed_if_needed.ensures.fed in
    subst (λ result. IfSome (contents_told told) (λ d. FeedsLogs c.args.run.now (needed c.args.first d numbers) result new)) (sym (answer.1 ∙ ap Err answer.2))
    (needed_refused c.args.run.now c.loop-number.run new c.args.first number k numbers refl c.loop-number-test.true (contents_told told) why inv.mode inv.version inv.fed feeds)

pub loop-number-preserved : goal.loop-number-preserved
loop-number-preserved g c =
    let inv = c.loop-number.invariant in
    let told = g.D.Disk.told c.args.disk.now in
    let k = c.loop-number.number-index in
    let numbers = c.args.numbers.now in
    let number = get_or numbers k 0 in
    let new = c.feed_if_needed.new.run in
    let feeds = subst (λ told. IfSome (contents_told told) (λ d. FeedsLogs c.loop-number.run (needed c.args.first d (number ∷ [])) (Ok tt) new)) inv.left c.in_ok-feed_if_needed.ensures.fed in record {
      room = search rules;
      version = search rules;
      mode = search rules;
      log = search rules;
      read = search rules;
      left = search rules;
      faults = search rules;
      fed = needed_fed c.args.run.now c.loop-number.run new c.args.first number k numbers refl c.loop-number-test.true (contents_told told) inv.fed feeds;
    }

pub returns-clause-fed : goal.returns-clause-fed
returns-clause-fed g c =
    let numbers = c.args.numbers.now in
    needed_all c.args.run.now c.loop-number.run c.args.first c.loop-number.number-index numbers (contents_told (g.D.Disk.told c.args.disk.now))
    (take_all c.loop-number.number-index numbers c.loop-number-test.false) c.loop-number.invariant.fed
