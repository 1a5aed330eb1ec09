use Rattle.std.proofs.Common.{Option, Some, None, Result, refl, sym, subst}
use Rattle.rk_bytes.specs.declared.model.wal.WalErr.{WalErr}
use Rattle.rk_log.specs.declared.feed.LogFeed.{LogFeed}
use Rattle.rk_walmode.proofs.RunLemmas.{IsFresh, no_log, fed_begin}
use Rattle.rk_walmode.proofs.run.ReplayRun.begin.Goals.{in-Ok, in-Err}
use Rattle.rk_walmode.proofs.run.ReplayRun.begin.Goals as goal

pub returns-after-self-clause-fed : goal.returns-after-self-clause-fed
returns-after-self-clause-fed c = λ fed h.
    let fresh : IsFresh c.args.self.now.outcome _ c.args.log =
    elim c.match-self.branch [
      | in-Ok w ↦ subst (λ (feed : Option LogFeed). IsFresh c.args.self.now.outcome feed c.args.log) (sym w.t-7-is) (subst (λ (outcome : Result (Unit {0}) WalErr). IsFresh outcome (Some w.new.result) c.args.log) (sym w.in-Ok.is) w.new.ensures.left)
      | in-Err w ↦ subst (λ (feed : Option LogFeed). IsFresh c.args.self.now.outcome feed c.args.log) (sym w.t-7-is) (subst (λ (outcome : Result (Unit {0}) WalErr). IsFresh outcome None c.args.log) (sym w.in-Err.is) tt)
    ] in
    fed_begin c.args.self.now _ fed c.args.log h (no_log c.args.self.now.log c.if-is_none.ensures) refl refl refl fresh
