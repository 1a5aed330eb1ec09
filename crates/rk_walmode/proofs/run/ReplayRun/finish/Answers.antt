use Rattle.rk_walmode.proofs.RunLemmas.{finished_ok, finished_err, finish_known}
use Rattle.rk_walmode.proofs.run.ReplayRun.finish.Goals as goal

pub returns-in-Ok-clause-replayed : goal.returns-in-Ok-clause-replayed
returns-in-Ok-clause-replayed c = λ fed h. finished_ok c.args.self fed c.in-Ok.field-0 c.finish.result c.requires c.in-Ok.is c.finish.ensures.finishes h

pub returns-in-Ok-clause-failed : goal.returns-in-Ok-clause-failed
returns-in-Ok-clause-failed c = finish_known c.args.self c.in-Ok.field-0 c.finish.result c.in-Ok.is c.finish.ensures.finishes

pub returns-in-Err-clause-replayed : goal.returns-in-Err-clause-replayed
returns-in-Err-clause-replayed c = λ fed h. finished_err c.args.self fed c.in-Err.why c.requires c.in-Err.is h
