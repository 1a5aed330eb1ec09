use Rattle.std.proofs.Common.{Ok, Err, refl, ap, subst}
use Rattle.std.specs.Prelude.{is_ok}
use Rattle.rk_walmode.specs.declared.progress.Reading.{Reading}
use Rattle.rk_walmode.specs.Blocks.{TakesBlock}
use Rattle.rk_walmode.proofs.RunLemmas.{fed_over, fed_block, reads_ok}
use Rattle.rk_walmode.proofs.run.ReplayRun.read.Goals as goal

pub returns-in_default-clause-fed : goal.returns-in_default-clause-fed
returns-in_default-clause-fed c = λ whole before h. fed_over c.args.self.now _ c.args.last whole before c.args.block.now c.in_default.is refl refl refl refl h

pub returns-in-Ok-GoesOn-clause-fed : goal.returns-in-Ok-GoesOn-clause-fed
returns-in-Ok-GoesOn-clause-fed c = λ whole before h.
    let run = c.args.self.now in
    let ok = reads_ok run.outcome run.feed c.in-Some.feed run.given_up c.in-Some.is in
    let taken = subst (λ (reading : Reading). TakesBlock run.progress.mode run.progress.version.now c.in-Some.feed run.progress c.args.log c.args.block.now c.args.last (Ok reading) c.take_block.new.feed c.take_block.new.progress) c.in-Ok-GoesOn.field-0-is c.in-Ok-GoesOn.ensures.taken in
    fed_block run _ c.args.last whole before c.args.log c.args.block.now c.in-Some.feed c.take_block.new.feed _ c.requires.log c.in-Some.is (ap is_ok ok) taken ok refl refl c.take_block.ensures.mode c.take_block.ensures.version h

pub returns-in-Ok-Ended-clause-fed : goal.returns-in-Ok-Ended-clause-fed
returns-in-Ok-Ended-clause-fed c = λ whole before h.
    let run = c.args.self.now in
    let ok = reads_ok run.outcome run.feed c.in-Some.feed run.given_up c.in-Some.is in
    let taken = subst (λ (reading : Reading). TakesBlock run.progress.mode run.progress.version.now c.in-Some.feed run.progress c.args.log c.args.block.now c.args.last (Ok reading) c.take_block.new.feed c.take_block.new.progress) c.in-Ok-Ended.field-0-is c.in-Ok-Ended.ensures.taken in
    fed_block run _ c.args.last whole before c.args.log c.args.block.now c.in-Some.feed c.take_block.new.feed _ c.requires.log c.in-Some.is (ap is_ok ok) taken ok refl refl c.take_block.ensures.mode c.take_block.ensures.version h

pub returns-in-Err-clause-fed : goal.returns-in-Err-clause-fed
returns-in-Err-clause-fed c = λ whole before h.
    let run = c.args.self.now in
    let ok = reads_ok run.outcome run.feed c.in-Some.feed run.given_up c.in-Some.is in
    fed_block run _ c.args.last whole before c.args.log c.args.block.now c.in-Some.feed c.take_block.new.feed (Err c.in-Err.why) c.requires.log c.in-Some.is (ap is_ok ok) c.in-Err.ensures.taken refl refl refl c.take_block.ensures.mode c.take_block.ensures.version h
