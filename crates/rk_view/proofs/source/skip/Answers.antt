use Rattle.std.proofs.Common.{◌∙◌, ◌<◌, length, arith}
use Rattle.std.specs.Prelude.{filter}
use Rattle.rk_view.specs.Places.{is_after}
use Rattle.rk_view.proofs.SourceLemmas.{run_of_source, set_runs, set_same, set_done}
use Rattle.rk_view.proofs.source.skip.Goals as goal

pub skip_one-requires : goal.skip_one-requires
skip_one-requires g c =
    let within : c.loop-source.source-index < length c.loop-source.sources = omega arith in
    run_of_source g.S.Source.left c.loop-source.sources c.loop-source.source-index c.source-item.result within c.loop-source.invariant.runs

pub returns-in_err-skip_one-clause-runs : goal.returns-in_err-skip_one-clause-runs
returns-in_err-skip_one-clause-runs g c =
    let keep = filter (is_after c.args.place.now.family c.args.place.now.user.now c.args.place.now.below) in
    set_runs g.S.Source.left keep c.loop-source.sources c.loop-source.source-index c.skip_one.new.source c.source-item.result c.loop-source.invariant.runs c.skip_one.ensures.run

pub returns-in_err-skip_one-clause-same : goal.returns-in_err-skip_one-clause-same
returns-in_err-skip_one-clause-same g c =
    let keep = filter (is_after c.args.place.now.family c.args.place.now.user.now c.args.place.now.below) in
    let within : c.loop-source.source-index < length c.loop-source.sources = omega arith in
    set_same g.S.Source.left keep c.loop-source.sources c.loop-source.source-index c.skip_one.new.source c.source-item.result within c.skip_one.ensures.same ∙ c.loop-source.invariant.same

pub loop-source-preserved : goal.loop-source-preserved
loop-source-preserved g c =
    let keep = filter (is_after c.args.place.now.family c.args.place.now.user.now c.args.place.now.below) in
    let within : c.loop-source.source-index < length c.loop-source.sources = omega arith in
    record {
      runs = set_runs g.S.Source.left keep c.loop-source.sources c.loop-source.source-index c.skip_one.new.source c.source-item.result c.loop-source.invariant.runs c.skip_one.ensures.run;
      same = set_same g.S.Source.left keep c.loop-source.sources c.loop-source.source-index c.skip_one.new.source c.source-item.result within c.skip_one.ensures.same ∙ c.loop-source.invariant.same;
      done = set_done g.S.Source.left keep c.loop-source.sources c.loop-source.source-index c.skip_one.new.source c.source-item.result within c.in_ok-skip_one.ensures.ok c.skip_one.ensures.same c.loop-source.invariant.done;
    }
