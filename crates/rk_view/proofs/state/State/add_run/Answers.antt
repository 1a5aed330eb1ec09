use Rattle.std.proofs.Common.{◌∙◌, sym, subst}
use Rattle.rk_view.specs.Maps.{IsRun}
use Rattle.rk_view.proofs.TableLemmas.{run_of_table}
use Rattle.rk_view.proofs.state.State.add_run.Goals as goal

pub counted-count-requires-clause-run : goal.counted-count-requires-clause-run
counted-count-requires-clause-run c = subst IsRun (sym (c.as_slice-2.ensures.value ∙ c.into_vec-records.ensures)) (run_of_table c.args.records c.requires.records)

pub add-requires-clause-records : goal.add-requires-clause-records
add-requires-clause-records c = subst IsRun (sym c.into_vec-records.ensures) (run_of_table c.args.records c.requires.records)
