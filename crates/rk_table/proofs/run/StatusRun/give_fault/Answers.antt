use Rattle.std.proofs.Common.{◌≡◌, Some, Err, sym, subst, ap, ◌∙◌}
use Rattle.rk_bytes.specs.Model.TableStatus.{trailer_status}
use Rattle.rk_meta.specs.declared.want.Want.{Want}
use Rattle.rk_table.specs.declared.stage.Stage.{Stage}
use Rattle.rk_table.specs.Stages.{left_of}
use Rattle.rk_table.specs.Steps.{Hands, want_at}
use Rattle.rk_table.specs.Runs.{RunSeen, want_of, Follows, fault_at}
use Rattle.rk_table.proofs.RunLemmas.{fault_left}
use Rattle.rk_table.proofs.run.StatusRun.give_fault.Goals as goal

pub returns-in-Block-clause-follows : goal.returns-in-Block-clause-follows
returns-in-Block-clause-follows c = λ table follows hands.
    let inside = c.self.inside in
    let follows' = subst (λ (run : RunSeen). Follows run table) (sym c.self.view_is) follows in
    let hands' = subst (λ (run : RunSeen). Hands table (want_of run) (Err c.args.fault)) (sym c.self.view_is) hands in
    let told : fault_at (want_at inside.length inside.stage) c.args.fault ≡ Some (trailer_status c.in-Block.handle.offset c.args.fault) =
    ap (λ (want : Want). fault_at want c.args.fault) (ap want_of c.self.view_is ∙ sym c.want.ensures.want ∙ c.in-Block.is) in
    record {
      same = follows'.same;
      status = follows'.status ∙ fault_left inside.length inside.stage table c.args.fault _ c.self.invariant hands' told
          ∙ sym (c.ended-next.ensures.left table _ c.trailer_fault.ensures) ∙ ap (λ (stage : Stage). left_of stage table) (sym c.put.ensures);
    }
