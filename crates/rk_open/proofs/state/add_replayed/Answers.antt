use Rattle.std.proofs.Common.{◌≡◌, List, fold, map, max, sym, ap, ◌∙◌, subst}
use Rattle.rk_bytes.specs.declared.model.key.Record.{Record}
use Rattle.rk_bytes.specs.Model.KeyView.{State}
use Rattle.rk_open.specs.Logged.{with_logged}
use Rattle.rk_open.specs.Opened.{IsTopOf}
use Rattle.rk_open.proofs.LoggedLemmas.{logged-replayed, logged-told, top_after}
use Rattle.rk_open.proofs.state.add_replayed.Goals as goal

added : (c : goal.In_ok-add_records) → c.add_records.new.self.state ≡ with_logged c.args.records c.args.state.now.state
added c = c.in_ok-add_records.ensures.state ∙ logged-replayed c.args.records c.args.state.now.state

pub returns-clause-state : goal.returns-clause-state
returns-clause-state c = added c

pub returns-clause-told : goal.returns-clause-told
returns-clause-told c = λ tables lines is. added c ∙ logged-told c.args.state.now.state lines tables c.args.records is

pub returns-clause-bound : goal.returns-clause-bound
returns-clause-bound c = λ old.
    let is = c.greatest_with-greatest.ensures ∙ ap (λ (records : List Record). fold max c.args.top (map (λ (r : Record). r.sequence) records)) c.as_slice.ensures in
    subst (λ (state : State). IsTopOf c.greatest_with-greatest.result state) (sym (added c)) (top_after c.args.state.now.state c.args.top c.args.records c.greatest_with-greatest.result c.requires.sequences is old)
