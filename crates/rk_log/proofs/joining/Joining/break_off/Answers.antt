use Rattle.std.proofs.Common.{Some, None, refl, sym, ◌∙◌, ◌∷◌}
use Rattle.rk_bytes.specs.declared.model.log.GapWhy.TheVariants.{MissingEnd}
use Rattle.rk_bytes.specs.Model.LogItems.{gap}
use Rattle.rk_log.proofs.JoinLemmas.{left_behind-open, Gives-at, broken_off}
use Rattle.rk_log.proofs.joining.Joining.break_off.Goals as goal

pub returns-clause-broken : goal.returns-clause-broken
returns-clause-broken c = (
  refl,
  λ file_len mark marks begins.
      Gives-at (gap MissingEnd c.in_ok-record.record.place)
      (left_behind-open c.args.self.now (Some c.in_ok-record.record) file_len (mark ∷ marks) c.requires.goes_on (sym c.take.ensures.value ∙ c.in_ok-record.was)) refl
      (left_behind-open _ None file_len (mark ∷ marks) c.requires.goes_on c.take.ensures.after)
      (broken_off c.in_ok-record.record mark file_len marks begins),
)
