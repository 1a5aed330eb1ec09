use Rattle.std.specs.Prelude.{is_some}
use Rattle.std.proofs.Common.{ap}
use Rattle.rk_log.proofs.JoinLemmas.{left_behind-ended}
use Rattle.rk_log.specs.Left.{Left}
use Rattle.rk_log.proofs.joining.Joining.given.Goals as goal

pub returns : goal.returns
returns c = (
  λ file_len marks.
      let ended = left_behind-ended c.args.self.now c.in_ok-kind.field-0 file_len marks c.in_ok-kind.was in
      (ap (λ (left : Left). left.items) ended, ended),
  ap is_some c.in_ok-kind.was,
)
