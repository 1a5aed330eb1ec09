use Rattle.std.proofs.Common.{◌≡◌, List, length, sym, ◌∙◌, arith}
use Rattle.std.proofs.lemmas.Result.{IfOk-weaker}
use Rattle.rk_bytes.specs.Model.Writers.{KeyValue}
use Rattle.rk_tablew.specs.Data.{DataEnds, IsClosed, IsData}
use Rattle.rk_tablew.proofs.DataLemmas.{DataEnds-some, DataEnds-none}
use Rattle.rk_tablew.proofs.data.finish_data.Goals as goal

pub returns-then-count-eq0 : goal.returns-then-count-eq0
returns-then-count-eq0 c = λ entries d counted.
    DataEnds-none entries c.args.out c.args.index c.args.block c.in_ok-index.index (sym c.if-count-eq0.true ∙ counted) d c.in_ok-index.ensures.block

pub returns : goal.returns
returns c =
    IfOk-weaker c.close_last.result (λ parts. IsClosed c.args.out c.args.index c.args.block parts.front parts.index)
    (λ parts. (entries : List KeyValue) → IsData entries c.args.out c.args.index c.args.block → c.args.count ≡ length entries → DataEnds entries parts.front parts.index)
    (λ parts closed entries d counted. DataEnds-some entries c.args.out c.args.index c.args.block parts.front parts.index (omega (arith, c.if-count-eq0.false, counted)) d closed)
    c.close_last.ensures
