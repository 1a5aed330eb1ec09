use Rattle.std.proofs.Common.{◌≡◌, ◌+◌, ◌*◌, ℕ, List, [], codes, false, IfOk, ap, ◌∙◌, subst, arith}
use Rattle.rk_bytes.specs.declared.model.key.Record.{Record}
use Rattle.rk_bytes.specs.Model.Drill.{drill_table}
use Rattle.rk_bytes.specs.Model.Writers.{TableContents, table_bytes}
use Rattle.rk_tablew.specs.Writing.{Writing, contents_of, table_weight}
use Rattle.rk_gen.specs.Puts.{own_puts}
use Rattle.rk_gen.proofs.TableLemmas.{own_puts-family, own_puts-weight}
use Rattle.rk_gen.proofs.table.table.Goals as goal

pub finish-requires-clause-room : goal.finish-requires-clause-room
finish-requires-clause-room c =
    let before = c.loop-before.before in
    let so_far : table_weight c.loop-before.table ≡ 72 * before + 0 = ap table_weight c.loop-before.invariant ∙ ap (λ weight. weight + 0) (own_puts-weight before) in
    omega (arith, so_far, c.requires)

pub returns : goal.returns
unfolding drill_table
returns c =
    let puts : ℕ → Writing = λ n. record { records = own_puts n; ranges = []; failed = false } in
    let all : c.loop-before.before ≡ c.args.number = omega arith in
    let contents : List Record → TableContents = λ records. record { family = 0; family_name = codes "default"; records = records; ranges = [] } in
    subst (λ (contents : TableContents). IfOk c.finish.result (λ bytes. bytes ≡ table_bytes false contents))
    (ap (contents_of 0 (codes "default")) (c.loop-before.invariant ∙ ap puts all) ∙ ap contents (own_puts-family c.args.number)) c.finish.ensures.table
