use Rattle.std.proofs.Common.{◌≡◌, ◌+◌, ◌*◌, ◌^◌, ◌<◌, false, List, ℕ, [], ◌∷◌, ◌++◌, length, OnOk, sym, ap, ◌∙◌, subst, arith}
use Rattle.rk_bytes.specs.declared.model.key.Record.{Record}
use Rattle.rk_bytes.specs.declared.model.key.Kind.TheVariants.{Value}
use Rattle.rk_bytes.specs.Model.InternalKey.{internal_key}
use Rattle.rk_bytes.specs.Model.Drill.{drill_put}
use Rattle.rk_tablew.specs.Writing.{Writing, table_weight, ComesNext, record_with}
use Rattle.rk_gen.specs.Puts.{own_puts}
use Rattle.rk_gen.proofs.RisingKeys.{high_first}
use Rattle.rk_gen.proofs.TableLemmas.{own_puts-more, own_puts-weight, own_puts-next}
use Rattle.rk_gen.proofs.table.add_put.Goals as goal

pub add-requires-clause-room : goal.add-requires-clause-room
add-requires-clause-room c =
    let before = c.args.before in
    let so_far : table_weight c.args.table.now ≡ 72 * before + 0 = ap table_weight c.requires.puts ∙ ap (λ weight. weight + 0) (own_puts-weight before) in
    let key : length c.key_with-key.result ≡ 8 = ap (λ (key : List ℕ). length key) c.key_with-key.ensures ∙ high_first 8 (before + 1) in
    omega (arith, so_far, key, c.requires.few)

pub add-requires-clause-user : goal.add-requires-clause-user
add-requires-clause-user c =
    let key : length c.key_with-key.result ≡ 8 = ap (λ (key : List ℕ). length key) c.key_with-key.ensures ∙ high_first 8 (c.args.before + 1) in
    omega (arith, key)

pub add-requires-clause-value : goal.add-requires-clause-value
add-requires-clause-value c =
    let value : length c.value_with.result ≡ 8 = ap (λ (value : List ℕ). length value) c.value_with.ensures ∙ high_first 8 ((c.args.before + 1) * 2654435761) in
    omega (arith, value)

pub add-requires-clause-order : goal.add-requires-clause-order
add-requires-clause-order c =
    let before = c.args.before in
    let few : before + 1 < 2 ^ 64 = omega (arith, c.requires.few) in
    let next = own_puts-next before (before + 1) (omega arith) few in
    subst (λ (table : Writing). ComesNext table.records (internal_key c.key_with-key.result (before + 1) Value)) (sym c.requires.puts)
    (subst (λ (user : List ℕ). ComesNext (own_puts before) (internal_key user (before + 1) Value)) (sym c.key_with-key.ensures) next)

pub returns : goal.returns
returns c =
    let before = c.args.before in
    let number : ℕ = before + 1 in
    let added : (record c.args.table.now { records = c.args.table.now.records ++ record_with c.key_with-key.result number Value c.value_with.result ∷ [] })
    ≡ record { records = own_puts before ++ drill_put number number number ∷ []; ranges = []; failed = false } =
    λ i. record { records = (c.requires.puts i).records ++ record_with (c.key_with-key.ensures i) number Value (c.value_with.ensures i) ∷ []; ranges = (c.requires.puts i).ranges; failed = (c.requires.puts i).failed } in
    let more : List Record → Writing = λ records. record { records = records; ranges = []; failed = false } in
    subst (λ (table : Writing). OnOk c.add.result (c.add.new.self ≡ table)) (added ∙ ap more (sym (own_puts-more before))) c.add.ensures.ok
