use Rattle.std.proofs.Common.{◌≡◌, ◌+◌, ◌-◌, ◌^◌, ℕ, List, min, max, Option, Ok, sym, subst, arith}
use Rattle.rk_table.specs.declared.walk.Checked.{Checked}
use Rattle.rk_table.specs.Walks.{Steps}
use Rattle.rk_table.specs.Blocks.{Counted}
use Rattle.rk_table.proofs.WalkLemmas.{Counting, counting_on, counted_none}
use Rattle.rk_table.proofs.records.count_rest.Goals as goal

pub loop-record-preserved : goal.loop-record-preserved
loop-record-preserved c =
    let l = c.loop-record in
    let out = subst (λ (o : Option Checked). Steps l.walk (Ok o) c.next.new.self) c.in-Some.is c.in_ok-record.ensures in
    let next = counting_on c.args.walk.now c.args.entries c.args.top l.walk l.entries l.top c.in-Some.record c.next.new.self l.invariant out in
    let entries : c.saturating_add-entries.result ≡ min (l.entries + 1) (2 ^ 64 - 1) = omega arith in
    let top : c.max-top.result ≡ max l.top c.in-Some.record.sequence = omega arith in
    subst (λ (n : ℕ). Counting c.args.walk.now c.args.entries c.args.top c.next.new.self n c.max-top.result) (sym entries)
    (subst (λ (t : ℕ). Counting c.args.walk.now c.args.entries c.args.top c.next.new.self (min (l.entries + 1) (2 ^ 64 - 1)) t) (sym top) next)

pub returns : goal.returns
returns c =
    let l = c.loop-record in
    let ended = subst (λ (o : Option Checked). Steps l.walk (Ok o) c.next.new.self) c.in_default.is c.in_ok-record.ensures in
    subst (λ (key : List ℕ). Counted c.args.walk.now c.args.entries c.args.top (l.entries, l.top) key) (sym ended.1)
    (l.invariant.counted (l.entries, l.top) l.walk.key (counted_none l.walk l.entries l.top l.invariant.fits ended.0))
