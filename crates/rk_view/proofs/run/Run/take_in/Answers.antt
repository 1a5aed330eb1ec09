use Rattle.std.proofs.Common.{◌≡◌, ◌∙◌, ◌++◌, ◌<◌, ℕ, List, length, take, drop, subst, sym, ap}
use Rattle.std.specs.Prelude.{Result, Ok, Err, OnOk, OnErr, Vec}
use Rattle.std.specs.declared.alloc.Global.{Global}
use Rattle.std.specs.List.{insert}
use Rattle.rk_bytes.specs.declared.model.key.Record.{Record}
use Rattle.rk_bytes.specs.Model.Records.{over}
use Rattle.rk_view.specs.Maps.{IsRun, run_map}
use Rattle.rk_view.specs.Parts.{joined, AreParts}
use Rattle.rk_view.proofs.PartLemmas.{parts-insert, map-insert}
use Rattle.rk_view.proofs.run.Run.take_in.Goals as goal

within : (parts parts' : List (Vec Record Global)) (list list' : List Record) (at : ℕ) → parts' ≡ parts → list' ≡ list → IsRun (joined (take at parts') ++ (list' ++ joined (drop at parts'))) → IsRun (joined (take at parts) ++ (list ++ joined (drop at parts)))
within parts parts' list list' at one two is = subst (λ ps. IsRun (joined (take at ps) ++ (list ++ joined (drop at ps)))) one (subst (λ xs. IsRun (joined (take at parts') ++ (xs ++ joined (drop at parts')))) two is)

either : {A B : Type 0} (r : Result A B) (P Q R : Type 0) → OnOk r P → OnErr r Q → (P → R) → (Q → R) → R
either (Ok x) P Q R ok err one two = one ok
either (Err x) P Q R ok err one two = two err

on_ok : {A B : Type 0} (r : Result A B) (P Q : Type 0) → OnOk r P → (P → Q) → OnOk r Q
on_ok (Ok x) P Q ok f = f ok
on_ok (Err x) P Q ok f = ok

pub invariant_of-self : goal.invariant_of-self
invariant_of-self c =
    let parts = c.self.inside.parts.items in
    let here = c.in-Some.ensures in
    let at = c.in-Some.at in
    let is = within parts c.as_slice.result.now c.args.records.items c.as_slice-2.result.now at c.as_slice.ensures.value c.as_slice-2.ensures.value here.2 in
    let some = subst (λ xs. 0 < length xs) c.as_slice-2.ensures.value here.1 in
    either c.insert.result (c.insert.new.parts.items ≡ insert parts at c.args.records) (c.insert.new.parts.items ≡ parts) (AreParts c.insert.new.parts.items) c.insert.ensures.ok c.insert.ensures.err
    (λ e. subst AreParts (sym e) (parts-insert parts at c.args.records c.self.invariant some is)) (λ e. subst AreParts (sym e) c.self.invariant)

pub returns-in-Some-clause-ok : goal.returns-in-Some-clause-ok
returns-in-Some-clause-ok c =
    let parts = c.self.inside.parts.items in
    let here = c.in-Some.ensures in
    let at = c.in-Some.at in
    let is = within parts c.as_slice.result.now c.args.records.items c.as_slice-2.result.now at c.as_slice.ensures.value c.as_slice-2.ensures.value here.2 in
    on_ok c.insert.result (c.insert.new.parts.items ≡ insert parts at c.args.records) (run_map (joined c.insert.new.parts.items) ≡ over (run_map c.args.self.now) (run_map c.args.records.items)) c.insert.ensures.ok
    (λ e. ap (λ ps. run_map (joined ps)) e ∙ map-insert parts at c.args.records is ∙ ap (λ rs. over (run_map rs) (run_map c.args.records.items)) c.self.view_is)
