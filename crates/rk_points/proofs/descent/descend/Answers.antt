use Rattle.std.proofs.Common.{◌≡◌, List, length, drop, subst, sym, ◌∙◌, IfOk}
use Rattle.std.specs.List.{AllByRecursion}
use Rattle.std.proofs.lemmas.List.{take_at}
use Rattle.rk_bytes.specs.declared.model.view.Point.{Point}
use Rattle.rk_bytes.specs.Model.BestEfforts.{answers_pass, best_points}
use Rattle.rk_points.specs.declared.descent.Stand.{Stand}
use Rattle.rk_points.specs.Descents.{AreSound, IsSound, turns_of, last_whole, points_of, passed, passed_times}
use Rattle.rk_points.proofs.DescentLemmas.{greatest, starts_sound}
use Rattle.rk_points.proofs.descent.descend.Goals as goal

pub returns : goal.returns
returns c units answers follows places count =
    let zeros = c.one_best_vector.ensures.of_answers units answers in
    let first = c.in_ok-stands.stands.items in
    let last = c.settle.new.stands in
    let begun : c.deref_mut.result.now ≡ first = c.deref_mut.ensures.value in
    let long : length last ≡ c.in_ok-stands.stands.len = c.settle.auto.stands ∙ c.deref_mut.ensures.len in
    let ended : c.deref.result.now ≡ last = c.deref.ensures.value ∙ take_at last (drop (length last) first) c.in_ok-stands.stands.len long in
    let sound : AreSound first = starts_sound units answers zeros c.args.courses.now first follows c.in_ok-stands.ensures.courses in
    let now = subst AreSound (sym begun) sound in
    let told = c.settle.ensures.passed now in
    let fixed = c.settle.ensures.settled now in
    let at = subst (λ count. AllByRecursion (λ (stand : Stand). IsSound (turns_of stand) → stand.at ≡ last_whole (turns_of stand) count) first) count c.in_ok-stands.ensures.whole in
    let best =
    greatest units answers zeros c.args.courses.now first last told.0 follows c.in_ok-stands.ensures.courses at
    (subst (λ groups. last ≡ passed_times told.0 groups first) places (subst (λ stands. last ≡ passed_times told.0 c.args.groups.now stands) begun told.1))
    (subst (λ groups. passed groups last ≡ last) places fixed) in
    let one = c.one_best_vector.ensures.unique units (answers_pass answers units) (best_points units (answers_pass answers units)) (points_of last) (c.one_best_vector.ensures.exists units (answers_pass answers units) zeros) best in
    let P : List Point → Type 0 = λ ps. IfOk c.points_of.result (λ points. points ≡ ps) in
    subst P one (subst (λ stands. P (points_of stands)) ended c.points_of.ensures)
