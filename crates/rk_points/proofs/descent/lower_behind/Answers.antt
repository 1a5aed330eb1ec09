use Rattle.std.proofs.Common.{◌≡◌, ◌<◌, get_or, set, subst, sym, ap, ◌∙◌, arith}
use Rattle.std.specs.List.{sum_by}
use Rattle.std.proofs.lemmas.Bool.{false≢true}
use Rattle.std.proofs.lemmas.List.{set-get_or}
use Rattle.rk_points.specs.declared.descent.Stand.{Stand}
use Rattle.rk_points.specs.Descents.{AreSound, IsSound, turns_of, held_at}
use Rattle.rk_points.proofs.StandLemmas.{next_is, held_more, held_already, sum_lower, sound_at}
use Rattle.rk_points.proofs.descent.lower_behind.Goals as goal
use Rattle.rk_points.proofs.descent.lower_behind.Goals.{then-at-stand, else-at-stand}

pub loop-stand-preserved : goal.loop-stand-preserved
loop-stand-preserved c =
    let place = c.args.place in
    let first = c.args.stands.now in
    let stands = c.loop-stand.stands in
    let i = c.loop-stand.stand-index in
    let item = get_or stands i c.stand-item.result in
    let f = λ (stand : Stand). stand.at in
    let is : item ≡ get_or stands i item = ap (get_or stands i) c.stand-item.is in
    let told : AreSound first → c.held_at-at.result ≡ held_at place item = λ sound.
    c.held_at-at.ensures (subst (λ stand. IsSound (turns_of stand)) (sym (next_is place first stands i item c.loop-stand-test.true (c.loop-stand.invariant.held sound) is)) (sound_at first i item c.loop-stand-test.true sound)) in
    let more = λ (sound : AreSound first). held_more place first stands i item c.loop-stand-test.true (c.loop-stand.invariant.held sound) is in
    elim c.if-at-stand.branch [
      | then-at-stand w ↦
          let less : sum_by f c.if-at-stand.stands < sum_by f stands = subst (λ stands'. sum_by f stands' < sum_by f stands) (sym w.stands-is) (sum_lower stands i c.held_at-at.result item (omega arith) is w.if-at-stand.true) in
          record {
            held = λ sound. w.stands-is ∙ ap (λ at. let next : Stand = record item { at = at } in set stands i next) (told sound) ∙ more sound;
            most = omega (arith, less, c.loop-stand.invariant.most);
            lower = λ lowered. omega (arith, less, c.loop-stand.invariant.most);
            same = λ not. absurd (false≢true (sym not ∙ w.lowered-is));
          }
      | else-at-stand w ↦
          let still = w.stands-is ∙ set-get_or stands i c.stand-item.result in
          let none = w.if-at-stand.false in
          record {
            held = λ sound. still ∙ held_already place stands i item is (omega (arith, told sound, none)) ∙ more sound;
            most = omega (arith, ap (sum_by f) still, c.loop-stand.invariant.most);
            lower = λ lowered. omega (arith, ap (sum_by f) still, c.loop-stand.invariant.lower (sym w.lowered-is ∙ lowered));
            same = λ not. still ∙ c.loop-stand.invariant.same (sym w.lowered-is ∙ not);
          }
    ]
