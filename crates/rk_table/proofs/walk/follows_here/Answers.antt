use Rattle.std.proofs.Common.{◌≡◌, ◌≤◌, List, ℕ, length, drop, sym, ap, subst, ◌∙◌}
use Rattle.std.specs.Ordering.{is_gt}
use Rattle.rk_bytes.specs.Model.InternalKey.{key_cmp}
use Rattle.rk_table.proofs.WalkLemmas.{cmp_rests}
use Rattle.rk_table.proofs.walk.follows_here.Goals as goal

pub returns-then-entry-ge-KEY_NUMBER_LEN-clause-later : goal.returns-then-entry-ge-KEY_NUMBER_LEN-clause-later
returns-then-entry-ge-KEY_NUMBER_LEN-clause-later c = λ long.
    let entry = c.args.entry.now in
    let key = c.args.key.now in
    let back : c.split_at.result.1.now ≡ drop entry.shared key = c.split_at.ensures.back in
    let behind = subst (λ (l : List ℕ). 8 ≤ length l) back c.if-rest-ge-KEY_NUMBER_LEN.true in
    c.is_greater.ensures c.if-entry-ge-KEY_NUMBER_LEN.true
    ∙ ap (λ (other : List ℕ). is_gt (key_cmp entry.rest.now other)) back
    ∙ ap is_gt (sym (cmp_rests key entry c.if-entry-ge-KEY_NUMBER_LEN.true behind))
