use Rattle.std.proofs.Common.{◌≡◌, ◌∷◌, ◌++◌, List, ℕ, Option, Some, None, nat_lt, filter, refl, sym, ap, ◌∙◌, subst}
use Rattle.std.specs.Option.{option_or, option_and_then}
use Rattle.rk_bytes.specs.declared.model.manifest.Tracked.{Tracked}
use Rattle.rk_version.specs.Places.{IsAt, IsFree}
use Rattle.rk_version.proofs.PlaceLemmas.{replaced, inserted, found_at, not_found}
use Rattle.rk_version.proofs.logs.track.Goals as goal

or_none : (synced : Option ℕ) → synced ≡ option_or synced None
or_none None = refl
or_none (Some n) = refl

-- a tracked log among those with lower and with greater numbers
abbrev among : ℕ → List Tracked → Option ℕ → List Tracked
among log logs synced = filter (λ tracked. nat_lt tracked.log log) logs ++ record { log = log; synced = synced } ∷ filter (λ tracked. nat_lt log tracked.log) logs

pub returns-in-Ok : goal.returns-in-Ok
returns-in-Ok c =
    let logs = c.args.logs.now.items in
    let at = subst (λ logs. IsAt (λ (tracked : Tracked). tracked.log) c.args.log logs c.in-Ok.place) c.deref.ensures.value c.in-Ok.ensures in
    let known = found_at (λ (tracked : Tracked). tracked.log) c.args.log c.in-Ok.place logs c.index.result.now at ∙ ap Some (sym c.index.ensures) in
    replaced (λ (tracked : Tracked). tracked.log) c.args.log c.in-Ok.place logs (record { log = c.args.log; synced = c.or.result }) at
    ∙ ap (among c.args.log logs) (c.or.ensures ∙ ap (λ found. option_or c.args.synced (option_and_then (λ (tracked : Tracked). tracked.synced) found)) (sym known))

pub returns-in_ok-insert-in-Err : goal.returns-in_ok-insert-in-Err
returns-in_ok-insert-in-Err c =
    let logs = c.args.logs.now.items in
    let free = subst (λ logs. IsFree (λ (tracked : Tracked). tracked.log) c.args.log logs c.in-Err.place) c.deref.ensures.value c.in-Err.ensures in
    c.in_ok-insert-in-Err.ensures.items ∙ inserted (λ (tracked : Tracked). tracked.log) c.args.log c.in-Err.place logs (record { log = c.args.log; synced = c.args.synced }) free
    ∙ ap (among c.args.log logs) (or_none c.args.synced ∙ ap (λ found. option_or c.args.synced (option_and_then (λ (tracked : Tracked). tracked.synced) found)) (sym (not_found (λ (tracked : Tracked). tracked.log) c.args.log c.in-Err.place logs free)))
