-- What a finding makes of the walk, where replay may be stopped.
use Rattle.std.proofs.Common.{◌≡◌, ℕ, Bool, true, false, cond, not, Option, None, Result, Ok, inl, refl, sym, ◌∙◌, ap, subst}
use Rattle.std.specs.Prelude.{is_some, ◌&&◌}
use Rattle.rk_bytes.specs.declared.model.manifest.Version.{Version}
use Rattle.rk_bytes.specs.declared.model.wal.Mode.{Mode}
use Rattle.rk_bytes.specs.declared.model.wal.WalErr.{WalErr}
use Rattle.rk_bytes.specs.Model.Replay.{Finding}
use Rattle.rk_walmode.specs.declared.progress.Stop.{Stop}
use Rattle.rk_walmode.specs.declared.progress.Progress.{Progress}
use Rattle.rk_walmode.specs.declared.progress.Reading.{Reading}
use Rattle.rk_walmode.specs.declared.progress.Reading.TheVariants.{Ended}
use Rattle.rk_walmode.specs.Walks.{Walk, is_next, taken, walk_on}
use Rattle.rk_walmode.specs.Runs.{IsAt}
use Rattle.rk_walmode.specs.Founds.{Comes, Takes, Adds}

-- by whether the walk waits
walks_by : (mode : Mode) (version : Version) (log : ℕ) (progress : Progress) (walk : Walk) (one : Finding) (waits : Bool) → IsAt progress walk → walk.passes ≡ false → (is_some progress.stopped && not (is_next progress.expected one)) ≡ waits
    → walk_on mode version log walk one ≡ cond waits (record walk { passes = true }) (taken mode version log walk one)
walks_by mode version log progress walk one waits at goes is =
    ap (λ (b : Bool). cond b walk (cond (is_some walk.stopped && not (is_next walk.expected one)) (record walk { passes = true }) (taken mode version log walk one))) goes
    ∙ ap (λ (s : Option Stop). cond (is_some s && not (is_next walk.expected one)) (record walk { passes = true }) (taken mode version log walk one)) (sym at.stopped)
    ∙ ap (λ (n : ℕ). cond (is_some progress.stopped && not (is_next n one)) (record walk { passes = true }) (taken mode version log walk one)) (sym at.expected)
    ∙ ap (λ (b : Bool). cond b (record walk { passes = true }) (taken mode version log walk one)) is

pub takes_waiting : (mode : Mode) (version : Version) (log : ℕ) (progress : Progress) (one : Finding) → (is_some progress.stopped && not (is_next progress.expected one)) ≡ true → Takes mode version progress log one (Ok Ended) progress
takes_waiting mode version log progress one waits walk at goes =
    subst (Comes progress one (Ok Ended)) (sym (walks_by mode version log progress walk one true at goes waits)) (record { records = at.records; expected = at.expected; stopped = at.stopped; refused = at.refused }, inl refl)

pub takes_going : (mode : Mode) (version : Version) (log : ℕ) (old freed new : Progress) (one : Finding) (result : Result Reading WalErr) → (is_some old.stopped && not (is_next old.expected one)) ≡ false
    → freed.records ≡ old.records → freed.expected ≡ old.expected → freed.stopped ≡ None → Adds mode version freed log one result new → Takes mode version old log one result new
takes_going mode version log old freed new one result goes_on same_records same_expected none adds walk at goes =
    subst (Comes new one result) (sym (walks_by mode version log old walk one false at goes goes_on))
    (adds (record walk { stopped = None }) (record { records = same_records ∙ at.records; expected = same_expected ∙ at.expected; stopped = none; refused = at.refused }))
