use Rattle.std.proofs.Common.{arith}
use Rattle.std.proofs.lemmas.Result.{err_from_is_err_and}
use Rattle.rk_edit.proofs.Tracking.{Tracks-start, Tracks-bad_tag, Tracks-end, Tracks-other_tag, Tracks-bad_size, Tracks-more}
use Rattle.rk_edit.proofs.tracked.read_synced.Goals as goal

pub loop-synced-init : goal.loop-synced-init
loop-synced-init c = Tracks-start c.args.cursor.now

pub returns-in_err-varint32-clause-value : goal.returns-in_err-varint32-clause-value
returns-in_err-varint32-clause-value c =
    let told = err_from_is_err_and c.from_residual.result c.from_residual.ensures.1 in
    rw (told.1, told.2) (Tracks-bad_tag c.args.cursor.now c.loop-synced.cursor c.loop-synced.synced c.in_err-varint32.field-0.0 c.loop-synced.invariant c.in_err-varint32.ensures.value)

pub returns-in-1-clause-value : goal.returns-in-1-clause-value
returns-in-1-clause-value c = Tracks-end c.args.cursor.now c.loop-synced.cursor c.varint32.new.self c.loop-synced.synced c.in_ok-varint32.field-0 c.loop-synced.invariant c.in_ok-varint32.ensures.value c.in-1.is

pub returns-in_err-varint64-in-2-clause-value : goal.returns-in_err-varint64-in-2-clause-value
returns-in_err-varint64-in-2-clause-value c =
    let told = err_from_is_err_and c.from_residual-in_err-varint64-in-2.result c.from_residual-in_err-varint64-in-2.ensures.1 in
    rw (told.1, told.2) (Tracks-bad_size c.args.cursor.now c.loop-synced.cursor c.varint32.new.self c.loop-synced.synced c.in_ok-varint32.field-0 c.loop-synced.invariant c.in_ok-varint32.ensures.value
    c.in_err-varint64-in-2.field-0.0 c.in-2.is c.in_err-varint64-in-2.ensures.value)

pub loop-synced-preserved : goal.loop-synced-preserved
loop-synced-preserved c =
    (Tracks-more c.args.cursor.now c.loop-synced.cursor c.varint32.new.self c.loop-synced.synced c.in_ok-varint32.field-0 c.loop-synced.invariant c.in_ok-varint32.ensures.value
    c.varint64.new.self c.in_ok-varint64-in-2.field-0 c.in-2.is c.in_ok-varint64-in-2.ensures.value c.in_ok-varint32.ensures.after c.in_ok-varint64-in-2.ensures.after).0

pub loop-synced-smaller : goal.loop-synced-smaller
loop-synced-smaller c =
    (Tracks-more c.args.cursor.now c.loop-synced.cursor c.varint32.new.self c.loop-synced.synced c.in_ok-varint32.field-0 c.loop-synced.invariant c.in_ok-varint32.ensures.value
    c.varint64.new.self c.in_ok-varint64-in-2.field-0 c.in-2.is c.in_ok-varint64-in-2.ensures.value c.in_ok-varint32.ensures.after c.in_ok-varint64-in-2.ensures.after).1

pub returns-in_default-clause-value : goal.returns-in_default-clause-value
returns-in_default-clause-value c =
    Tracks-other_tag c.args.cursor.now c.loop-synced.cursor c.varint32.new.self c.loop-synced.synced c.in_ok-varint32.field-0 c.loop-synced.invariant c.in_ok-varint32.ensures.value (λ e. absurd (omega arith)) (λ e. absurd (omega arith))
