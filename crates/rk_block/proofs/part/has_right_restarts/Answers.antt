use Rattle.std.specs.Prelude.{not}
use Rattle.std.proofs.Common.{Ok, ◌+◌, ◌≤◌, length, refl, arith, subst, sym, ap, ◌∙◌, length-drop}
use Rattle.std.proofs.lemmas.List.{take_rest}
use Rattle.rk_block.proofs.WalkLemmas.{ReadsHere, ReadsNothing, IsWalked-start, IsWalked-more, IsWalked-fault, IsWalked-shares, IsWalked-end}
use Rattle.rk_block.specs.Walked.{IsWalked}
use Rattle.rk_block.proofs.part.has_right_restarts.Goals as goal

pub loop-place-init : goal.loop-place-init
loop-place-init c = subst (λ restarts. IsWalked c.args.entries.now c.args.restarts.left 0 0 restarts) (sym c.requires) (IsWalked-start c.args.entries.now c.args.restarts.left)

pub returns-in_default : goal.returns-in_default
returns-in_default c =
    let part = c.args.entries.now in let l = c.loop-place in
    IsWalked-fault part c.args.restarts.left l.place l.key_len l.restarts c.in_default.field-0 l.invariant c.loop-place-test.true
    (subst (λ bytes. ReadsNothing bytes c.in_default.field-0) (take_rest part l.place) c.in_default.ensures.entry)

pub returns-then-entry-key_len : goal.returns-then-entry-key_len
returns-then-entry-key_len c =
    let part = c.args.entries.now in let l = c.loop-place in
    IsWalked-shares part c.args.restarts.left l.place l.key_len l.restarts c.in-Ok.entry c.in-Ok.len l.invariant c.loop-place-test.true
    (subst (λ bytes. ReadsHere bytes c.in-Ok.entry c.in-Ok.len) (take_rest part l.place) c.in-Ok.ensures.entry) c.if-entry-key_len.true

pub overflow_add-key_len : goal.overflow_add-key_len
overflow_add-key_len c =
    let part = c.args.entries.now in let l = c.loop-place in
    let fits = subst (λ bytes. c.in-Ok.len ≤ length bytes) (take_rest part l.place) c.in-Ok.ensures.within in
    omega (arith, fits, c.in-Ok.ensures.rest, c.if-entry-key_len.false, l.invariant.short, l.invariant.within, length-drop l.place part)

pub loop-place-preserved : goal.loop-place-preserved
loop-place-preserved c =
    let part = c.args.entries.now in let l = c.loop-place in
    IsWalked-more part c.args.restarts.left l.place l.key_len l.restarts c.in-Ok.entry c.in-Ok.len (c.in-Ok.entry.shared + length c.in-Ok.entry.rest.now) c.pass.new.self l.invariant c.loop-place-test.true
    (subst (λ bytes. ReadsHere bytes c.in-Ok.entry c.in-Ok.len) (take_rest part l.place) c.in-Ok.ensures.entry) c.if-entry-key_len.false
    (omega (arith, c.in-Ok.ensures.some)) c.in-Ok.ensures.rest (subst (λ bytes. c.in-Ok.len ≤ length bytes) (take_rest part l.place) c.in-Ok.ensures.within) refl c.pass.ensures

pub returns : goal.returns
returns c =
    let part = c.args.entries.now in let l = c.loop-place in
    ap Ok c.are_met.ensures ∙ IsWalked-end part c.args.restarts.left l.place l.key_len l.restarts (not c.is_empty.result) l.invariant c.loop-place-test.false (ap not c.is_empty.ensures)
