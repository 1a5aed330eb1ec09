use Rattle.std.proofs.Common.{◌≡◌, List, [], true, Ok, Some, None, sym, ap, ◌∙◌, subst, arith}
use Rattle.rk_log.specs.declared.item.Piece.{Piece}
use Rattle.rk_log.specs.Items.{piece_bytes}
use Rattle.rk_manifest.specs.Fronts.{edits_in, admits, IsFrontOf}
use Rattle.rk_manifest.specs.Groups.{TakesEdit}
use Rattle.rk_manifest.proofs.GroupLemmas.{front_of-push, takes_more, takes_last}
use Rattle.rk_manifest.proofs.group.Begun.add.Goals as goal

pub invariant_of-self-then-left-gt0 : goal.invariant_of-self-then-left-gt0
invariant_of-self-then-left-gt0 c = record {
  front = subst (IsFrontOf c.args.left) (sym c.in_ok-push.ensures.ok)
      (front_of-push c.args.self.now.left c.args.left c.args.self.now.edits c.args.edit c.args.self.now.front c.requires.admits c.requires.states c.if-left-gt0.true);
}

pub returns-then-left-gt0 : goal.returns-then-left-gt0
returns-then-left-gt0 c =
    subst (λ (edits : List Piece). TakesEdit (edits_in c.args.self.now.edits) (piece_bytes c.args.edit) (Ok None) (edits_in edits)) (sym c.in_ok-push.ensures.ok)
    (takes_more c.args.left c.args.self.now.edits c.args.edit c.requires.states)

pub returns : goal.returns
returns c =
    let none : c.args.left ≡ 0 = omega (arith, c.if-left-gt0.false) in
    let old = c.args.self.now.edits in
    let bytes = piece_bytes c.args.edit in
    let whole = c.replace-pieces.ensures.value ∙ c.in_ok-push.ensures.ok in
    let empty = c.replace-pieces.ensures.after ∙ c.new.ensures in
    subst (λ (edits : List Piece). TakesEdit (edits_in old) bytes (Ok (Some (record { pieces = c.replace-pieces.result; group = true }))) (edits_in edits)) (sym empty)
    (subst (λ (pieces : List Piece). TakesEdit (edits_in old) bytes (Ok (Some (record { pieces = pieces; group = true }))) []) (sym whole)
    (takes_last c.args.self.now.left old c.args.edit c.args.self.now.front (ap (λ left. admits c.args.self.now.left (Some left)) (sym none) ∙ c.requires.admits) (c.requires.states ∙ ap (λ left. Ok (Some left)) none)))
