use Rattle.std.proofs.Common.{◌≡◌, ◌≤◌, ◌∙◌, false, not, ◌&&◌, inl, inr, sym, ap, arith}
use Rattle.std.proofs.Math.Bool.{and-false}
use Rattle.rk_bytes.specs.Model.LogMarks.{LogFile, is_recyclable, type_of}
use Rattle.rk_log.proofs.FoundLemmas.{fragment_mark-unknown, recyclable_kind, other_kind}
use Rattle.rk_log.proofs.fragment.fragment_mark.Goals as goal
use Rattle.rk_log.proofs.fragment.fragment_mark.Goals.{then-is_recyclable-2, else-is_recyclable-2}

pub returns-in_default : goal.returns-in_default
returns-in_default c = λ number place.
    let bytes = c.args.bytes.now in
    let file : LogFile = record { number = number; recycled = c.args.recycled } in
    let not_1 : c.if-is_recyclable-2.legacy_kind ≡ 1 → ⊥ = λ e. omega arith in
    let not_2 : c.if-is_recyclable-2.legacy_kind ≡ 2 → ⊥ = λ e. omega arith in
    let not_3 : c.if-is_recyclable-2.legacy_kind ≡ 3 → ⊥ = λ e. omega arith in
    let not_4 : c.if-is_recyclable-2.legacy_kind ≡ 4 → ⊥ = λ e. omega arith in
    let other : 1 ≤ type_of bytes → type_of bytes ≤ 8 → ⊥ = λ low high. elim c.if-is_recyclable-2.branch [
      | then-is_recyclable-2 w ↦ let range = recyclable_kind (type_of bytes) (sym c.is_recyclable-2.ensures ∙ w.if-is_recyclable-2.true) in omega arith
      | else-is_recyclable-2 w ↦ other_kind (type_of bytes) (sym c.is_recyclable-2.ensures ∙ w.if-is_recyclable-2.false) (omega arith) high
    ] in
    let one_life : (is_recyclable (type_of bytes) && not c.args.recycled) ≡ false = elim c.else-is_recyclable.either [
      | inl recycled ↦ ap (λ one. is_recyclable (type_of bytes) && not one) recycled.1 ∙ and-false (is_recyclable (type_of bytes))
      | inr legacy ↦ ap (λ one. one && not c.args.recycled) (sym c.is_recyclable.ensures ∙ legacy)
    ] in
    fragment_mark-unknown file place bytes one_life other ∙ sym (c.unless_recycled.ensures number place)
