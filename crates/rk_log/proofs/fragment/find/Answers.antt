use Rattle.std.proofs.Common.{◌≡◌, refl, sym, ap, cond, ◌∙◌, arith}
use Rattle.std.proofs.lemmas.Bool.{lt-ltb, le-ltb}
use Rattle.rk_bytes.specs.declared.model.log.GapWhy.TheVariants.{Length}
use Rattle.rk_bytes.specs.Model.LogMarks.{LogFile, nothing, whole_rest, unless_recycled, fault, cut}
use Rattle.rk_log.proofs.FoundLemmas.{found_by}
use Rattle.rk_log.specs.Fragments.{mark_at}
use Rattle.rk_log.proofs.fragment.find.Goals as goal
use Rattle.rk_log.proofs.fragment.find.Goals.{then-is_full-2, else-is_full-2}

pub returns-then-is_full : goal.returns-then-is_full
returns-then-is_full c = λ place.
    let file : LogFile = record { number = c.args.number; recycled = c.args.recycled } in
    found_by file _ place c.args.bytes.now (lt-ltb _ _ c.if-bytes-lt-HEADER_LEN.true) refl
    ∙ ap (λ full. cond full nothing (whole_rest (unless_recycled file (cut place) place))) c.if-is_full.true

pub returns-else-is_full : goal.returns-else-is_full
returns-else-is_full c = λ place.
    let file : LogFile = record { number = c.args.number; recycled = c.args.recycled } in
    found_by file _ place c.args.bytes.now (lt-ltb _ _ c.if-bytes-lt-HEADER_LEN.true) refl
    ∙ ap (λ full. cond full nothing (whole_rest (unless_recycled file (cut place) place))) c.if-is_full.false
    ∙ ap whole_rest (sym (c.unless_recycled.ensures c.args.number place))

pub returns-then-bytes-len : goal.returns-then-bytes-len
returns-then-bytes-len c = λ place.
    let file : LogFile = record { number = c.args.number; recycled = c.args.recycled } in
    let mark : mark_at place c.if-is_full-2.mark ≡ cond c.args.is_full (fault Length place) (cut place) = elim c.if-is_full-2.branch [
      | then-is_full-2 w ↦ ap (mark_at place) w.mark-is ∙ ap (λ full. cond full (fault Length place) (cut place)) (sym w.if-is_full-2.true)
      | else-is_full-2 w ↦ ap (mark_at place) w.mark-is ∙ ap (λ full. cond full (fault Length place) (cut place)) (sym w.if-is_full-2.false)
    ] in
    found_by file _ place c.args.bytes.now (le-ltb _ _ c.if-bytes-lt-HEADER_LEN.false) (lt-ltb _ _ (omega (arith, c.fragment_len-len.ensures)))
    ∙ ap (λ mark. whole_rest (unless_recycled file mark place)) (sym mark)
    ∙ ap whole_rest (sym (c.unless_recycled-then-bytes-len.ensures c.args.number place))

pub returns : goal.returns
returns c = λ place.
    let file : LogFile = record { number = c.args.number; recycled = c.args.recycled } in
    found_by file _ place c.args.bytes.now (le-ltb _ _ c.if-bytes-lt-HEADER_LEN.false) (le-ltb _ _ (omega (arith, c.fragment_len-len.ensures)))
    ∙ c.find_fragment.ensures place
