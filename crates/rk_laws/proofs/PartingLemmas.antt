-- The marks of a log end once, and such marks are parted into items in one way.
use Rattle.std.proofs.Common.{◌≡◌, ℕ, true, false, cond, List, [], ◌∷◌, ◌++◌, Some, None, refl, sym, subst, ap, ◌∙◌, append_assoc}
use Rattle.std.proofs.lemmas.List.{append-nil}
use Rattle.std.proofs.lemmas.Bool.{false≢true}
use Rattle.rk_bytes.specs.declared.model.log.GapWhy.TheVariants.{MissingEnd}
use Rattle.rk_bytes.specs.Model.LogMarks.{Mark, full, first, middle, last, fault, cut, stale, unsupported, file_end, is_end, up_to_end, log_marks}
use Rattle.rk_bytes.specs.Model.LogItems.{Item, rec, gap, begins_record, middles, alone, closed, Parts, nothing, single, record_closed, record_broken, EndsOnce, parting}

one_more_mark : (mark : Mark) (marks : List Mark) → is_end mark ≡ false → EndsOnce marks → EndsOnce (mark ∷ marks)
one_more_mark mark [] other once = absurd once
one_more_mark mark (next ∷ marks) other once = (other, once)

EndsOnce-up_to_end : (file_len : ℕ) (marks : List Mark) → EndsOnce (up_to_end file_len marks)
EndsOnce-up_to_end file_len [] = refl
EndsOnce-up_to_end file_len (mark ∷ marks) =
    elim (is_end mark) as (λ ends. is_end mark ≡ ends → EndsOnce (cond ends (mark ∷ []) (mark ∷ up_to_end file_len marks))) [
      | true ↦ λ is. is
      | false ↦ λ is. one_more_mark mark (up_to_end file_len marks) is (EndsOnce-up_to_end file_len marks)
    ] refl

pub EndsOnce-log_marks : (number : ℕ) (bytes : List ℕ) → EndsOnce (log_marks number bytes)
unfolding log_marks
EndsOnce-log_marks number bytes = EndsOnce-up_to_end _ _

-- the marks after one that is no end
pub later : (mark : Mark) (marks : List Mark) → EndsOnce (mark ∷ marks) → is_end mark ≡ false → EndsOnce marks
later mark [] once other = absurd (false≢true (sym other ∙ once))
later mark (next ∷ marks) once other = once.1

-- there are none after one that is
pub no_later : (mark : Mark) (marks : List Mark) → EndsOnce (mark ∷ marks) → is_end mark ≡ true → marks ≡ []
no_later mark [] once ends = refl
no_later mark (next ∷ marks) once ends = absurd (false≢true (sym once.0 ∙ ends))

-- a middle after the first one makes its payload longer
Parts-middle : (payload more : List ℕ) (place at : ℕ) (marks : List Mark) (items : List Item) (whole : List ℕ) → whole ≡ payload ++ more → Parts (first whole place ∷ marks) items → Parts (first payload place ∷ middle more at ∷ marks) items
Parts-middle payload more place at marks items whole is (single e parts) = absurd (false≢true (sym e))
Parts-middle payload more place at marks items whole is (record_closed {next = next} {items = rest} follows other parts) =
    let same : whole ++ middles marks ≡ payload ++ (more ++ middles marks) = ap (λ w. w ++ middles marks) is ∙ append_assoc payload more (middles marks) in
    subst (λ w. Parts (first payload place ∷ middle more at ∷ marks) (closed w place next ∷ rest)) (sym same) (record_closed follows other parts)
Parts-middle payload more place at marks items whole is (record_broken follows begins parts) = record_broken follows begins parts

-- what follows the marks is parted, whether a record is unfinished before them or not
record PartsBoth (marks : List Mark) : Type 0 where
  whole : Parts marks (parting None marks)
  unfinished : (payload : List ℕ) (place : ℕ) → Parts (first payload place ∷ marks) (parting (Some (payload, place)) marks)

parts_both : (marks : List Mark) → EndsOnce marks → PartsBoth marks
parts_both [] once = absurd once
parts_both (full payload place ∷ marks) once =
    let next = parts_both marks (later (full payload place) marks once refl) in
    record { whole = single refl next.whole; unfinished = λ front from. record_broken refl refl (single refl next.whole) }
parts_both (first payload place ∷ marks) once =
    let next = parts_both marks (later (first payload place) marks once refl) in
    record { whole = next.unfinished payload place; unfinished = λ front from. record_broken refl refl (next.unfinished payload place) }
parts_both (middle payload place ∷ marks) once =
    let next = parts_both marks (later (middle payload place) marks once refl) in
    record {
      whole = single refl next.whole;
      unfinished = λ front from. Parts-middle front payload from place marks _ (front ++ payload) refl (next.unfinished (front ++ payload) from);
    }
parts_both (last payload place ∷ marks) once =
    let next = parts_both marks (later (last payload place) marks once refl) in
    record {
      whole = single refl next.whole;
      unfinished = λ front from. subst (λ w. Parts (first front from ∷ last payload place ∷ marks) (rec (w ++ payload) from ∷ parting None marks)) (append-nil front) (record_closed refl refl next.whole);
    }
parts_both (fault why place ∷ marks) once =
    let next = parts_both marks (later (fault why place) marks once refl) in
    record { whole = single refl next.whole; unfinished = λ front from. record_closed refl refl next.whole }
parts_both (cut place ∷ marks) once =
    subst (λ after. PartsBoth (cut place ∷ after)) (sym (no_later (cut place) marks once refl))
    (record { whole = single refl nothing; unfinished = λ front from. record_closed refl refl nothing })
parts_both (stale place ∷ marks) once =
    subst (λ after. PartsBoth (stale place ∷ after)) (sym (no_later (stale place) marks once refl))
    (record { whole = single refl nothing; unfinished = λ front from. record_closed refl refl nothing })
parts_both (unsupported kind place ∷ marks) once =
    subst (λ after. PartsBoth (unsupported kind place ∷ after)) (sym (no_later (unsupported kind place) marks once refl))
    (record { whole = single refl nothing; unfinished = λ front from. record_closed refl refl nothing })
parts_both (file_end place ∷ marks) once =
    subst (λ after. PartsBoth (file_end place ∷ after)) (sym (no_later (file_end place) marks once refl))
    (record { whole = single refl nothing; unfinished = λ front from. record_closed refl refl nothing })

pub Parts-parting : (marks : List Mark) → EndsOnce marks → Parts marks (parting None marks)
Parts-parting marks once = (parts_both marks once).whole

same_next : {mark other : Mark} {marks others : List Mark} → mark ∷ marks ≡ other ∷ others → (mark ≡ other) × (marks ≡ others)
same_next e = (cc, cc)

pub same_parts : (marks : List Mark) (items others : List Item) → Parts marks items → Parts marks others → others ≡ items
same_parts _ _ _ nothing nothing = refl
same_parts _ _ _ (single {mark = mark} e parts) (single other others) = ap (λ rest. alone mark ∷ rest) (same_parts _ _ _ parts others)
same_parts _ _ _ (single e parts) (record_closed follows begins others) = absurd (false≢true (sym e))
same_parts _ _ _ (single e parts) (record_broken follows begins others) = absurd (false≢true (sym e))
same_parts _ _ _ (record_closed follows begins parts) (single e others) = absurd (false≢true (sym e))
same_parts _ _ _ (record_broken follows begins parts) (single e others) = absurd (false≢true (sym e))
same_parts _ _ _ (record_closed {payload = payload} {place = place} {marks = marks} {rest = rest} {next = next} {items = items} follows begins parts)
    (record_closed {rest = rest'} {next = next'} {items = items'} follows' begins' others) =
    let e = same_next (sym follows ∙ follows') in
    let same = same_parts rest items items' parts (subst (λ r. Parts r items') (sym e.1) others) in
    let first_item : closed (payload ++ middles marks) place next' ≡ closed (payload ++ middles marks) place next = ap (closed (payload ++ middles marks) place) (sym e.0) in
    cc
same_parts _ _ _ (record_closed {next = next} follows begins parts) (record_broken {next = next'} follows' begins' others) =
    let e = same_next (sym follows ∙ follows') in
    absurd (false≢true (sym begins ∙ (ap begins_record e.0 ∙ begins')))
same_parts _ _ _ (record_broken {next = next} follows begins parts) (record_closed {next = next'} follows' begins' others) =
    let e = same_next (sym follows ∙ follows') in
    absurd (false≢true (sym begins' ∙ (ap begins_record (sym e.0) ∙ begins)))
same_parts _ _ _ (record_broken {place = place} {rest = rest} {next = next} {items = items} follows begins parts)
    (record_broken {rest = rest'} {next = next'} {items = items'} follows' begins' others) =
    let e = sym follows ∙ follows' in
    ap (λ rest. gap MissingEnd place ∷ rest) (same_parts (next ∷ rest) items items' parts (subst (λ r. Parts r items') (sym e) others))
