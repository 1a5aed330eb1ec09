-- A manifest's blocks up to the end of one that is fed.
use Rattle.std.proofs.Common.{◌≡◌, ℕ, ◌+◌, Bool, true, List, ◌++◌, length, take, drop, refl, sym, ap, ◌∙◌}
use Rattle.std.proofs.lemmas.List.{append-nil, take-append-drop}
use Rattle.std.proofs.Math.Seq.{take-add, take-append_seam}
use Rattle.rk_disk.specs.Parts.{IsPart}

pub part_fed : (at : ℕ) (bytes part : List ℕ) (is_last : Bool) → IsPart at bytes part is_last → take at bytes ++ part ≡ take (at + length part) bytes
part_fed at bytes part is_last is =
    let behind = drop (at + length part) bytes in
    sym (take-add at (length part) bytes ∙ ap (λ next. take at bytes ++ next) (ap (take (length part)) is.whole ∙ take-append_seam part behind))

pub last_fed : (at : ℕ) (bytes part : List ℕ) → IsPart at bytes part true → take at bytes ++ part ≡ bytes
last_fed at bytes part is =
    ap (λ next. take at bytes ++ next) (sym (append-nil part) ∙ ap (λ behind. part ++ behind) (sym (is.follows refl)) ∙ sym is.whole) ∙ take-append-drop at bytes
