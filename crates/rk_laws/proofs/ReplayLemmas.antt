-- What replay finds in logs without damage.
use Rattle.std.proofs.Common.{◌≡◌, ℕ, Bool, true, false, List, [], ◌∷◌, ◌++◌, map, refl, ap}
use Rattle.std.specs.Prelude.{Option, Some, None, Result, Ok, Err}
use Rattle.rk_bytes.specs.declared.model.batch.BatchFault.{BatchFault}
use Rattle.rk_bytes.specs.declared.model.batch.BatchFault.TheVariants.{TooSmall, BadRecord, UnsupportedTag, WrongCount, SequenceTop}
use Rattle.rk_bytes.specs.Model.LogMarks.{Mark, full, first, middle, last, fault, cut, stale, unsupported as unsupported_mark, file_end}
use Rattle.rk_bytes.specs.Model.LogItems.{Item, rec, gap, end, EndsOnce, parting}
use Rattle.rk_bytes.specs.Model.WriteBatch.{Batch, batch_of}
use Rattle.rk_laws.proofs.PartingLemmas.{later, no_later}
use Rattle.rk_bytes.specs.Model.Replay.{finding_of_record, finding, is_stale}

-- no item follows an end
abbrev pub is_item_end : Item → Bool
is_item_end (rec payload place) = false
is_item_end (gap why place) = false
is_item_end (end kind place) = true

abbrev pub EndsLast : {A : Type 0} → (A → Bool) → List A → Type 0
EndsLast is_last [] = Unit {0}
EndsLast is_last (x ∷ xs) = (is_last x ≡ true → xs ≡ []) × EndsLast is_last xs

nothing_parted : (marks : List Mark) → marks ≡ [] → parting None marks ≡ []
nothing_parted marks e = ap (parting None) e

nothing_last : (items : List Item) → items ≡ [] → EndsLast is_item_end items
nothing_last [] e = tt
nothing_last (item ∷ items) e = cc

pub items_end_last : (unfinished : Option (List ℕ × ℕ)) (marks : List Mark) → EndsOnce marks → EndsLast is_item_end (parting unfinished marks)
items_end_last None [] once = tt
items_end_last (Some front) [] once = tt
items_end_last None (full payload place ∷ marks) once = ((λ e. cc), items_end_last None marks (later (full payload place) marks once refl))
items_end_last None (first payload place ∷ marks) once = items_end_last (Some (payload, place)) marks (later (first payload place) marks once refl)
items_end_last None (middle payload place ∷ marks) once = ((λ e. cc), items_end_last None marks (later (middle payload place) marks once refl))
items_end_last None (last payload place ∷ marks) once = ((λ e. cc), items_end_last None marks (later (last payload place) marks once refl))
items_end_last None (fault why place ∷ marks) once = ((λ e. cc), items_end_last None marks (later (fault why place) marks once refl))
items_end_last None (cut place ∷ marks) once = let no = nothing_parted marks (no_later (cut place) marks once refl) in ((λ e. no), nothing_last _ no)
items_end_last None (stale place ∷ marks) once = let no = nothing_parted marks (no_later (stale place) marks once refl) in ((λ e. no), nothing_last _ no)
items_end_last None (unsupported_mark kind place ∷ marks) once = let no = nothing_parted marks (no_later (unsupported_mark kind place) marks once refl) in ((λ e. no), nothing_last _ no)
items_end_last None (file_end place ∷ marks) once = let no = nothing_parted marks (no_later (file_end place) marks once refl) in ((λ e. no), nothing_last _ no)
items_end_last (Some front) (full payload place ∷ marks) once =
    ((λ e. cc), ((λ e. cc), items_end_last None marks (later (full payload place) marks once refl)))
items_end_last (Some front) (first payload place ∷ marks) once = ((λ e. cc), items_end_last (Some (payload, place)) marks (later (first payload place) marks once refl))
items_end_last (Some front) (middle payload place ∷ marks) once = items_end_last (Some (front.0 ++ payload, front.1)) marks (later (middle payload place) marks once refl)
items_end_last (Some front) (last payload place ∷ marks) once = ((λ e. cc), items_end_last None marks (later (last payload place) marks once refl))
items_end_last (Some front) (fault why place ∷ marks) once = ((λ e. cc), items_end_last None marks (later (fault why place) marks once refl))
items_end_last (Some front) (cut place ∷ marks) once = let no = nothing_parted marks (no_later (cut place) marks once refl) in ((λ e. no), nothing_last _ no)
items_end_last (Some front) (stale place ∷ marks) once = let no = nothing_parted marks (no_later (stale place) marks once refl) in ((λ e. no), nothing_last _ no)
items_end_last (Some front) (unsupported_mark kind place ∷ marks) once = let no = nothing_parted marks (no_later (unsupported_mark kind place) marks once refl) in ((λ e. no), nothing_last _ no)
items_end_last (Some front) (file_end place ∷ marks) once = let no = nothing_parted marks (no_later (file_end place) marks once refl) in ((λ e. no), nothing_last _ no)

-- only an item that ends a log is stale
stale_record : (place : ℕ) (read : Result Batch BatchFault) → is_stale (finding_of_record place read) ≡ true → ⊥
stale_record place (Ok read) e = cc
stale_record place (Err TooSmall) e = cc
stale_record place (Err (BadRecord at)) e = cc
stale_record place (Err (UnsupportedTag tag)) e = cc
stale_record place (Err (WrongCount stated actual)) e = cc
stale_record place (Err SequenceTop) e = cc

stale_is_end : (item : Item) → is_stale (finding item) ≡ true → is_item_end item ≡ true
stale_is_end (rec payload place) e = absurd (stale_record place (batch_of payload) e)
stale_is_end (gap why place) e = cc
stale_is_end (end kind place) e = refl

pub findings_end_last : (items : List Item) → EndsLast is_item_end items → EndsLast is_stale (map finding items)
findings_end_last [] ends = tt
findings_end_last (item ∷ items) ends = ((λ e. ap (map finding) (ends.0 (stale_is_end item e))), findings_end_last items ends.1)
