-- The records of a log, and what is left out between them: the marks of LogMarks, parted.
-- db/log_reader.cc joins fragments so; the grouping of what is left out is this project's own rule.
use Rattle.std.specs.Prelude.{◌≡◌, ℕ, Bool, true, false, List, [], ◌∷◌, ◌++◌, Option, Some, None, refl}
use Rattle.rk_bytes.specs.declared.model.log.GapWhy.{GapWhy}
use Rattle.rk_bytes.specs.declared.model.log.GapWhy.TheVariants.{Checksum, MissingStart, MissingEnd}
use Rattle.rk_bytes.specs.declared.model.log.EndKind.{EndKind}
use Rattle.rk_bytes.specs.declared.model.log.EndKind.TheVariants.{Clean, Torn, Stale, Unsupported}
use Rattle.rk_bytes.specs.Model.LogMarks.{Mark, full, first, middle, last, fault, cut, stale, unsupported, file_end, is_end, log_marks}

-- A record has its payload and the place of its first header.
pub data Item : Type 0 where
  rec : List ℕ → ℕ → Item
  gap : GapWhy → ℕ → Item
  end : EndKind → ℕ → Item

abbrev is_first : Mark → Bool
is_first (first payload place) = true
is_first _ = false

-- the mark begins a record of its own
abbrev pub begins_record : Mark → Bool
begins_record (full payload place) = true
begins_record (first payload place) = true
begins_record _ = false

-- the payloads of the middles at the front, joined
abbrev pub middles : List Mark → List ℕ
middles (middle payload place ∷ marks) = payload ++ middles marks
middles _ = []

-- the marks after the middles at the front
abbrev after_middles : List Mark → List Mark
after_middles (middle payload place ∷ marks) = after_middles marks
after_middles marks = marks

-- The item of a mark before which no record is unfinished. The case of a first one is never reached, since
-- it leaves a record unfinished.
abbrev pub alone : Mark → Item
alone (full payload place) = rec payload place
alone (first payload place) = gap MissingEnd place
alone (middle payload place) = gap MissingStart place
alone (last payload place) = gap MissingStart place
alone (fault why place) = gap why place
alone (cut place) = end Torn place
alone (stale place) = end Stale place
alone (unsupported kind place) = end (Unsupported kind) place
alone (file_end place) = end Clean place

-- The item of an unfinished record, its payload so far and its place, and of the mark after it. The last
-- case is never reached: a middle goes on with the record, and a full or a first one begins another.
abbrev pub closed : List ℕ → ℕ → Mark → Item
closed payload place (last more at) = rec (payload ++ more) place
closed payload place (fault why at) = gap why at
closed payload place (cut at) = end Torn place
closed payload place (file_end at) = end Torn place
closed payload place (stale at) = end Stale at
closed payload place (unsupported kind at) = end (Unsupported kind) at
closed payload place _ = gap MissingEnd place

-- The marks, parted into items: a mark that isn't a first one alone; a first one, the middles after
-- it and the mark that closes it; or a first one and its middles, where the next mark begins a record.
-- This relation is what an item is. Of marks that end once it admits one list of items, `parting` (law
-- `one_parting`).
pub data Parts : List Mark → List Item → Type 0 where
  nothing : Parts [] []
  single : {mark : Mark} {rest : List Mark} {items : List Item}
      → is_first mark ≡ false
      → Parts rest items
      → Parts (mark ∷ rest) (alone mark ∷ items)
  record_closed : {payload : List ℕ} {place : ℕ} {marks rest : List Mark} {next : Mark} {items : List Item}
      → after_middles marks ≡ next ∷ rest
      → begins_record next ≡ false
      → Parts rest items
      → Parts (first payload place ∷ marks) (closed (payload ++ middles marks) place next ∷ items)
  record_broken : {payload : List ℕ} {place : ℕ} {marks rest : List Mark} {next : Mark} {items : List Item}
      → after_middles marks ≡ next ∷ rest
      → begins_record next ≡ true
      → Parts (next ∷ rest) items
      → Parts (first payload place ∷ marks) (gap MissingEnd place ∷ items)

-- the last mark is an end, and no other is
abbrev pub EndsOnce : List Mark → Type 0
EndsOnce [] = ⊥
EndsOnce (mark ∷ []) = is_end mark ≡ true
EndsOnce (mark ∷ next ∷ marks) = (is_end mark ≡ false) × EndsOnce (next ∷ marks)

-- the one parting, where a record's payload so far and its place may stand unfinished before the marks
abbrev pub parting : Option (List ℕ × ℕ) → List Mark → List Item
parting unfinished [] = []
parting None (first payload place ∷ marks) = parting (Some (payload, place)) marks
parting None (mark ∷ marks) = alone mark ∷ parting None marks
parting (Some front) (middle payload place ∷ marks) = parting (Some (front.0 ++ payload, front.1)) marks
parting (Some front) (first payload place ∷ marks) = gap MissingEnd front.1 ∷ parting (Some (payload, place)) marks
parting (Some front) (full payload place ∷ marks) = gap MissingEnd front.1 ∷ rec payload place ∷ parting None marks
parting (Some front) (mark ∷ marks) = closed front.0 front.1 mark ∷ parting None marks

-- the items of a log's file
abbrev pub log_items : ℕ → List ℕ → List Item
log_items number bytes = parting None (log_marks number bytes)

joined : parting None (first (1 ∷ []) 0 ∷ middle (2 ∷ []) 8 ∷ last (3 ∷ []) 16 ∷ file_end 24 ∷ [])
    ≡ rec (1 ∷ 2 ∷ 3 ∷ []) 0 ∷ end Clean 24 ∷ []
joined = refl

broken : parting None (first (1 ∷ []) 0 ∷ full (2 ∷ []) 8 ∷ last (3 ∷ []) 16 ∷ cut 24 ∷ [])
    ≡ gap MissingEnd 0 ∷ rec (2 ∷ []) 8 ∷ gap MissingStart 16 ∷ end Torn 24 ∷ []
broken = refl

left_out : parting None (first (1 ∷ []) 0 ∷ fault Checksum 8 ∷ first (2 ∷ []) 16 ∷ file_end 24 ∷ [])
    ≡ gap Checksum 8 ∷ end Torn 16 ∷ []
left_out = refl
