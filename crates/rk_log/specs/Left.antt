-- What is left of a log while it is read.
use Rattle.std.specs.Prelude.{◌≡◌, ℕ, ◌+◌, Bool, true, false, List, [], ◌∷◌, ◌++◌, length, take, drop, ◌==◌, Option, Some, None, is_some}
use Rattle.rk_bytes.specs.Model.LogMarks.{Mark, full, first, middle, LogFile, marks_from, block_len, blocks_marks, file_blocks, first_type, is_recycled, up_to_end, log_marks}
use Rattle.rk_bytes.specs.Model.LogItems.{Item, rec, gap, end, parting, log_items}
use Rattle.rk_log.specs.declared.joining.Unfinished.{Unfinished}
use Rattle.rk_log.specs.declared.joining.Joining.{Joining}
use Rattle.rk_log.specs.declared.feed.LogFeed.{LogFeed}

-- the items that are left, and of each whether a first fragment stands in its shape
pub record Left : Type 0 where
  pub items : List Item
  pub split : List Bool

-- of each item of the marks, whether a first fragment stands in its shape; one may stand before them
abbrev pub splits : Bool → List Mark → List Bool
splits begun [] = []
splits false (first payload place ∷ marks) = splits true marks
splits false (mark ∷ marks) = false ∷ splits false marks
splits true (middle payload place ∷ marks) = splits true marks
splits true (first payload place ∷ marks) = true ∷ splits true marks
splits true (full payload place ∷ marks) = true ∷ false ∷ splits false marks
splits true (mark ∷ marks) = true ∷ splits false marks

-- what is left, where these marks are, and a record's payload so far and its place may stand unfinished
unfoldable pub left_of : Option (List ℕ × ℕ) → List Mark → Left
left_of unfinished marks = record { items = parting unfinished marks; split = splits (is_some unfinished) marks }

-- what is left before the first item of a log
abbrev pub log_left : ℕ → List ℕ → Left
log_left number bytes = record { items = log_items number bytes; split = splits false (log_marks number bytes) }

-- what is left once this end was given: the same again
abbrev pub end_left : Item → Left
end_left item = record { items = item ∷ []; split = false ∷ [] }

-- The item is the first of those that were left, and the others are left now. The end stays.
abbrev pub Gives : Left → Item → Left → Type 0
Gives old (rec payload place) new = (old.items ≡ rec payload place ∷ new.items) × (drop 1 old.split ≡ new.split)
Gives old (gap why place) new = (old.items ≡ gap why place ∷ new.items) × (drop 1 old.split ≡ new.split)
Gives old (end kind place) new = (old.items ≡ end kind place ∷ []) × (new ≡ end_left (end kind place))

-- a first fragment stands in the shape of the next item
abbrev pub splits_next : Left → Bool
splits_next left = elim left.split [ [] ↦ false | split ∷ others ↦ split ]

-- the payload so far and the place of an unfinished record
abbrev pub begun : Option Unfinished → Option (List ℕ × ℕ)
begun None = None
begun (Some one) = Some (one.payload, one.place)

-- what is left to be joined, where these marks are ahead in a file of this length
unfoldable pub left_behind : Joining → ℕ → List Mark → Left
left_behind joining file_len marks = elim joining.given [
  | Some one ↦ end_left (end one.kind one.place)
  | None ↦ left_of (begun joining.unfinished) (up_to_end file_len marks)
]

-- whether a file is recycled, which an earlier header said, or the first of these bytes' says
abbrev pub recycled_in : Option Bool → List ℕ → Bool
recycled_in (Some known) bytes = known
recycled_in None bytes = is_recycled (first_type (file_blocks bytes))

-- the file that a feed reads, where these bytes are ahead
abbrev pub file_of : LogFeed → List ℕ → LogFile
file_of feed bytes = record { number = feed.number; recycled = recycled_in feed.recycled bytes }

-- the marks of a block behind so many bytes of it, where so many stand before the block
unfoldable pub rest_marks : LogFile → ℕ → ℕ → List ℕ → List Mark
rest_marks file before at block = marks_from file (length block == block_len) (length (drop at block)) (before + at) (drop at block)

-- what is left, where the feed reads this block of a file of this length, behind which these marks are
unfoldable pub left_in : LogFile → LogFeed → ℕ → List ℕ → List Mark → Left
left_in file feed file_len block later = left_behind feed.joining file_len (rest_marks file feed.before feed.at block ++ later)

-- What a feed has still to give, where these are the file's bytes from the block that is handed in up to
-- its end.
unfoldable pub left : LogFeed → List ℕ → Left
left feed bytes =
    left_in (file_of feed bytes) feed (feed.before + length bytes) (take block_len bytes)
    (blocks_marks (file_of feed bytes) (feed.before + block_len) (file_blocks (drop block_len bytes)))

-- how many bytes the blocks before this one have
abbrev pub bytes_before : LogFeed → ℕ
bytes_before feed = feed.before

-- the end was given
abbrev pub has_ended : LogFeed → Bool
has_ended feed = is_some feed.joining.given
