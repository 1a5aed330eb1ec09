-- What the calls of a feed answer, and what stands after them.
use Rattle.std.specs.Prelude.{◌≡◌, ◌⊎◌, ℕ, ◌+◌, ◌<◌, ◌≤◌, Bool, true, false, List, [], ◌∷◌, ◌++◌, length, Option, Some, None, Result, Ok, Err, is_some}
use Rattle.rk_bytes.specs.declared.memory.Memory.{Memory}
use Rattle.rk_bytes.specs.declared.model.log.EndKind.{EndKind}
use Rattle.rk_bytes.specs.declared.model.log.EndKind.TheVariants.{Clean, Torn}
use Rattle.rk_bytes.specs.Model.LogMarks.{Mark, LogFile}
use Rattle.rk_bytes.specs.Model.LogItems.{Item as Told, end, begins_record}
use Rattle.rk_log.specs.declared.item.Item.{Item}
use Rattle.rk_log.specs.declared.item.FeedItem.{FeedItem}
use Rattle.rk_log.specs.declared.item.FeedItem.TheVariants.{More}
use Rattle.rk_log.specs.declared.item.FeedItem.TheVariants as feed_item
use Rattle.rk_log.specs.declared.joining.Unfinished.{Unfinished}
use Rattle.rk_log.specs.declared.joining.End.{End}
use Rattle.rk_log.specs.declared.joining.Joining.{Joining}
use Rattle.rk_log.specs.declared.feed.LogFeed.{LogFeed}
use Rattle.rk_log.specs.declared.fragment.Mark as Found
use Rattle.rk_log.specs.Fragments.{mark_at}
use Rattle.rk_log.specs.Items.{item_of, is_end}
use Rattle.rk_log.specs.Left.{Left, Gives, splits_next, left_behind, rest_marks, left, bytes_before, has_ended}

-- The mark is taken: it ends an item, or it goes into the unfinished record, or memory ran out for that
-- and nothing changed.
abbrev pub Takes : Joining → Mark → Result (Option Item) Memory → Joining → Type 0
Takes old mark (Ok (Some item)) new =
    ((file_len : ℕ) (marks : List Mark) → Gives (left_behind old file_len (mark ∷ marks)) (item_of item) (left_behind new file_len marks))
    × (is_some new.given ≡ is_end (item_of item))
Takes old mark (Ok None) new =
    ((file_len : ℕ) (marks : List Mark) → left_behind new file_len marks ≡ left_behind old file_len (mark ∷ marks))
    × (new.given ≡ None)
Takes old mark (Err memory) new = (new ≡ old) × ((file_len : ℕ) (marks : List Mark) → splits_next (left_behind old file_len (mark ∷ marks)) ≡ true)

-- A record that stood unfinished is broken off before a mark that begins one.
abbrev pub BreaksOff : Joining → Option Item → Joining → Type 0
BreaksOff old (Some item) new = (is_end (item_of item) ≡ false) × ((file_len : ℕ) (mark : Mark) (marks : List Mark) → begins_record mark ≡ true → Gives (left_behind old file_len (mark ∷ marks)) (item_of item) (left_behind new file_len (mark ∷ marks)))
BreaksOff old None new = new ≡ old

-- the end is given again, once it was given
abbrev pub GivesAgain : Joining → Option Item → Type 0
GivesAgain joining (Some item) =
    ((file_len : ℕ) (marks : List Mark) → Gives (left_behind joining file_len marks) (item_of item) (left_behind joining file_len marks))
    × (is_some joining.given ≡ is_end (item_of item))
GivesAgain joining None = joining.given ≡ None

-- A feed takes a mark of its block, of so many bytes: it gives an item, with the mark or before it, or it
-- passes over the mark, or memory ran out and nothing changed. `ahead` are the marks behind so many bytes.
pub record StaysIn (old new : LogFeed) : Type 0 where
  pub number : new.number ≡ old.number
  pub recycled : new.recycled ≡ old.recycled
  pub before : new.before ≡ old.before

abbrev pub Advances : LogFeed → Mark → ℕ → Result (Option Item) Memory → LogFeed → Type 0
Advances old mark len (Ok (Some item)) new =
    StaysIn old new × (is_some new.joining.given ≡ is_end (item_of item)) × ((ahead : ℕ → List Mark) (file_len : ℕ) → ahead old.at ≡ mark ∷ ahead (old.at + len)
    → Gives (left_behind old.joining file_len (ahead old.at)) (item_of item) (left_behind new.joining file_len (ahead new.at)))
Advances old mark len (Ok None) new =
    StaysIn old new × (new.at ≡ old.at + len) × (new.joining.given ≡ None) × ((ahead : ℕ → List Mark) (file_len : ℕ) → ahead old.at ≡ mark ∷ ahead (old.at + len)
    → left_behind new.joining file_len (ahead new.at) ≡ left_behind old.joining file_len (ahead old.at))
Advances old mark len (Err memory) new = (new ≡ old) × ((file_len : ℕ) (marks : List Mark) → splits_next (left_behind old.joining file_len (mark ∷ marks)) ≡ true)

-- the mark behind so many bytes of a block, if there is one, and how many bytes it takes
abbrev pub FindsMark : LogFile → ℕ → ℕ → List ℕ → Option (Found.Mark × ℕ) → Type 0
FindsMark file before at block None = rest_marks file before at block ≡ []
FindsMark file before at block (Some one) =
    (0 < one.1) × (at + one.1 ≤ length block) × (rest_marks file before at block ≡ mark_at (before + at) one.0 ∷ rest_marks file before (at + one.1) block)

-- the only item that is left is the file's end, in a record or not
abbrev pub IsFileEnd : List Told → Type 0
IsFileEnd items = (place : ℕ) × ((items ≡ end Clean place ∷ []) ⊎ (items ≡ end Torn place ∷ []))

-- what may follow a block: nothing, if it is the file's last
abbrev pub MayFollow : Bool → List ℕ → Type 0
MayFollow is_last rest = is_last ≡ true → rest ≡ []

-- The next item is given, and it is the next whatever follows the block.
pub record GivesItem (old : LogFeed) (block : List ℕ) (is_last : Bool) (item : Told) (new : LogFeed) : Type 0 where
  pub gives : (rest : List ℕ) → MayFollow is_last rest → Gives (left old (block ++ rest)) item (left new (block ++ rest))
  pub before : bytes_before new ≡ bytes_before old
  pub ended : has_ended new ≡ is_end item

-- No end was given, and the block ends no further item: were it the file's last, the file's end alone were left.
-- Reading goes on with the next block.
pub record GoesOn (old : LogFeed) (block : List ℕ) (is_last : Bool) (new : LogFeed) : Type 0 where
  pub not_last : is_last ≡ false
  pub not_ended : has_ended old ≡ false
  pub ends_none : IsFileEnd (left old block).items
  pub same : (rest : List ℕ) → left new rest ≡ left old (block ++ rest)
  pub before : bytes_before new ≡ bytes_before old + length block
  pub ended : has_ended new ≡ false

-- Memory ran out for the parts of a split record, and the same is left.
pub record Waits (old : LogFeed) (block : List ℕ) (is_last : Bool) (new : LogFeed) : Type 0 where
  pub splits : (rest : List ℕ) → MayFollow is_last rest → splits_next (left old (block ++ rest)) ≡ true
  pub same : (rest : List ℕ) → MayFollow is_last rest → left new (block ++ rest) ≡ left old (block ++ rest)
  pub before : bytes_before new ≡ bytes_before old
  pub ended : has_ended new ≡ false

abbrev pub Feeds : LogFeed → List ℕ → Bool → Result FeedItem Memory → LogFeed → Type 0
Feeds old block is_last (Ok (feed_item.Item item)) new = GivesItem old block is_last (item_of item) new
Feeds old block is_last (Ok More) new = GoesOn old block is_last new
Feeds old block is_last (Err memory) new = Waits old block is_last new

-- where reading ends for want of bytes: within an unfinished record, or else so
abbrev pub end_in : Option Unfinished → EndKind → ℕ → End
end_in None kind place = record { kind = kind; place = place }
end_in (Some one) kind place = record { kind = Torn; place = one.place }

-- The next item is given, or memory ran out for the parts of a split record, and nothing changed.
abbrev pub Reads : Left → Result Item Memory → Left → Type 0
Reads old (Ok item) new = Gives old (item_of item) new
Reads old (Err memory) new = (new ≡ old) × (splits_next old ≡ true)
