-- What a block of a log comes to.
use Rattle.std.specs.Prelude.{◌≡◌, ◌⊎◌, ℕ, ◌+◌, ◌≤◌, Bool, true, false, not, List, [], ◌++◌, length, map, filter, fold, Option, Some, None, Result, Ok, Err}
use Rattle.rk_bytes.specs.declared.model.manifest.Version.{Version}
use Rattle.rk_bytes.specs.declared.model.wal.Mode.{Mode}
use Rattle.rk_bytes.specs.declared.model.wal.WalErr.{WalErr}
use Rattle.rk_bytes.specs.declared.model.wal.WalErr.TheVariants.{Memory}
use Rattle.rk_bytes.specs.Model.LogItems.{Item as Told}
use Rattle.rk_bytes.specs.Model.Replay.{finding}
use Rattle.rk_log.specs.declared.feed.LogFeed.{LogFeed}
use Rattle.rk_log.specs.declared.item.Item.{Item}
use Rattle.rk_log.specs.Items.{item_of}
use Rattle.rk_log.specs.Left.{left, bytes_before}
use Rattle.rk_log.specs.Steps.{MayFollow, IsFileEnd, GivesItem}
use Rattle.rk_walmode.specs.declared.progress.Reading.{Reading}
use Rattle.rk_walmode.specs.declared.progress.Reading.TheVariants.{GoesOn, Ended}
use Rattle.rk_walmode.specs.declared.progress.Progress.{Progress}
use Rattle.rk_walmode.specs.Fed.{is_file_end}
use Rattle.rk_walmode.specs.Walks.{Walk, walk_on}
use Rattle.rk_walmode.specs.Runs.{IsAt}

-- The block ends no further item, and reading goes on with the next one. Were it the last, the file's end alone
-- were left.
pub record PassesOn (old : LogFeed) (block : List ℕ) (is_last : Bool) (new : LogFeed) : Type 0 where
  pub not_last : is_last ≡ false
  pub quiet : IsFileEnd (left new []).items
  pub same : (rest : List ℕ) → (left new rest).items ≡ (left old (block ++ rest)).items
  pub before : bytes_before new ≤ bytes_before old + length block

-- The next item is given, which before the last block isn't the file's end, or none is, or memory ran out.
abbrev pub GivesNext : LogFeed → List ℕ → Bool → Result (Option Item) WalErr → LogFeed → Type 0
GivesNext old block is_last (Ok (Some item)) new = GivesItem old block is_last (item_of item) new × (is_last ≡ false → is_file_end (item_of item) ≡ false)
GivesNext old block is_last (Ok None) new = PassesOn old block is_last new
GivesNext old block is_last (Err why) new = (why ≡ Memory) × (bytes_before new ≡ bytes_before old)

-- what the progress has come to, by how a block ended
abbrev pub HasComeBy : Progress → Result Reading WalErr → Walk → Type 0
HasComeBy to (Ok reading) walk = IsAt to walk
HasComeBy to (Err Memory) walk = Unit {0}
HasComeBy to (Err why) walk = (walk.refused ≡ Some why) × (walk.passes ≡ true)

-- these items may follow the block
abbrev pub FollowsBy : Result Reading WalErr → LogFeed → Walk → List ℕ → List Told → Type 0
FollowsBy (Ok GoesOn) feed walk rest items = (items ≡ (left feed rest).items) × (walk.passes ≡ false)
FollowsBy (Ok Ended) feed walk rest items = (walk.passes ≡ true) ⊎ (items ≡ [])
FollowsBy (Err Memory) feed walk rest items = Unit {0}
FollowsBy (Err why) feed walk rest items = (walk.passes ≡ true) ⊎ (items ≡ [])

-- where reading goes on behind the block, the file's end alone would be left
abbrev pub IsQuietBy : Bool → Result Reading WalErr → LogFeed → Type 0
IsQuietBy is_last (Ok GoesOn) feed = (is_last ≡ false) × IsFileEnd (left feed []).items
IsQuietBy is_last (Ok Ended) feed = Unit {0}
IsQuietBy is_last (Err why) feed = Unit {0}

-- The items that the block ends are taken.
pub record TakesBlock (mode : Mode) (version : Version) (old : LogFeed) (from : Progress) (log : ℕ) (block : List ℕ) (is_last : Bool) (result : Result Reading WalErr) (new : LogFeed) (to : Progress) : Type 0 where
  pub seen : List Told
  pub known : is_last ≡ false → filter (λ item. not (is_file_end item)) seen ≡ seen
  pub quiet : IsQuietBy is_last result new
  pub come : (walk : Walk) → IsAt from walk → walk.passes ≡ false → HasComeBy to result (fold (walk_on mode version log) walk (map finding seen))
  pub ahead : (rest : List ℕ) → MayFollow is_last rest → (items : List Told) × ((left old (block ++ rest)).items ≡ seen ++ items)
      × ((walk : Walk) → IsAt from walk → walk.passes ≡ false → FollowsBy result new (fold (walk_on mode version log) walk (map finding seen)) rest items)
