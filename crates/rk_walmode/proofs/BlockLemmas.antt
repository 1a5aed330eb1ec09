-- How far the items of a block are taken.
use Rattle.std.proofs.Common.{◌≡◌, ℕ, ◌<◌, Bool, true, false, cond, not, List, [], ◌∷◌, ◌++◌, length, filter, None, Result, Ok, Err, inl, inr, refl, sym, ◌∙◌, ap, subst, append_assoc, arith}
use Rattle.std.proofs.lemmas.Bool.{true≢false, false≢true}
use Rattle.std.proofs.lemmas.List.{append-nil}
use Rattle.std.proofs.lemmas.List.Elements.{filter-append}
use Rattle.rk_bytes.specs.declared.model.batch.BatchFault.{BatchFault}
use Rattle.rk_bytes.specs.declared.model.batch.BatchFault.TheVariants.{TooSmall, BadRecord, UnsupportedTag, WrongCount, SequenceTop}
use Rattle.rk_bytes.specs.declared.model.log.EndKind.TheVariants.{Clean, Torn, Stale, Unsupported}
use Rattle.rk_bytes.specs.declared.model.manifest.Version.{Version}
use Rattle.rk_bytes.specs.declared.model.wal.Mode.{Mode}
use Rattle.rk_bytes.specs.declared.model.wal.WalErr.{WalErr}
use Rattle.rk_bytes.specs.declared.model.wal.WalErr.TheVariants.{Corrupt, FamilyAhead, UnsupportedLog, Memory}
use Rattle.rk_bytes.specs.Model.LogItems.{Item, rec, gap, end}
use Rattle.rk_bytes.specs.Model.WriteBatch.{Batch, batch_of}
use Rattle.rk_bytes.specs.Model.Replay.{Finding, finding_of_record, finding}
use Rattle.rk_log.specs.declared.feed.LogFeed.{LogFeed}
use Rattle.rk_log.specs.Items.{is_end}
use Rattle.rk_log.specs.Left.{Left, Gives, left, bytes_before}
use Rattle.rk_log.specs.Steps.{MayFollow, GivesItem}
use Rattle.rk_walmode.specs.declared.progress.Progress.{Progress}
use Rattle.rk_walmode.specs.declared.progress.Reading.{Reading}
use Rattle.rk_walmode.specs.declared.progress.Reading.TheVariants.{GoesOn, Ended}
use Rattle.rk_walmode.specs.Fed.{is_file_end}
use Rattle.rk_walmode.specs.Walks.{Walk}
use Rattle.rk_walmode.specs.Runs.{IsAt}
use Rattle.rk_walmode.specs.Founds.{goes_behind, ends_log, Comes, Takes}
use Rattle.rk_walmode.specs.Blocks.{PassesOn, HasComeBy, FollowsBy, IsQuietBy, TakesBlock}
use Rattle.rk_walmode.proofs.FedLemmas.{walked, walked-append}

-- Of a block, the items that the feed gave so far are taken.
pub record InBlock (mode : Mode) (version : Version) (old : LogFeed) (from : Progress) (log : ℕ) (block : List ℕ) (is_last : Bool) (new : LogFeed) (to : Progress) : Type 0 where
  pub seen : List Item
  pub known : is_last ≡ false → filter (λ item. not (is_file_end item)) seen ≡ seen
  pub come : (walk : Walk) → IsAt from walk → walk.passes ≡ false → IsAt to (walked mode version log walk seen) × ((walked mode version log walk seen).passes ≡ false)
  pub ahead : (rest : List ℕ) → MayFollow is_last rest → (left old (block ++ rest)).items ≡ seen ++ (left new (block ++ rest)).items
  pub before : bytes_before new ≡ bytes_before old
  pub mode_is : to.mode ≡ mode
  pub version_is : to.version.now ≡ version

-- ---- an item that is given

first_item : (old new : Left) (item : Item) → Gives old item new → (rest : List Item) × (old.items ≡ item ∷ rest) × (is_end item ≡ true → rest ≡ []) × (is_end item ≡ false → rest ≡ new.items)
first_item old new (rec payload place) gives = (new.items, gives.0, λ ended. absurd (false≢true ended), λ more. refl)
first_item old new (gap why place) gives = (new.items, gives.0, λ ended. absurd (false≢true ended), λ more. refl)
first_item old new (end kind place) gives = ([], gives.0, λ ended. refl, λ more. absurd (true≢false more))

-- an item behind which others may stand is no end
behind_from : (item : Item) → goes_behind (finding item) ≡ true → is_end item ≡ false
behind_from (rec payload place) more = refl
behind_from (gap why place) more = refl
behind_from (end Clean place) more = absurd (false≢true more)
behind_from (end Torn place) more = absurd (false≢true more)
behind_from (end Stale place) more = absurd (false≢true more)
behind_from (end (Unsupported kind) place) more = absurd (false≢true more)

no_record_ends : (place : ℕ) (read : Result Batch BatchFault) → ends_log (finding_of_record place read) ≡ false
no_record_ends place (Ok read) = refl
no_record_ends place (Err TooSmall) = refl
no_record_ends place (Err (BadRecord at)) = refl
no_record_ends place (Err (UnsupportedTag tag)) = refl
no_record_ends place (Err (WrongCount stated found)) = refl
no_record_ends place (Err SequenceTop) = refl

-- what ends a log is an end
ends_from : (item : Item) → ends_log (finding item) ≡ true → is_end item ≡ true
ends_from (rec payload place) ended = absurd (false≢true (sym (no_record_ends place (batch_of payload)) ∙ ended))
ends_from (gap why place) ended = absurd (false≢true ended)
ends_from (end kind place) ended = refl

-- one item more is known
known_more : (is_last : Bool) (seen : List Item) (item : Item) → (is_last ≡ false → filter (λ item. not (is_file_end item)) seen ≡ seen) → (is_last ≡ false → is_file_end item ≡ false) → is_last ≡ false
    → filter (λ item. not (is_file_end item)) (seen ++ item ∷ []) ≡ seen ++ item ∷ []
known_more is_last seen item known one more =
    filter-append (λ item. not (is_file_end item)) seen (item ∷ []) ∙ (λ i. known more i ++ kept i)
  where
    kept : filter (λ item. not (is_file_end item)) (item ∷ []) ≡ item ∷ []
    kept = ap (λ (b : Bool). cond (not b) (item ∷ []) []) (one more)

-- ---- within a block

-- an item is taken from the walk over those before it
takes_in : (mode : Mode) (version : Version) (old mid : LogFeed) (from between to : Progress) (log : ℕ) (block : List ℕ) (is_last : Bool) (item : Item) (result : Result Reading WalErr)
    → (h : InBlock mode version old from log block is_last mid between) → Takes between.mode between.version.now between log (finding item) result to → (walk : Walk) → IsAt from walk → walk.passes ≡ false
    → Comes to (finding item) result (walked mode version log walk (h.seen ++ item ∷ []))
takes_in mode version old mid from between to log block is_last item result h takes walk at goes =
    let before = h.come walk at goes in
    let one : Takes mode version between log (finding item) result to =
    subst (λ (mode : Mode). Takes mode version between log (finding item) result to) h.mode_is (subst (λ (version : Version). Takes between.mode version between log (finding item) result to) h.version_is takes) in
    subst (Comes to (finding item) result) (sym (walked-append mode version log walk h.seen (item ∷ []))) (one (walked mode version log walk h.seen) before.0 before.1)

-- the item ends no log
pub more_from : (mode : Mode) (version : Version) (progress to : Progress) (log : ℕ) (item : Item) → Takes mode version progress log (finding item) (Ok GoesOn) to → is_end item ≡ false
more_from mode version progress to log item takes =
    let walk : Walk = record { records = progress.records; expected = progress.expected; stopped = progress.stopped; refused = None; passes = false } in
    let comes = takes walk (record { records = refl; expected = refl; stopped = refl; refused = refl }) refl in
    behind_from item comes.2

pub InBlock-more : (mode : Mode) (version : Version) (old mid new : LogFeed) (from between to : Progress) (log : ℕ) (block : List ℕ) (is_last : Bool) (item : Item) → InBlock mode version old from log block is_last mid between
    → GivesItem mid block is_last item new → (is_last ≡ false → is_file_end item ≡ false) → Takes between.mode between.version.now between log (finding item) (Ok GoesOn) to → to.mode ≡ between.mode → to.version.now ≡ between.version.now
    → InBlock mode version old from log block is_last new to
InBlock-more mode version old mid new from between to log block is_last item h gives one takes same_mode same_version =
    let more = more_from between.mode between.version.now between to log item takes in
    let later : (rest : List ℕ) → MayFollow is_last rest → (left mid (block ++ rest)).items ≡ item ∷ (left new (block ++ rest)).items = λ rest follows.
    let given = first_item (left mid (block ++ rest)) (left new (block ++ rest)) item (gives.gives rest follows) in given.1 ∙ ap (λ (items : List Item). item ∷ items) (given.3 more) in
    record {
      seen = h.seen ++ item ∷ [];
      known = known_more is_last h.seen item h.known one;
      come = λ walk at goes. let comes = takes_in mode version old mid from between to log block is_last item (Ok GoesOn) h takes walk at goes in (comes.0, comes.1);
      ahead = λ rest follows. h.ahead rest follows ∙ ap (λ (items : List Item). h.seen ++ items) (later rest follows) ∙ sym (append_assoc h.seen (item ∷ []) (left new (block ++ rest)).items);
      before = gives.before ∙ h.before;
      mode_is = same_mode ∙ h.mode_is;
      version_is = same_version ∙ h.version_is;
    }

pub fewer_left : (old new : LogFeed) (block : List ℕ) (is_last : Bool) (item : Item) → GivesItem old block is_last item new → is_end item ≡ false → length (left new block).items < length (left old block).items
fewer_left old new block is_last item gives more =
    let given = first_item (left old (block ++ [])) (left new (block ++ [])) item (gives.gives [] (λ last. refl)) in
    subst (λ bytes. length (left new bytes).items < length (left old bytes).items) (append-nil block) (omega (arith, ap length given.1, ap length (given.3 more)))

-- ---- where a block ends

-- reading goes on
abbrev goes : Result Reading WalErr → Bool
goes (Ok GoesOn) = true
goes (Ok Ended) = false
goes (Err why) = false

come_ended : (to : Progress) (one : Finding) (result : Result Reading WalErr) (walk : Walk) → goes result ≡ false → Comes to one result walk → HasComeBy to result walk
come_ended to one (Ok GoesOn) walk ended comes = comes.0
come_ended to one (Ok Ended) walk ended comes = comes.0
come_ended to one (Err (Corrupt log place why)) walk ended comes = comes
come_ended to one (Err (FamilyAhead family log)) walk ended comes = comes
come_ended to one (Err (UnsupportedLog log what)) walk ended comes = comes
come_ended to one (Err Memory) walk ended comes = tt

follow_ended : (to : Progress) (item : Item) (result : Result Reading WalErr) (feed : LogFeed) (walk : Walk) (rest : List ℕ) (items : List Item) → goes result ≡ false → Comes to (finding item) result walk → (is_end item ≡ true → items ≡ [])
    → FollowsBy result feed walk rest items
follow_ended to item (Ok GoesOn) feed walk rest items ended comes none = absurd (true≢false ended)
follow_ended to item (Ok Ended) feed walk rest items ended (at, inl over) none = inl over
follow_ended to item (Ok Ended) feed walk rest items ended (at, inr is) none = inr (none (ends_from item is))
follow_ended to item (Err (Corrupt log place why)) feed walk rest items ended comes none = inl comes.1
follow_ended to item (Err (FamilyAhead family log)) feed walk rest items ended comes none = inl comes.1
follow_ended to item (Err (UnsupportedLog log what)) feed walk rest items ended comes none = inl comes.1
follow_ended to item (Err Memory) feed walk rest items ended comes none = tt

quiet_ended : (is_last : Bool) (result : Result Reading WalErr) (feed : LogFeed) → goes result ≡ false → IsQuietBy is_last result feed
quiet_ended is_last (Ok GoesOn) feed ended = absurd (true≢false ended)
quiet_ended is_last (Ok Ended) feed ended = tt
quiet_ended is_last (Err why) feed ended = tt

-- with an item behind which nothing counts, or that is refused
block_ended : (mode : Mode) (version : Version) (old mid new : LogFeed) (from between to : Progress) (log : ℕ) (block : List ℕ) (is_last : Bool) (item : Item) (result : Result Reading WalErr) → goes result ≡ false
    → InBlock mode version old from log block is_last mid between → GivesItem mid block is_last item new → (is_last ≡ false → is_file_end item ≡ false) → Takes between.mode between.version.now between log (finding item) result to
    → TakesBlock mode version old from log block is_last result new to
block_ended mode version old mid new from between to log block is_last item result ended h gives one takes = record {
  seen = h.seen ++ item ∷ [];
  known = known_more is_last h.seen item h.known one;
  quiet = quiet_ended is_last result new ended;
  come = λ walk at goes. come_ended to (finding item) result (walked mode version log walk (h.seen ++ item ∷ [])) ended (takes_in mode version old mid from between to log block is_last item result h takes walk at goes);
  ahead = λ rest follows.
      let given = first_item (left mid (block ++ rest)) (left new (block ++ rest)) item (gives.gives rest follows) in (
        given.0,
        h.ahead rest follows ∙ ap (λ (items : List Item). h.seen ++ items) given.1 ∙ sym (append_assoc h.seen (item ∷ []) given.0),
        λ walk at goes. follow_ended to item result new (walked mode version log walk (h.seen ++ item ∷ [])) rest given.0 ended (takes_in mode version old mid from between to log block is_last item result h takes walk at goes) given.2,
      );
}

pub block_over : (mode : Mode) (version : Version) (old mid new : LogFeed) (from between to : Progress) (log : ℕ) (block : List ℕ) (is_last : Bool) (item : Item) → InBlock mode version old from log block is_last mid between
    → GivesItem mid block is_last item new → (is_last ≡ false → is_file_end item ≡ false) → Takes between.mode between.version.now between log (finding item) (Ok Ended) to → TakesBlock mode version old from log block is_last (Ok Ended) new to
block_over mode version old mid new from between to log block is_last item h gives one takes = block_ended mode version old mid new from between to log block is_last item (Ok Ended) refl h gives one takes

pub block_refused : (mode : Mode) (version : Version) (old mid new : LogFeed) (from between to : Progress) (log : ℕ) (block : List ℕ) (is_last : Bool) (item : Item) (why : WalErr) → InBlock mode version old from log block is_last mid between
    → GivesItem mid block is_last item new → (is_last ≡ false → is_file_end item ≡ false) → Takes between.mode between.version.now between log (finding item) (Err why) to → TakesBlock mode version old from log block is_last (Err why) new to
block_refused mode version old mid new from between to log block is_last item why h gives one takes = block_ended mode version old mid new from between to log block is_last item (Err why) refl h gives one takes

-- where the block ends no further item
pub block_passed : (mode : Mode) (version : Version) (old mid new : LogFeed) (from to : Progress) (log : ℕ) (block : List ℕ) (is_last : Bool) → InBlock mode version old from log block is_last mid to → PassesOn mid block is_last new
    → TakesBlock mode version old from log block is_last (Ok GoesOn) new to
block_passed mode version old mid new from to log block is_last h passes = record {
  seen = h.seen;
  known = h.known;
  quiet = (passes.not_last, passes.quiet);
  come = λ walk at goes. (h.come walk at goes).0;
  ahead = λ rest follows. ((left new rest).items, h.ahead rest follows ∙ ap (λ (items : List Item). h.seen ++ items) (sym (passes.same rest)), λ walk at goes. (refl, (h.come walk at goes).1));
}
