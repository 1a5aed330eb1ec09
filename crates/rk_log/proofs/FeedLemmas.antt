-- What a feed answers, by the mark that it finds in a block.
use Rattle.std.proofs.Common.{◌≡◌, ℕ, ◌+◌, ◌≤◌, Bool, true, false, List, [], ◌∷◌, ◌++◌, length, Option, Some, None, Result, Ok, Err, refl, sym, ap, subst, ◌∙◌, arith, length-append}
use Rattle.std.specs.Prelude.{is_some}
use Rattle.std.proofs.lemmas.List.{append-nil}
use Rattle.std.proofs.lemmas.Bool.{false≢true}
use Rattle.rk_bytes.specs.declared.memory.Memory.{Memory}
use Rattle.rk_bytes.specs.Model.LogMarks.{Mark, LogFile, block_len, blocks_marks, file_blocks, block_type}
use Rattle.rk_bytes.specs.Model.LogItems.{Item}
use Rattle.rk_log.specs.declared.item.Item as Seen
use Rattle.rk_log.specs.declared.item.FeedItem.{FeedItem}
use Rattle.rk_log.specs.declared.item.FeedItem.TheVariants.{More}
use Rattle.rk_log.specs.declared.item.FeedItem.TheVariants as feed_item
use Rattle.rk_log.specs.declared.joining.Joining.{Joining}
use Rattle.rk_log.specs.declared.feed.LogFeed.{LogFeed}
use Rattle.rk_log.specs.Items.{item_of, is_end}
use Rattle.rk_log.specs.Blocks.{or_says}
use Rattle.rk_log.specs.Left.{Left, Gives, splits_next, left_behind, recycled_in, rest_marks, left_in, left}
use Rattle.rk_log.specs.Steps.{IsFileEnd, MayFollow, StaysIn, Advances, GivesItem, GoesOn, Waits, Feeds}
use Rattle.rk_log.proofs.BlockLemmas.{file_blocks-none}
use Rattle.rk_log.proofs.JoinLemmas.{Gives-at}
use Rattle.rk_log.proofs.LeftLemmas.{recycled-looked, recycled-blank, left-looked, says-none, rest_marks-blank, IsFileEnd-left, IsHanded, handed, left-known, left_in-before, advance-gives, advance-passes, IsFileEnd-none, goes_on-left}

abbrev file : ℕ → Bool → LogFile
file number recycled = record { number = number; recycled = recycled }

-- what is behind a block of a feed's file
behind : LogFeed → Bool → List ℕ → List Mark
behind feed recycled rest = blocks_marks (file feed.number recycled) (feed.before + block_len) (file_blocks rest)

-- within a block what is left stays the same, until an item is given
pub record InBlock (old new : LogFeed) (recycled : Bool) (block : List ℕ) : Type 0 where
  pub stays : StaysIn old new
  pub goes_on : new.joining.given ≡ None
  pub same : (file_len : ℕ) (later : List Mark) → left_in (file old.number recycled) new file_len block later ≡ left_in (file old.number recycled) old file_len block later

stays_on : (a b c : LogFeed) → StaysIn a b → StaysIn b c → StaysIn a c
stays_on a b c first second = record { number = second.number ∙ first.number; recycled = second.recycled ∙ first.recycled; before = second.before ∙ first.before }

left-stays : (old new : LogFeed) (recycled : Bool) (block rest : List ℕ) → StaysIn old new → old.recycled ≡ Some recycled → IsHanded block rest
    → left new (block ++ rest) ≡ left_in (file old.number recycled) new (old.before + length (block ++ rest)) block (behind old recycled rest)
unfolding behind
left-stays old new recycled block rest stays known h =
    left-known new recycled block rest (stays.recycled ∙ known) h
    ∙ (λ i. left_in (file (stays.number i) recycled) new (stays.before i + length (block ++ rest)) block (blocks_marks (file (stays.number i) recycled) (stays.before i + block_len) (file_blocks rest)))

itself : (feed : LogFeed) → StaysIn feed feed
itself feed = record { number = refl; recycled = refl; before = refl }

-- the mark that is found, where the file's number is that of the feed before
found_in : (old now : LogFeed) (recycled : Bool) (block : List ℕ) (mark : Mark) (len : ℕ) → StaysIn old now
    → rest_marks (file now.number recycled) now.before now.at block ≡ mark ∷ rest_marks (file now.number recycled) now.before (now.at + len) block
    → rest_marks (file old.number recycled) now.before now.at block ≡ mark ∷ rest_marks (file old.number recycled) now.before (now.at + len) block
found_in old now recycled block mark len stays is =
    subst (λ n. rest_marks (file n recycled) now.before now.at block ≡ mark ∷ rest_marks (file n recycled) now.before (now.at + len) block) stays.number is

pub InBlock-passes : (old now new : LogFeed) (recycled : Bool) (block : List ℕ) (mark : Mark) (len : ℕ) → InBlock old now recycled block
    → rest_marks (file now.number recycled) now.before now.at block ≡ mark ∷ rest_marks (file now.number recycled) now.before (now.at + len) block
    → Advances now mark len (Ok None) new → InBlock old new recycled block
InBlock-passes old now new recycled block mark len inside is advances = record {
  stays = stays_on old now new inside.stays advances.0;
  goes_on = advances.2;
  same = λ file_len later.
      advance-passes (file old.number recycled) now new block mark len (found_in old now recycled block mark len inside.stays is) advances file_len later
      ∙ inside.same file_len later;
}

pub GivesItem-found : (old now new : LogFeed) (recycled is_last : Bool) (block : List ℕ) (mark : Mark) (len : ℕ) (item : Seen.Item)
    → old.recycled ≡ Some recycled → length block ≤ 32768 → (is_last ≡ false → length block ≡ 32768) → InBlock old now recycled block
    → rest_marks (file now.number recycled) now.before now.at block ≡ mark ∷ rest_marks (file now.number recycled) now.before (now.at + len) block
    → Advances now mark len (Ok (Some item)) new → GivesItem old block is_last (item_of item) new
GivesItem-found old now new recycled is_last block mark len item known within full inside is advances = record {
  gives = λ rest may.
      let h = handed block rest is_last within full may in
      let file_len = old.before + length (block ++ rest) in
      let later = behind old recycled rest in
      Gives-at (item_of item) (left-stays old old recycled block rest (itself old) known h) refl
      (left-stays old new recycled block rest (stays_on old now new inside.stays advances.0) known h)
      (subst (λ before. Gives before (item_of item) (left_in (file old.number recycled) new file_len block later)) (inside.same file_len later)
      (advance-gives (file old.number recycled) now new block mark len item (found_in old now recycled block mark len inside.stays is) advances file_len later));
  before = advances.0.before ∙ inside.stays.before;
  ended = advances.1;
}

pub Waits-found : (old now new : LogFeed) (recycled is_last : Bool) (block : List ℕ) (mark : Mark) (len : ℕ) (memory : Memory)
    → old.recycled ≡ Some recycled → length block ≤ 32768 → (is_last ≡ false → length block ≡ 32768) → InBlock old now recycled block
    → rest_marks (file now.number recycled) now.before now.at block ≡ mark ∷ rest_marks (file now.number recycled) now.before (now.at + len) block
    → Advances now mark len (Err memory) new → Waits old block is_last new
Waits-found old now new recycled is_last block mark len memory known within full inside is advances =
    let there = found_in old now recycled block mark len inside.stays is in record {
      splits = λ rest may.
          let h = handed block rest is_last within full may in
          let file_len = old.before + length (block ++ rest) in
          let later = behind old recycled rest in
          ap splits_next (left-stays old old recycled block rest (itself old) known h
          ∙ (sym (inside.same file_len later)
          ∙ (left_in-before (file old.number recycled) now now.before file_len block later refl
          ∙ ap (λ marks. left_behind now.joining file_len (marks ++ later)) there)))
          ∙ advances.1 file_len (rest_marks (file old.number recycled) now.before (now.at + len) block ++ later);
      same = λ rest may.
          let h = handed block rest is_last within full may in
          ap (λ feed. left feed (block ++ rest)) advances.0
          ∙ (left-stays old now recycled block rest inside.stays known h
          ∙ (inside.same _ _ ∙ sym (left-stays old old recycled block rest (itself old) known h)));
      before = ap (λ (feed : LogFeed). feed.before) advances.0 ∙ inside.stays.before;
      ended = ap (λ (feed : LogFeed). is_some feed.joining.given) advances.0 ∙ ap is_some inside.goes_on;
    }

-- where no mark is left in the block
left-none : (old now : LogFeed) (recycled : Bool) (block : List ℕ) → StaysIn old now → old.recycled ≡ Some recycled → length block ≤ 32768
    → rest_marks (file now.number recycled) now.before now.at block ≡ [] → left now (block ++ []) ≡ left_behind now.joining (now.before + length block) []
unfolding behind
left-none old now recycled block stays known within none =
    let h : IsHanded block [] = handed block [] true within (λ yes. absurd (false≢true (sym yes))) (λ _. refl) in
    let whole : now.before + length (block ++ []) ≡ now.before + length block = omega (arith, length-append block []) in
    let later : blocks_marks (file now.number recycled) (now.before + block_len) (file_blocks []) ≡ [] =
    ap (blocks_marks (file now.number recycled) (now.before + block_len)) (file_blocks-none [] refl) ∙ (unfold blocks_marks in refl) in
    left-known now recycled block [] (stays.recycled ∙ known) h
    ∙ (left_in-before (file now.number recycled) now now.before _ block _ refl
    ∙ (λ i. left_behind now.joining (whole i) (none i ++ later i)))

pub GivesItem-end : (old now new : LogFeed) (recycled is_last : Bool) (block : List ℕ) (item : Item)
    → old.recycled ≡ Some recycled → length block ≤ 32768 → is_last ≡ true → InBlock old now recycled block
    → rest_marks (file now.number recycled) now.before now.at block ≡ [] → StaysIn now new → new.at ≡ now.at
    → Gives (left_behind now.joining (now.before + length block) []) item (left_behind new.joining (now.before + length block) [])
    → is_some new.joining.given ≡ true → is_end item ≡ true → GivesItem old block is_last item new
GivesItem-end old now new recycled is_last block item known within last inside none stays at gives ended ends = record {
  gives = λ rest may.
      let h : IsHanded block [] = handed block [] true within (λ yes. absurd (false≢true (sym yes))) (λ _. refl) in
      let none_later : rest_marks (file new.number recycled) new.before new.at block ≡ [] = (λ i. rest_marks (file (stays.number i) recycled) (stays.before i) (at i) block) ∙ none in
      let same_len : new.before + length block ≡ now.before + length block = ap (λ n. n + length block) stays.before in
      subst (λ r. Gives (left old (block ++ r)) item (left new (block ++ r))) (sym (may last))
      (Gives-at item
      (left-stays old old recycled block [] (itself old) known h ∙ (sym (inside.same _ _) ∙ (sym (left-stays old now recycled block [] inside.stays known h) ∙ left-none old now recycled block inside.stays known within none)))
      refl
      (left-none old new recycled block (stays_on old now new inside.stays stays) known within none_later ∙ ap (λ n. left_behind new.joining n []) same_len)
      gives);
  before = stays.before ∙ inside.stays.before;
  ended = ended ∙ sym ends;
}

pub GoesOn-none : (old now new : LogFeed) (recycled is_last : Bool) (block : List ℕ)
    → old.recycled ≡ Some recycled → old.joining.given ≡ None → length block ≡ 32768 → is_last ≡ false → InBlock old now recycled block
    → rest_marks (file now.number recycled) now.before now.at block ≡ []
    → new.number ≡ now.number → new.recycled ≡ now.recycled → new.before ≡ now.before + length block → new.at ≡ 0 → new.joining ≡ now.joining → GoesOn old block is_last new
GoesOn-none old now new recycled is_last block known goes_on full last inside none number same_recycled before at joining =
    let within : length block ≤ 32768 = omega arith in
    let known_now = inside.stays.recycled ∙ known in record {
      not_last = last;
      not_ended = ap is_some goes_on;
      ends_none =
          let h : IsHanded block [] = handed block [] true within (λ yes. absurd (false≢true (sym yes))) (λ _. refl) in
          let is = left-stays old old recycled block [] (itself old) known h ∙ (sym (inside.same _ _) ∙ (sym (left-stays old now recycled block [] inside.stays known h) ∙ left-none old now recycled block inside.stays known within none)) in
          let plain = ap (left old) (sym (append-nil block)) ∙ is in
          subst (λ (one : Left). IsFileEnd one.items) (sym plain) (IsFileEnd-none now.joining (now.before + length block) inside.goes_on);
      same = λ rest.
          let h : IsHanded block rest = handed block rest false within (λ _. full) (λ yes. absurd (false≢true yes)) in
          goes_on-left now new block rest at number same_recycled ((λ i. recycled_in (known_now i) (block ++ rest)) ∙ sym (λ i. recycled_in (known_now i) rest)) before joining full
          ((λ i. rest_marks (file now.number (recycled_in (known_now i) (block ++ rest))) now.before now.at block) ∙ none)
          ∙ (left-stays old now recycled block rest inside.stays known h ∙ (inside.same _ _ ∙ sym (left-stays old old recycled block rest (itself old) known h)));
      before = before ∙ ap (λ n. n + length block) inside.stays.before;
      ended = ap (λ joining. is_some joining.given) joining ∙ ap is_some inside.goes_on;
    }

-- ---- before a block is read

pub GivesItem-again : (feed : LogFeed) (block : List ℕ) (is_last : Bool) (item : Item)
    → ((file_len : ℕ) (marks : List Mark) → Gives (left_behind feed.joining file_len marks) item (left_behind feed.joining file_len marks))
    → is_some feed.joining.given ≡ is_end item → GivesItem feed block is_last item feed
unfolding left left_in
GivesItem-again feed block is_last item gives ended = record { gives = λ rest may. gives _ _; before = refl; ended = ended }

-- the header was looked at, and the same is left
pub record Looked (old new : LogFeed) (block : List ℕ) (is_last : Bool) : Type 0 where
  pub same : (rest : List ℕ) → MayFollow is_last rest → left new (block ++ rest) ≡ left old (block ++ rest)
  pub before : new.before ≡ old.before
  pub joining : new.joining ≡ old.joining

pub looked_at : (old new : LogFeed) (block : List ℕ) (is_last : Bool) → length block ≤ 32768 → (is_last ≡ false → length block ≡ 32768)
    → new.recycled ≡ or_says old.recycled block is_last → new.number ≡ old.number → new.before ≡ old.before → new.at ≡ old.at → new.joining ≡ old.joining → Looked old new block is_last
looked_at old new block is_last within full recycled number before at joining = record {
  same = λ rest may. left-looked old new (block ++ rest) number
      (ap (λ one. recycled_in one (block ++ rest)) recycled ∙ recycled-looked old.recycled block rest is_last (handed block rest is_last within full may) may) before at joining;
  before = before;
  joining = joining;
}

-- nothing follows, or anything
alone_last : (is_last : Bool) → MayFollow is_last []
alone_last is_last = λ _. refl

not_last : (is_last : Bool) (rest : List ℕ) → is_last ≡ false → MayFollow is_last rest
not_last is_last rest isnt = λ ends. absurd (false≢true (sym isnt ∙ ends))

left-whole : (old new : LogFeed) (block : List ℕ) (is_last : Bool) → Looked old new block is_last → left new block ≡ left old block
left-whole old new block is_last looked = subst (λ bytes. left new bytes ≡ left old bytes) (append-nil block) (looked.same [] (alone_last is_last))

pub Feeds-looked : (old mid new : LogFeed) (block : List ℕ) (is_last : Bool) (result : Result FeedItem Memory) → Looked old mid block is_last → Feeds mid block is_last result new → Feeds old block is_last result new
Feeds-looked old mid new block is_last (Ok (feed_item.Item item)) looked feeds = record {
  gives = λ rest may. subst (λ before. Gives before (item_of item) (left new (block ++ rest))) (looked.same rest may) (feeds.gives rest may);
  before = feeds.before ∙ looked.before;
  ended = feeds.ended;
}
Feeds-looked old mid new block is_last (Ok More) looked feeds = record {
  not_last = feeds.not_last;
  not_ended = ap (λ joining. is_some joining.given) (sym looked.joining) ∙ feeds.not_ended;
  ends_none = subst (λ (one : Left). IsFileEnd one.items) (left-whole old mid block is_last looked) feeds.ends_none;
  same = λ rest. feeds.same rest ∙ looked.same rest (not_last is_last rest feeds.not_last);
  before = feeds.before ∙ ap (λ n. n + length block) looked.before;
  ended = feeds.ended;
}
Feeds-looked old mid new block is_last (Err memory) looked feeds = record {
  splits = λ rest may. ap splits_next (sym (looked.same rest may)) ∙ feeds.splits rest may;
  same = λ rest may. feeds.same rest may ∙ looked.same rest may;
  before = feeds.before ∙ looked.before;
  ended = feeds.ended;
}

or_says-none : (known : Option Bool) (block : List ℕ) (is_last : Bool) → or_says known block is_last ≡ None → (known ≡ None) × (block_type block ≡ None) × (is_last ≡ false)
or_says-none (Some one) block is_last is = absurd (let bad : ⊥ = cc in bad)
or_says-none None block is_last is = let both = says-none (block_type block) is_last is in (refl, both.0, both.1)

pub GoesOn-blank : (old mid new : LogFeed) (block : List ℕ) (is_last : Bool) → (is_last ≡ false → length block ≡ 32768) → old.joining.given ≡ None → (old.recycled ≡ None → old.at ≡ 0)
    → or_says old.recycled block is_last ≡ None → mid.recycled ≡ None → mid.at ≡ old.at → Looked old mid block is_last
    → new.number ≡ mid.number → new.recycled ≡ mid.recycled → new.before ≡ mid.before + length block → new.at ≡ 0 → new.joining ≡ mid.joining → GoesOn old block is_last new
GoesOn-blank old mid new block is_last handed_full goes_on start says unknown at looked number recycled before at_start joining =
    let none = or_says-none old.recycled block is_last says in
    let full = handed_full none.2 in
    let mid_start : mid.at ≡ 0 = at ∙ start none.0 in
    let no_marks = λ (some : LogFile). ap (λ n. rest_marks some mid.before n block) mid_start ∙ rest_marks-blank some mid.before block full none.1 in
    let goes_on_mid : mid.joining.given ≡ None = ap (λ (one : Joining). one.given) looked.joining ∙ goes_on in record {
      not_last = none.2;
      not_ended = ap is_some goes_on;
      ends_none = subst (λ (one : Left). IsFileEnd one.items) (left-whole old mid block is_last looked)
          (IsFileEnd-left mid block goes_on_mid full (no_marks _));
      same = λ rest.
          let h : IsHanded block rest = handed block rest false (omega arith) (λ _. full) (λ yes. absurd (false≢true yes)) in
          goes_on-left mid new block rest at_start number recycled
          (ap (λ one. recycled_in one (block ++ rest)) unknown ∙ (recycled-blank block rest h none.1 ∙ sym (ap (λ one. recycled_in one rest) unknown)))
          before joining full (no_marks _)
          ∙ looked.same rest (not_last is_last rest none.2);
      before = before ∙ ap (λ n. n + length block) looked.before;
      ended = ap (λ one. is_some one.given) joining ∙ ap is_some goes_on_mid;
    }
