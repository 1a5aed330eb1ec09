-- How far the items of a block are taken.
use Rattle.std.proofs.Common.{◌≡◌, ℕ, ◌+◌, ◌<◌, ◌≤◌, Bool, false, List, [], ◌∷◌, ◌++◌, length, Option, Ok, refl, sym, ◌∙◌, ap, subst, arith}
use Rattle.std.proofs.lemmas.Bool.{true≢false}
use Rattle.std.proofs.lemmas.List.{append-nil, length-append}
use Rattle.rk_bytes.specs.declared.model.manifest.ManifestFault.{ManifestFault}
use Rattle.rk_bytes.specs.Model.LogItems.{Item, rec, gap, end}
use Rattle.rk_log.specs.declared.feed.LogFeed.{LogFeed}
use Rattle.rk_log.specs.Items.{is_end}
use Rattle.rk_log.specs.Left.{Left, Gives, left, bytes_before}
use Rattle.rk_log.specs.Steps.{MayFollow, GivesItem, GoesOn as PassesOver}
use Rattle.rk_manifest.specs.declared.reading.Reading.TheVariants.{GoesOn, Ended}
use Rattle.rk_manifest.specs.declared.progress.Progress.{Progress}
use Rattle.rk_manifest.specs.Records.{records}
use Rattle.rk_manifest.specs.Room.{HasRoom}
use Rattle.rk_manifest.specs.Outcomes.{last_with, TakesItem}
use Rattle.rk_manifest.specs.Blocks.{TakesBlock}

-- Of a block, the items that the feed gave so far are taken.
pub record InBlock (old : LogFeed) (from : Progress) (block : List ℕ) (is_last : Bool) (new : LogFeed) (to : Progress) : Type 0 where
  pub leads : (rest : List ℕ) → MayFollow is_last rest → last_with from (left old (block ++ rest)).items ≡ last_with to (left new (block ++ rest)).items
  pub before : bytes_before new ≡ bytes_before old
  pub room : (rest : List ℕ) → MayFollow is_last rest → to.applied.count + records (left new (block ++ rest)).items ≤ bytes_before new + length (block ++ rest)

-- ---- an item that is given

pub first_item : (old new : Left) (item : Item) → Gives old item new → (rest : List Item) × (old.items ≡ item ∷ rest)
first_item old new (rec payload place) gives = (new.items, gives.0)
first_item old new (gap why place) gives = (new.items, gives.0)
first_item old new (end kind place) gives = ([], gives.0)

later_items : (old new : Left) (item : Item) → Gives old item new → is_end item ≡ false → old.items ≡ item ∷ new.items
later_items old new (rec payload place) gives more = gives.0
later_items old new (gap why place) gives more = gives.0
later_items old new (end kind place) gives more = absurd (true≢false more)

records-cons : (item : Item) (items : List Item) → records (item ∷ items) ≡ records (item ∷ []) + records items
records-cons (rec payload place) items = omega arith
records-cons (gap why place) items = omega arith
records-cons (end kind place) items = omega arith

-- ---- within a block

pub InBlock-start : (feed : LogFeed) (progress : Progress) (block : List ℕ) (is_last : Bool) → HasRoom feed progress.applied.count → InBlock feed progress block is_last feed progress
InBlock-start feed progress block is_last room = record { leads = λ rest follows. refl; before = refl; room = λ rest follows. room (block ++ rest) }

-- the next record can be counted
pub counts_one : (old mid new : LogFeed) (from to : Progress) (block : List ℕ) (is_last : Bool) (item : Item) (most : ℕ) → InBlock old from block is_last mid to → GivesItem mid block is_last item new
    → bytes_before old + length block < most → to.applied.count + records (item ∷ []) < most
counts_one old mid new from to block is_last item most h gives fits =
    let given = first_item (left mid (block ++ [])) (left new (block ++ [])) item (gives.gives [] (λ last. refl)) in
    let room = h.room [] (λ last. refl) in
    omega (arith, room, h.before, fits, ap records given.1, records-cons item given.0, length-append block [])

pub InBlock-more : (old mid new : LogFeed) (from between to : Progress) (block : List ℕ) (is_last : Bool) (item : Item) → InBlock old from block is_last mid between → GivesItem mid block is_last item new → is_end item ≡ false
    → TakesItem between item (Ok GoesOn) to → to.applied.count ≤ between.applied.count + records (item ∷ []) → InBlock old from block is_last new to
InBlock-more old mid new from between to block is_last item h gives more takes counts =
    let later : (rest : List ℕ) → MayFollow is_last rest → (left mid (block ++ rest)).items ≡ item ∷ (left new (block ++ rest)).items =
    λ rest follows. later_items (left mid (block ++ rest)) (left new (block ++ rest)) item (gives.gives rest follows) more in
    record {
      leads = λ rest follows. h.leads rest follows ∙ ap (last_with between) (later rest follows) ∙ takes (left new (block ++ rest)).items;
      before = gives.before ∙ h.before;
      room = λ rest follows.
          omega (arith, h.room rest follows, gives.before, counts, ap records (later rest follows), records-cons item (left new (block ++ rest)).items);
    }

pub InBlock-ended : (old mid new : LogFeed) (from between to : Progress) (block : List ℕ) (is_last : Bool) (item : Item) (fault : Option ManifestFault) → InBlock old from block is_last mid between → GivesItem mid block is_last item new
    → TakesItem between item (Ok (Ended fault)) to → TakesBlock old from block is_last (Ok (Ended fault)) new to
InBlock-ended old mid new from between to block is_last item fault h gives takes = λ rest follows.
    let given = first_item (left mid (block ++ rest)) (left new (block ++ rest)) item (gives.gives rest follows) in
    h.leads rest follows ∙ ap (last_with between) given.1 ∙ takes given.0

pub InBlock-all : (old mid new : LogFeed) (from to : Progress) (block : List ℕ) (is_last : Bool) → InBlock old from block is_last mid to → PassesOver mid block is_last new → TakesBlock old from block is_last (Ok GoesOn) new to
InBlock-all old mid new from to block is_last h goes = λ rest follows. h.leads rest follows ∙ ap (λ (left : Left). last_with to left.items) (sym (goes.same rest))

pub room_behind : (old mid new : LogFeed) (from to : Progress) (block : List ℕ) (is_last : Bool) → InBlock old from block is_last mid to → PassesOver mid block is_last new → HasRoom new to.applied.count
room_behind old mid new from to block is_last h goes = λ rest.
    omega (arith, h.room rest (λ last. absurd (true≢false (sym last ∙ goes.not_last))), goes.before, ap (λ (left : Left). records left.items) (goes.same rest), length-append block rest)

pub fewer_left : (old new : LogFeed) (block : List ℕ) (is_last : Bool) (item : Item) → GivesItem old block is_last item new → is_end item ≡ false → length (left new block).items < length (left old block).items
fewer_left old new block is_last item gives more =
    subst (λ bytes. length (left new bytes).items < length (left old bytes).items) (append-nil block)
    (omega (arith, ap length (later_items (left old (block ++ [])) (left new (block ++ [])) item (gives.gives [] (λ last. refl)) more)))
