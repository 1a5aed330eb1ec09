-- What the blocks that a fold was fed with come to.
use Rattle.std.proofs.Common.{◌≡◌, ℕ, suc, ◌+◌, Bool, true, false, List, [], ◌++◌, length, take, Option, Some, None, Result, Ok, Err, refl, sym, ◌∙◌, ap, subst, arith, append_assoc}
use Rattle.std.proofs.lemmas.Bool.{false≢true}
use Rattle.std.proofs.lemmas.List.{append-nil, take_all}
use Rattle.rk_bytes.specs.declared.memory.Memory.{Memory}
use Rattle.rk_bytes.specs.declared.model.manifest.ManifestFault.{ManifestFault}
use Rattle.rk_bytes.specs.declared.model.manifest.Version.{Version}
use Rattle.rk_bytes.specs.Model.Numbers.{◌>>=◌}
use Rattle.rk_bytes.specs.Model.LogItems.{log_items}
use Rattle.rk_bytes.specs.Model.Manifest.{ManifestUnit, UnitsEnd, fault_in, units_with, manifest_units, first_version, version_after, complete, last_version}
use Rattle.rk_log.specs.declared.item.Piece.{Piece}
use Rattle.rk_log.specs.declared.feed.LogFeed.{LogFeed}
use Rattle.rk_log.specs.Left.{Left, log_left, left, bytes_before}
use Rattle.rk_manifest.specs.declared.last.Applied.{Applied}
use Rattle.rk_manifest.specs.declared.reading.Reading.{Reading}
use Rattle.rk_manifest.specs.declared.reading.Reading.TheVariants.{GoesOn, Ended}
use Rattle.rk_manifest.specs.declared.fold.ManifestFold.{ManifestFold}
use Rattle.rk_manifest.specs.Records.{records}
use Rattle.rk_manifest.specs.Room.{HasRoom}
use Rattle.rk_manifest.specs.Fronts.{edits_in}
use Rattle.rk_manifest.specs.Groups.{units_ahead}
use Rattle.rk_manifest.specs.Last.{ended_with, last_of}
use Rattle.rk_manifest.specs.Outcomes.{last_with, outcome}
use Rattle.rk_manifest.specs.Blocks.{goes_on, TakesBlock}
use Rattle.rk_manifest.specs.Folds.{HasFed}
use Rattle.rk_manifest.proofs.RoomLemmas.{records-log_items}
use Rattle.rk_manifest.proofs.UnitLemmas.{ahead-all}

-- ---- before the first block

pub room_at_start : (feed : LogFeed) (applied : Applied) → ((bytes : List ℕ) → left feed bytes ≡ log_left 0 bytes) → bytes_before feed ≡ 0 → applied ≡ record { count = 0; builder = first_version } → HasRoom feed applied.count
room_at_start feed applied all before none = λ rest.
    omega (arith, ap (λ (left : Left). records left.items) (all rest), records-log_items 0 rest, before, ap (λ (applied : Applied). applied.count) none)

ended_by : (fault : Option ManifestFault) (version : Version) → elim fault as (λ _. Result Version ManifestFault) [ Some fault ↦ Err fault | None ↦ complete version ] ≡ ended_with fault version
ended_by (Some fault) version = refl
ended_by None version = refl

last_of_all : (ahead : List ManifestUnit × UnitsEnd) (applied : Applied) → applied ≡ record { count = 0; builder = first_version } → last_version (units_with ahead) ≡ last_of applied ahead
last_of_all ahead applied none =
    let whole : take (length ahead.0) ahead.0 ≡ ahead.0 = take_all (length ahead.0) ahead.0 (omega arith) in
    let number : length ahead.0 ≡ 0 + length ahead.0 = omega arith in
    ap (λ units. version_after 1 units first_version >>= (λ version. elim (fault_in (suc (length ahead.0)) ahead.1) as (λ _. Result Version ManifestFault) [ Some fault ↦ Err fault | None ↦ complete version ])) whole
    ∙ ap (λ (end : Version → Result Version ManifestFault). version_after 1 ahead.0 first_version >>= end) (λ i version. ended_by (fault_in (suc (length ahead.0)) ahead.1) version i)
    ∙ ap (λ n. version_after 1 ahead.0 first_version >>= (λ version. ended_with (fault_in (suc n) ahead.1) version)) number
    ∙ ap (λ (applied : Applied). last_of applied ahead) (sym none)

pub fed_none : (fold : ManifestFold) → fold.reading ≡ Ok GoesOn → ((bytes : List ℕ) → left fold.feed bytes ≡ log_left 0 bytes) → fold.progress.applied ≡ record { count = 0; builder = first_version } → fold.progress.begun.edits ≡ [] → HasFed fold false []
fed_none fold goes all none empty = record {
  comes_to = λ reading is rest follows.
      let same : GoesOn ≡ reading = cc in
      sym (ap last_version (ahead-all (log_items 0 rest)))
      ∙ last_of_all (units_ahead [] (log_items 0 rest)) fold.progress.applied none
      ∙ ap (λ (edits : List Piece). last_of fold.progress.applied (units_ahead (edits_in edits) (log_items 0 rest))) (sym empty)
      ∙ ap (λ (left : Left). last_with fold.progress left.items) (sym (all rest))
      ∙ ap (λ reading. outcome reading fold.progress (left fold.feed rest).items) same;
}

-- ---- a block more

joined_bytes : (bytes block rest : List ℕ) → last_version (manifest_units (bytes ++ block ++ rest)) ≡ last_version (manifest_units (bytes ++ (block ++ rest)))
joined_bytes bytes block rest = ap (λ bytes. last_version (manifest_units bytes)) (append_assoc bytes block rest)

-- a block that is read
pub fed_block : (old new : ManifestFold) (bytes block : List ℕ) (is_last : Bool) → old.reading ≡ Ok GoesOn → TakesBlock old.feed old.progress block is_last new.reading new.feed new.progress → HasFed old false bytes → HasFed new is_last (bytes ++ block)
fed_block old new bytes block is_last goes takes fed = record {
  comes_to = λ reading is rest follows.
      let taken = subst (λ (reading : Result Reading Memory). TakesBlock old.feed old.progress block is_last reading new.feed new.progress) is takes in
      joined_bytes bytes block rest ∙ fed.comes_to GoesOn goes (block ++ rest) (λ last. absurd (false≢true last)) ∙ taken rest follows;
}

-- a block that is passed over
pub fed_over : (fold : ManifestFold) (bytes block : List ℕ) (is_last : Bool) (fault : Option ManifestFault) → fold.reading ≡ Ok (Ended fault) → HasFed fold false bytes → HasFed fold is_last (bytes ++ block)
fed_over fold bytes block is_last fault ended fed = record {
  comes_to = λ reading is rest follows.
      let same : Ended fault ≡ reading = cc in
      joined_bytes bytes block rest ∙ fed.comes_to (Ended fault) ended (block ++ rest) (λ last. absurd (false≢true last)) ∙ ap (λ reading. outcome reading fold.progress (left fold.feed rest).items) same;
}

-- more blocks are wanted
pub reads_on : (reading : Result Reading Memory) → goes_on reading ≡ true → reading ≡ Ok GoesOn
reads_on (Ok GoesOn) goes = refl
reads_on (Ok (Ended fault)) goes = absurd (false≢true goes)
reads_on (Err memory) goes = absurd (false≢true goes)

-- ---- behind the last block

pub fed_all : (fold : ManifestFold) (bytes : List ℕ) (fault : Option ManifestFault) → fold.reading ≡ Ok (Ended fault) → HasFed fold true bytes → last_version (manifest_units bytes) ≡ ended_with fault fold.progress.applied.builder
fed_all fold bytes fault ended fed = ap (λ bytes. last_version (manifest_units bytes)) (sym (append-nil bytes)) ∙ fed.comes_to (Ended fault) ended [] (λ last. refl)
