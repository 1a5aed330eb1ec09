-- What feeding logs to a replay comes to.
use Rattle.std.proofs.Common.{◌≡◌, ℕ, ◌+◌, ◌<◌, ◌≤◌, Bool, true, false, cond, List, [], ◌∷◌, ◌++◌, length, get_or, map, take, drop, Option, Some, None, Result, Ok, Err, refl, sym, ap, ◌∙◌, subst, append_assoc, arith}
use Rattle.std.proofs.lemmas.List.{append-nil, take_more, take-append-drop, map-append}
use Rattle.std.proofs.lemmas.List.Elements.{filter-append}
use Rattle.std.proofs.lemmas.Bool.Decides.{nat_tests}
use Rattle.std.specs.Prelude.{IfSome, option_map, unwrap_or, filter, nat_le}
use Rattle.std.specs.FinMap.{get}
use Rattle.rk_bytes.specs.declared.model.manifest.Version.{Version}
use Rattle.rk_bytes.specs.declared.model.open.OpenErr.{OpenErr}
use Rattle.rk_bytes.specs.declared.model.open.OpenErr.TheVariants.{Wal}
use Rattle.rk_bytes.specs.declared.model.wal.Mode.{Mode}
use Rattle.rk_bytes.specs.Model.BlockEntries.{with_fault}
use Rattle.rk_bytes.specs.Model.DiskImages.{Directory}
use Rattle.rk_bytes.specs.Model.FileNames.{log_name}
use Rattle.rk_bytes.specs.Model.Replay.{Log, replay}
use Rattle.rk_walmode.specs.declared.outcome.Replayed.{Replayed}
use Rattle.rk_walmode.specs.declared.run.ReplayRun.{ReplayRun}
use Rattle.rk_walmode.specs.Fed.{Fed, joined, replayed_of}
use Rattle.rk_walmode.specs.Runs.{version_of, mode_of, HasFed}
use Rattle.rk_open.specs.Answers.{AnswersBy, RefusesAs}
use Rattle.rk_open.specs.Logs.{log_in, fed_whole, FeedsBlock, FeedsLogs, HasFedFront}

-- a log with more bytes
abbrev with_bytes : Log → List ℕ → Log
with_bytes log more = record { number = log.number; bytes = log.bytes ++ more }

joined_more : (begun : Option Log) (number : ℕ) (block : List ℕ) → joined begun number block ≡ with_bytes (joined begun number []) block
joined_more None number block = refl
joined_more (Some log) number block = ap (λ bytes. record { number = log.number; bytes = bytes ++ block }) (sym (append-nil log.bytes))

joined_is : (begun : Option Log) (number : ℕ) (bytes block : List ℕ) → joined begun number [] ≡ record { number = number; bytes = bytes } → joined begun number block ≡ record { number = number; bytes = bytes ++ block }
joined_is begun number bytes block is = joined_more begun number block ∙ ap (λ log. with_bytes log block) is

-- before the first block
pub front_unfed : (run : ReplayRun) (before : List Log) (number : ℕ) → HasFed run (fed_whole before) → HasFedFront run before number []
front_unfed run before number fed = record { begun = None; fed = fed; is = refl }

module _ (old new : ReplayRun) (before : List Log) (number : ℕ) (bytes block : List ℕ) where
  -- after a block that isn't the last one
  pub front_more : HasFedFront old before number bytes → FeedsBlock old number block false (Ok tt) new → HasFedFront new before number (bytes ++ block)
  front_more front feeds = record {
    begun = Some (joined front.begun number block);
    fed = feeds (record { whole = before; begun = front.begun }) front.fed;
    is = joined_is (Some (joined front.begun number block)) number (bytes ++ block) [] (ap (λ log. with_bytes log []) (joined_is front.begun number bytes block front.is) ∙ ap (λ bytes. record { number = number; bytes = bytes }) (append-nil (bytes ++ block))) ∙ ap (λ bytes. record { number = number; bytes = bytes }) (append-nil (bytes ++ block));
  }

  -- after the last block
  pub front_whole : HasFedFront old before number bytes → FeedsBlock old number block true (Ok tt) new → HasFed new (fed_whole (before ++ record { number = number; bytes = bytes ++ block } ∷ []))
  front_whole front feeds = subst (λ log. HasFed new (fed_whole (before ++ log ∷ []))) (joined_is front.begun number bytes block front.is) (feeds (record { whole = before; begun = front.begun }) front.fed)

  -- a refusal at a block, whatever follows it
  pub front_refused : (is_last : Bool) (behind : List ℕ) (why : OpenErr) → (is_last ≡ true → behind ≡ []) → HasFedFront old before number bytes → FeedsBlock old number block is_last (Err why) new
      → (later : List Log) → RefusesAs (with_fault Wal (replay (mode_of old) (version_of old) (before ++ (record { number = number; bytes = (bytes ++ block) ++ behind } ∷ []) ++ later))) why
  front_refused true behind why ends front feeds later =
      let log = joined_is front.begun number bytes block front.is ∙ ap (λ bytes. record { number = number; bytes = bytes }) (sym (append-nil (bytes ++ block)) ∙ ap (λ behind. (bytes ++ block) ++ behind) (sym (ends refl))) in
      subst (λ logs. RefusesAs (with_fault Wal (replay (mode_of old) (version_of old) logs)) why) (ap (λ logs. logs ++ later) (append-nil _) ∙ ap (λ log. (before ++ log ∷ []) ++ later) log)
      (feeds (record { whole = before; begun = front.begun }) front.fed [] later)
  front_refused false behind why ends front feeds later =
      subst (λ (log : Log). RefusesAs (with_fault Wal (replay (mode_of old) (version_of old) (before ++ (with_bytes log behind ∷ []) ++ later))) why) (joined_is front.begun number bytes block front.is)
      (feeds (record { whole = before; begun = front.begun }) front.fed behind later)

-- a log of one block
pub feeds_block : (old new : ReplayRun) (number : ℕ) (bytes : List ℕ) (result : Result (Unit {0}) OpenErr) → FeedsBlock old number bytes true result new → FeedsLogs old (record { number = number; bytes = bytes } ∷ []) result new
feeds_block old new number bytes (Ok done) feeds = λ before fed. feeds (fed_whole before) fed
feeds_block old new number bytes (Err why) feeds = λ before fed later.
    subst (λ logs. RefusesAs (with_fault Wal (replay (mode_of old) (version_of old) logs)) why) (ap (λ logs. logs ++ later) (append-nil (before ++ record { number = number; bytes = bytes } ∷ [])))
    (feeds (fed_whole before) fed [] later)

-- What is so of a log's file is so of the log with the number that its name has.
module _ (P : Log → Type 0) (number : ℕ) where
  pub log_told : (o : Option Directory) (size : ℕ) → IfSome o (λ d. Some size ≡ option_map length (get d (log_name number)))
      → IfSome o (λ d. (bytes : List ℕ) → get d (log_name number) ≡ Some bytes → length bytes ≡ size → P (record { number = number; bytes = bytes })) → IfSome o (λ d. P (log_in d number))
  log_told None size told of = tt
  log_told (Some d) size told of = by (get d (log_name number)) refl told
    where
      by : (found : Option (List ℕ)) → get d (log_name number) ≡ found → Some size ≡ option_map length found → P (record { number = number; bytes = unwrap_or found [] })
      by (Some bytes) is told = let len : length bytes ≡ size = cc in of bytes is len
      by None is told = absurd cc

  pub no_log_told : (o : Option Directory) → IfSome o (λ d. None ≡ option_map length (get d (log_name number))) → P (record { number = number; bytes = [] }) → IfSome o (λ d. P (log_in d number))
  no_log_told None told of = tt
  no_log_told (Some d) told of = by (get d (log_name number)) told
    where
      by : (found : Option (List ℕ)) → None ≡ option_map length found → P (record { number = number; bytes = unwrap_or found [] })
      by (Some bytes) told = absurd cc
      by None told = of

-- the logs with these numbers, but for those below the first one that is needed
abbrev pub needed : ℕ → Directory → List ℕ → List Log
needed first d numbers = map (log_in d) (filter (nat_le first) numbers)

needed-append : (first : ℕ) (d : Directory) (xs ys : List ℕ) → needed first d (xs ++ ys) ≡ needed first d xs ++ needed first d ys
needed-append first d xs ys = ap (map (log_in d)) (filter-append (nat_le first) xs ys) ∙ map-append (log_in d) (filter (nat_le first) xs) (filter (nat_le first) ys)

-- the logs so far are fed
abbrev pub FedNeeded : ReplayRun → ReplayRun → ℕ → List ℕ → Option Directory → Type 0
FedNeeded old run first numbers o = IfSome o (λ d. (before : List Log) → HasFed old (fed_whole before) → HasFed run (fed_whole (before ++ needed first d numbers)))

pub none_needed : (run : ReplayRun) (first : ℕ) (o : Option Directory) → FedNeeded run run first [] o
none_needed run first None = tt
none_needed run first (Some d) = λ before fed. subst (λ logs. HasFed run (fed_whole logs)) (sym (append-nil before)) fed

-- one that isn't needed is passed over
pub passed_over : (run : ReplayRun) (first number : ℕ) → number < first → (o : Option Directory) → IfSome o (λ d. FeedsLogs run (needed first d (number ∷ [])) (Ok tt) run)
passed_over run first number below None = tt
passed_over run first number below (Some d) = λ before fed.
    let test : nat_le first number ≡ false = grind (arith, nat_tests) in
    subst (λ logs. HasFed run (fed_whole logs)) (sym (ap (λ told. before ++ map (log_in d) (cond told (number ∷ []) [])) test ∙ append-nil before)) fed

-- one that is needed is fed
pub one_needed : (old new : ReplayRun) (first number : ℕ) → first ≤ number → (o : Option Directory) (result : Result (Unit {0}) OpenErr)
    → IfSome o (λ d. FeedsLogs old (log_in d number ∷ []) result new) → IfSome o (λ d. FeedsLogs old (needed first d (number ∷ [])) result new)
one_needed old new first number from None result feeds = tt
one_needed old new first number from (Some d) result feeds =
    let test : nat_le first number ≡ true = grind (arith, nat_tests) in
    subst (λ logs. FeedsLogs old logs result new) (sym (ap (λ told. map (log_in d) (cond told (number ∷ []) [])) test)) feeds

module _ (old run new : ReplayRun) (first number k : ℕ) (numbers : List ℕ) (is : number ≡ get_or numbers k 0) (less : k < length numbers) where
  needed_one : (d : Directory) → needed first d (take (k + 1) numbers) ≡ needed first d (take k numbers) ++ needed first d (number ∷ [])
  needed_one d = ap (needed first d) (take_more numbers k 0 less ∙ ap (λ n. take k numbers ++ n ∷ []) (sym is)) ∙ needed-append first d (take k numbers) (number ∷ [])

  -- one more is fed
  pub needed_fed : (o : Option Directory) → FedNeeded old run first (take k numbers) o → IfSome o (λ d. FeedsLogs run (needed first d (number ∷ [])) (Ok tt) new) → FedNeeded old new first (take (k + 1) numbers) o
  needed_fed None so_far feeds = tt
  needed_fed (Some d) so_far feeds = λ before fed.
      let front = needed first d (take k numbers) in
      let one = needed first d (number ∷ []) in
      subst (λ logs. HasFed new (fed_whole logs)) (append_assoc before front one ∙ ap (λ logs. before ++ logs) (sym (needed_one d))) (feeds (before ++ front) (so_far before fed))

  -- or is refused
  pub needed_refused : (o : Option Directory) (why : OpenErr) → mode_of run ≡ mode_of old → version_of run ≡ version_of old → FedNeeded old run first (take k numbers) o
      → IfSome o (λ d. FeedsLogs run (needed first d (number ∷ [])) (Err why) new) → IfSome o (λ d. FeedsLogs old (needed first d numbers) (Err why) new)
  needed_refused None why mode version so_far feeds = tt
  needed_refused (Some d) why mode version so_far feeds = λ before fed later.
      let front = needed first d (take k numbers) in
      let one = needed first d (number ∷ []) in
      let behind = needed first d (drop (k + 1) numbers) in
      let split : needed first d numbers ≡ (front ++ one) ++ behind =
      ap (needed first d) (sym (take-append-drop (k + 1) numbers)) ∙ needed-append first d (take (k + 1) numbers) (drop (k + 1) numbers) ∙ ap (λ logs. logs ++ behind) (needed_one d) in
      let same : ((before ++ front) ++ one) ++ (behind ++ later) ≡ (before ++ needed first d numbers) ++ later =
      sym (append_assoc ((before ++ front) ++ one) behind later)
      ∙ ap (λ logs. logs ++ later) (ap (λ logs. logs ++ behind) (append_assoc before front one) ∙ append_assoc before (front ++ one) behind ∙ ap (λ logs. before ++ logs) (sym split)) in
      let refused = feeds (before ++ front) (so_far before fed) (behind ++ later) in
      subst (λ logs. RefusesAs (with_fault Wal (replay (mode_of old) (version_of old) logs)) why) same
      (subst (λ mode. RefusesAs (with_fault Wal (replay mode (version_of old) (((before ++ front) ++ one) ++ (behind ++ later)))) why) mode
      (subst (λ version. RefusesAs (with_fault Wal (replay (mode_of run) version (((before ++ front) ++ one) ++ (behind ++ later)))) why) version refused))

-- all are fed
pub needed_all : (old run : ReplayRun) (first k : ℕ) (numbers : List ℕ) (o : Option Directory) → take k numbers ≡ numbers → FedNeeded old run first (take k numbers) o → IfSome o (λ d. FeedsLogs old (needed first d numbers) (Ok tt) run)
needed_all old run first k numbers None all so_far = tt
needed_all old run first k numbers (Some d) all so_far = λ before fed. subst (λ numbers. HasFed run (fed_whole (before ++ needed first d numbers))) all (so_far before fed)

-- The answer is what the logs are replayed to.
abbrev pub AnswersReplay : Mode → Version → Result Replayed OpenErr → List Log → Type 0
AnswersReplay mode version result logs = AnswersBy replayed_of (with_fault Wal (replay mode version logs)) result

module _ (old new : ReplayRun) (unfed : HasFed old (fed_whole [])) (mode : Mode) (version : Version) (first wanted : ℕ) (same : first ≡ wanted) (numbers : List ℕ) where
  -- what is answered at the end of the logs that are needed
  pub replay_answered : mode_of new ≡ mode → version_of new ≡ version → (result : Result Replayed OpenErr) → ((fed : Fed) → HasFed new fed → AnswersReplay (mode_of new) (version_of new) result fed.whole)
      → (o : Option Directory) → IfSome o (λ d. FeedsLogs old (needed first d numbers) (Ok tt) new) → IfSome o (λ d. AnswersReplay mode version result (needed wanted d numbers))
  replay_answered is_mode is_version result answers None feeds = tt
  replay_answered is_mode is_version result answers (Some d) feeds =
      subst (λ first. AnswersReplay mode version result (needed first d numbers)) same
      (subst (λ mode. AnswersReplay mode version result (needed first d numbers)) is_mode
      (subst (λ version. AnswersReplay (mode_of new) version result (needed first d numbers)) is_version
      (answers (fed_whole (needed first d numbers)) (feeds [] unfed))))

  -- or before it
  pub replay_refused : mode_of old ≡ mode → version_of old ≡ version → (why : OpenErr)
      → (o : Option Directory) → IfSome o (λ d. FeedsLogs old (needed first d numbers) (Err why) new) → IfSome o (λ d. AnswersReplay mode version (Err why) (needed wanted d numbers))
  replay_refused is_mode is_version why None feeds = tt
  replay_refused is_mode is_version why (Some d) feeds =
      subst (λ first. AnswersReplay mode version (Err why) (needed first d numbers)) same
      (subst (λ mode. AnswersReplay mode version (Err why) (needed first d numbers)) is_mode
      (subst (λ version. AnswersReplay (mode_of old) version (Err why) (needed first d numbers)) is_version
      (subst (AnswersReplay (mode_of old) (version_of old) (Err why)) (append-nil (needed first d numbers)) (feeds [] unfed []))))
