-- A log's file that is fed to a replay block by block.
use Rattle.std.proofs.Common.{◌≡◌, ℕ, ◌+◌, Bool, true, false, List, [], ◌∷◌, ◌++◌, length, take, drop, Option, Result, Ok, Err, ap, ◌∙◌, subst}
use Rattle.std.proofs.lemmas.List.{take-append-drop}
use Rattle.rk_bytes.specs.declared.model.open.OpenErr.{OpenErr}
use Rattle.rk_bytes.specs.declared.model.open.OpenErr.TheVariants.{Wal}
use Rattle.rk_bytes.specs.Model.BlockEntries.{with_fault}
use Rattle.rk_bytes.specs.Model.DiskImages.{Told}
use Rattle.rk_bytes.specs.Model.Replay.{Log, replay}
use Rattle.rk_disk.specs.Parts.{IsPart, OfFile}
use Rattle.rk_disk.proofs.Callers.{OfFile-both, OfFile-all}
use Rattle.rk_walmode.specs.declared.run.ReplayRun.{ReplayRun}
use Rattle.rk_walmode.specs.Runs.{version_of, mode_of, HasFed}
use Rattle.rk_open.specs.Answers.{RefusesAs}
use Rattle.rk_open.specs.Logs.{fed_whole, FeedsBlock, FeedsLogs, HasFedFront}
use Rattle.rk_open.proofs.FoldLemmas.{part_fed, last_fed}
use Rattle.rk_open.proofs.ReplayedLemmas.{front_unfed, front_more, front_whole, front_refused}

module _ (told : Option Told) (name : List ℕ) (size : ℕ) (old : ReplayRun) (number : ℕ) where
  -- the run was fed with the bytes up to this place
  abbrev pub FedUpTo : ReplayRun → ℕ → Type 0
  FedUpTo run at = OfFile told name size (λ bytes. (before : List Log) → HasFed old (fed_whole before) → HasFedFront run before number (take at bytes))

  -- the answer is that of the whole file
  abbrev pub FeedsFile : Result (Unit {0}) OpenErr → ReplayRun → Type 0
  FeedsFile result new = OfFile told name size (λ bytes. FeedsLogs old (record { number = number; bytes = bytes } ∷ []) result new)

  pub file_unfed : FedUpTo old 0
  file_unfed = OfFile-all told name size (λ bytes. (before : List Log) → HasFed old (fed_whole before) → HasFedFront old before number (take 0 bytes)) (λ bytes before fed. front_unfed old before number fed)

  module _ (run new : ReplayRun) (at : ℕ) (block : List ℕ) (is_last : Bool) (front : FedUpTo run at) (part : OfFile told name size (λ bytes. IsPart at bytes block is_last)) where
    pub file_more : is_last ≡ false → (next : ℕ) → at + length block ≡ next → FeedsBlock run number block is_last (Ok tt) new → FedUpTo new next
    file_more more next end feeds =
        OfFile-both told name size (λ bytes. (before : List Log) → HasFed old (fed_whole before) → HasFedFront run before number (take at bytes)) (λ bytes. IsPart at bytes block is_last)
        (λ bytes. (before : List Log) → HasFed old (fed_whole before) → HasFedFront new before number (take next bytes))
        (λ bytes front is before fed. subst (HasFedFront new before number) (part_fed at bytes block is_last is ∙ ap (λ n. take n bytes) end)
        (front_more run new before number (take at bytes) block (front before fed) (subst (λ is_last. FeedsBlock run number block is_last (Ok tt) new) more feeds)))
        front part

    pub file_whole : is_last ≡ true → FeedsBlock run number block is_last (Ok tt) new → FeedsFile (Ok tt) new
    file_whole last feeds =
        OfFile-both told name size (λ bytes. (before : List Log) → HasFed old (fed_whole before) → HasFedFront run before number (take at bytes)) (λ bytes. IsPart at bytes block is_last)
        (λ bytes. FeedsLogs old (record { number = number; bytes = bytes } ∷ []) (Ok tt) new)
        (λ bytes front is before fed. subst (λ bytes. HasFed new (fed_whole (before ++ record { number = number; bytes = bytes } ∷ []))) (last_fed at bytes block (subst (IsPart at bytes block) last is))
        (front_whole run new before number (take at bytes) block (front before fed) (subst (λ is_last. FeedsBlock run number block is_last (Ok tt) new) last feeds)))
        front part

    pub file_refused : (why : OpenErr) → mode_of run ≡ mode_of old → version_of run ≡ version_of old → FeedsBlock run number block is_last (Err why) new → FeedsFile (Err why) new
    file_refused why mode version feeds =
        OfFile-both told name size (λ bytes. (before : List Log) → HasFed old (fed_whole before) → HasFedFront run before number (take at bytes)) (λ bytes. IsPart at bytes block is_last)
        (λ bytes. FeedsLogs old (record { number = number; bytes = bytes } ∷ []) (Err why) new)
        (λ bytes front is before fed later.
        let log : List ℕ → Log = λ bytes. record { number = number; bytes = bytes } in
        let behind = drop (at + length block) bytes in
        subst (λ bytes. RefusesAs (with_fault Wal (replay (mode_of old) (version_of old) (before ++ (log bytes ∷ []) ++ later))) why) (whole bytes is)
        (subst (λ mode. RefusesAs (with_fault Wal (replay mode (version_of old) (before ++ (log ((take at bytes ++ block) ++ behind) ∷ []) ++ later))) why) mode
        (subst (λ version. RefusesAs (with_fault Wal (replay (mode_of run) version (before ++ (log ((take at bytes ++ block) ++ behind) ∷ []) ++ later))) why) version
        (front_refused run new before number (take at bytes) block is_last behind why is.follows (front before fed) feeds later))))
        front part
      where
        whole : (bytes : List ℕ) → IsPart at bytes block is_last → (take at bytes ++ block) ++ drop (at + length block) bytes ≡ bytes
        whole bytes is = ap (λ front. front ++ drop (at + length block) bytes) (part_fed at bytes block is_last is) ∙ take-append-drop (at + length block) bytes
