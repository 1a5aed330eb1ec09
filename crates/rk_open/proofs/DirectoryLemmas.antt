-- How the steps of opening make up what a directory is opened to.
use Rattle.std.proofs.Common.{◌≡◌, ◌≤◌, ℕ, List, Option, Some, None, Result, Ok, Err, refl, sym, ap, ◌∙◌, subst}
use Rattle.std.specs.Prelude.{IfSome, IfOk, IfErr, unwrap_or}
use Rattle.std.specs.FinMap.{get}
use Rattle.rk_bytes.specs.declared.model.manifest.Version.{Version}
use Rattle.rk_bytes.specs.declared.model.open.OpenErr.{OpenErr}
use Rattle.rk_bytes.specs.declared.model.open.OpenErr.TheVariants.{Memory, Wal}
use Rattle.rk_bytes.specs.declared.model.wal.Mode.{Mode}
use Rattle.rk_bytes.specs.Model.Numbers.{◌>>=◌}
use Rattle.rk_bytes.specs.Model.BlockEntries.{with_fault, collected}
use Rattle.rk_bytes.specs.Model.DiskImages.{Directory}
use Rattle.rk_bytes.specs.Model.InternalKey.{top_sequence}
use Rattle.rk_bytes.specs.Model.Manifest.{first_log}
use Rattle.rk_bytes.specs.Model.Opening.{TableFile, named_manifest, version_in, listed_tables, table_file, tracked_log, opened, open_files, open_directory}
use Rattle.rk_bytes.specs.Model.Replay.{replay}
use Rattle.rk_walmode.specs.declared.outcome.Replayed.{Replayed as Added}
use Rattle.rk_walmode.specs.Fed.{replayed_of}
use Rattle.rk_open.specs.declared.loaded.Loaded.{Loaded}
use Rattle.rk_open.specs.declared.directory.Filled.{Filled}
use Rattle.rk_open.specs.declared.opened.Opened.{Opened}
use Rattle.rk_open.specs.Answers.{AnswersAs, AnswersBy, RefusesAs}
use Rattle.rk_open.specs.Logs.{needed_logs}
use Rattle.rk_open.specs.Opened.{opened_of, opened_by, replayed_at, IsFilled, IsLoaded}
use Rattle.rk_open.specs.Versions.{StatesAll}
use Rattle.rk_open.proofs.AnswerLemmas.{Answers-refused}

-- what is tested and then found in turn, found as a pair first
regroup : {A S B C E : Type 0} (tables : Result A E) (synced : Result S E) (added : Result B E) (f : A → B → C)
    → (tables >>= λ t. synced >>= λ s. added >>= λ w. Ok (f t w)) ≡ ((tables >>= λ t. (synced >>= λ s. added) >>= λ w. Ok (t, w)) >>= λ (both : A × B). Ok (f both.0 both.1))
regroup (Ok t) (Ok s) (Ok w) f = refl
regroup (Ok t) (Ok s) (Err why) f = refl
regroup (Ok t) (Err why) added f = refl
regroup (Err why) synced added f = refl

open_directory-named : (mode : Mode) (d : Directory) → open_directory mode d ≡ (named_manifest (get d) >>= opened_by mode d)
unfolding open_files
open_directory-named mode d = λ i. named_manifest (get d) >>= λ number. version_in (get d) number >>= λ version.
    regroup (collected (table_file (get d)) (listed_tables version.families)) (collected (tracked_log (get d) (first_log version)) version.wals)
    (with_fault Wal (replay mode version (needed_logs (first_log version) d))) (opened number version) i

-- opening by the manifest that CURRENT names
pub opened_found : (o : Option Directory) (mode : Mode) (manifest : ℕ) (result : Result Opened OpenErr)
    → IfSome o (λ d. named_manifest (get d) ≡ Ok manifest) → IfSome o (λ d. AnswersBy opened_of (opened_by mode d manifest) result) → IfSome o (λ d. AnswersBy opened_of (open_directory mode d) result)
opened_found None mode manifest result named is = tt
opened_found (Some d) mode manifest result named is =
    subst (λ wanted. AnswersBy opened_of wanted result) (sym (open_directory-named mode d ∙ ap (λ number. number >>= opened_by mode d) named)) is

-- it names none
pub opened_refused : (o : Option Directory) (mode : Mode) (why : OpenErr) → IfSome o (λ d. RefusesAs (named_manifest (get d)) why) → IfSome o (λ d. RefusesAs (open_directory mode d) why)
opened_refused None mode why refused = tt
opened_refused (Some d) mode why refused = subst (λ wanted. RefusesAs wanted why) (sym (open_directory-named mode d)) (Answers-refused why (named_manifest (get d)) (opened_by mode d) refused)

-- a stated last sequence number is one that an internal key can hold
pub last_fits : (version : Version) → StatesAll version → unwrap_or version.last_sequence 0 ≤ top_sequence
last_fits version states = subst (λ last. unwrap_or last 0 ≤ top_sequence) (sym states.last_sequence) states.bound

-- what logs add to tables
pub filled_as : (o : Option Directory) (mode : Mode) (version : Version) (loaded : Loaded) (added : Added) (result : Result Filled OpenErr)
    → IfSome o (λ d. replayed_at mode d version ≡ Ok (replayed_of added))
    → IfOk result (λ filled. (version : Version) (tables : List TableFile) → IsLoaded version tables loaded → IsFilled version tables (replayed_of added) filled)
    → IfErr result (λ why. why ≡ Memory)
    → IfSome o (λ d. (tables : List TableFile) → IsLoaded version tables loaded → AnswersAs (IsFilled version tables) (replayed_at mode d version) result)
filled_as None mode version loaded added result is ok memory = tt
filled_as (Some d) mode version loaded added (Ok filled) is ok memory = λ tables has. (replayed_of added, is, ok version tables has)
filled_as (Some d) mode version loaded added (Err why) is ok memory = λ tables has. subst (RefusesAs (replayed_at mode d version)) (sym memory) tt
