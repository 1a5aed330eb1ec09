-- Whole logs that are handed in, block by block.
use Rattle.std.proofs.Common.{◌≡◌, ℕ, suc, ◌+◌, ◌<◌, true, false, List, [], ◌∷◌, ◌++◌, length, map, get_or, take, drop, Option, Some, None, Result, Ok, Err, refl, sym, ◌∙◌, ap, subst, append_assoc}
use Rattle.std.specs.Prelude.{OnOk}
use Rattle.std.proofs.lemmas.List.{append-nil, take-append-drop, map-append, take_more}
use Rattle.std.proofs.Math.Seq.{drop-cons}
use Rattle.rk_bytes.specs.declared.model.manifest.Version.{Version}
use Rattle.rk_bytes.specs.declared.model.wal.Mode.{Mode}
use Rattle.rk_bytes.specs.declared.model.wal.WalErr.{WalErr}
use Rattle.rk_bytes.specs.declared.model.wal.WalErr.TheVariants.{Corrupt, FamilyAhead, UnsupportedLog, Memory}
use Rattle.rk_bytes.specs.Model.Replay.{Log, replay}
use Rattle.rk_walmode.specs.declared.outcome.Replayed.{Replayed}
use Rattle.rk_walmode.specs.declared.run.ReplayRun.{ReplayRun}
use Rattle.rk_walmode.specs.Fed.{Fed, joined, with_block, Refuses, Replays}
use Rattle.rk_walmode.specs.Runs.{HasFed}
use Rattle.rk_walmode.specs.Parts.{RefusesLogs}

-- Of a log, the run was fed with all but these bytes, behind whole logs.
pub record IsWithin (run : ReplayRun) (whole : List Log) (log : Log) (rest : List ℕ) : Type 0 where
  pub begun : Option Log
  pub fed : HasFed run (record { whole = whole; begun = begun })
  pub same : joined begun log.number rest ≡ log

joined-append : (begun : Option Log) (number : ℕ) (block later : List ℕ) → record { number = (joined begun number block).number; bytes = (joined begun number block).bytes ++ later } ≡ joined begun number (block ++ later)
joined-append None number block later = refl
joined-append (Some begun) number block later = ap (λ (bytes : List ℕ). let whole : Log = record { number = begun.number; bytes = bytes } in whole) (append_assoc begun.bytes block later)

-- a block more
pub within_more : (old new : ReplayRun) (whole : List Log) (log : Log) (rest block later : List ℕ) → block ++ later ≡ rest → ((fed : Fed) → HasFed old fed → HasFed new (with_block fed log.number block false)) → IsWithin old whole log rest → IsWithin new whole log later
within_more old new whole log rest block later parts feeds h = record {
  begun = Some (joined h.begun log.number block);
  fed = feeds (record { whole = whole; begun = h.begun }) h.fed;
  same = joined-append h.begun log.number block later ∙ ap (joined h.begun log.number) parts ∙ h.same;
}

-- the last block
pub within_end : (old new : ReplayRun) (whole : List Log) (log : Log) (rest : List ℕ) → ((fed : Fed) → HasFed old fed → HasFed new (with_block fed log.number rest true)) → IsWithin old whole log rest → HasFed new (record { whole = whole ++ log ∷ []; begun = None })
within_end old new whole log rest feeds h = subst (λ (log : Log). HasFed new (record { whole = whole ++ log ∷ []; begun = None })) h.same (feeds (record { whole = whole; begun = h.begun }) h.fed)

-- a block is refused
pub within_refused : (old : ReplayRun) (mode : Mode) (version : Version) (whole : List Log) (log : Log) (rest block later : List ℕ) (result : Result (Unit {0}) WalErr) → block ++ later ≡ rest
    → ((fed : Fed) → HasFed old fed → Refuses mode version (with_block fed log.number block false) result) → IsWithin old whole log rest → RefusesLogs mode version (whole ++ log ∷ []) result
within_refused old mode version whole log rest block later result parts refuses h = by result (refuses (record { whole = whole; begun = h.begun }) h.fed)
  where
    one : record { number = (joined h.begun log.number block).number; bytes = (joined h.begun log.number block).bytes ++ later } ≡ log
    one = joined-append h.begun log.number block later ∙ ap (joined h.begun log.number) parts ∙ h.same

    by : (result : Result (Unit {0}) WalErr) → Refuses mode version (record { whole = whole; begun = Some (joined h.begun log.number block) }) result → RefusesLogs mode version (whole ++ log ∷ []) result
    by (Ok done) refused = tt
    by (Err (Corrupt at place why)) refused = λ others. ap (λ (log : Log). replay mode version (whole ++ log ∷ [] ++ others)) (sym one) ∙ refused later others
    by (Err (FamilyAhead family at)) refused = λ others. ap (λ (log : Log). replay mode version (whole ++ log ∷ [] ++ others)) (sym one) ∙ refused later others
    by (Err (UnsupportedLog at what)) refused = λ others. ap (λ (log : Log). replay mode version (whole ++ log ∷ [] ++ others)) (sym one) ∙ refused later others
    by (Err Memory) refused = tt

-- the last block is refused
pub end_refused : (old : ReplayRun) (mode : Mode) (version : Version) (whole : List Log) (log : Log) (rest : List ℕ) (result : Result (Unit {0}) WalErr) → ((fed : Fed) → HasFed old fed → Refuses mode version (with_block fed log.number rest true) result)
    → IsWithin old whole log rest → RefusesLogs mode version (whole ++ log ∷ []) result
end_refused old mode version whole log rest result refuses h = by result (refuses (record { whole = whole; begun = h.begun }) h.fed)
  where
    drop_none : (logs others : List Log) → logs ++ [] ++ others ≡ logs ++ others
    drop_none logs others = ap (λ (logs : List Log). logs ++ others) (append-nil logs)

    told : (why : WalErr) → ((more : List ℕ) (later : List Log) → replay mode version ((whole ++ joined h.begun log.number rest ∷ []) ++ [] ++ later) ≡ Err why) → (later : List Log) → replay mode version (whole ++ log ∷ [] ++ later) ≡ Err why
    told why refused others = ap (λ (log : Log). replay mode version (whole ++ log ∷ [] ++ others)) (sym h.same) ∙ ap (replay mode version) (sym (drop_none (whole ++ joined h.begun log.number rest ∷ []) others)) ∙ refused [] others

    by : (result : Result (Unit {0}) WalErr) → Refuses mode version (record { whole = whole ++ joined h.begun log.number rest ∷ []; begun = None }) result → RefusesLogs mode version (whole ++ log ∷ []) result
    by (Ok done) refused = tt
    by (Err (Corrupt at place why)) refused = told (Corrupt at place why) refused
    by (Err (FamilyAhead family at)) refused = told (FamilyAhead family at) refused
    by (Err (UnsupportedLog at what)) refused = told (UnsupportedLog at what) refused
    by (Err Memory) refused = tt

pub refuses_in : (mode other : Mode) (version another : Version) (logs : List Log) (result : Result (Unit {0}) WalErr) → mode ≡ other → version ≡ another → RefusesLogs mode version logs result → RefusesLogs other another logs result
refuses_in mode other version another logs result same_mode same_version refused =
    subst (λ (mode : Mode). RefusesLogs mode another logs result) same_mode (subst (λ (version : Version). RefusesLogs mode version logs result) same_version refused)

pub all_ok : (result : Result (Unit {0}) WalErr) (P : Type 0) → P → OnOk result P
all_ok (Ok done) P p = p
all_ok (Err why) P p = tt

-- the front and the rest of bytes
pub front_and_rest : (bytes front rest : List ℕ) (n : ℕ) → front ≡ take n bytes → rest ≡ drop n bytes → front ++ rest ≡ bytes
front_and_rest bytes front rest n is_front is_rest = (λ i. is_front i ++ is_rest i) ∙ take-append-drop n bytes

-- ---- logs one after another

-- one log more
pub logs_more : {A B : Type 0} (f : A → B) (xs : List A) (i : ℕ) (x : A) → i < length xs → x ≡ get_or xs i x → map f (take (i + 1) xs) ≡ map f (take i xs) ++ f x ∷ []
logs_more f xs i x within is =
    ap (map f) (take_more xs i x within ∙ ap (λ (y : _). take i xs ++ y ∷ []) (sym is)) ∙ map-append f (take i xs) (x ∷ [])

-- the answer to some of the logs is a refusal
pub some_refused : {A : Type 0} (mode : Mode) (version : Version) (f : A → Log) (xs : List A) (i : ℕ) (x : A) (result : Result (Unit {0}) WalErr) → i < length xs → x ≡ get_or xs i x → RefusesLogs mode version (map f (take i xs) ++ f x ∷ []) result
    → RefusesLogs mode version (map f xs) result
some_refused mode version f xs i x result within is refused = by result refused
  where
    parts : map f xs ≡ map f (take i xs) ++ f x ∷ [] ++ map f (drop (suc i) xs)
    parts =
        ap (map f) (sym (take-append-drop i xs) ∙ ap (λ (rest : List _). take i xs ++ rest) (drop-cons xs i x within ∙ ap (λ (y : _). y ∷ drop (suc i) xs) (sym is)))
        ∙ map-append f (take i xs) (x ∷ drop (suc i) xs) ∙ sym (append_assoc (map f (take i xs)) (f x ∷ []) (map f (drop (suc i) xs)))

    told : (why : WalErr) → ((later : List Log) → replay mode version (map f (take i xs) ++ f x ∷ [] ++ later) ≡ Err why) → (later : List Log) → replay mode version (map f xs ++ later) ≡ Err why
    told why refused later = ap (λ (logs : List Log). replay mode version (logs ++ later)) parts ∙ ap (replay mode version) (append_assoc (map f (take i xs) ++ f x ∷ []) (map f (drop (suc i) xs)) later) ∙ refused (map f (drop (suc i) xs) ++ later)

    by : (result : Result (Unit {0}) WalErr) → RefusesLogs mode version (map f (take i xs) ++ f x ∷ []) result → RefusesLogs mode version (map f xs) result
    by (Ok done) refused = tt
    by (Err (Corrupt at place why)) refused = told (Corrupt at place why) refused
    by (Err (FamilyAhead family at)) refused = told (FamilyAhead family at) refused
    by (Err (UnsupportedLog at what)) refused = told (UnsupportedLog at what) refused
    by (Err Memory) refused = tt

-- what replay answers where logs are refused
pub refused_whole : (mode : Mode) (version : Version) (logs : List Log) (why : WalErr) → RefusesLogs mode version logs (Err why) → Replays (replay mode version logs) (Err why)
refused_whole mode version logs (Corrupt at place why) refused = ap (replay mode version) (sym (append-nil logs)) ∙ refused []
refused_whole mode version logs (FamilyAhead family at) refused = ap (replay mode version) (sym (append-nil logs)) ∙ refused []
refused_whole mode version logs (UnsupportedLog at what) refused = ap (replay mode version) (sym (append-nil logs)) ∙ refused []
refused_whole mode version logs Memory refused = tt

pub replays_in : (mode other : Mode) (version another : Version) (logs : List Log) (result : Result Replayed WalErr) → mode ≡ other → version ≡ another → Replays (replay mode version logs) result → Replays (replay other another logs) result
replays_in mode other version another logs result same_mode same_version replays =
    subst (λ (mode : Mode). Replays (replay mode another logs) result) same_mode (subst (λ (version : Version). Replays (replay mode version logs) result) same_version replays)
