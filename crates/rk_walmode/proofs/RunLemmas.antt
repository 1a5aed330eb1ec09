-- How a run goes on, block by block.
use Rattle.std.proofs.Common.{◌≡◌, ℕ, Bool, true, false, not, List, [], ◌∷◌, ◌++◌, Option, Some, None, Result, Ok, Err, inl, refl, sym, ◌∙◌, ap, subst, append_assoc}
use Rattle.std.specs.Prelude.{map, is_some, is_ok, option_map}
use Rattle.std.proofs.lemmas.Bool.{false≢true, true≢false}
use Rattle.std.proofs.lemmas.List.{append-nil, map-append}
use Rattle.std.proofs.lemmas.List.Elements.{filter-append}
use Rattle.rk_bytes.specs.declared.model.log.EndKind.TheVariants.{Clean}
use Rattle.rk_bytes.specs.declared.model.manifest.Version.{Version}
use Rattle.rk_bytes.specs.declared.model.wal.Mode.{Mode}
use Rattle.rk_bytes.specs.declared.model.wal.WalErr.{WalErr}
use Rattle.rk_bytes.specs.declared.model.wal.WalErr.TheVariants.{Corrupt, FamilyAhead, UnsupportedLog, Memory}
use Rattle.rk_bytes.specs.Model.Checksums.{pieces}
use Rattle.rk_bytes.specs.Model.LogMarks.{block_len, log_marks, blocks_marks}
use Rattle.rk_bytes.specs.Model.LogItems.{Item, end, log_items}
use Rattle.rk_bytes.specs.Model.Replay.{Log, findings, replay}
use Rattle.rk_log.specs.declared.feed.LogFeed.{LogFeed}
use Rattle.rk_log.specs.Left.{Left, log_left, left}
use Rattle.rk_walmode.specs.declared.progress.Progress.{Progress}
use Rattle.rk_walmode.specs.declared.progress.Reading.{Reading}
use Rattle.rk_walmode.specs.declared.progress.Reading.TheVariants.{GoesOn, Ended}
use Rattle.rk_walmode.specs.declared.outcome.Replayed.{Replayed}
use Rattle.rk_walmode.specs.declared.run.ReplayRun.{ReplayRun}
use Rattle.rk_walmode.specs.Fed.{Fed, with_block, is_file_end, AnswersSoFar, Refuses, Replays, lacks_memory}
use Rattle.rk_walmode.specs.Walks.{Walk, log_ended, walk_logs}
use Rattle.rk_walmode.specs.Runs.{version_of, mode_of, IsAt, HasCome, Follow, IsQuiet, IsBegun, IsFed, HasFed}
use Rattle.rk_walmode.specs.Blocks.{HasComeBy, FollowsBy, IsQuietBy, TakesBlock}
use Rattle.rk_walmode.specs.Ends.{Finishes}
use Rattle.rk_walmode.specs.Parts.{opened, handed, HasRead}
use Rattle.rk_walmode.proofs.WalkLemmas.{stands_at, walk_logs-push}
use Rattle.rk_walmode.proofs.ReplayLemmas.{answers_progress, refused_kept, ahead_is_known}
use Rattle.rk_walmode.proofs.FedLemmas.{walked, walked-append, walked_up, so_far, refuses_later}

-- ---- a log ends

come_ended : (progress : Progress) (outcome : Result (Unit {0}) WalErr) (walk : Walk) → HasCome progress outcome walk → HasCome progress outcome (log_ended walk)
come_ended progress (Ok done) walk at = record { records = at.records; expected = at.expected; stopped = at.stopped; refused = at.refused }
come_ended progress (Err (Corrupt log place why)) walk come = (come.0, ap is_some come.0)
come_ended progress (Err (FamilyAhead family log)) walk come = (come.0, ap is_some come.0)
come_ended progress (Err (UnsupportedLog log what)) walk come = (come.0, ap is_some come.0)
come_ended progress (Err Memory) walk come = tt

end_begun : (mode : Mode) (version : Version) (run : ReplayRun) (whole : List Log) (log : Log) → IsBegun mode version run true (walk_logs mode version (map findings whole)) log
    → HasCome run.progress run.outcome (walk_logs mode version (map findings (whole ++ log ∷ [])))
end_begun mode version run whole log b =
    let start : Walk = walk_logs mode version (map findings whole) in
    let here : Walk = walked mode version log.number start b.seen in
    let given = b.ahead [] (λ last. refl) in
    let items : log_items log.number log.bytes ≡ b.seen ++ given.0 = ap (log_items log.number) (sym (append-nil log.bytes)) ∙ given.1 in
    let reached : walked mode version log.number start (log_items log.number log.bytes) ≡ here =
    ap (walked mode version log.number start) items ∙ walked-append mode version log.number start b.seen given.0 ∙ up run.feed b.quiet given.0 given.2 in
    let whole_walk : walk_logs mode version (map findings (whole ++ log ∷ [])) ≡ log_ended here =
    ap (walk_logs mode version) (map-append findings whole (log ∷ [])) ∙ walk_logs-push mode version (map findings whole) (findings log) ∙ ap log_ended reached in
    subst (HasCome run.progress run.outcome) (sym whole_walk) (come_ended run.progress run.outcome here b.come)
  where
    up : (feed : Option LogFeed) → IsQuiet true feed → (items : List Item) → Follow feed (walked mode version log.number (walk_logs mode version (map findings whole)) b.seen) [] items
        → walked mode version log.number (walked mode version log.number (walk_logs mode version (map findings whole)) b.seen) items ≡ walked mode version log.number (walk_logs mode version (map findings whole)) b.seen
    up None quiet items follow = walked_up mode version log.number (walked mode version log.number (walk_logs mode version (map findings whole)) b.seen) [] items follow
    up (Some feed) quiet items follow = absurd quiet

-- memory ran out, or not
come_known : (progress : Progress) (outcome : Result (Unit {0}) WalErr) (walk : Walk) → (lacks_memory outcome ≡ false → HasCome progress outcome walk) → HasCome progress outcome walk
come_known progress (Ok done) walk h = h refl
come_known progress (Err (Corrupt log place why)) walk h = h refl
come_known progress (Err (FamilyAhead family log)) walk h = h refl
come_known progress (Err (UnsupportedLog log what)) walk h = h refl
come_known progress (Err Memory) walk h = tt

-- the log that is begun has ended
pub fed_end : (old new : ReplayRun) (is_last : Bool) (whole : List Log) (log : Log) → is_last ≡ true → HasRead old is_last whole log → new.progress ≡ old.progress → new.outcome ≡ old.outcome → new.log ≡ None → HasFed new (handed whole log is_last)
fed_end old new is_last whole log last read same_progress same_outcome none =
    let mode : Mode = old.progress.mode in
    let version : Version = old.progress.version.now in
    let behind : List Log = whole ++ log ∷ [] in
    let ended = subst (λ (is_last : Bool). HasRead old is_last whole log) last read in
    let come : HasCome old.progress old.outcome (walk_logs mode version (map findings behind)) =
    come_known old.progress old.outcome (walk_logs mode version (map findings behind)) (λ known. end_begun mode version old whole log (ended.come known)) in
    subst (λ (is_last : Bool). HasFed new (handed whole log is_last)) (sym last) (record {
      log = none;
      come = subst (λ (outcome : Result (Unit {0}) WalErr). HasCome new.progress outcome (walk_logs (mode_of new) (version_of new) (map findings behind))) (sym same_outcome)
          (subst (λ (progress : Progress). HasCome progress old.outcome (walk_logs progress.mode progress.version.now (map findings behind))) (sym same_progress) come);
    })

-- the log goes on
pub fed_on : (run : ReplayRun) (is_last : Bool) (whole : List Log) (log : Log) → is_last ≡ false → HasRead run is_last whole log → HasFed run (handed whole log is_last)
fed_on run is_last whole log more read =
    let on = subst (λ (is_last : Bool). HasRead run is_last whole log) more read in
    subst (λ (is_last : Bool). HasFed run (handed whole log is_last)) (sym more) (record { log = on.log; come = on.come })

-- ---- a log begins

pub no_log : (log : Option ℕ) → is_some log ≡ false → log ≡ None
no_log None none = refl
no_log (Some log) none = absurd (true≢false none)

-- a feed before the first block, or none where the run was refused
abbrev pub IsFresh : Result (Unit {0}) WalErr → Option LogFeed → ℕ → Type 0
IsFresh (Ok done) (Some feed) log = (bytes : List ℕ) → left feed bytes ≡ log_left log bytes
IsFresh (Ok done) None log = ⊥
IsFresh (Err why) (Some feed) log = ⊥
IsFresh (Err why) None log = Unit {0}

no_bytes : (log : ℕ) → log_items log [] ≡ end Clean 0 ∷ []
unfolding log_marks blocks_marks block_len pieces
no_bytes log = refl

quiet_fresh : (outcome : Result (Unit {0}) WalErr) (feed : Option LogFeed) (log : ℕ) → IsFresh outcome feed log → IsQuiet false feed
quiet_fresh (Ok done) (Some feed) log fresh = (0, inl (ap (λ (left : Left). left.items) (fresh []) ∙ no_bytes log))
quiet_fresh (Ok done) None log fresh = absurd fresh
quiet_fresh (Err why) (Some feed) log fresh = absurd fresh
quiet_fresh (Err why) None log fresh = tt

follow_fresh : (progress : Progress) (walk : Walk) (outcome : Result (Unit {0}) WalErr) (feed : Option LogFeed) (log : ℕ) (rest : List ℕ) → IsFresh outcome feed log → HasCome progress outcome walk → walk.passes ≡ is_some walk.refused
    → lacks_memory outcome ≡ false → Follow feed walk rest (log_items log rest)
follow_fresh progress walk (Ok done) (Some feed) log rest fresh come passes known = (ap (λ (left : Left). left.items) (sym (fresh rest)), passes ∙ ap is_some come.refused)
follow_fresh progress walk (Ok done) None log rest fresh come passes known = absurd fresh
follow_fresh progress walk (Err why) (Some feed) log rest fresh come passes known = absurd fresh
follow_fresh progress walk (Err (Corrupt at place why)) None log rest fresh come passes known = inl come.1
follow_fresh progress walk (Err (FamilyAhead family at)) None log rest fresh come passes known = inl come.1
follow_fresh progress walk (Err (UnsupportedLog at what)) None log rest fresh come passes known = inl come.1
follow_fresh progress walk (Err Memory) None log rest fresh come passes known = absurd (true≢false known)

begun_fresh : (mode : Mode) (version : Version) (run : ReplayRun) (whole : List Log) (log : ℕ) → IsFresh run.outcome run.feed log → HasCome run.progress run.outcome (walk_logs mode version (map findings whole)) → lacks_memory run.outcome ≡ false
    → IsBegun mode version run false (walk_logs mode version (map findings whole)) (record { number = log; bytes = [] })
begun_fresh mode version run whole log fresh come known = record {
  seen = [];
  known = λ more. refl;
  quiet = quiet_fresh run.outcome run.feed log fresh;
  come = come;
  ahead = λ rest follows. (log_items log rest, refl, follow_fresh run.progress (walk_logs mode version (map findings whole)) run.outcome run.feed log rest fresh come (stands_at mode version (map findings whole)).passes known);
}

-- the log with this number is begun
pub fed_begin : (old new : ReplayRun) (fed : Fed) (log : ℕ) → HasFed old fed → old.log ≡ None → new.progress ≡ old.progress → new.outcome ≡ old.outcome → new.log ≡ Some log → IsFresh new.outcome new.feed log
    → HasRead new false fed.whole (opened fed.begun log)
fed_begin old new fed log h none same_progress same_outcome number fresh = by fed.begun (sym none ∙ h.log) h.come
  where
    by : (begun : Option Log) → None ≡ option_map (λ (log : Log). log.number) begun → IsFed (mode_of old) (version_of old) old false (walk_logs (mode_of old) (version_of old) (map findings fed.whole)) begun
        → HasRead new false fed.whole (opened begun log)
    by (Some begun) is come = absurd cc
    by None is come =
        let moved : HasCome new.progress old.outcome (walk_logs (mode_of new) (version_of new) (map findings fed.whole)) =
        subst (λ (progress : Progress). HasCome progress old.outcome (walk_logs progress.mode progress.version.now (map findings fed.whole))) (sym same_progress) come in
        let here : HasCome new.progress new.outcome (walk_logs (mode_of new) (version_of new) (map findings fed.whole)) =
        subst (λ (outcome : Result (Unit {0}) WalErr). HasCome new.progress outcome (walk_logs (mode_of new) (version_of new) (map findings fed.whole))) (sym same_outcome) moved in
        record { log = number; come = λ known. begun_fresh (mode_of new) (version_of new) new fed.whole log fresh here known }

-- ---- a block more

-- where the feed was given up
over_begun : (mode : Mode) (version : Version) (run : ReplayRun) (is_last : Bool) (start : Walk) (log : Log) (block : List ℕ) → run.feed ≡ None → IsBegun mode version run false start log
    → IsBegun mode version run is_last start (record { number = log.number; bytes = log.bytes ++ block })
over_begun mode version run is_last start log block none b = record {
  seen = b.seen;
  known = λ more. b.known refl;
  quiet = subst (IsQuiet is_last) (sym none) tt;
  come = b.come;
  ahead = λ rest follows.
      let given = b.ahead (block ++ rest) (λ last. absurd (false≢true last)) in
      let here : Walk = walked mode version log.number start b.seen in (
        given.0,
        ap (log_items log.number) (append_assoc log.bytes block rest) ∙ given.1,
        subst (λ (feed : Option LogFeed). Follow feed here rest given.0) (sym none) (subst (λ (feed : Option LogFeed). Follow feed here (block ++ rest) given.0) none given.2),
      );
}

-- what a run has come to says nothing of its other fields
same_begun : (mode : Mode) (version : Version) (old new : ReplayRun) (is_last : Bool) (start : Walk) (log : Log) → new.progress ≡ old.progress → new.outcome ≡ old.outcome → new.feed ≡ old.feed → IsBegun mode version old is_last start log
    → IsBegun mode version new is_last start log
same_begun mode version old new is_last start log progress outcome feed b =
    let here : Walk = walked mode version log.number start b.seen in
    record {
      seen = b.seen;
      known = b.known;
      quiet = subst (IsQuiet is_last) (sym feed) b.quiet;
      come = subst (λ (outcome : Result (Unit {0}) WalErr). HasCome new.progress outcome here) (sym outcome) (subst (λ (progress : Progress). HasCome progress old.outcome here) (sym progress) b.come);
      ahead = λ rest follows. let given = b.ahead rest follows in (given.0, given.1, subst (λ (feed : Option LogFeed). Follow feed here rest given.0) (sym feed) given.2);
    }

pub fed_over : (old new : ReplayRun) (is_last : Bool) (whole : List Log) (log : Log) (block : List ℕ) → old.feed ≡ None → new.progress ≡ old.progress → new.outcome ≡ old.outcome → new.feed ≡ old.feed → new.log ≡ old.log
    → HasRead old false whole log → HasRead new is_last whole (record { number = log.number; bytes = log.bytes ++ block })
fed_over old new is_last whole log block none progress outcome feed number h = record {
  log = number ∙ h.log;
  come = λ known.
      let more : Log = record { number = log.number; bytes = log.bytes ++ block } in
      let b = over_begun (mode_of old) (version_of old) old is_last (walk_logs (mode_of old) (version_of old) (map findings whole)) log block none (h.come (ap lacks_memory (sym outcome) ∙ known)) in
      subst (λ (progress : Progress). IsBegun progress.mode progress.version.now new is_last (walk_logs progress.mode progress.version.now (map findings whole)) more) (sym progress)
      (same_begun (mode_of old) (version_of old) old new is_last (walk_logs (mode_of old) (version_of old) (map findings whole)) more progress outcome feed b);
}

-- a run that reads was not refused
pub reads_ok : (outcome : Result (Unit {0}) WalErr) (feed : Option LogFeed) (from : LogFeed) → (is_ok outcome ≡ false → is_some feed ≡ false) → feed ≡ Some from → outcome ≡ Ok tt
reads_ok (Ok done) feed from given_up is = refl
reads_ok (Err why) feed from given_up is = absurd (true≢false (sym (ap is_some is) ∙ given_up refl))

-- what the run keeps of a block's answer
abbrev pub outcome_by : Result Reading WalErr → Result (Unit {0}) WalErr
outcome_by (Ok reading) = Ok tt
outcome_by (Err why) = Err why

abbrev pub feed_by : Result Reading WalErr → LogFeed → Option LogFeed
feed_by (Ok GoesOn) feed = Some feed
feed_by (Ok Ended) feed = None
feed_by (Err why) feed = None

quiet_by : (is_last : Bool) (result : Result Reading WalErr) (feed : LogFeed) → IsQuietBy is_last result feed → IsQuiet is_last (feed_by result feed)
quiet_by true (Ok GoesOn) feed quiet = absurd (true≢false quiet.0)
quiet_by false (Ok GoesOn) feed quiet = quiet.1
quiet_by is_last (Ok Ended) feed quiet = tt
quiet_by is_last (Err why) feed quiet = tt

come_by : (to : Progress) (result : Result Reading WalErr) (walk : Walk) → HasComeBy to result walk → HasCome to (outcome_by result) walk
come_by to (Ok reading) walk come = come
come_by to (Err (Corrupt log place why)) walk come = come
come_by to (Err (FamilyAhead family log)) walk come = come
come_by to (Err (UnsupportedLog log what)) walk come = come
come_by to (Err Memory) walk come = tt

follow_by : (result : Result Reading WalErr) (feed : LogFeed) (walk : Walk) (rest : List ℕ) (items : List Item) → FollowsBy result feed walk rest items → lacks_memory (outcome_by result) ≡ false → Follow (feed_by result feed) walk rest items
follow_by (Ok GoesOn) feed walk rest items follow known = follow
follow_by (Ok Ended) feed walk rest items follow known = follow
follow_by (Err (Corrupt log place why)) feed walk rest items follow known = follow
follow_by (Err (FamilyAhead family log)) feed walk rest items follow known = follow
follow_by (Err (UnsupportedLog log what)) feed walk rest items follow known = follow
follow_by (Err Memory) feed walk rest items follow known = absurd (true≢false known)

at_ok : (progress : Progress) (outcome : Result (Unit {0}) WalErr) (walk : Walk) → is_ok outcome ≡ true → HasCome progress outcome walk → IsAt progress walk
at_ok progress (Ok done) walk ok come = come
at_ok progress (Err why) walk ok come = absurd (false≢true ok)

-- the items that a block ends are taken
taken_begun : (mode : Mode) (version : Version) (old new : ReplayRun) (is_last : Bool) (start : Walk) (log : Log) (block : List ℕ) (from to : LogFeed) (result : Result Reading WalErr) → old.feed ≡ Some from → is_ok old.outcome ≡ true
    → TakesBlock mode version from old.progress log.number block is_last result to new.progress → new.outcome ≡ outcome_by result → new.feed ≡ feed_by result to → lacks_memory (outcome_by result) ≡ false → IsBegun mode version old false start log
    → IsBegun mode version new is_last start (record { number = log.number; bytes = log.bytes ++ block })
taken_begun mode version old new is_last start log block from to result feeds ok t outcome feed known b =
    let before : Walk = walked mode version log.number start b.seen in
    let at : IsAt old.progress before = at_ok old.progress old.outcome before ok b.come in
    let ahead : (rest : List ℕ) → (items : List Item) × (log_items log.number (log.bytes ++ rest) ≡ b.seen ++ items) × Follow (Some from) before rest items = λ rest.
    let given = b.ahead rest (λ last. absurd (false≢true last)) in (given.0, given.1, subst (λ (feed : Option LogFeed). Follow feed before rest given.0) feeds given.2) in
    let goes : before.passes ≡ false = (ahead []).2.1 in
    let behind : walked mode version log.number start (b.seen ++ t.seen) ≡ walked mode version log.number before t.seen = walked-append mode version log.number start b.seen t.seen in
    record {
      seen = b.seen ++ t.seen;
      known = λ more. filter-append (λ item. not (is_file_end item)) b.seen t.seen ∙ (λ i. b.known refl i ++ t.known more i);
      quiet = subst (IsQuiet is_last) (sym feed) (quiet_by is_last result to t.quiet);
      come = subst (λ (outcome : Result (Unit {0}) WalErr). HasCome new.progress outcome (walked mode version log.number start (b.seen ++ t.seen))) (sym outcome)
          (subst (HasCome new.progress (outcome_by result)) (sym behind) (come_by new.progress result (walked mode version log.number before t.seen) (t.come before at goes)));
      ahead = λ rest follows.
          let first = ahead (block ++ rest) in
          let second = t.ahead rest follows in (
            second.0,
            ap (log_items log.number) (append_assoc log.bytes block rest) ∙ first.1 ∙ ap (λ (items : List Item). b.seen ++ items) (first.2.0 ∙ second.1) ∙ sym (append_assoc b.seen t.seen second.0),
            subst (λ (feed : Option LogFeed). Follow feed (walked mode version log.number start (b.seen ++ t.seen)) rest second.0) (sym feed)
                (subst (λ (walk : Walk). Follow (feed_by result to) walk rest second.0) (sym behind) (follow_by result to (walked mode version log.number before t.seen) rest second.0 (second.2 before at goes) known)),
          );
    }

-- the items that a block of the log ends are taken
pub fed_block : (old new : ReplayRun) (is_last : Bool) (whole : List Log) (log : Log) (number : ℕ) (block : List ℕ) (from to : LogFeed) (result : Result Reading WalErr) → old.log ≡ Some number → old.feed ≡ Some from → is_ok old.outcome ≡ true
    → TakesBlock (mode_of old) (version_of old) from old.progress number block is_last result to new.progress → new.outcome ≡ outcome_by result → new.feed ≡ feed_by result to → new.log ≡ old.log → mode_of new ≡ mode_of old → version_of new ≡ version_of old
    → HasRead old false whole log → HasRead new is_last whole (record { number = log.number; bytes = log.bytes ++ block })
fed_block old new is_last whole log number block from to result begun feeds ok t outcome feed same_log same_mode same_version h =
    let same : log.number ≡ number = some_same log.number number (sym h.log ∙ begun) in
    let taken = subst (λ (number : ℕ). TakesBlock (mode_of old) (version_of old) from old.progress number block is_last result to new.progress) (sym same) t in
    let not_failed : lacks_memory old.outcome ≡ false = by_ok old.outcome ok in
    record {
      log = same_log ∙ h.log;
      come = λ known.
          let b = taken_begun (mode_of old) (version_of old) old new is_last (walk_logs (mode_of old) (version_of old) (map findings whole)) log block from to result feeds ok taken outcome feed (ap lacks_memory (sym outcome) ∙ known) (h.come not_failed) in
          subst (λ (mode : Mode). IsBegun mode (version_of new) new is_last (walk_logs mode (version_of new) (map findings whole)) (record { number = log.number; bytes = log.bytes ++ block })) (sym same_mode)
          (subst (λ (version : Version). IsBegun (mode_of old) version new is_last (walk_logs (mode_of old) version (map findings whole)) (record { number = log.number; bytes = log.bytes ++ block })) (sym same_version) b);
    }
  where
    some_same : (a b : ℕ) → Some a ≡ Some b → a ≡ b
    some_same a b is = cc

    by_ok : (outcome : Result (Unit {0}) WalErr) → is_ok outcome ≡ true → lacks_memory outcome ≡ false
    by_ok (Ok done) ok = refl
    by_ok (Err why) ok = absurd (false≢true ok)

-- ---- what a call hands in

handed-opened : (fed : Fed) (log : ℕ) (block : List ℕ) (is_last : Bool) → handed fed.whole (record { number = (opened fed.begun log).number; bytes = (opened fed.begun log).bytes ++ block }) is_last ≡ with_block fed log block is_last
handed-opened fed log block is_last = by fed.begun is_last
  where
    by : (begun : Option Log) (is_last : Bool) → handed fed.whole (record { number = (opened begun log).number; bytes = (opened begun log).bytes ++ block }) is_last ≡ with_block (record { whole = fed.whole; begun = begun }) log block is_last
    by None true = refl
    by None false = refl
    by (Some begun) true = refl
    by (Some begun) false = refl

-- a block was handed in
pub fed_call : (run : ReplayRun) (fed : Fed) (log : ℕ) (block : List ℕ) (is_last : Bool) → HasFed run (handed fed.whole (record { number = (opened fed.begun log).number; bytes = (opened fed.begun log).bytes ++ block }) is_last)
    → HasFed run (with_block fed log block is_last)
fed_call run fed log block is_last h = subst (HasFed run) (handed-opened fed log block is_last) h

-- what the call answers
pub call_so_far : (run : ReplayRun) (fed : Fed) (mode : Mode) (version : Version) → mode_of run ≡ mode → version_of run ≡ version → HasFed run fed → AnswersSoFar mode version fed run.outcome
call_so_far run fed mode version same_mode same_version h =
    subst (λ (mode : Mode). AnswersSoFar mode version fed run.outcome) same_mode (subst (λ (version : Version). AnswersSoFar (mode_of run) version fed run.outcome) same_version (so_far run fed h))

pub call_refused : (run : ReplayRun) (fed : Fed) (mode : Mode) (version : Version) → mode_of run ≡ mode → version_of run ≡ version → HasFed run fed → Refuses mode version fed run.outcome
call_refused run fed mode version same_mode same_version h =
    subst (λ (mode : Mode). Refuses mode version fed run.outcome) same_mode (subst (λ (version : Version). Refuses (mode_of run) version fed run.outcome) same_version (refuses_later run fed h))

-- ---- no log follows

no_begun : (begun : Option Log) → None ≡ option_map (λ (log : Log). log.number) begun → begun ≡ None
no_begun None is = refl
no_begun (Some log) is = absurd cc

come_whole : (run : ReplayRun) (fed : Fed) → run.log ≡ None → HasFed run fed → HasCome run.progress run.outcome (walk_logs (mode_of run) (version_of run) (map findings fed.whole))
come_whole run fed none h =
    subst (IsFed (mode_of run) (version_of run) run false (walk_logs (mode_of run) (version_of run) (map findings fed.whole))) (no_begun fed.begun (sym none ∙ h.log)) h.come

pub finished_ok : (run : ReplayRun) (fed : Fed) (done : Unit {0}) (result : Result Replayed WalErr) → run.log ≡ None → run.outcome ≡ Ok done → Finishes run.progress result → HasFed run fed → Replays (replay (mode_of run) (version_of run) fed.whole) result
finished_ok run fed done result none is finishes h =
    let walk : Walk = walk_logs (mode_of run) (version_of run) (map findings fed.whole) in
    answers_progress (mode_of run) (version_of run) fed.whole run.progress result refl (subst (λ (outcome : Result (Unit {0}) WalErr). HasCome run.progress outcome walk) is (come_whole run fed none h)) finishes

pub finished_err : (run : ReplayRun) (fed : Fed) (why : WalErr) → run.log ≡ None → run.outcome ≡ Err why → HasFed run fed → Replays (replay (mode_of run) (version_of run) fed.whole) (Err why)
finished_err run fed why none is h =
    let walk : Walk = walk_logs (mode_of run) (version_of run) (map findings fed.whole) in
    refused_kept (mode_of run) (version_of run) fed.whole run.progress why (subst (λ (outcome : Result (Unit {0}) WalErr). HasCome run.progress outcome walk) is (come_whole run fed none h))

pub finish_known : (run : ReplayRun) (done : Unit {0}) (result : Result Replayed WalErr) → run.outcome ≡ Ok done → Finishes run.progress result → lacks_memory result ≡ lacks_memory run.outcome
finish_known run done result is finishes = by result finishes ∙ ap lacks_memory (sym is)
  where
    by : (result : Result Replayed WalErr) → Finishes run.progress result → lacks_memory result ≡ false
    by (Ok replayed) finishes = refl
    by (Err why) finishes = ahead_is_known run.progress.version.now run.progress.stopped why finishes
