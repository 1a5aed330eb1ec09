-- Which records of write-ahead logs are replayed (RocksDB's wiki, "WAL Recovery Modes"; the recovery of logs in
-- db/db_impl/db_impl_open.cc). The exact cases of the four modes, the expected sequence number and when a
-- family is ahead of the logs are this project's own rules.
use Rattle.std.specs.Prelude.{◌≡◌, ℕ, ◌+◌, ◌==◌, Bool, true, false, not, ◌&&◌, List, [], ◌∷◌, ◌++◌, length, map, flat_map, take, filter, filter_map, find, fold, take_while, slice_get, nat_lt, nat_le, if◌then◌else◌, Option, Some, None, is_some, option_map, unwrap_or, Result, Ok, Err, replicate, codes, refl}
use Rattle.std.specs.List.{list_any, last_or}
use Rattle.rk_bytes.specs.declared.model.batch.BatchFault.{BatchFault}
use Rattle.rk_bytes.specs.declared.model.batch.BatchFault.TheVariants.{UnsupportedTag, WrongCount}
use Rattle.rk_bytes.specs.declared.model.key.Record.{Record}
use Rattle.rk_bytes.specs.declared.model.log.GapWhy.TheVariants.{Checksum}
use Rattle.rk_bytes.specs.declared.model.log.EndKind.TheVariants.{Clean, Torn as torn_end, Stale, Unsupported}
use Rattle.rk_bytes.specs.declared.model.manifest.FamilyState.{FamilyState}
use Rattle.rk_bytes.specs.declared.model.manifest.FileMeta.{FileMeta}
use Rattle.rk_bytes.specs.declared.model.manifest.Version.{Version}
use Rattle.rk_bytes.specs.declared.model.wal.Mode.{Mode}
use Rattle.rk_bytes.specs.declared.model.wal.Mode.TheVariants.{TolerateTail, Absolute, PointInTime, SkipAny}
use Rattle.rk_bytes.specs.declared.model.wal.LogWhat.{LogWhat}
use Rattle.rk_bytes.specs.declared.model.wal.LogWhat.TheVariants.{RecordType, Tag}
use Rattle.rk_bytes.specs.declared.model.wal.WalWhy.{WalWhy}
use Rattle.rk_bytes.specs.declared.model.wal.WalWhy.TheVariants.{Gap, Torn, Batch as bad_batch}
use Rattle.rk_bytes.specs.declared.model.wal.WalErr.{WalErr}
use Rattle.rk_bytes.specs.declared.model.wal.WalErr.TheVariants.{Corrupt, FamilyAhead, UnsupportedLog}
use Rattle.rk_bytes.specs.declared.model.key.Kind.TheVariants.{Value}
use Rattle.rk_bytes.specs.Model.Numbers.{fixed_of, prefixed_of, in_turn}
use Rattle.rk_bytes.specs.Model.Checksums.{pieces, crc_bit, crc_bits, crc_bytes, crc32c}
use Rattle.rk_bytes.specs.Model.LogMarks.{found, block_len, marks_from, fragment_found, blocks_marks, log_marks}
use Rattle.rk_bytes.specs.Model.LogItems.{Item, rec, gap, end, log_items}
use Rattle.rk_bytes.specs.Model.WriteBatch.{Batch, change, changes, change_count, batch_of}
use Rattle.rk_bytes.specs.Model.Manifest.{has_id}

-- a log's file
pub record Log : Type 0 where
  pub number : ℕ
  pub bytes : List ℕ

-- What the logs add: their records in order, the sequence number of the batch that is to come next, and the
-- log in which replay stopped.
pub record Replayed : Type 0 where
  pub records : List Record
  pub expected : ℕ
  pub stopped : Option ℕ

-- What an item of a log is to replay: a batch, damage with its place, something that isn't supported, the end
-- at an earlier life of the file, or the end of a file with nothing cut off.
pub data Finding : Type 0 where
  batch : Batch → Finding
  damage : WalWhy → ℕ → Finding
  unsupported : LogWhat → Finding
  stale_end : Finding
  clean_end : Finding

-- what a record at this place is, by how it reads as a batch
abbrev pub finding_of_record : ℕ → Result Batch BatchFault → Finding
finding_of_record place (Ok read) = batch read
finding_of_record place (Err (UnsupportedTag tag)) = unsupported (Tag tag)
finding_of_record place (Err why) = damage (bad_batch why) place

-- what an item is
abbrev pub finding : Item → Finding
finding (rec payload place) = finding_of_record place (batch_of payload)
finding (gap why place) = damage (Gap why) place
finding (end Clean place) = clean_end
finding (end torn_end place) = damage Torn place
finding (end Stale place) = stale_end
finding (end (Unsupported kind) place) = unsupported (RecordType kind)

-- an earlier life of the file begins here
abbrev pub is_stale : Finding → Bool
is_stale stale_end = true
is_stale _ = false

-- a log's number and what replay finds in it
pub record Findings : Type 0 where
  pub log : ℕ
  pub found : List Finding

-- what replay finds in a log's file
abbrev pub findings : Log → Findings
findings log = record { log = log.number; found = map finding (log_items log.number log.bytes) }

-- the log ends where an earlier life of its file begins
abbrev pub ends_stale : Log → Bool
ends_stale log = list_any is_stale (findings log).found

-- some of the logs, in their order
pub data IsPartOf : List Log → List Log → Type 0 where
  no_log : IsPartOf [] []
  taken : {log : Log} {part logs : List Log} → IsPartOf part logs → IsPartOf (log ∷ part) (log ∷ logs)
  left_out : {log : Log} {part logs : List Log} → IsPartOf part logs → IsPartOf part (log ∷ logs)

-- the mode refuses this damage
abbrev pub is_refused : Mode → WalWhy → Bool
is_refused TolerateTail Torn = false
is_refused TolerateTail why = true
is_refused Absolute why = true
is_refused PointInTime why = false
is_refused SkipAny why = false

-- replay in the mode stops here
abbrev pub is_stop : Mode → Finding → Bool
is_stop PointInTime (damage why place) = true
is_stop PointInTime stale_end = true
is_stop mode _ = false

-- what a log has before its first stop
abbrev pub front : Mode → Findings → List Finding
front mode log = take_while (λ one. not (is_stop mode one)) log.found

-- the batch, where it is one
abbrev pub batch_in : Finding → Option Batch
batch_in (batch read) = Some read
batch_in _ = None

-- the batches of a log that counts: those before its first stop
abbrev pub batches : Mode → Findings → List Batch
batches mode log = filter_map batch_in (front mode log)

-- Where replay stopped: in which log, and at what.
pub record Stop : Type 0 where
  pub log : ℕ
  pub at : Finding

-- the first stop in a log
abbrev pub stop_in : Mode → Findings → Option Stop
stop_in mode log = option_map (λ one. record { log = log.log; at = one }) (find (is_stop mode) log.found)

-- where replay of logs that count is stopped: in the last of them
abbrev pub stop_after : Mode → List Findings → Option Stop
stop_after mode logs = unwrap_or (last_or None (map (stop_in mode) logs)) None

-- the sequence number after a batch
abbrev pub next_sequence : Batch → ℕ
next_sequence read = read.sequence + change_count read.parts

-- the one that is expected after batches, each of which was reached
abbrev pub expected_after : ℕ → List Batch → ℕ
expected_after before read = unwrap_or (last_or None (map next_sequence read)) before

-- the one that is expected after logs that count: at first the one after the version's last
abbrev pub expected_in : Mode → Version → List Findings → ℕ
expected_in mode version logs = expected_after (unwrap_or version.last_sequence 0 + 1) (flat_map (batches mode) logs)

-- a log begins with a batch at the expected sequence number
abbrev pub goes_on : ℕ → Findings → Bool
goes_on expected log = list_any (λ read. read.sequence == expected) (filter_map batch_in (take 1 log.found))

-- Logs that count, and this one if it counts as well: each does, but where replay is stopped only one that goes on.
abbrev pub count_log : Mode → Version → List Findings → Findings → List Findings
count_log mode version before log =
    if is_some (stop_after mode before) && not (goes_on (expected_in mode version before) log) then before else before ++ log ∷ []

-- the logs that count
abbrev pub counted : Mode → Version → List Findings → List Findings
counted mode version logs = fold (count_log mode version) [] logs

-- a record of a live family that may have records in this log
abbrev pub is_wanted : Version → ℕ → Record → Bool
is_wanted version log r = list_any (λ live. has_id r.family live && nat_le live.log log) version.families

-- the records of a log that counts
abbrev pub admitted : Mode → Version → Findings → List Record
admitted mode version log = filter (is_wanted version log.log) (flat_map (λ read. changes read.parts) (batches mode log))

-- why a finding is refused
abbrev pub refusal : Mode → ℕ → Finding → Option WalErr
refusal mode log (damage why place) = if is_refused mode why then Some (Corrupt log place why) else None
refusal mode log (unsupported what) = Some (UnsupportedLog log what)
refusal mode log _ = None

-- the reasons for which a log that counts is refused, in the order of its items
abbrev pub refusals : Mode → Findings → List WalErr
refusals mode log = filter_map (refusal mode log.log) (front mode log)

-- The family has a table, and the log at which replay stopped is below its own.
abbrev pub is_ahead : ℕ → FamilyState → Bool
is_ahead log live = nat_lt log live.log && nat_lt 0 (length live.files)

-- The families that are ahead of a log in which replay stopped at damage, in rising id. At an earlier life of a
-- file none is.
abbrev pub ahead : Version → ℕ → Finding → List WalErr
ahead version log (damage why place) = map (λ live. FamilyAhead live.id log) (filter (is_ahead log) version.families)
ahead version log _ = []

-- the families that are ahead of where replay stopped
abbrev pub ahead_after : Version → Option Stop → List WalErr
ahead_after version None = []
ahead_after version (Some stop) = ahead version stop.log stop.at

-- what logs that count amount to
abbrev pub replay_counted : Mode → Version → List Findings → Result Replayed WalErr
replay_counted mode version logs = elim (slice_get (flat_map (refusals mode) logs ++ ahead_after version (stop_after mode logs)) 0) [
  | Some why ↦ Err why
  | None ↦ Ok (record { records = flat_map (admitted mode version) logs; expected = expected_in mode version logs; stopped = option_map (λ stop. stop.log) (stop_after mode logs) })
]

-- What is replayed of logs in rising number, over the version, or the first refusal.
unfoldable pub replay : Mode → Version → List Log → Result Replayed WalErr
replay mode version logs = replay_counted mode version (counted mode version (map findings logs))

-- a batch of one put, and a log's record with this stored sum
put_batch : ℕ → List ℕ → List ℕ → List ℕ
put_batch sequence key value = fixed_of 8 sequence ++ fixed_of 4 1 ++ 1 ∷ prefixed_of key ++ prefixed_of value

log_record : ℕ → List ℕ → List ℕ
log_record sum payload = fixed_of 4 sum ++ fixed_of 2 (length payload) ++ 1 ∷ payload

put_of : ℕ → List ℕ → List ℕ → Record
put_of sequence key value = record { family = 0; key = key; sequence = sequence; kind = Value; value = value }

-- the log 3 of a put of `a` at 1 and of one of `b` at 2, 48 bytes
two_puts : List ℕ
unfolding put_batch log_record
two_puts = log_record 0x19789fe9 (put_batch 1 (codes "a") (codes "1")) ++ log_record 0x7abc728f (put_batch 2 (codes "b") (codes "2"))

-- a version whose last sequence number is 0: the default family, and one that has a table and this log number
table_4 : FileMeta
table_4 = record { number = 4; level = 0; size = 9; smallest = []; largest = []; seqs = None }

two_families : ℕ → Version
unfolding table_4
two_families log = record {
  families = record { id = 0; name = codes "default"; log = 3; files = [] } ∷ record { id = 1; name = codes "one"; log = log; files = table_4 ∷ [] } ∷ [];
  log_seen = true;
  next_file = Some 9;
  last_sequence = Some 0;
  least_log = 0;
  greatest_family = 1;
  wals = [];
}

-- what is replayed, computed, and the same in the four modes
replay_in : Mode → Version → List Log → Result Replayed WalErr
unfolding replay log_marks blocks_marks marks_from fragment_found pieces found block_len crc32c crc_bytes crc_bits crc_bit batch_of in_turn
replay_in mode version logs = replay mode version logs

replays : Version → List Log → List (Result Replayed WalErr)
unfolding replay_in
replays version logs = map (λ mode. replay_in mode version logs) (TolerateTail ∷ Absolute ∷ PointInTime ∷ SkipAny ∷ [])

of_two_puts : replays (two_families 0) (record { number = 3; bytes = two_puts } ∷ [])
    ≡ replicate 4 (Ok (record { records = put_of 1 (codes "a") (codes "1") ∷ put_of 2 (codes "b") (codes "2") ∷ []; expected = 3; stopped = None }))
unfolding replays two_families table_4 two_puts put_batch log_record put_of
of_two_puts = refl

-- without the last byte
of_a_torn_end : replays (two_families 0) (record { number = 3; bytes = take 47 two_puts } ∷ [])
    ≡ Ok (record { records = put_of 1 (codes "a") (codes "1") ∷ []; expected = 2; stopped = None })
    ∷ Err (Corrupt 3 24 Torn)
    ∷ Ok (record { records = put_of 1 (codes "a") (codes "1") ∷ []; expected = 2; stopped = Some 3 })
    ∷ Ok (record { records = put_of 1 (codes "a") (codes "1") ∷ []; expected = 2; stopped = None }) ∷ []
unfolding replays two_families table_4 two_puts put_batch log_record put_of
of_a_torn_end = refl

-- what stands in log 5 and in log 7 below: a put of `a` at 1 and then a record with a wrong sum; a put of `b`
damaged_after_a : List ℕ
unfolding put_batch log_record
damaged_after_a = log_record 0x19789fe9 (put_batch 1 (codes "a") (codes "1")) ++ log_record 0 (put_batch 2 (codes "b") (codes "2"))

logs_5_and_7 : List ℕ → List Log
unfolding damaged_after_a
logs_5_and_7 later = record { number = 5; bytes = damaged_after_a } ∷ record { number = 7; bytes = later } ∷ []

-- Replay goes on in log 7 at the expected sequence number.
of_a_log_that_goes_on : replays (two_families 8) (logs_5_and_7 (log_record 0x7abc728f (put_batch 2 (codes "b") (codes "2"))))
    ≡ Err (Corrupt 5 24 (Gap Checksum)) ∷ Err (Corrupt 5 24 (Gap Checksum))
    ∷ replicate 2 (Ok (record { records = put_of 1 (codes "a") (codes "1") ∷ put_of 2 (codes "b") (codes "2") ∷ []; expected = 3; stopped = None }))
unfolding replays two_families table_4 logs_5_and_7 damaged_after_a put_batch log_record put_of
of_a_log_that_goes_on = refl

-- It doesn't at another one. Then the family with log number 8 is ahead of log 5, and one with log number 5 isn't.
of_a_log_that_waits : map (λ log. replay_in PointInTime (two_families log) (logs_5_and_7 (log_record 0x30a2356 (put_batch 3 (codes "b") (codes "2"))))) (8 ∷ 5 ∷ [])
    ≡ Err (FamilyAhead 1 5) ∷ Ok (record { records = put_of 1 (codes "a") (codes "1") ∷ []; expected = 2; stopped = Some 5 }) ∷ []
unfolding replay_in two_families table_4 logs_5_and_7 damaged_after_a put_batch log_record put_of
of_a_log_that_waits = refl

-- A batch that isn't reached may have a tag that isn't supported.
of_an_unsupported_tag : replays (two_families 5) (logs_5_and_7 (log_record 0x35e561cd (fixed_of 8 2 ++ fixed_of 4 0 ++ 9 ∷ [])))
    ≡ Err (Corrupt 5 24 (Gap Checksum)) ∷ Err (Corrupt 5 24 (Gap Checksum))
    ∷ Ok (record { records = put_of 1 (codes "a") (codes "1") ∷ []; expected = 2; stopped = Some 5 })
    ∷ Err (UnsupportedLog 7 (Tag 9)) ∷ []
unfolding replays two_families table_4 logs_5_and_7 damaged_after_a put_batch log_record put_of
of_an_unsupported_tag = refl

-- A batch without a change goes on as well.
of_a_batch_without_a_change : replay_in PointInTime (two_families 5) (logs_5_and_7 (log_record 0xe46c7ac (fixed_of 8 2 ++ fixed_of 4 0)))
    ≡ Ok (record { records = put_of 1 (codes "a") (codes "1") ∷ []; expected = 2; stopped = None })
unfolding replay_in two_families table_4 logs_5_and_7 damaged_after_a put_batch log_record put_of
of_a_batch_without_a_change = refl

-- a batch of three puts that states two
three_puts_stated_as_two : List ℕ
three_puts_stated_as_two = fixed_of 8 5 ++ fixed_of 4 2 ++ (1 ∷ 1 ∷ codes "a") ++ (1 ∷ codes "1") ++ (1 ∷ 1 ∷ codes "b") ++ (1 ∷ codes "2") ++ (1 ∷ 1 ∷ codes "c") ++ (1 ∷ codes "3")

of_a_wrong_count : replays (two_families 0) (record { number = 3; bytes = log_record 0x1575268e three_puts_stated_as_two } ∷ [])
    ≡ Err (Corrupt 3 0 (bad_batch (WrongCount 2 3))) ∷ Err (Corrupt 3 0 (bad_batch (WrongCount 2 3)))
    ∷ Ok (record { records = []; expected = 1; stopped = Some 3 }) ∷ Ok (record { records = []; expected = 1; stopped = None }) ∷ []
unfolding replays two_families table_4 three_puts_stated_as_two log_record
of_a_wrong_count = refl

-- A log below its family's number adds no record, and is replayed all the same.
of_a_log_of_older_records : replay_in Absolute (two_families 0) (record { number = 2; bytes = two_puts } ∷ []) ≡ Ok (record { records = []; expected = 3; stopped = None })
unfolding replay_in two_families table_4 two_puts put_batch log_record
of_a_log_of_older_records = refl

-- what is found in three logs, each with one put, of which the first ends at an earlier life of its file
stale_logs : List Findings
unfolding put_of
stale_logs =
    record { log = 5; found = batch (record { sequence = 1; parts = change 12 (put_of 1 (codes "a") []) ∷ [] }) ∷ stale_end ∷ [] }
    ∷ record { log = 6; found = batch (record { sequence = 9; parts = change 12 (put_of 9 (codes "b") []) ∷ [] }) ∷ clean_end ∷ [] }
    ∷ record { log = 7; found = batch (record { sequence = 2; parts = change 12 (put_of 2 (codes "c") []) ∷ [] }) ∷ clean_end ∷ [] } ∷ []

-- An earlier life of log 5 stops replay, and no family is ahead of it. Log 6 doesn't go on, and log 7 does.
of_stale_ends : map (λ logs. replay_counted PointInTime (two_families 8) (counted PointInTime (two_families 8) logs)) (take 1 stale_logs ∷ take 2 stale_logs ∷ stale_logs ∷ [])
    ≡ replicate 2 (Ok (record { records = put_of 1 (codes "a") [] ∷ []; expected = 2; stopped = Some 5 }))
    ++ Ok (record { records = put_of 1 (codes "a") [] ∷ put_of 2 (codes "c") [] ∷ []; expected = 3; stopped = None }) ∷ []
unfolding two_families table_4 stale_logs put_of
of_stale_ends = refl
