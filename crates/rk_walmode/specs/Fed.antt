-- What contracts see of logs that are handed in block by block, and of what replay answers.
use Rattle.std.specs.Prelude.{◌≡◌, ℕ, Bool, true, false, not, List, [], ◌∷◌, ◌++◌, map, flat_map, filter, slice_get, Option, Some, None, Result, Ok, Err}
use Rattle.rk_bytes.specs.declared.model.log.EndKind.TheVariants.{Clean, Torn, Stale, Unsupported}
use Rattle.rk_bytes.specs.declared.model.manifest.Version.{Version}
use Rattle.rk_bytes.specs.declared.model.wal.Mode.{Mode}
use Rattle.rk_bytes.specs.declared.model.wal.WalErr.{WalErr}
use Rattle.rk_bytes.specs.declared.model.wal.WalErr.TheVariants.{Corrupt, FamilyAhead, UnsupportedLog, Memory}
use Rattle.rk_bytes.specs.Model.LogItems.{Item, rec, gap, end, log_items}
use Rattle.rk_bytes.specs.Model.Replay.{Log, Findings, finding, findings, counted, refusals, replay}
use Rattle.rk_bytes.specs.Model.Replay as definition
use Rattle.rk_walmode.specs.declared.file.LogFile.{LogFile}
use Rattle.rk_walmode.specs.declared.outcome.Replayed.{Replayed}

-- The logs that were handed in whole, in order, and the one of which more may come.
pub record Fed : Type 0 where
  pub whole : List Log
  pub begun : Option Log

-- a block more of the log that is begun, or the first one of the log with this number
abbrev pub joined : Option Log → ℕ → List ℕ → Log
joined None log block = record { number = log; bytes = block }
joined (Some begun) log block = record { number = begun.number; bytes = begun.bytes ++ block }

-- a block more, with which the log's file ends or not
abbrev pub with_block : Fed → ℕ → List ℕ → Bool → Fed
with_block fed log block true = record { whole = fed.whole ++ joined fed.begun log block ∷ []; begun = None }
with_block fed log block false = record { whole = fed.whole; begun = Some (joined fed.begun log block) }

-- the end of a file that may be longer still
abbrev pub is_file_end : Item → Bool
is_file_end (rec payload place) = false
is_file_end (gap why place) = false
is_file_end (end Clean place) = true
is_file_end (end Torn place) = true
is_file_end (end Stale place) = false
is_file_end (end (Unsupported kind) place) = false

-- the items that whole blocks of a log end, whatever follows them
abbrev pub items_so_far : Log → List Item
items_so_far log = filter (λ item. not (is_file_end item)) (log_items log.number log.bytes)

-- what is found so far in the log that is begun, if one is
abbrev pub found_so_far : Option Log → List Findings
found_so_far None = []
found_so_far (Some log) = record { log = log.number; found = map finding (items_so_far log) } ∷ []

-- the first refusal at an item, where only what was handed in is known
abbrev pub refused_so_far : Mode → Version → Fed → Option WalErr
refused_so_far mode version fed = slice_get (flat_map (refusals mode) (counted mode version (map findings fed.whole ++ found_so_far fed.begun))) 0

-- The answer to what was handed in is that refusal, or that there is none, or want of memory.
abbrev pub AnswersSoFar : Mode → Version → Fed → Result (Unit {0}) WalErr → Type 0
AnswersSoFar mode version fed (Ok done) = refused_so_far mode version fed ≡ None
AnswersSoFar mode version fed (Err Memory) = Unit {0}
AnswersSoFar mode version fed (Err why) = refused_so_far mode version fed ≡ Some why

-- the log that is begun, if one is, with what may follow in it
abbrev pub gone_on : Option Log → List ℕ → List Log
gone_on None more = []
gone_on (Some begun) more = record { number = begun.number; bytes = begun.bytes ++ more } ∷ []

-- what replay comes to where the answer is a refusal, whatever follows
abbrev pub Refuses : Mode → Version → Fed → Result (Unit {0}) WalErr → Type 0
Refuses mode version fed (Ok done) = Unit {0}
Refuses mode version fed (Err Memory) = Unit {0}
Refuses mode version fed (Err why) = (more : List ℕ) (later : List Log) → replay mode version (fed.whole ++ gone_on fed.begun more ++ later) ≡ Err why

-- what was replayed, as the definition has it
abbrev pub replayed_of : Replayed → definition.Replayed
replayed_of replayed = record { records = replayed.records; expected = replayed.expected; stopped = replayed.stopped }

-- The answer is what is wanted of replay, or want of memory.
abbrev pub Replays : Result definition.Replayed WalErr → Result Replayed WalErr → Type 0
Replays wanted (Ok replayed) = wanted ≡ Ok (replayed_of replayed)
Replays wanted (Err Memory) = Unit {0}
Replays wanted (Err why) = wanted ≡ Err why

-- a log's file, as the definition has it
abbrev pub log_of : LogFile → Log
log_of file = record { number = file.number; bytes = file.bytes }

-- the answer is want of memory
abbrev pub lacks_memory : {T : Type 0} → Result T WalErr → Bool
lacks_memory (Ok done) = false
lacks_memory (Err (Corrupt log place why)) = false
lacks_memory (Err (FamilyAhead family log)) = false
lacks_memory (Err (UnsupportedLog log what)) = false
lacks_memory (Err Memory) = true
