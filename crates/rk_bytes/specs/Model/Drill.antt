-- The directory that `drill` makes and repairs (this project's own rule): one table, and two logs, of which
-- the first lacks its last byte.
use Rattle.std.specs.Prelude.{ℕ, ◌+◌, ◌-◌, ◌*◌, false, List, [], ◌∷◌, length, map, take, reverse, Some, None, codes}
use Rattle.std.specs.List.{range_with_len}
use Rattle.std.specs.FinMap.{from_entries}
use Rattle.rk_bytes.specs.declared.model.key.Kind.TheVariants.{Value}
use Rattle.rk_bytes.specs.declared.model.key.Record.{Record}
use Rattle.rk_bytes.specs.Model.DiskImages.{Directory}
use Rattle.rk_bytes.specs.Model.FileNames.{current_name, current_text, log_name, manifest_name, table_name}
use Rattle.rk_bytes.specs.Model.InternalKey.{bytewise_name, internal_key}
use Rattle.rk_bytes.specs.Model.Numbers.{fixed_of}
use Rattle.rk_bytes.specs.Model.VersionEdit.{Field, NewFile, comparator, log_number, next_file, last_sequence, add_file}
use Rattle.rk_bytes.specs.Model.Writers.{TableContents, batch_bytes, edit_bytes, table_bytes}
use Rattle.rk_bytes.specs.Model.WrittenLogs.{written_log}

-- the key with a number: the number in 8 bytes, the most significant first
abbrev pub drill_key : ℕ → List ℕ
drill_key i = reverse (fixed_of 8 i)

-- the value with a number: its product with a constant modulo 2 ^ 64, in the same form
abbrev pub drill_value : ℕ → List ℕ
drill_value i = reverse (fixed_of 8 (i * 2654435761))

-- a put of a key and a value, each by its number, at a sequence number
abbrev pub drill_put : ℕ → ℕ → ℕ → Record
drill_put sequence i j = record { family = 0; key = drill_key i; sequence = sequence; kind = Value; value = drill_value j }

-- the numbers from 1 to n
abbrev pub up_to : ℕ → List ℕ
up_to n = range_with_len 1 n

-- the table: each key with its own value, at the sequence number that is its own number
abbrev pub drill_contents : ℕ → TableContents
drill_contents n = record { family = 0; family_name = codes "default"; records = map (λ i. drill_put i i i) (up_to n); ranges = [] }

-- the table's bytes
unfoldable pub drill_table : ℕ → List ℕ
drill_table n = table_bytes false (drill_contents n)

-- the table as the manifest lists it
abbrev pub drill_file : ℕ → NewFile
drill_file n = record {
  level = 0;
  number = 4;
  size = length (drill_table n);
  smallest = internal_key (drill_key 1) 1 Value;
  largest = internal_key (drill_key n) n Value;
  seqs = Some (record { least = 1; greatest = n });
}

-- the one edit of the manifest
abbrev pub drill_edit : ℕ → List Field
drill_edit n = comparator bytewise_name ∷ log_number 5 ∷ next_file 7 ∷ last_sequence n ∷ add_file (drill_file n) ∷ []

-- the manifest
unfoldable pub drill_manifest : ℕ → List ℕ
drill_manifest n = written_log None (edit_bytes (drill_edit n) ∷ [])

-- a log of one batch for each of these puts
abbrev pub log_of_puts : List Record → List ℕ
log_of_puts puts = written_log None (map (λ put. batch_bytes put.sequence (put ∷ [])) puts)

-- the first log puts n further keys, each with its own value, and lacks its last byte
unfoldable pub drill_torn_log : ℕ → List ℕ
drill_torn_log n = let log = log_of_puts (map (λ j. drill_put (n + j) (n + j) (n + j)) (up_to n)) in take (length log - 1) log

-- the second log puts later values under the table's keys
unfoldable pub drill_log : ℕ → List ℕ
drill_log n = log_of_puts (map (λ j. drill_put (2 * n + j) j (2 * n + j)) (up_to n))

-- the files, by rising name
abbrev pub drill_files : ℕ → List (List ℕ × List ℕ)
drill_files n =
    (table_name 4, drill_table n) ∷ (log_name 5, drill_torn_log n) ∷ (log_name 6, drill_log n) ∷ (current_name, current_text 2)
    ∷ (manifest_name 2, drill_manifest n) ∷ []

-- the directory
unfoldable pub drill_directory : ℕ → Directory
drill_directory n = from_entries (drill_files n)
