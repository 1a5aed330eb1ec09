-- What the manifest states.
use Rattle.std.specs.Prelude.{ℕ, List, [], ◌∷◌, ◌++◌}
use Rattle.rk_bytes.specs.Model.InternalKey.{bytewise_name}
use Rattle.rk_bytes.specs.Model.VersionEdit.{Field, NewFile, comparator, log_number, next_file, last_sequence, add_file}
use Rattle.rk_bytes.specs.Model.Drill.{drill_file}

-- what the edit states before the table
abbrev pub stated_numbers : ℕ → List Field
stated_numbers n = comparator bytewise_name ∷ log_number 5 ∷ next_file 7 ∷ last_sequence n ∷ []

-- the table as the manifest lists it, where it has this size
abbrev pub file_with_size : ℕ → ℕ → NewFile
file_with_size n size = record (drill_file n) { size = size }

-- the one edit of the manifest, where the table has this size
abbrev pub edit_with_size : ℕ → ℕ → List Field
edit_with_size n size = stated_numbers n ++ add_file (file_with_size n size) ∷ []
