-- The directory, whatever its table is.
use Rattle.std.specs.Prelude.{ℕ, List, [], ◌∷◌, length, None}
use Rattle.std.specs.FinMap.{from_entries}
use Rattle.rk_bytes.specs.Model.DiskImages.{Directory}
use Rattle.rk_bytes.specs.Model.FileNames.{current_name, current_text, log_name, manifest_name, table_name}
use Rattle.rk_bytes.specs.Model.Writers.{edit_bytes}
use Rattle.rk_bytes.specs.Model.WrittenLogs.{written_log}
use Rattle.rk_bytes.specs.Model.Drill.{drill_torn_log, drill_log}
use Rattle.rk_gen.specs.Edits.{edit_with_size}

-- the manifest, where the table has this size
abbrev pub manifest_with_size : ℕ → ℕ → List ℕ
manifest_with_size n size = written_log None (edit_bytes (edit_with_size n size) ∷ [])

-- the directory with this table
unfoldable pub directory_with : ℕ → List ℕ → Directory
directory_with n table =
    from_entries ((table_name 4, table) ∷ (log_name 5, drill_torn_log n) ∷ (log_name 6, drill_log n) ∷ (current_name, current_text 2)
    ∷ (manifest_name 2, manifest_with_size n (length table)) ∷ [])
