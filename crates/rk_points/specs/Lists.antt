-- The files that edits add, and those that families have at points.
use Rattle.std.specs.Prelude.{ℕ, List, [], map, filter_map, nat_lt, if◌then◌else◌}
use Rattle.rk_bytes.specs.declared.model.manifest.FileMeta.{FileMeta}
use Rattle.rk_bytes.specs.declared.model.view.Point.{Point}
use Rattle.rk_bytes.specs.Model.VersionEdit.{Field, added_in}
use Rattle.rk_bytes.specs.Model.Manifest.{ManifestUnit, file_meta}
use Rattle.rk_bytes.specs.Model.BestEfforts.{files_at}

-- the files that an edit adds, in order
abbrev pub files_in : List Field → List FileMeta
files_in edit = map file_meta (filter_map added_in edit)

-- the files of a point's family there, if it is at fewer units than these, and else none yet
abbrev pub files_before : List ManifestUnit → ℕ → Point → List FileMeta
files_before units at point = if nat_lt point.at at then files_at units point.family point.at else []
