-- Which directories a repair that is stopped anywhere may leave, and disks that never hold another (this
-- project's own rule). Directories are compared alone: nothing here speaks of the steps of a repair.
use Rattle.std.specs.Prelude.{◌≡◌, ◌⊎◌, ℕ, Bool, true, false, IsTrue, List, [], ◌∷◌, map, Some, None, Result, Ok, Err, Contains, codes, refl}
use Rattle.std.specs.List.{AllByRecursion}
use Rattle.std.specs.FinMap.{get, from_entries, get-from_entries}
use Rattle.std.specs.Cmp.Lexicographic.{nat_list_cmp_total}
use Rattle.std.specs.Fmt.{digits}
use Rattle.rk_bytes.specs.declared.model.key.Record.{Record}
use Rattle.rk_bytes.specs.declared.model.name.FileName.{FileName}
use Rattle.rk_bytes.specs.declared.model.name.FileName.TheVariants.{Current, Log, Table, Temp}
use Rattle.rk_bytes.specs.declared.model.open.OpenErr.{OpenErr}
use Rattle.rk_bytes.specs.declared.model.wal.Mode.{Mode}
use Rattle.rk_bytes.specs.Model.DiskImages.{Directory, DiskState, IsImage, unsynced}
use Rattle.rk_bytes.specs.Model.FileNames.{name_of, lost_name}
use Rattle.rk_bytes.specs.Model.KeyView.{State}
use Rattle.rk_bytes.specs.Model.Opening.{open_directory}
use Rattle.rk_bytes.specs.Model.BestEfforts.{best_directory}
use Rattle.rk_bytes.specs.Model.Salvage.{refuses_file, salvage_families, salvage_records, remainder, IsSalvage}

-- the state that an answer has, or its refusal
abbrev pub state_in : {A : Type 0} → (A → State) → Result A OpenErr → Result State OpenErr
state_in state_of (Ok opened) = Ok (state_of opened)
state_in state_of (Err why) = Err why

-- what the directory is opened to in a mode: a state or a refusal
abbrev pub opened_state : Directory → Mode → Result State OpenErr
opened_state d mode = state_in (λ opened. opened.state) (open_directory mode d)

-- what it is opened to by best efforts
abbrev pub best_state : Directory → Result State OpenErr
best_state d = state_in (λ best. best.state) (best_directory d)

-- the answer is a state, and it is the salvage of the directory
abbrev pub GivesSalvage : Result State OpenErr → Directory → Type 0
GivesSalvage answer d = (state : State) × (answer ≡ Ok state) × IsSalvage state d

-- x is opened as d is in all modes, or to the salvage of d in all modes
abbrev pub OpensAlike : Directory → Directory → Type 0
OpensAlike x d = ((mode : Mode) → opened_state x mode ≡ opened_state d mode) ⊎ ((mode : Mode) → GivesSalvage (opened_state x mode) d)

-- so it is by best efforts
abbrev pub BestAlike : Directory → Directory → Type 0
BestAlike x d = (best_directory x ≡ best_directory d) ⊎ GivesSalvage (best_state x) d

-- a name of a file that descent says nothing of: `CURRENT`, and temporary files
abbrev pub may_go : FileName → Bool
may_go Current = true
may_go (Temp n) = true
may_go _ = false

-- a name of a file that may be moved: of a log, and of a table
abbrev pub may_move : FileName → Bool
may_move (Log n) = true
may_move (Table n) = true
may_move _ = false

-- A file of d stands in x below `lost/`, under a name that d doesn't have.
pub record HasMoved (x d : Directory) (name bytes : List ℕ) : Type 0 where
  pub may : IsTrue (may_move (name_of name))
  pub tried : ℕ
  pub free : get d (lost_name name tried) ≡ None
  pub is : get x (lost_name name tried) ≡ Some bytes

-- A file of d is still there in x: under its name, or moved.
abbrev pub IsStillThere : Directory → Directory → List ℕ → List ℕ → Type 0
IsStillThere x d name bytes = (get x name ≡ Some bytes) ⊎ HasMoved x d name bytes

-- A directory x descends from a directory d: no table and no log of x is refused, and it has the salvage of d,
-- with a remainder that is part of that of d; it is opened in all modes as d is, or to the salvage of d in
-- all; so it is by best efforts; and it has each file of d, under its name or below `lost/`.
pub record Descends (x d : Directory) : Type 0 where
  pub readable : refuses_file x ≡ false
  pub families : salvage_families x ≡ salvage_families d
  pub records : salvage_records x ≡ salvage_records d
  pub remainder_of : (r : Record) → Contains (remainder x) r → Contains (remainder d) r
  pub opens : OpensAlike x d
  pub best : BestAlike x d
  pub files : (name bytes : List ℕ) → get d name ≡ Some bytes → may_go (name_of name) ≡ false → IsStillThere x d name bytes

-- the name of a temporary file
abbrev pub is_temporary : FileName → Bool
is_temporary (Temp n) = true
is_temporary _ = false

-- A disk is ready for a directory: each of its images descends from it, and only temporary files are unsynced.
pub record IsReady (disk : DiskState) (d : Directory) : Type 0 where
  pub images : (image : Directory) → IsImage disk image → Descends image d
  pub unsynced_names : AllByRecursion (λ name. IsTrue (is_temporary (name_of name))) (unsynced disk)

-- names of each kind
some_names : List (List ℕ)
some_names = codes "000003.log" ∷ codes "000004.sst" ∷ codes "MANIFEST-000002" ∷ codes "000005.dbtmp" ∷ codes "CURRENT" ∷ codes "lost/000003.log" ∷ codes "IDENTITY" ∷ []

logs_and_tables_may_move : map (λ name. may_move (name_of name)) some_names ≡ true ∷ true ∷ false ∷ false ∷ false ∷ false ∷ false ∷ []
unfolding some_names name_of digits
logs_and_tables_may_move = refl

current_and_temporary_files_may_go : map (λ name. may_go (name_of name)) some_names ≡ false ∷ false ∷ false ∷ true ∷ true ∷ false ∷ false ∷ []
unfolding some_names name_of digits
current_and_temporary_files_may_go = refl

-- A log that was moved while the first name below `lost/` was taken.
log_that_moved : HasMoved
    (from_entries ((codes "lost/000003.log", 2 ∷ []) ∷ (codes "lost/000003.log.1", 1 ∷ []) ∷ []))
    (from_entries ((codes "lost/000003.log", 2 ∷ []) ∷ (codes "000003.log", 1 ∷ []) ∷ []))
    (codes "000003.log") (1 ∷ [])
unfolding name_of digits
log_that_moved = record {
  may = refl;
  tried = 1;
  free = get-from_entries nat_list_cmp_total ((codes "lost/000003.log", 2 ∷ []) ∷ (codes "000003.log", 1 ∷ []) ∷ []) (codes "lost/000003.log.1");
  is = get-from_entries nat_list_cmp_total ((codes "lost/000003.log", 2 ∷ []) ∷ (codes "lost/000003.log.1", 1 ∷ []) ∷ []) (codes "lost/000003.log.1");
}
