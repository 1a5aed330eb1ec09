-- What families are while the units of a manifest are applied, edit by edit.
use Rattle.std.specs.Prelude.{◌≡◌, ℕ, ◌⊎◌, Bool, true, false, not, ◌&&◌, List, [], ◌∷◌, ◌++◌, length, filter, filter_map, find, drop, nat_lt, nat_eq, ◌==◌, if◌then◌else◌, unwrap_or}
use Rattle.std.specs.List.{list_any}
use Rattle.rk_bytes.specs.declared.model.manifest.FileMeta.{FileMeta}
use Rattle.rk_bytes.specs.declared.model.manifest.FamilyState.{FamilyState}
use Rattle.rk_bytes.specs.Model.VersionEdit.{Field, NewFile, deleted_in, added_in, drops_family}
use Rattle.rk_bytes.specs.Model.Manifest.{has_id, has_number, edit_family}
use Rattle.rk_bytes.specs.Model.BestEfforts.{answer_for}
use Rattle.rk_version.specs.Keyed.{put}
use Rattle.rk_points.specs.declared.course.Course.{Course}
use Rattle.rk_points.specs.declared.course.Turn.{Turn}
use Rattle.rk_points.specs.declared.tally.Tally.{Tally}
use Rattle.rk_points.specs.declared.walk.Walk.{Walk}

-- no file is broken
abbrev pub none_broken : List ℕ → Bool
none_broken broken = nat_eq (length broken) 0

-- the broken files without one that is deleted
abbrev pub without : ℕ → List ℕ → List ℕ
without number broken = filter (λ other. not (other == number)) broken

-- without all of them
abbrev pub without_all : List (ℕ × ℕ) → List ℕ → List ℕ
without_all [] broken = broken
without_all (deleted ∷ more) broken = without_all more (without deleted.1 broken)

-- the next answer, and false where there is none
abbrev pub next_answer : List Bool → Bool
next_answer [] = false
next_answer (told ∷ answers) = told

-- the broken files with an added one, whose answer this is
abbrev pub with_answer : Bool → ℕ → List ℕ → List ℕ
with_answer told number broken = if told then broken else put (λ number. number) number broken

-- the broken files with all that are added, whose answers come next
abbrev pub with_all : List NewFile → List Bool → List ℕ → List ℕ
with_all [] answers broken = broken
with_all (new ∷ more) answers broken = with_all more (drop 1 answers) (with_answer (next_answer answers) new.number broken)

-- the answers behind those for added files
abbrev pub answers_after : List NewFile → List Bool → List Bool
answers_after [] answers = answers
answers_after (new ∷ more) answers = answers_after more (drop 1 answers)

-- all turns of a tally
abbrev pub turns_of : Tally → List Turn
turns_of tally = tally.turns ++ tally.now ∷ []

-- the course that a tally comes to
abbrev pub course_of : Tally → Course
course_of tally = record { family = tally.family; turns = turns_of tally }

-- the tally of a family that no edit spoke of
abbrev pub blank : ℕ → Tally
blank id = record { family = id; turns = []; now = record { at = 0; live = false; whole = true }; broken = [] }

-- the tally of the default family before the first unit
abbrev pub default_tally : Tally
default_tally = record { family = 0; turns = []; now = record { at = 0; live = true; whole = true }; broken = [] }

-- the tally of the family with this id
abbrev pub tally_of : ℕ → List Tally → Tally
tally_of id tallies = unwrap_or (find (λ tally. tally.family == id) tallies) (blank id)

-- the tally with its last turn at so many units
abbrev pub turned : ℕ → Bool → Tally → Tally
turned at live tally = record tally {
  turns = if nat_lt tally.now.at at then tally.turns ++ tally.now ∷ [] else tally.turns;
  now = record { at = at; live = live; whole = none_broken tally.broken };
}

-- The later tally says what the family is at so many units: by its last turn, or by a turn there.
abbrev pub Settles : ℕ → Bool → Tally → Tally → Type 0
Settles at live old new = ((old.now.live ≡ live) × (old.now.whole ≡ none_broken old.broken) × (new ≡ old)) ⊎ (new ≡ turned at live old)

-- the tally before its turn, where its family is dropped, and where it isn't
abbrev pub counted : Bool → List Field → List Bool → Tally → Tally
counted drops edit answers tally = record tally { broken = if drops then [] else with_all (filter_map added_in edit) answers (without_all (filter_map deleted_in edit) tally.broken) }

-- The edit is walked over: the tally of its family counts it, the others stay, and the answers for the files that
-- it adds are behind.
pub record WalksEdit (at : ℕ) (edit : List Field) (old new : Walk) : Type 0 where
  pub answers : new.left.now ≡ answers_after (filter_map added_in edit) old.left.now
  pub own : Settles at (not (list_any drops_family edit)) (counted (list_any drops_family edit) edit old.left.now (tally_of (edit_family edit) old.tallies)) (tally_of (edit_family edit) new.tallies)
  pub others : (id : ℕ) → (id == edit_family edit) ≡ false → tally_of id new.tallies ≡ tally_of id old.tallies

-- the family is live
abbrev pub lives : ℕ → List FamilyState → Bool
lives id families = list_any (has_id id) families

-- the family has a file with this number
abbrev pub holds : ℕ → ℕ → List FamilyState → Bool
holds id number families = list_any (λ live. has_id id live && list_any (has_number number) live.files) families

-- added files, each with its answer
abbrev pub Asked : Type 0
Asked = List ((FileMeta × Bool) × Bool)

-- these are the numbers of the family's files whose answer is false
abbrev pub Marks : Asked → List FamilyState → ℕ → List ℕ → Type 0
Marks asked families id broken = (number : ℕ) → list_any (λ other. other == number) broken ≡ (holds id number families && not (answer_for asked number))
