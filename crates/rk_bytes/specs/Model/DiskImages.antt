-- A disk over time: the names and the files on it, which of them a stop of the machine may undo, and what is
-- then left. The counts of faults, too. All of it is this project's own rule.
use Rattle.std.specs.Prelude.{◌≡◌, ◌⊎◌, ℕ, ◌+◌, ◌-◌, ◌^◌, ◌≤◌, min, Bool, true, false, not, T, IsTrue, List, [], ◌∷◌, ◌++◌, length, map, take, drop, get_or, slice_set, Option, Some, None, option_map, codes, refl}
use mathlib.Core.Path.{subst, sym}
use Rattle.std.specs.List.{AllByRecursion, AllZip, Contains, enumerate_from, filter}
use Rattle.std.specs.Ordering.{nat_cmp, eq_by_cmp}
use Rattle.std.specs.Cmp.Lexicographic.{slice_cmp}
use Rattle.std.specs.FinMap.{FinMap, entries, from_entries}
use Rattle.std.specs.FinMap.Entries.{find, put, where_key}

-- a finite map from the files' names to their bytes
abbrev pub Directory : Type 0
Directory = FinMap (slice_cmp nat_cmp) (List ℕ)

-- the bytes that a read of n bytes at an offset gives: fewer where the file ends before
abbrev pub part_of_file : ℕ → ℕ → List ℕ → List ℕ
part_of_file at n bytes = take n (drop at bytes)

-- the names in their order, each with the number of the file that it leads to
abbrev pub Names : Type 0
Names = List (List ℕ × ℕ)

-- A change of names: a new file gets a name, a file goes from one name to another, a name is taken away.
pub data NameChange : Type 0 where
  made : List ℕ → ℕ → NameChange
  renamed : List ℕ → List ℕ → NameChange
  removed : List ℕ → NameChange

-- a file's bytes, and whether a sync came after they were written
pub record File : Type 0 where
  pub bytes : List ℕ
  pub synced : Bool

abbrev pub synced_file : List ℕ → File
synced_file bytes = record { bytes = bytes; synced = true }

abbrev pub unsynced_file : List ℕ → File
unsynced_file bytes = record { bytes = bytes; synced = false }

-- A disk at a moment: the names as a stop can't undo them, the changes of names since then, in order, and the
-- files, where a file's number is its place.
pub record DiskState : Type 0 where
  pub stable : Names
  pub pending : List NameChange
  pub files : List File

-- the number of the file that a name leads to
abbrev pub file_at : List ℕ → Names → Option ℕ
file_at name names = find (slice_cmp nat_cmp) name names

-- the names with a file under one of them, whether or not it was there
abbrev pub with_name : List ℕ → ℕ → Names → Names
with_name name number names = put (slice_cmp nat_cmp) name number names

-- the names without one of them
abbrev pub without : List ℕ → Names → Names
without name names = where_key (slice_cmp nat_cmp) (λ other. not (eq_by_cmp (slice_cmp nat_cmp) name other)) names

-- the names after a file, if there is one, went from one name to another
abbrev moved : List ℕ → List ℕ → Option ℕ → Names → Names
moved from to None names = names
moved from to (Some number) names = with_name to number (without from names)

-- the names after a change, which does nothing where its source is absent
abbrev pub after_change : NameChange → Names → Names
after_change (made name number) names = with_name name number names
after_change (renamed from to) names = moved from to (file_at from names) names
after_change (removed name) names = without name names

-- the names after a list of changes, in its order
abbrev pub after_changes : List NameChange → Names → Names
after_changes [] names = names
after_changes (change ∷ changes) names = after_changes changes (after_change change names)

-- the names that the disk has now: all changes are applied
abbrev pub names_now : DiskState → Names
names_now state = after_changes state.pending state.stable

-- the directory of these names, where each file holds the bytes that stand in its place of a list
unfoldable pub directory : Names → List (List ℕ) → Directory
directory names bytes = from_entries (map (λ entry. (entry.0, get_or bytes entry.1 [])) names)

-- what the disk reads as: all changes of names are applied, and each file holds its own bytes
unfoldable pub contents : DiskState → Directory
contents state = directory (names_now state) (map (λ file. file.bytes) state.files)

-- the first list is the second one with some of its changes left out, maybe none
pub data IsSublist : List NameChange → List NameChange → Type 0 where
  nothing : IsSublist [] []
  kept : {change : NameChange} {part whole : List NameChange} → IsSublist part whole → IsSublist (change ∷ part) (change ∷ whole)
  left_out : {change : NameChange} {part whole : List NameChange} → IsSublist part whole → IsSublist part (change ∷ whole)

-- Files hold these bytes after a stop: one that is synced its own, another any.
abbrev pub Survive : List File → List (List ℕ) → Type 0
Survive files bytes = AllZip (λ file after. IsTrue file.synced → after ≡ file.bytes) files bytes

-- A stop of the machine can leave this directory: some of the pending changes of names are applied, in their
-- order, and the files hold what a stop leaves in them.
pub record IsImage (state : DiskState) (image : Directory) : Type 0 where
  pub changes : List NameChange
  pub bytes : List (List ℕ)
  pub some : IsSublist changes state.pending
  pub survive : Survive state.files bytes
  pub is : image ≡ directory (after_changes changes state.stable) bytes

-- whether the file of this number is synced; a number that no file has counts as one
abbrev pub is_synced : DiskState → ℕ → Bool
is_synced state number = get_or (map (λ file. file.synced) state.files) number true

-- the names of the files that aren't synced, in their order
unfoldable pub unsynced : DiskState → List (List ℕ)
unsynced state = map (λ entry. entry.0) (filter (λ entry. not (is_synced state entry.1)) (names_now state))

-- no change of names is pending, and each name leads to a synced file
pub record IsAtRest (state : DiskState) : Type 0 where
  pub settled : state.pending ≡ []
  pub synced : AllByRecursion (λ entry. IsTrue (is_synced state entry.1)) state.stable

-- a disk at rest with these files
unfoldable pub resting : Directory → DiskState
resting files =
    record {
      stable = map (λ entry. (entry.1.0, entry.0)) (enumerate_from 0 (entries files));
      pending = [];
      files = map (λ entry. synced_file entry.1) (entries files);
    }

-- a file of its own for a name that leads to none, and other bytes for the file that there is
abbrev with_bytes : List ℕ → List ℕ → Option ℕ → DiskState → DiskState
with_bytes name bytes None state = record state { pending = state.pending ++ made name (length state.files) ∷ []; files = state.files ++ unsynced_file bytes ∷ [] }
with_bytes name bytes (Some number) state = record state { files = slice_set state.files number (unsynced_file bytes) }

-- after a file was made under a name, or the one there replaced, with these bytes
unfoldable pub written : List ℕ → List ℕ → DiskState → DiskState
written name bytes state = with_bytes name bytes (file_at name (names_now state)) state

-- the files, where the one of a number is synced
abbrev with_synced : Option ℕ → DiskState → DiskState
with_synced None state = state
with_synced (Some number) state = record state { files = slice_set state.files number (record (get_or state.files number (unsynced_file [])) { synced = true }) }

-- after the file of a name was synced
unfoldable pub synced_name : List ℕ → DiskState → DiskState
synced_name name state = with_synced (file_at name (names_now state)) state

-- with one more pending change of names, where its source is there
abbrev with_pending : NameChange → Option ℕ → DiskState → DiskState
with_pending change None state = state
with_pending change (Some number) state = record state { pending = state.pending ++ change ∷ [] }

-- after a file went from one name to another, in the place of the file there
unfoldable pub renamed_to : List ℕ → List ℕ → DiskState → DiskState
renamed_to from to state = with_pending (renamed from to) (file_at from (names_now state)) state

-- after a name was taken away
unfoldable pub removed_name : List ℕ → DiskState → DiskState
removed_name name state = with_pending (removed name) (file_at name (names_now state)) state

-- after the names were synced
unfoldable pub folder_synced : DiskState → DiskState
folder_synced state = record state { stable = names_now state; pending = [] }

-- A failed write leaves the disk as it was before, or as after a write of any bytes.
abbrev pub MayHaveWritten : List ℕ → DiskState → DiskState → Type 0
MayHaveWritten name before after = (after ≡ before) ⊎ ((bytes : List ℕ) × (after ≡ written name bytes before))

-- Another failed change leaves the disk as it was before, or as after the change.
abbrev pub MayHaveChanged : (DiskState → DiskState) → DiskState → DiskState → Type 0
MayHaveChanged change before after = (after ≡ before) ⊎ (after ≡ change before)

-- what a disk tells over time: the state that it is in, and those that it was in before, in order
pub record Told : Type 0 where
  pub past : List DiskState
  pub now : DiskState

-- this moment: how many states there were before the one now
abbrev pub clock : Told → ℕ
clock told = length told.past

-- a stop at some moment since one can have left this directory
pub record WasImage (told : Told) (moment : ℕ) (image : Directory) : Type 0 where
  pub state : DiskState
  pub since : Contains (drop moment (told.past ++ told.now ∷ [])) state
  pub is : IsImage state image

-- A call adds one state to those told, which stands in this relation to the one before; within the call the
-- disk is in one of the two.
pub record Adds (step : DiskState → DiskState → Type 0) (before after : Told) : Type 0 where
  pub past : after.past ≡ before.past ++ before.now ∷ []
  pub now : step before.now after.now

-- A call leaves all as it was: the contents, the pending changes of names, the unsynced files, the images
-- now and since any moment, and whether they are told.
abbrev pub IsLeft : Option Told → Option Told → Type 0
IsLeft before after = after ≡ before

-- a disk that was always at rest with these files
abbrev pub told_at_rest : Directory → Told
told_at_rest files = record { past = []; now = resting files }

-- the contents, where the disk tells them
abbrev pub contents_told : Option Told → Option Directory
contents_told told = option_map (λ known. contents known.now) told

-- A count rose. At its type's last value it stands still, and counts as risen.
abbrev pub Rose : ℕ → ℕ → Type 0
Rose before now = min (before + 1) (2 ^ 64 - 1) ≤ now

-- A count of faults, before and after a call that failed or not.
abbrev pub Counts : Bool → ℕ → ℕ → Type 0
Counts true before now = (before ≤ now) × Rose before now
Counts false before now = now ≡ before

-- no file
empty_disk : DiskState
empty_disk = record { stable = []; pending = []; files = [] }

-- a file is published: made under a name of its own, synced, and renamed
published : DiskState
published = renamed_to (codes "tmp") (codes "f") (synced_name (codes "tmp") (written (codes "tmp") (1 ∷ 2 ∷ []) empty_disk))

published_changes : published.pending ≡ made (codes "tmp") 0 ∷ renamed (codes "tmp") (codes "f") ∷ []
unfolding published renamed_to synced_name written empty_disk
published_changes = refl

published_contents : contents published ≡ from_entries ((codes "f", 1 ∷ 2 ∷ []) ∷ [])
unfolding published renamed_to synced_name written empty_disk contents directory
published_contents = refl

-- the four images of it: no name, the name of its own, no name again since the source is absent, and the new name
published_images : map (λ changes. directory (after_changes changes []) ((1 ∷ 2 ∷ []) ∷ [])) ([] ∷ (made (codes "tmp") 0 ∷ []) ∷ (renamed (codes "tmp") (codes "f") ∷ []) ∷ published.pending ∷ [])
    ≡ from_entries [] ∷ from_entries ((codes "tmp", 1 ∷ 2 ∷ []) ∷ []) ∷ from_entries [] ∷ from_entries ((codes "f", 1 ∷ 2 ∷ []) ∷ []) ∷ []
unfolding published renamed_to synced_name written empty_disk directory
published_images = refl

published_names_synced : folder_synced published ≡ record { stable = (codes "f", 0) ∷ []; pending = []; files = synced_file (1 ∷ 2 ∷ []) ∷ [] }
unfolding published renamed_to synced_name written empty_disk folder_synced
published_names_synced = refl

-- one file under a name that lasts
one_file : DiskState
one_file = record { stable = (codes "f", 0) ∷ []; pending = []; files = synced_file (1 ∷ []) ∷ [] }

-- other bytes for a file change no name, and a stop may leave any bytes in it
replaced : written (codes "f") (2 ∷ []) one_file ≡ record one_file { files = unsynced_file (2 ∷ []) ∷ [] }
unfolding written one_file
replaced = refl

replaced_unsynced : unsynced (written (codes "f") (2 ∷ []) one_file) ≡ codes "f" ∷ []
unfolding unsynced written one_file
replaced_unsynced = refl

replaced_image : IsImage (written (codes "f") (2 ∷ []) one_file) (from_entries ((codes "f", 7 ∷ []) ∷ []))
unfolding written one_file directory
replaced_image = record { changes = []; bytes = (7 ∷ []) ∷ []; some = nothing; survive = ((λ synced. absurd (subst T (sym synced) tt)), tt); is = refl }

absent : (renamed_to (codes "g") (codes "f") one_file ≡ one_file) × (removed_name (codes "g") one_file ≡ one_file) × (synced_name (codes "g") one_file ≡ one_file)
unfolding renamed_to removed_name synced_name one_file
absent = (refl, refl, refl)

removed_contents : contents (removed_name (codes "f") one_file) ≡ from_entries []
unfolding removed_name one_file contents directory
removed_contents = refl
