-- What contracts see of a state that is built up, and what its calls make of it.
use Rattle.std.specs.Prelude.{◌≡◌, ℕ, ◌==◌, ◌+◌, ◌-◌, ◌^◌, ◌≤◌, min, nat_lt, Bool, true, List, [], ◌∷◌, ◌++◌, map, flat_map, if◌then◌else◌, Option, None, refl}
use Rattle.std.specs.declared.vec.Vec.{Vec}
use Rattle.std.specs.declared.alloc.Global.{Global}
use Rattle.std.specs.Coded.{Coded, code_by, coded×, coded_ℕ}
use Rattle.std.specs.List.{All, AllByRecursion, list_any}
use Rattle.std.specs.List.Sorted.{IsStrictlySortedBy}
use Rattle.std.specs.Ordering.{nat_cmp}
use Rattle.std.specs.FinMap.{len}
use Rattle.rk_bytes.specs.declared.model.key.Record.{Record}
use Rattle.rk_bytes.specs.declared.model.view.Cut.{Cut}
use Rattle.rk_bytes.specs.declared.model.view.Tomb.{Tomb}
use Rattle.rk_bytes.specs.declared.model.view.FamilyLine.{FamilyLine}
use Rattle.rk_bytes.specs.Model.InternalKey.{top_sequence, key_cmp}
use Rattle.rk_bytes.specs.Model.Records.{last_records, over}
use Rattle.rk_bytes.specs.Model.KeyView.{State, is_point, key_of, tomb_of}
use Rattle.rk_view.specs.Codes.{coded_state}
use Rattle.rk_view.specs.Maps.{IsRun, map_of}
use Rattle.rk_view.specs.Parts.{IsRoom}
use Rattle.rk_view.specs.declared.run.TheConstants.{MOST_RUNS}

-- a state, and how many runs it has room for
pub record Kept : Type 0 where
  pub state : State
  pub spare : ℕ

abbrev pub coded_kept : Coded Kept
coded_kept = code_by (State × ℕ) (coded× coded_state coded_ℕ) (λ k. (k.state, k.spare)) (λ p. record { state = p.0; spare = p.1 }) (λ _. refl)

-- no families, no records and no range deletions
abbrev pub empty_state : State
empty_state = record { families = []; records = last_records []; tombs = [] }

-- families in rising id, with one more
abbrev pub with_family : FamilyLine → List FamilyLine → List FamilyLine
with_family line [] = line ∷ []
with_family line (other ∷ others) = if nat_lt line.id other.id then line ∷ other ∷ others else other ∷ with_family line others

-- one of the families has this id
abbrev pub has_family : ℕ → List FamilyLine → Bool
has_family id families = list_any (λ line. line.id == id) families

-- the range deletion that a record is, if it is one
abbrev pub tombs_of : Option Cut → Record → List Tomb
tombs_of cut r = if is_point r.kind then [] else tomb_of cut r ∷ []

-- records over those of a state
abbrev pub with_records : List Record → State → State
with_records records state = record state { records = over state.records (last_records records) }

-- a record over those of a state and, where it is a range deletion, that as the bounds cut it
abbrev pub with_record : Option Cut → Record → State → State
with_record cut r state = record { families = state.families; records = over state.records (last_records (r ∷ [])); tombs = state.tombs ++ tombs_of cut r }

-- records over those of a state, and their range deletions, uncut, behind its own
abbrev pub with_replayed : List Record → State → State
with_replayed records state = record {
  families = state.families;
  records = over state.records (last_records records);
  tombs = state.tombs ++ flat_map (tombs_of None) records;
}

-- Records of single keys, of one family, in the strict order of their internal keys.
pub record IsTableRun (records : List Record) : Type 0 where
  pub family : ℕ
  pub each : AllByRecursion (λ r. (r.family ≡ family) × (is_point r.kind ≡ true) × (r.sequence ≤ top_sequence)) records
  pub rises : IsStrictlySortedBy key_cmp (map key_of records)

-- the most that a count says
abbrev pub most : ℕ
most = 2 ^ 64 - 1

-- Runs of records, and the count of what they hold.
pub record AreCounted (runs : List (List Record)) (n : ℕ) : Type 0 where
  pub each : All (λ run. IsRun run) runs
  pub count : n ≡ min (len (map_of runs)) most

-- the families' ids rise
abbrev pub AreRising : List FamilyLine → Type 0
AreRising families = IsStrictlySortedBy nat_cmp (map (λ line. line.id) families)

-- How a state is kept: the runs and their count, few enough and with room for more, and the families.
pub record IsStored (families : List FamilyLine) (runs : List (List Record)) (len capacity : ℕ) (rooms : List (Vec (Vec Record Global) Global)) (ready spare count : ℕ) : Type 0 where
  pub counted : AreCounted runs count
  pub rising : AreRising families
  pub few : len + spare ≤ MOST_RUNS
  pub space : len + spare ≤ capacity
  pub ready_for : spare ≤ ready
  pub rooms_are : All (λ room. IsRoom room) rooms
