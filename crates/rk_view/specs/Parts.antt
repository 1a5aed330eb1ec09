-- A run as parts that follow one another.
use Rattle.std.specs.Prelude.{◌≡◌, ◌-◌, ◌<◌, ℕ, Bool, true, false, List, [], length, flat_map, slice_get, vec_capacity, Option, Some}
use Rattle.std.specs.List.{All, AllWithin}
use Rattle.std.specs.Option.{option_map_or}
use Rattle.std.specs.Ordering.{is_lt}
use Rattle.std.specs.declared.vec.Vec.{Vec}
use Rattle.std.specs.declared.alloc.Global.{Global}
use Rattle.rk_bytes.specs.declared.model.key.Record.{Record}
use Rattle.rk_bytes.specs.Model.Records.{slot_cmp, slot_of}
use Rattle.rk_view.specs.Maps.{IsRun}

-- the records of parts, one part after another
abbrev pub joined : List (Vec Record Global) → List Record
joined parts = flat_map (λ part. part.items) parts

-- Parts that make up a run, none of them empty.
pub record AreParts (parts : List (Vec Record Global)) : Type 0 where
  pub run : IsRun (joined parts)
  pub filled : All (λ part. 0 < length part.items) parts

-- memory for the list of a run's parts, in which there are none yet
pub record IsRoom (room : Vec (Vec Record Global) Global) : Type 0 where
  pub none : room.items ≡ []
  pub space : 0 < vec_capacity room

-- there is a last record, and it passes the test
abbrev pub last_is : (Record → Bool) → List Record → Bool
last_is p records = option_map_or p (slice_get records (length records - 1)) false

-- the parts before this one end with records that fail the test, and the others with records that pass it
pub record IsPartAt (p : Record → Bool) (parts : List (Vec Record Global)) (at : ℕ) : Type 0 where
  pub before : AllWithin (λ part. last_is p part.items ≡ false) parts 0 at
  pub after : AllWithin (λ part. last_is p part.items ≡ true) parts at (length parts)

-- whether there are a last record of the one list and a first one of the other, and that one comes before this
abbrev pub ends_before : Option Record → Option Record → Bool
ends_before (Some last) (Some first) = is_lt (slot_cmp (slot_of last) (slot_of first))
ends_before _ _ = false
