-- What contracts see of a cursor.
use Rattle.std.specs.Prelude.{◌≡◌, ℕ, ◌+◌, ◌≤◌, List, length, drop, Result, Ok, Err}
use Rattle.std.specs.Borrow.{Bor}
use Rattle.rk_bytes.specs.declared.model.number.NumFault.{NumFault}
use Rattle.rk_bytes.specs.Model.Numbers.{Read}

-- bytes, and how many of them were read
pub record Reading : Type 0 where
  pub bytes : List ℕ
  pub place : ℕ

-- the bytes that are left
abbrev pub rest_of : Reading → List ℕ
rest_of r = drop r.place r.bytes

-- new is old after its next n bytes
pub record GoesOver (n : ℕ) (old new : Reading) : Type 0 where
  pub same : new.bytes ≡ old.bytes
  pub further : new.place ≡ old.place + n
  pub within : new.place ≤ length new.bytes

-- what a call read, and the bytes after it
abbrev pub read_by : {A : Type 0} → Result A NumFault → Reading → Read A
read_by (Ok x) after = Ok (x, rest_of after)
read_by (Err fault) after = Err fault

-- new is old, perhaps further on, and within its bytes if old was
pub record IsFurther (old new : Reading) : Type 0 where
  pub same : new.bytes ≡ old.bytes
  pub within : old.place ≤ length old.bytes → new.place ≤ length new.bytes

-- a value at the front of bytes and how many bytes it has, as the value and the bytes after it
abbrev pub found_at : {A : Type 0} → List ℕ → Result (A × ℕ) NumFault → Read A
found_at bytes (Ok found) = Ok (found.0, drop found.1 bytes)
found_at bytes (Err fault) = Err fault

-- the bytes of a slice that was read, or the fault
abbrev pub slice_read : {F : Type 0} → Result (Bor (List ℕ)) F → Result (List ℕ) F
slice_read (Ok part) = Ok part.now
slice_read (Err fault) = Err fault
