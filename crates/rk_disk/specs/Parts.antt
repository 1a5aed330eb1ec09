-- The parts of a file that is read one after another. This project's own rule.
use Rattle.std.specs.Prelude.{◌≡◌, ℕ, ◌+◌, Bool, true, List, [], ◌++◌, length, drop, Option, Some, IfSome}
use Rattle.std.specs.FinMap.{get}
use Rattle.rk_bytes.specs.Model.DiskImages.{Told, contents_told}

-- The bytes at this place of a file are a part and what follows it, which is nothing if it is the last one.
pub record IsPart (at : ℕ) (bytes part : List ℕ) (is_last : Bool) : Type 0 where
  pub whole : drop at bytes ≡ part ++ drop (at + length part) bytes
  pub follows : is_last ≡ true → drop (at + length part) bytes ≡ []

-- This holds of the bytes of the file of this name, where the disk tells its files and this is the file's length.
abbrev pub OfFile : Option Told → List ℕ → ℕ → (List ℕ → Type 0) → Type 0
OfFile told name size P = IfSome (contents_told told) (λ files. (bytes : List ℕ) → get files name ≡ Some bytes → length bytes ≡ size → P bytes)
