-- What contracts see of a folder of the system (this project's own rule).
use Rattle.std.specs.Prelude.{ℕ, List}

-- the folder's path, and how many calls have failed
pub record Folder : Type 0 where
  pub path : List ℕ
  pub failures : ℕ
