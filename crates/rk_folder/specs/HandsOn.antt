-- What becomes of bytes that an output holds back (this project's own rule).
use Rattle.std.specs.Prelude.{◌≡◌, ℕ, List, ◌++◌, Option}
use Rattle.std.specs.Io.KnownBytes.{Appends}

-- Known bytes grow by a front of the given ones, and the rest of these is held.
abbrev pub HandsOn : Option (List ℕ) → Option (List ℕ) → List ℕ → List ℕ → Type 0
HandsOn before after bytes held = (handed : List ℕ) × Appends before after handed × (bytes ≡ handed ++ held)
