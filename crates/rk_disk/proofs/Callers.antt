-- What holds of the bytes of a file, for callers of the readers.
use Rattle.std.proofs.Common.{ℕ, List, Option, Some, None}
use Rattle.rk_bytes.specs.Model.DiskImages.{Told}
use Rattle.rk_disk.specs.Parts.{OfFile}

pub OfFile-all : (told : Option Told) (name : List ℕ) (size : ℕ) (P : List ℕ → Type 0) → ((bytes : List ℕ) → P bytes) → OfFile told name size P
OfFile-all None name size P all = tt
OfFile-all (Some t) name size P all = λ bytes is len. all bytes

pub OfFile-with : (told : Option Told) (name : List ℕ) (size : ℕ) (P Q : List ℕ → Type 0) → ((bytes : List ℕ) → P bytes → Q bytes) → OfFile told name size P → OfFile told name size Q
OfFile-with None name size P Q f h = tt
OfFile-with (Some t) name size P Q f h = λ bytes is len. f bytes (h bytes is len)

pub OfFile-both : (told : Option Told) (name : List ℕ) (size : ℕ) (P Q R : List ℕ → Type 0) → ((bytes : List ℕ) → P bytes → Q bytes → R bytes)
    → OfFile told name size P → OfFile told name size Q → OfFile told name size R
OfFile-both None name size P Q R f h k = tt
OfFile-both (Some t) name size P Q R f h k = λ bytes is len. f bytes (h bytes is len) (k bytes is len)
