-- What is read so far of a part of a file, after one more piece.
use Rattle.std.proofs.Common.{◌≡◌, ℕ, ◌+◌, List, ◌++◌, length, take, drop, Option, IfSome, sym, ap, ◌∙◌}
use Rattle.std.proofs.lemmas.List.{take_at}
use Rattle.std.proofs.lemmas.Option.{IfSome_then}
use Rattle.rk_bytes.specs.Model.DiskImages.{Directory, part_of_file}
use Rattle.rk_disk.proofs.Pieces.{bytes_of, IsRead}

module _ (name items rest new : List ℕ) (at n got wanted : ℕ) where
  -- the part behind these bytes was read behind them
  abbrev pub IsBehind : List ℕ → Directory → Type 0
  IsBehind after files =
      let part = part_of_file (at + length items) wanted (bytes_of name files) in
      (got ≡ length part) × (after ≡ items ++ part)

  pub told_behind : (told : Option Directory) (after : List ℕ) → n ≡ at + length items → length rest ≡ wanted → after ≡ items ++ take got new → IfSome told (IsRead name n rest new got) → IfSome told (IsBehind after)
  told_behind told after end long is read = IfSome_then told read (λ files read.
      let bytes = bytes_of name files in
      let part : part_of_file n (length rest) bytes ≡ part_of_file (at + length items) wanted bytes = (λ i. part_of_file (end i) (long i) bytes) in
      (read.0 ∙ ap length part, is ∙ ap (λ l. items ++ l) (ap (take got) read.1 ∙ take_at (part_of_file n (length rest) bytes) (drop got rest) got (sym read.0) ∙ part)))

-- these bytes are the file's from an offset on
abbrev pub IsPart : List ℕ → ℕ → List ℕ → Directory → Type 0
IsPart name at bytes files = bytes ≡ part_of_file at (length bytes) (bytes_of name files)
