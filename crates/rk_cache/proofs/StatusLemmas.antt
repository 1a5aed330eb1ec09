-- The last bytes of a table that were read.
use Rattle.std.proofs.Common.{◌≡◌, ℕ, ◌-◌, List, [], length, take, drop, Option, IfSome, unwrap_or, sym, ap, ◌∙◌, arith, length-drop}
use Rattle.std.proofs.lemmas.List.{take_at, take_all}
use Rattle.std.proofs.lemmas.Option.{IfSome_then}
use Rattle.std.specs.FinMap.{get}
use Rattle.rk_bytes.specs.Model.DiskImages.{Directory, part_of_file}
use Rattle.rk_bytes.specs.Model.FileNames.{table_name}
use Rattle.rk_disk.proofs.Pieces.{IsRead}
use Rattle.rk_cache.specs.Answers.{table_in}

pub tail_read : (told : Option Directory) (name old new bytes : List ℕ) (number file_len most at got : ℕ) → name ≡ table_name number → at ≡ file_len - most → length old ≡ most → bytes ≡ new
    → IfSome told (IsRead name at old new got)
    → IfSome told (λ files. length (table_in files number) ≡ file_len → drop (length (table_in files number) - most) (table_in files number) ≡ take got bytes)
tail_read told name old new bytes number file_len most at got named place long same read = IfSome_then told read (λ files read len.
    let table = table_in files number in
    let rest = drop (length table - most) table in
    let part : part_of_file at (length old) (unwrap_or (get files name) []) ≡ rest =
    (λ i. part_of_file ((place ∙ ap (λ n. n - most) (sym len)) i) (long i) (unwrap_or (get files (named i)) []))
    ∙ take_all most rest (omega (arith, length-drop (length table - most) table)) in
    sym (ap (take got) (same ∙ read.1) ∙ take_at (part_of_file at (length old) (unwrap_or (get files name) [])) (drop got old) got (sym read.0) ∙ part))
