-- The next part of a file that is read part by part.
use Rattle.std.proofs.Common.{◌≡◌, ℕ, ◌+◌, ◌-◌, ◌≤◌, min, Bool, true, List, [], ◌++◌, length, take, drop, Option, Some, None, sym, ap, ◌∙◌, subst, arith, append_assoc}
use Rattle.std.specs.Prelude.{IfSome, unwrap_or}
use Rattle.std.specs.FinMap.{get}
use Rattle.std.proofs.lemmas.List.{length-drop, length-take, take-append-drop, drop-drop, drop_all}
use Rattle.std.proofs.Math.Seq.{take-append_seam}
use Rattle.rk_bytes.specs.Model.DiskImages.{Told, contents, contents_told, part_of_file}
use Rattle.rk_disk.specs.Parts.{IsPart, OfFile}

-- what the file has where it is asked for so much
part_asked : (at size room wanted : ℕ) (is_last : Bool) (bytes : List ℕ) → at ≤ size → wanted ≡ min room (size - at) → length bytes ≡ size → (is_last ≡ true → size - at ≤ room)
    → IsPart at bytes (part_of_file at wanted bytes) is_last
part_asked at size room wanted is_last bytes within asked len last =
    let count : length (take wanted (drop at bytes)) ≡ wanted = length-take wanted (drop at bytes) ∙ omega (arith, within, asked, len, length-drop at bytes) in record {
      whole = sym (take-append-drop wanted (drop at bytes)) ∙ ap (λ rest. take wanted (drop at bytes) ++ rest) (drop-drop wanted at bytes ∙ ap (λ n. drop n bytes) (omega (arith, count)));
      follows = λ e. drop_all (at + length (take wanted (drop at bytes))) bytes (omega (arith, count, within, asked, len, last e));
    }

-- the same of what was read into the front of a buffer
pub part_read : (told : Option Told) (name : List ℕ) (at size room wanted n : ℕ) (old new after : List ℕ) (is_last : Bool) → at ≤ size → wanted ≡ min room (size - at) → length old ≡ wanted
    → IfSome (contents_told told) (λ files. let part = part_of_file at (length old) (unwrap_or (get files name) []) in (n ≡ length part) × (new ≡ part ++ drop n old))
    → (is_last ≡ true → size - at ≤ room)
    → OfFile told name size (λ bytes. IsPart at bytes (take n (new ++ after)) is_last)
part_read None name at size room wanted n old new after is_last within asked len read last = tt
part_read (Some told) name at size room wanted n old new after is_last within asked len read last = λ bytes is whole.
    let found = part_of_file at (length old) (unwrap_or (get (contents told.now) name) []) in
    let same : found ≡ part_of_file at wanted bytes = (λ i. take (len i) (drop at (unwrap_or (is i) []))) in
    let front : take n (new ++ after) ≡ found =
    ap (λ bytes. take n (bytes ++ after)) read.1 ∙ ap (take n) (append_assoc found (drop n old) after) ∙ ap (λ n. take n (found ++ (drop n old ++ after))) read.0 ∙ take-append_seam found (drop (length found) old ++ after) in
    subst (λ part. IsPart at bytes part is_last) (sym (front ∙ same)) (part_asked at size room wanted is_last bytes within asked whole last)
