-- What is read so far of a file, after one more piece.
use Rattle.std.proofs.Common.{◌≡◌, ◌≢◌, ℕ, ◌+◌, ◌-◌, ◌^◌, ◌<◌, ◌≤◌, List, [], ◌++◌, length, take, drop, Option, None, Some, IfSome, unwrap_or, sym, ap, subst, ◌∙◌, arith, append-nil, length-append, length-drop, append_assoc}
use Rattle.std.proofs.lemmas.List.{take_at, take_min, length-take, drop-drop, nil_from_length, take_all, take-take, take-append-le}
use Rattle.std.proofs.lemmas.Option.{IfSome_then}
use Rattle.std.proofs.Math.ListN.{drop_of_length-le}
use Rattle.std.proofs.Math.Seq.{take-add, take-append-add, drop-append_seam}
use Rattle.std.specs.FinMap as map
use borrow.Rule.Slice.PartMut.{put_mid}
use Rattle.rk_bytes.specs.Model.DiskImages.{Directory, part_of_file}

-- the bytes of a file, or none
abbrev pub bytes_of : List ℕ → Directory → List ℕ
bytes_of name files = unwrap_or (map.get files name) []

-- the first n bytes of a buffer are those of xs, and the rest is as it was
pub record IsFront (xs old buf : List ℕ) (n : ℕ) : Type 0 where
  pub bytes : buf ≡ take n xs ++ drop n old
  pub whole : length (take n xs) ≡ n

-- the bytes that a part has, taken from where it begins
take-length-take : (n : ℕ) (xs : List ℕ) → take (length (take n xs)) xs ≡ take n xs
take-length-take n xs = ap (λ k. take k xs) (length-take n xs) ∙ take_min n xs

module _ (xs old buf rest new : List ℕ) (n k got : ℕ) where
  -- to read on behind a front gives a longer front
  pub front_grows : rest ≡ drop n buf → drop k (drop n buf) ≡ [] → got ≡ length (take (length rest) (drop n xs)) → new ≡ take (length rest) (drop n xs) ++ drop got rest
      → IsFront xs old buf n → IsFront xs old (put_mid n k buf new) (n + got)
  front_grows is_rest none count is front =
      let part = take (length rest) (drop n xs) in
      let before : take n buf ≡ take n xs = ap (take n) front.bytes ∙ take_at (take n xs) (drop n old) n front.whole in
      let behind : drop n buf ≡ drop n old = ap (drop n) front.bytes ∙ ap (λ m. drop m (take n xs ++ drop n old)) (sym front.whole) ∙ drop-append_seam (take n xs) (drop n old) in
      let more : take (n + got) xs ≡ take n xs ++ part = take-add n got xs ∙ ap (λ l. take n xs ++ l) (ap (λ m. take m (drop n xs)) count ∙ take-length-take (length rest) (drop n xs)) in
      let tail : drop got rest ≡ drop (n + got) old = ap (drop got) (is_rest ∙ behind) ∙ drop-drop got n old in
      record {
        bytes = (λ i. before i ++ (new ++ none i))
            ∙ ap (λ l. take n xs ++ l) (append-nil new ∙ is ∙ ap (λ l. part ++ l) tail)
            ∙ sym (append_assoc (take n xs) part (drop (n + got) old))
            ∙ ap (λ l. l ++ drop (n + got) old) (sym more);
        whole = ap length more ∙ length-append (take n xs) part ∙ (λ i. front.whole i + sym count i);
      }

-- where nothing is behind a front, it is all
all_of_front : (xs : List ℕ) (n m : ℕ) → length (take m (drop n xs)) ≡ 0 → take (n + m) xs ≡ take n xs
all_of_front xs n m none = take-add n m xs ∙ ap (λ l. take n xs ++ l) (nil_from_length _ none) ∙ append-nil (take n xs)

-- The buffer has the first n bytes of the file from an offset on, and where these are any the file's length is
-- that of a u64.
pub record IsFilled (name : List ℕ) (at : ℕ) (old buf : List ℕ) (n : ℕ) (files : Directory) : Type 0 where
  pub front : IsFront (drop at (bytes_of name files)) old buf n
  pub short : n ≢ 0 → length (bytes_of name files) < 2 ^ 64

-- a read gave a part of the file
abbrev pub IsRead : List ℕ → ℕ → List ℕ → List ℕ → ℕ → Directory → Type 0
IsRead name place rest new got files =
    let part = part_of_file place (length rest) (bytes_of name files) in
    (got ≡ length part) × (new ≡ part ++ drop got rest)

abbrev pub IsShort : List ℕ → Directory → Type 0
IsShort name files = IfSome (map.get files name) (λ bytes. length bytes < 2 ^ 64)

short_bytes : (file : Option (List ℕ)) → IfSome file (λ bytes. length bytes < 2 ^ 64) → length (unwrap_or file []) < 2 ^ 64
short_bytes None short = omega arith
short_bytes (Some bytes) short = short

module _ (name old buf rest new : List ℕ) (at n k got place : ℕ) where
  filled_more : (files : Directory) → rest ≡ drop n buf → drop k (drop n buf) ≡ [] → place ≡ at + n → IsFilled name at old buf n files → IsRead name place rest new got files → IsShort name files
      → IsFilled name at old (put_mid n k buf new) (n + got) files
  filled_more files is_rest none is_place filled read short =
      let bytes = bytes_of name files in
      let behind : drop place bytes ≡ drop n (drop at bytes) = ap (λ m. drop m bytes) is_place ∙ sym (drop-drop n at bytes) in
      record {
        front = front_grows (drop at bytes) old buf rest new n k got is_rest none (read.0 ∙ ap (λ l. length (take (length rest) l)) behind) (read.1 ∙ ap (λ l. take (length rest) l ++ drop got rest) behind) filled.front;
        short = λ _. short_bytes (map.get files name) short;
      }

  -- where a read gave nothing, the buffer has what one read of all would give
  abbrev IsWhole : List ℕ → Directory → Type 0
  IsWhole after files =
      let part = part_of_file at (length old) (bytes_of name files) in
      (n ≡ length part) × (after ≡ part ++ drop n old)

  ended : (files : Directory) (after : List ℕ) → n + length rest ≡ length old → place ≡ at + n → got ≡ 0 → IsFilled name at old after (n + got) files → IsRead name place rest new got files → IsWhole after files
  ended files after sum is_place zero filled read =
      let bytes = bytes_of name files in
      let behind : drop place bytes ≡ drop n (drop at bytes) = ap (λ m. drop m bytes) is_place ∙ sym (drop-drop n at bytes) in
      let none : length (take (length rest) (drop n (drop at bytes))) ≡ 0 = ap (λ l. length (take (length rest) l)) (sym behind) ∙ sym read.0 ∙ zero in
      let same : n + got ≡ n = omega (arith, zero) in
      let part : take n (drop at bytes) ≡ take (length old) (drop at bytes) = sym (all_of_front (drop at bytes) n (length rest) none) ∙ ap (λ m. take m (drop at bytes)) sum in
      (sym same ∙ sym filled.front.whole ∙ ap (λ m. length (take m (drop at bytes))) same ∙ ap length part, filled.front.bytes ∙ (λ i. take (same i) (drop at bytes) ++ drop (same i) old) ∙ ap (λ l. l ++ drop n old) part)

  pub told_ended : (before told : Option Directory) (after : List ℕ) → told ≡ before → n + length rest ≡ length old → place ≡ at + n → got ≡ 0
      → IfSome before (IsFilled name at old after (n + got)) → IfSome told (IsRead name place rest new got) → IfSome before (IsWhole after)
  told_ended before told after same sum is_place zero filled read =
      elim before as (λ o. IfSome o (IsFilled name at old after (n + got)) → IfSome o (IsRead name place rest new got) → IfSome o (IsWhole after)) [
        | None ↦ λ _ _. tt
        | Some files ↦ λ filled read. ended files after sum is_place zero filled read
      ] filled (subst (λ o. IfSome o (IsRead name place rest new got)) same read)

  -- the same of what a disk told before, and what it gave then
  pub told_more : (before told : Option Directory) → told ≡ before → rest ≡ drop n buf → drop k (drop n buf) ≡ [] → place ≡ at + n
      → IfSome before (IsFilled name at old buf n) → IfSome told (IsRead name place rest new got) → IfSome told (IsShort name) → IfSome before (IsFilled name at old (put_mid n k buf new) (n + got))
  told_more before told same is_rest none is_place filled read short =
      elim before as (λ o. IfSome o (IsFilled name at old buf n) → IfSome o (IsRead name place rest new got) → IfSome o (IsShort name) → IfSome o (IsFilled name at old (put_mid n k buf new) (n + got))) [
        | None ↦ λ _ _ _. tt
        | Some files ↦ λ filled read short. filled_more files is_rest none is_place filled read short
      ] filled (subst (λ o. IfSome o (IsRead name place rest new got)) same read) (subst (λ o. IfSome o (IsShort name)) same short)

-- the rest of a buffer that is lent behind its first n bytes
pub rest_lent : (n : ℕ) (buf : List ℕ) → take (length buf - n) (drop n buf) ≡ drop n buf
rest_lent n buf = take_all (length buf - n) (drop n buf) (omega (arith, length-drop n buf))

pub none_behind : (n : ℕ) (buf : List ℕ) → drop (length buf - n) (drop n buf) ≡ []
none_behind n buf = drop_of_length-le (drop n buf) (omega (arith, length-drop n buf))

pub lent_sum : (n l : ℕ) (buf : List ℕ) → n ≤ length buf → length buf ≡ l → n + length (take (length buf - n) (drop n buf)) ≡ l
lent_sum n l buf within same = ap (λ rest. n + length rest) (rest_lent n buf) ∙ omega (arith, length-drop n buf, within, same)

-- a list that was made longer, then written to behind its first part, then cut behind what counts of that
pub grown : (items room new tail : List ℕ) (n k got m : ℕ) → n ≡ length items → take n room ≡ items → n + got ≤ m → got ≤ length new
    → take (n + got) (take m (put_mid n k room new ++ tail)) ≡ items ++ take got new
grown items room new tail n k got m end kept fits within =
    take-take (n + got) m (put_mid n k room new ++ tail) fits
    ∙ (λ i. take (end i + got) ((kept i ++ (new ++ drop k (drop n room))) ++ tail))
    ∙ ap (take (length items + got)) (append_assoc items (new ++ drop k (drop n room)) tail ∙ ap (λ l. items ++ l) (append_assoc new (drop k (drop n room)) tail))
    ∙ take-append-add items (new ++ (drop k (drop n room) ++ tail)) got
    ∙ ap (λ l. items ++ l) (take-append-le got new (drop k (drop n room) ++ tail) within)

module _ (name items rest new : List ℕ) (n got wanted : ℕ) where
  abbrev pub IsBehind : List ℕ → Directory → Type 0
  IsBehind after files =
      let part = part_of_file (length items) wanted (bytes_of name files) in
      (got ≡ length part) × (after ≡ items ++ part)

  pub told_behind : (told : Option Directory) (after : List ℕ) → n ≡ length items → length rest ≡ wanted → after ≡ items ++ take got new → IfSome told (IsRead name n rest new got) → IfSome told (IsBehind after)
  told_behind told after end long is read = IfSome_then told read (λ files read.
      let bytes = bytes_of name files in
      let part : part_of_file n (length rest) bytes ≡ part_of_file (length items) wanted bytes = (λ i. part_of_file (end i) (long i) bytes) in
      (read.0 ∙ ap length part, is ∙ ap (λ l. items ++ l) (ap (take got) read.1 ∙ take_at (part_of_file n (length rest) bytes) (drop got rest) got (sym read.0) ∙ part)))

-- the front of a list that was made longer
pub front_kept : (items more : List ℕ) (n wanted : ℕ) → n ≡ length items → take n (take (n + wanted) items ++ more) ≡ items
front_kept items more n wanted end = ap (λ l. take n (l ++ more)) (take_all (n + wanted) items (omega (arith, end))) ∙ take_at items more n (sym end)
