-- A log's file has no more records than bytes.
use Rattle.std.proofs.Common.{◌≡◌, ℕ, zero, suc, ◌+◌, ◌≤◌, ◌/◌, ◌-◌, Bool, true, false, cond, List, [], ◌∷◌, ◌++◌, length, drop, Option, Some, None, arith}
use Rattle.std.specs.Prelude.{◌==◌}
use Rattle.std.proofs.lemmas.List.{length-take, length-drop}
use Rattle.rk_bytes.specs.Model.Checksums.{pieces}
use Rattle.rk_bytes.specs.Model.LogMarks.{Mark, full, first, middle, last, fault, cut, stale, unsupported, file_end, is_end, LogFile, Found, nothing, whole_rest, fragment, found, marks_from, block_len, block_marks, blocks_marks, file_blocks, first_type, is_recycled, up_to_end, log_marks}
use Rattle.rk_bytes.specs.Model.LogItems.{parting, log_items}
use Rattle.rk_manifest.specs.Records.{records}

-- how many of the marks may end a record
abbrev ends_record : Mark → ℕ
ends_record (full payload place) = 1
ends_record (last payload place) = 1
ends_record (first payload place) = 0
ends_record (middle payload place) = 0
ends_record (fault why place) = 0
ends_record (cut place) = 0
ends_record (stale place) = 0
ends_record (unsupported kind place) = 0
ends_record (file_end place) = 0

abbrev record_marks : List Mark → ℕ
record_marks [] = 0
record_marks (mark ∷ marks) = ends_record mark + record_marks marks

one_at_most : (mark : Mark) → ends_record mark ≤ 1
one_at_most (full payload place) = omega arith
one_at_most (last payload place) = omega arith
one_at_most (first payload place) = omega arith
one_at_most (middle payload place) = omega arith
one_at_most (fault why place) = omega arith
one_at_most (cut place) = omega arith
one_at_most (stale place) = omega arith
one_at_most (unsupported kind place) = omega arith
one_at_most (file_end place) = omega arith

-- ---- the items of marks

records-parting : (unfinished : Option (List ℕ × ℕ)) (marks : List Mark) → records (parting unfinished marks) ≤ record_marks marks
records-parting None [] = omega arith
records-parting (Some front) [] = omega arith
records-parting None (full payload place ∷ marks) = let rest = records-parting None marks in omega arith
records-parting None (last payload place ∷ marks) = let rest = records-parting None marks in omega arith
records-parting None (first payload place ∷ marks) = let rest = records-parting (Some (payload, place)) marks in omega arith
records-parting None (middle payload place ∷ marks) = let rest = records-parting None marks in omega arith
records-parting None (fault why place ∷ marks) = let rest = records-parting None marks in omega arith
records-parting None (cut place ∷ marks) = let rest = records-parting None marks in omega arith
records-parting None (stale place ∷ marks) = let rest = records-parting None marks in omega arith
records-parting None (unsupported kind place ∷ marks) = let rest = records-parting None marks in omega arith
records-parting None (file_end place ∷ marks) = let rest = records-parting None marks in omega arith
records-parting (Some front) (full payload place ∷ marks) = let rest = records-parting None marks in omega arith
records-parting (Some front) (last payload place ∷ marks) = let rest = records-parting None marks in omega arith
records-parting (Some front) (first payload place ∷ marks) = let rest = records-parting (Some (payload, place)) marks in omega arith
records-parting (Some front) (middle payload place ∷ marks) = let rest = records-parting (Some (front.0 ++ payload, front.1)) marks in omega arith
records-parting (Some front) (fault why place ∷ marks) = let rest = records-parting None marks in omega arith
records-parting (Some front) (cut place ∷ marks) = let rest = records-parting None marks in omega arith
records-parting (Some front) (stale place ∷ marks) = let rest = records-parting None marks in omega arith
records-parting (Some front) (unsupported kind place ∷ marks) = let rest = records-parting None marks in omega arith
records-parting (Some front) (file_end place ∷ marks) = let rest = records-parting None marks in omega arith

-- ---- the marks of bytes

record_marks-append : (xs ys : List Mark) → record_marks (xs ++ ys) ≡ record_marks xs + record_marks ys
record_marks-append [] ys = omega arith
record_marks-append (x ∷ xs) ys = omega (arith, record_marks-append xs ys)

record_marks-up_to_end : (file_len : ℕ) (marks : List Mark) → record_marks (up_to_end file_len marks) ≤ record_marks marks
record_marks-up_to_end file_len [] = omega arith
record_marks-up_to_end file_len (mark ∷ marks) = by (is_end mark) (record_marks-up_to_end file_len marks)
  where
    by : (test : Bool) → record_marks (up_to_end file_len marks) ≤ record_marks marks → record_marks (cond test (mark ∷ []) (mark ∷ up_to_end file_len marks)) ≤ record_marks (mark ∷ marks)
    by true rest = omega arith
    by false rest = omega (arith, rest)

record_marks-from : (file : LogFile) (is_full : Bool) (n place : ℕ) (bytes : List ℕ) → record_marks (marks_from file is_full n place bytes) ≤ n
unfolding marks_from
record_marks-from file is_full zero place [] = omega arith
record_marks-from file is_full (suc n) place [] = omega arith
record_marks-from file is_full zero place (b ∷ bytes) = omega arith
record_marks-from file is_full (suc n) place (b ∷ bytes) = by (found file is_full place (b ∷ bytes)) (λ len. record_marks-from file is_full n (place + len) (drop len (b ∷ bytes)))
  where
    by : (at : Found) → ((len : ℕ) → record_marks (marks_from file is_full n (place + len) (drop len (b ∷ bytes))) ≤ n)
        → record_marks (elim at as (λ _. List Mark) [ nothing ↦ [] | whole_rest mark ↦ mark ∷ [] | fragment mark len ↦ mark ∷ marks_from file is_full n (place + len) (drop len (b ∷ bytes)) ]) ≤ suc n
    by nothing rest = omega arith
    by (whole_rest mark) rest = omega (arith, one_at_most mark)
    by (fragment mark len) rest = omega (arith, one_at_most mark, rest len)

-- how many bytes blocks have
abbrev all_bytes : List (List ℕ) → ℕ
all_bytes [] = 0
all_bytes (block ∷ blocks) = length block + all_bytes blocks

record_marks-blocks : (file : LogFile) (place : ℕ) (blocks : List (List ℕ)) → record_marks (blocks_marks file place blocks) ≤ all_bytes blocks
unfolding blocks_marks
record_marks-blocks file place [] = omega arith
record_marks-blocks file place (block ∷ blocks) =
    let first = record_marks-from file (length block == block_len) (length block) place block in
    let rest = record_marks-blocks file (place + block_len) blocks in
    omega (arith, first, rest, record_marks-append (block_marks file place block) (blocks_marks file (place + block_len) blocks))

all_bytes-pieces : (n size : ℕ) (bytes : List ℕ) → all_bytes (pieces n size bytes) ≤ length bytes
unfolding pieces
all_bytes-pieces zero size bytes = omega arith
all_bytes-pieces (suc n) size bytes = let rest = all_bytes-pieces n size (drop size bytes) in omega (arith, rest, length-take size bytes, length-drop size bytes)

pub records-log_items : (number : ℕ) (bytes : List ℕ) → records (log_items number bytes) ≤ length bytes
unfolding log_marks
records-log_items number bytes =
    let file : LogFile = record { number = number; recycled = is_recycled (first_type (file_blocks bytes)) } in
    let items = records-parting None (log_marks number bytes) in
    let upto = record_marks-up_to_end (length bytes) (blocks_marks file 0 (file_blocks bytes)) in
    let marks = record_marks-blocks file 0 (file_blocks bytes) in
    omega (arith, items, upto, marks, all_bytes-pieces ((length bytes + (block_len - 1)) / block_len) block_len bytes)
