-- What stands in a log file, block by block (RocksDB's wiki, "Write Ahead Log File Format", and
-- db/log_reader.cc; the order of the tests is this project's own rule).
use Rattle.std.specs.Prelude.{◌≡◌, ℕ, zero, suc, ◌+◌, ◌-◌, ◌/◌, ◌%◌, ◌^◌, Bool, true, false, not, ◌&&◌, ◌||◌, List, [], ◌∷◌, ◌++◌, length, take, drop, slice_index, if◌then◌else◌, nat_lt, nat_le, ◌==◌, replicate, Option, Some, None, refl}
use Rattle.rk_bytes.specs.declared.model.log.GapWhy.{GapWhy}
use Rattle.rk_bytes.specs.declared.model.log.GapWhy.TheVariants.{Checksum, Length, UnknownType, Mixed}
use Rattle.rk_bytes.specs.Model.Numbers.{little_endian}
use Rattle.rk_bytes.specs.Model.Checksums.{crc_bit, crc_bits, crc_bytes, crc32c, mask, pieces}

-- A mark has its place in the file. A fragment has its payload too.
pub data Mark : Type 0 where
  full : List ℕ → ℕ → Mark
  first : List ℕ → ℕ → Mark
  middle : List ℕ → ℕ → Mark
  last : List ℕ → ℕ → Mark
  fault : GapWhy → ℕ → Mark
  cut : ℕ → Mark
  stale : ℕ → Mark
  unsupported : ℕ → ℕ → Mark
  file_end : ℕ → Mark

-- the reading of a file ends with the mark
abbrev pub is_end : Mark → Bool
is_end (cut place) = true
is_end (stale place) = true
is_end (unsupported kind place) = true
is_end (file_end place) = true
is_end _ = false

-- The header at the front of bytes: the masked sum (4), the payload's length (2), the type (1), and, where
-- the type says so, the low 32 bits of the number of the log that it was written to (4).
abbrev pub stored_sum : List ℕ → ℕ
stored_sum bytes = little_endian (take 4 bytes)

abbrev pub payload_len : List ℕ → ℕ
payload_len bytes = little_endian (take 2 (drop 4 bytes))

abbrev pub type_of : List ℕ → ℕ
type_of bytes = slice_index bytes 6

abbrev pub stored_number : List ℕ → ℕ
stored_number bytes = little_endian (take 4 (drop 7 bytes))

-- the types of recyclable records: full, first, middle and last
abbrev pub is_recyclable : ℕ → Bool
is_recyclable kind = nat_le 5 kind && nat_le kind 8

-- a header of this type holds the log's number: a recyclable record's, and the sizes of user timestamps (11)
abbrev pub has_number : ℕ → Bool
has_number kind = is_recyclable kind || kind == 11

abbrev pub header_len : ℕ → ℕ
header_len kind = if has_number kind then 11 else 7

-- a fragment is a header and its payload
abbrev pub fragment_len : List ℕ → ℕ
fragment_len bytes = header_len (type_of bytes) + payload_len bytes

abbrev pub payload_of : List ℕ → List ℕ
payload_of bytes = take (payload_len bytes) (drop (header_len (type_of bytes)) bytes)

-- the sum covers the fragment from its type on: the type, the number where there is one, the payload
abbrev pub summed_part : List ℕ → List ℕ
summed_part bytes = drop 6 (take (fragment_len bytes) bytes)

abbrev pub has_right_sum : List ℕ → Bool
has_right_sum bytes = stored_sum bytes == mask (crc32c (summed_part bytes))

-- the header stands for nothing: space that was given to the file and not written
abbrev pub is_zero_header : List ℕ → Bool
is_zero_header bytes = type_of bytes == 0 && payload_len bytes == 0

-- A log's file: the log's number, and whether the file served another log before, whose records may
-- stand behind this log's.
pub record LogFile : Type 0 where
  pub number : ℕ
  pub recycled : Bool

-- the record is another log's: it has another number, or the older header, which has none
abbrev pub is_of_another_life : LogFile → List ℕ → Bool
is_of_another_life file bytes =
    has_number (type_of bytes) && not (stored_number bytes == file.number % 2 ^ 32)
    || file.recycled && nat_le 1 (type_of bytes) && nat_le (type_of bytes) 4

-- compression (9), the sizes of user timestamps (10 and 11), and the types with the top bit (128 to 255),
-- which this project refuses
abbrev pub is_unsupported : ℕ → Bool
is_unsupported kind = nat_le 9 kind && nat_le kind 11 || nat_le 128 kind

-- in a recycled file what can't be read may be of another life: reading ends there
abbrev pub unless_recycled : LogFile → Mark → ℕ → Mark
unless_recycled file mark place = if file.recycled then stale place else mark

-- the mark of a whole fragment with the right sum, of a supported type
abbrev pub fragment_mark : LogFile → ℕ → List ℕ → Mark
fragment_mark file place bytes =
    if is_recyclable (type_of bytes) && not file.recycled then fault Mixed place
    else (if type_of bytes == 1 || type_of bytes == 5 then full (payload_of bytes) place
    else (if type_of bytes == 2 || type_of bytes == 6 then first (payload_of bytes) place
    else (if type_of bytes == 3 || type_of bytes == 7 then middle (payload_of bytes) place
    else (if type_of bytes == 4 || type_of bytes == 8 then last (payload_of bytes) place
    else unless_recycled file (fault UnknownType place) place))))

-- What stands at a place of a block: nothing up to the block's end, a mark up to the block's end, or
-- a mark of so many bytes.
pub data Found : Type 0 where
  nothing : Found
  whole_rest : Mark → Found
  fragment : Mark → ℕ → Found

-- the tests of a fragment whose header and payload don't pass the block's end, in their order
unfoldable pub fragment_found : LogFile → ℕ → List ℕ → Found
fragment_found file place bytes =
    if is_of_another_life file bytes then whole_rest (stale place)
    else (if is_zero_header bytes then nothing
    else (if not (has_right_sum bytes) then whole_rest (unless_recycled file (fault Checksum place) place)
    else (if is_unsupported (type_of bytes) then whole_rest (unsupported (type_of bytes) place)
    else fragment (fragment_mark file place bytes) (fragment_len bytes))))

-- the tests at a place, in their order, on the block's bytes from there on
unfoldable pub found : LogFile → Bool → ℕ → List ℕ → Found
found file is_full place bytes =
    if nat_lt (length bytes) 7 then (if is_full then nothing else whole_rest (unless_recycled file (cut place) place))
    else (if nat_lt (length bytes) (fragment_len bytes) then whole_rest (unless_recycled file (if is_full then fault Length place else cut place) place)
    else fragment_found file place bytes)

-- The marks of a block from a place on, which are n at most. A bound too small would show as an end of
-- type 0, which no file has.
unfoldable pub marks_from : LogFile → Bool → ℕ → ℕ → List ℕ → List Mark
marks_from file is_full n place [] = []
marks_from file is_full zero place (b ∷ bytes) = unsupported 0 place ∷ []
marks_from file is_full (suc n) place (b ∷ bytes) = elim (found file is_full place (b ∷ bytes)) [
  | nothing ↦ []
  | whole_rest mark ↦ mark ∷ []
  | fragment mark len ↦ mark ∷ marks_from file is_full n (place + len) (drop len (b ∷ bytes))
]

unfoldable pub block_len : ℕ
block_len = 32768

-- the marks of the block that begins at a place
abbrev pub block_marks : LogFile → ℕ → List ℕ → List Mark
block_marks file place block = marks_from file (length block == block_len) (length block) place block

-- the marks of blocks, the first of which begins at the place
unfoldable pub blocks_marks : LogFile → ℕ → List (List ℕ) → List Mark
blocks_marks file place [] = []
blocks_marks file place (block ∷ blocks) = block_marks file place block ++ blocks_marks file (place + block_len) blocks

-- the blocks of a file, of which the last may be short
abbrev pub file_blocks : List ℕ → List (List ℕ)
file_blocks bytes = pieces ((length bytes + (block_len - 1)) / block_len) block_len bytes

-- the type in a block's first header, unless that is a zero header, behind which nothing is read
abbrev pub block_type : List ℕ → Option ℕ
block_type block = if nat_lt (length block) 7 || is_zero_header block then None else Some (type_of block)

-- what the first header of a file says: its type
abbrev pub first_type : List (List ℕ) → Option ℕ
first_type [] = None
first_type (block ∷ blocks) = elim (block_type block) [ Some kind ↦ Some kind | None ↦ first_type blocks ]

-- whether that is a recyclable record's
abbrev pub is_recycled : Option ℕ → Bool
is_recycled (Some kind) = is_recyclable kind
is_recycled None = false

-- the marks up to the first end, or up to the file's end
abbrev pub up_to_end : ℕ → List Mark → List Mark
up_to_end file_len [] = file_end file_len ∷ []
up_to_end file_len (mark ∷ marks) = if is_end mark then mark ∷ [] else mark ∷ up_to_end file_len marks

-- the marks of the file of the log with this number
unfoldable pub log_marks : ℕ → List ℕ → List Mark
log_marks number bytes =
    let file : LogFile = record { number = number; recycled = is_recycled (first_type (file_blocks bytes)) } in
    up_to_end (length bytes) (blocks_marks file 0 (file_blocks bytes))

-- a file that served no other log, and one that did
abbrev fresh : LogFile
fresh = record { number = 9; recycled = false }

abbrev reused : LogFile
reused = record { number = 9; recycled = true }

of_nothing : log_marks 3 [] ≡ file_end 0 ∷ []
unfolding log_marks blocks_marks block_len pieces
of_nothing = refl

-- two records, and a header that the file's end cuts off
of_records : log_marks 3 (0xB5 ∷ 0xCD ∷ 0x0B ∷ 0xA2 ∷ 1 ∷ 0 ∷ 1 ∷ 0x61 ∷ 0x54 ∷ 0xAF ∷ 0xE3 ∷ 0xBA ∷ 1 ∷ 0 ∷ 1 ∷ 0x62 ∷ 0 ∷ [])
    ≡ full (0x61 ∷ []) 0 ∷ full (0x62 ∷ []) 8 ∷ cut 16 ∷ []
unfolding log_marks blocks_marks marks_from found fragment_found block_len pieces crc32c crc_bytes crc_bits crc_bit
of_records = refl

of_zeros : log_marks 3 (replicate 20 0) ≡ file_end 20 ∷ []
unfolding log_marks blocks_marks marks_from found fragment_found block_len pieces
of_zeros = refl

-- two records of log 9 and one that log 4 left, whatever its sum is
of_a_recycled_file : log_marks (2 ^ 32 + 9) (0xA3 ∷ 0x53 ∷ 0x61 ∷ 0x5B ∷ 12 ∷ 0 ∷ 5 ∷ 9 ∷ 0 ∷ 0 ∷ 0 ∷ 0x61 ∷ 0x62 ∷ 0x63 ∷ 0x64 ∷ 0x65 ∷ 0x66 ∷ 0x67 ∷ 0x68 ∷ 0x69 ∷ 0x6A ∷ 0x6B ∷ 0x6C
    ∷ 0x26 ∷ 0x57 ∷ 0x72 ∷ 0x7F ∷ 0 ∷ 0 ∷ 5 ∷ 9 ∷ 0 ∷ 0 ∷ 0 ∷ 0 ∷ 0 ∷ 0 ∷ 0 ∷ 1 ∷ 0 ∷ 5 ∷ 4 ∷ 0 ∷ 0 ∷ 0 ∷ 0x61 ∷ [])
    ≡ full (0x61 ∷ 0x62 ∷ 0x63 ∷ 0x64 ∷ 0x65 ∷ 0x66 ∷ 0x67 ∷ 0x68 ∷ 0x69 ∷ 0x6A ∷ 0x6B ∷ 0x6C ∷ []) 0 ∷ full [] 23 ∷ stale 34 ∷ []
unfolding log_marks blocks_marks marks_from found fragment_found block_len pieces crc32c crc_bytes crc_bits crc_bit
of_a_recycled_file = refl

-- a short end, and a record with the older header
of_another_life : found reused false 7 (0 ∷ []) ∷ found reused true 7 (0xB5 ∷ 0xCD ∷ 0x0B ∷ 0xA2 ∷ 1 ∷ 0 ∷ 1 ∷ 0x61 ∷ []) ∷ []
    ≡ whole_rest (stale 7) ∷ whole_rest (stale 7) ∷ []
unfolding found fragment_found
of_another_life = refl

of_padding : found fresh true 32762 (replicate 6 0) ≡ nothing
unfolding found
of_padding = refl

-- one byte of payload that a full block, and a short one, lack
of_a_length : found fresh true 9 (0 ∷ 0 ∷ 0 ∷ 0 ∷ 1 ∷ 0 ∷ 1 ∷ []) ∷ found fresh false 9 (0 ∷ 0 ∷ 0 ∷ 0 ∷ 1 ∷ 0 ∷ 1 ∷ []) ∷ []
    ≡ whole_rest (fault Length 9) ∷ whole_rest (cut 9) ∷ []
unfolding found
of_a_length = refl

of_a_wrong_sum : found fresh true 9 (0xB4 ∷ 0xCD ∷ 0x0B ∷ 0xA2 ∷ 1 ∷ 0 ∷ 1 ∷ 0x61 ∷ []) ≡ whole_rest (fault Checksum 9)
unfolding found fragment_found crc32c crc_bytes crc_bits crc_bit
of_a_wrong_sum = refl

-- of the types 0 and 12
of_unknown_types : found fresh true 9 (0x70 ∷ 0xB0 ∷ 0xE9 ∷ 0x71 ∷ 1 ∷ 0 ∷ 0 ∷ 0x61 ∷ []) ∷ found fresh true 9 (0x7D ∷ 0x4D ∷ 0x32 ∷ 0x2E ∷ 1 ∷ 0 ∷ 12 ∷ 0x61 ∷ []) ∷ []
    ≡ fragment (fault UnknownType 9) 8 ∷ fragment (fault UnknownType 9) 8 ∷ []
unfolding found fragment_found crc32c crc_bytes crc_bits crc_bit
of_unknown_types = refl

of_unsupported_types : found fresh true 9 (0xCC ∷ 0xC3 ∷ 0x7C ∷ 0x1B ∷ 1 ∷ 0 ∷ 9 ∷ 0x61 ∷ []) ∷ found fresh true 9 (0x13 ∷ 0x9C ∷ 0x4E ∷ 0xCC ∷ 1 ∷ 0 ∷ 10 ∷ 0x61 ∷ [])
    ∷ found fresh true 9 (0x6F ∷ 0xC5 ∷ 0xA9 ∷ 0x58 ∷ 1 ∷ 0 ∷ 11 ∷ 9 ∷ 0 ∷ 0 ∷ 0 ∷ 0x61 ∷ []) ∷ found fresh true 9 (0xF7 ∷ 0x1C ∷ 0x18 ∷ 0xDD ∷ 1 ∷ 0 ∷ 128 ∷ 0x61 ∷ []) ∷ []
    ≡ whole_rest (unsupported 9 9) ∷ whole_rest (unsupported 10 9) ∷ whole_rest (unsupported 11 9) ∷ whole_rest (unsupported 128 9) ∷ []
unfolding found fragment_found crc32c crc_bytes crc_bits crc_bit
of_unsupported_types = refl

-- the recyclable full, first, middle and last of log 9, and the first of them in a file that isn't recycled
of_recyclable_types : found reused true 7 (0x40 ∷ 0xB3 ∷ 0xF3 ∷ 0x4B ∷ 1 ∷ 0 ∷ 5 ∷ 9 ∷ 0 ∷ 0 ∷ 0 ∷ 0x61 ∷ []) ∷ found reused true 7 (0xE9 ∷ 0x8B ∷ 0x47 ∷ 0xE1 ∷ 1 ∷ 0 ∷ 6 ∷ 9 ∷ 0 ∷ 0 ∷ 0 ∷ 0x61 ∷ [])
    ∷ found reused true 7 (0x49 ∷ 0x6A ∷ 0x7A ∷ 0x8B ∷ 1 ∷ 0 ∷ 7 ∷ 9 ∷ 0 ∷ 0 ∷ 0 ∷ 0x61 ∷ []) ∷ found reused true 7 (0xC6 ∷ 0x9E ∷ 0x15 ∷ 0xC4 ∷ 1 ∷ 0 ∷ 8 ∷ 9 ∷ 0 ∷ 0 ∷ 0 ∷ 0x61 ∷ [])
    ∷ found fresh true 7 (0x40 ∷ 0xB3 ∷ 0xF3 ∷ 0x4B ∷ 1 ∷ 0 ∷ 5 ∷ 9 ∷ 0 ∷ 0 ∷ 0 ∷ 0x61 ∷ []) ∷ []
    ≡ fragment (full (0x61 ∷ []) 7) 12 ∷ fragment (first (0x61 ∷ []) 7) 12 ∷ fragment (middle (0x61 ∷ []) 7) 12 ∷ fragment (last (0x61 ∷ []) 7) 12 ∷ fragment (fault Mixed 7) 12 ∷ []
unfolding found fragment_found crc32c crc_bytes crc_bits crc_bit
of_recyclable_types = refl
