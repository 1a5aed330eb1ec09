-- A log file as it is written (RocksDB's wiki, "Write Ahead Log File Format"; db/log_writer.cc): with legacy
-- headers where no number is given, else with recyclable ones, which hold the number's low 32 bits.
use Rattle.std.specs.Prelude.{◌≡◌, ℕ, ◌+◌, ◌-◌, ◌/◌, ◌%◌, ◌^◌, List, [], ◌∷◌, ◌++◌, length, take, drop, map, fold, replicate, if◌then◌else◌, nat_lt, Option, Some, None, codes, refl}
use Rattle.rk_bytes.specs.Model.Numbers.{fixed_of}
use Rattle.rk_bytes.specs.Model.Checksums.{crc_bit, crc_bits, crc_bytes, crc32c, mask, pieces}
use Rattle.rk_bytes.specs.Model.LogMarks.{block_len}

-- how many bytes a header has
abbrev pub written_header_len : Option ℕ → ℕ
written_header_len None = 7
written_header_len (Some number) = 11

-- the type byte of a full (1), first (2), middle (3) or last (4) fragment: 4 more in a recyclable header
abbrev pub written_type : Option ℕ → ℕ → ℕ
written_type None kind = kind
written_type (Some number) kind = kind + 4

-- what a header holds of the number
abbrev pub number_bytes : Option ℕ → List ℕ
number_bytes None = []
number_bytes (Some number) = fixed_of 4 number

-- the part of a fragment that its checksum covers: the type, the number where there is one, the payload
abbrev pub written_summed_part : Option ℕ → ℕ → List ℕ → List ℕ
written_summed_part number kind payload = written_type number kind ∷ number_bytes number ++ payload

-- a fragment: the masked checksum, the payload's length, and the part that the checksum covers
unfoldable pub fragment_bytes : Option ℕ → ℕ → List ℕ → List ℕ
fragment_bytes number kind payload =
    let part = written_summed_part number kind payload in
    fixed_of 4 (mask (crc32c part)) ++ fixed_of 2 (length payload) ++ part

-- the fragments of a record's further pieces: middles, and a last one
unfoldable pub later_fragments : Option ℕ → List (List ℕ) → List ℕ
later_fragments number [] = []
later_fragments number (piece ∷ []) = fragment_bytes number 4 piece
later_fragments number (piece ∷ next ∷ pieces) = fragment_bytes number 3 piece ++ later_fragments number (next ∷ pieces)

-- the fragments of a record, which has one piece at least: a full one, or a first one and the later ones
unfoldable pub record_fragments : Option ℕ → List (List ℕ) → List ℕ
record_fragments number [] = []
record_fragments number (piece ∷ []) = fragment_bytes number 1 piece
record_fragments number (piece ∷ next ∷ pieces) = fragment_bytes number 2 piece ++ later_fragments number (next ∷ pieces)

-- the pieces of a list, of this size but for a shorter last one
abbrev pub pieces_of : ℕ → List ℕ → List (List ℕ)
pieces_of size bytes = pieces ((length bytes + (size - 1)) / size) size bytes

-- A record's pieces, where so many bytes are left in its first block, a header's at least. The first piece
-- has what fits there, which may be nothing, and each later one what fits into a whole block.
unfoldable pub record_pieces : Option ℕ → ℕ → List ℕ → List (List ℕ)
record_pieces number left payload =
    let header_len = written_header_len number in
    take (left - header_len) payload ∷ pieces_of (block_len - header_len) (drop (left - header_len) payload)

-- how many bytes are left in the block at this place of the file
abbrev pub left_in_block : ℕ → ℕ
left_in_block place = block_len - place % block_len

-- A record, written at the file's end, which is at this place. Where fewer bytes than a header are left in
-- the block, they are zeros, and the record begins the next one.
unfoldable pub written_record : Option ℕ → ℕ → List ℕ → List ℕ
written_record number place payload =
    let left = left_in_block place in
    if nat_lt left (written_header_len number) then replicate left 0 ++ record_fragments number (record_pieces number block_len payload)
    else record_fragments number (record_pieces number left payload)

-- a log of these payloads
unfoldable pub written_log : Option ℕ → List (List ℕ) → List ℕ
written_log number payloads = fold (λ log payload. log ++ written_record number (length log) payload) [] payloads

of_two_records : written_log None (codes "a" ∷ codes "b" ∷ [])
    ≡ 0xB5 ∷ 0xCD ∷ 0x0B ∷ 0xA2 ∷ 1 ∷ 0 ∷ 1 ∷ 0x61 ∷ 0x54 ∷ 0xAF ∷ 0xE3 ∷ 0xBA ∷ 1 ∷ 0 ∷ 1 ∷ 0x62 ∷ []
unfolding written_log written_record block_len record_pieces pieces record_fragments fragment_bytes crc32c crc_bytes crc_bits crc_bit
of_two_records = refl

of_recyclable_records : written_log (Some (2 ^ 32 + 9)) (codes "abcdefghijkl" ∷ [] ∷ [])
    ≡ 0xA3 ∷ 0x53 ∷ 0x61 ∷ 0x5B ∷ 0x0C ∷ 0 ∷ 5 ∷ 9 ∷ 0 ∷ 0 ∷ 0 ∷ 0x61 ∷ 0x62 ∷ 0x63 ∷ 0x64 ∷ 0x65 ∷ 0x66 ∷ 0x67 ∷ 0x68 ∷ 0x69 ∷ 0x6A ∷ 0x6B ∷ 0x6C ∷ 0x26 ∷ 0x57 ∷ 0x72 ∷ 0x7F ∷ 0 ∷ 0 ∷ 5 ∷ 9 ∷ 0 ∷ 0 ∷ 0 ∷ []
unfolding written_log written_record block_len record_pieces pieces record_fragments fragment_bytes crc32c crc_bytes crc_bits crc_bit
of_recyclable_records = refl

of_an_empty_record : written_log None ([] ∷ [])
    ≡ 5 ∷ 0x2B ∷ 0x28 ∷ 0x43 ∷ 0 ∷ 0 ∷ 1 ∷ []
unfolding written_log written_record block_len record_pieces pieces record_fragments fragment_bytes crc32c crc_bytes crc_bits crc_bit
of_an_empty_record = refl

-- six bytes are left, and ten, where a recyclable header has eleven
behind_zeros : written_record None 32762 (codes "1")
    ≡ 0 ∷ 0 ∷ 0 ∷ 0 ∷ 0 ∷ 0 ∷ 0x6E ∷ 0x2B ∷ 0xB1 ∷ 0xEC ∷ 1 ∷ 0 ∷ 1 ∷ 0x31 ∷ []
unfolding written_record block_len record_pieces pieces record_fragments fragment_bytes crc32c crc_bytes crc_bits crc_bit
behind_zeros = refl

recyclable_behind_zeros : written_record (Some 9) 32758 (codes "1")
    ≡ 0 ∷ 0 ∷ 0 ∷ 0 ∷ 0 ∷ 0 ∷ 0 ∷ 0 ∷ 0 ∷ 0 ∷ 0xFB ∷ 0x54 ∷ 0x59 ∷ 0xBF ∷ 1 ∷ 0 ∷ 5 ∷ 9 ∷ 0 ∷ 0 ∷ 0 ∷ 0x31 ∷ []
unfolding written_record block_len record_pieces pieces record_fragments fragment_bytes crc32c crc_bytes crc_bits crc_bit
recyclable_behind_zeros = refl

behind_an_empty_first_fragment : written_record None 32761 (codes "1")
    ≡ 0x64 ∷ 0x51 ∷ 0xD0 ∷ 0xE9 ∷ 0 ∷ 0 ∷ 2 ∷ 0x9F ∷ 0xE5 ∷ 0xFB ∷ 0x5B ∷ 1 ∷ 0 ∷ 4 ∷ 0x31 ∷ []
unfolding written_record block_len record_pieces pieces record_fragments fragment_bytes crc32c crc_bytes crc_bits crc_bit later_fragments
behind_an_empty_first_fragment = refl

up_to_the_end_of_the_block : written_record None 32759 (codes "ab")
    ≡ 0xA4 ∷ 0x98 ∷ 0x44 ∷ 0x82 ∷ 2 ∷ 0 ∷ 1 ∷ 0x61 ∷ 0x62 ∷ []
unfolding written_record block_len record_pieces pieces record_fragments fragment_bytes crc32c crc_bytes crc_bits crc_bit
up_to_the_end_of_the_block = refl

past_the_end_of_the_block : written_record None 32760 (codes "abc")
    ≡ 0xEA ∷ 0x75 ∷ 0x3D ∷ 0x51 ∷ 1 ∷ 0 ∷ 2 ∷ 0x61 ∷ 0xC2 ∷ 0x42 ∷ 0xBF ∷ 0x86 ∷ 2 ∷ 0 ∷ 4 ∷ 0x62 ∷ 0x63 ∷ []
unfolding written_record block_len record_pieces pieces record_fragments fragment_bytes crc32c crc_bytes crc_bits crc_bit later_fragments
past_the_end_of_the_block = refl

of_four_pieces : record_fragments None (codes "a" ∷ codes "b" ∷ [] ∷ codes "c" ∷ [])
    ≡ 0xEA ∷ 0x75 ∷ 0x3D ∷ 0x51 ∷ 1 ∷ 0 ∷ 2 ∷ 0x61 ∷ 0xCE ∷ 0x75 ∷ 0x3F ∷ 0x1C ∷ 1 ∷ 0 ∷ 3 ∷ 0x62 ∷ 0x33 ∷ 0x6D ∷ 0xCD ∷ 0xE3 ∷ 0 ∷ 0 ∷ 3 ∷ 0xD2 ∷ 0x85 ∷ 0xB4 ∷ 0x8F ∷ 1 ∷ 0 ∷ 4 ∷ 0x63 ∷ []
unfolding record_fragments later_fragments fragment_bytes crc32c crc_bytes crc_bits crc_bit
of_four_pieces = refl

of_three_recyclable_pieces : record_fragments (Some 9) (codes "a" ∷ codes "b" ∷ codes "c" ∷ [])
    ≡ 0xE9 ∷ 0x8B ∷ 0x47 ∷ 0xE1 ∷ 1 ∷ 0 ∷ 6 ∷ 9 ∷ 0 ∷ 0 ∷ 0 ∷ 0x61 ∷ 0xA8 ∷ 0x44 ∷ 0xA2 ∷ 0xB1 ∷ 1 ∷ 0 ∷ 7 ∷ 9 ∷ 0 ∷ 0 ∷ 0 ∷ 0x62 ∷ 0x70 ∷ 0x5C ∷ 0 ∷ 0x63 ∷ 1 ∷ 0 ∷ 8 ∷ 9 ∷ 0 ∷ 0 ∷ 0 ∷ 0x63 ∷ []
unfolding record_fragments later_fragments fragment_bytes crc32c crc_bytes crc_bits crc_bit
of_three_recyclable_pieces = refl

cut_at_full_blocks : map length (record_pieces None 7 (replicate 65523 0))
    ≡ 0 ∷ 32761 ∷ 32761 ∷ 1 ∷ []
unfolding record_pieces block_len pieces
cut_at_full_blocks = refl

cut_at_full_blocks_of_recyclable_headers : map length (record_pieces (Some 9) 11 (replicate 65514 0))
    ≡ 0 ∷ 32757 ∷ 32757 ∷ []
unfolding record_pieces block_len pieces
cut_at_full_blocks_of_recyclable_headers = refl
