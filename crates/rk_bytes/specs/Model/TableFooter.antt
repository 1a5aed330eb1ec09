-- Where the parts of a table are found: its footer, and the blocks of its handles with their trailers
-- (RocksDB's wiki, "Rocksdb BlockBasedTable Format"; table/format.cc). The order of the tests is this
-- project's own rule.
use Rattle.std.specs.Prelude.{◌≡◌, ℕ, ◌+◌, ◌-◌, ◌==◌, Bool, true, not, ◌||◌, List, [], ◌∷◌, ◌++◌, length, map, take, drop, replicate, slice_index, nat_lt, nat_le, ◌^◌, if◌then◌else◌, Result, Ok, Err, refl}
use Rattle.rk_bytes.specs.declared.model.block.Handle.{Handle}
use Rattle.rk_bytes.specs.declared.model.table.SumKind.{SumKind}
use Rattle.rk_bytes.specs.declared.model.table.SumKind.TheVariants.{NoSum, Crc32c, Xxh32, Xxh64}
use Rattle.rk_bytes.specs.declared.model.table.Footer.{Footer}
use Rattle.rk_bytes.specs.declared.model.table.FooterFault.{FooterFault}
use Rattle.rk_bytes.specs.declared.model.table.FooterFault.TheVariants.{FooterShort, BadMagic, UnsupportedVersion, UnsupportedChecksum, BadHandle}
use Rattle.rk_bytes.specs.declared.model.table.TrailerFault.{TrailerFault}
use Rattle.rk_bytes.specs.declared.model.table.TrailerFault.TheVariants.{OutOfFile, Checksum, Compressed}
use Rattle.rk_bytes.specs.Model.Numbers.{little_endian, ◌>>=◌}
use Rattle.rk_bytes.specs.Model.Checksums.{crc_bit, crc_bits, crc_bytes, crc32c, pieces, xxh32, xxh32_mixed, xxh32_with_rest, xxh64, xxh64_mixed, xxh64_with_rest, block_sum}
use Rattle.rk_bytes.specs.Model.BlockEntries.{with_fault, handle_at}

-- the kind of checksum with this number
abbrev pub sum_kind : ℕ → Result SumKind FooterFault
sum_kind n =
    if n == 0 then Ok NoSum
    else (if n == 1 then Ok Crc32c
    else (if n == 2 then Ok Xxh32
    else (if n == 3 then Ok Xxh64 else Err (UnsupportedChecksum n))))

-- the magic number of a legacy footer
abbrev pub legacy_magic : ℕ
legacy_magic = 0xdb4775248b80fb57

-- the magic number of a newer footer
abbrev pub newer_magic : ℕ
newer_magic = 0x88e241b785f4cff7

-- the last eight bytes of a table
abbrev pub magic_of : List ℕ → ℕ
magic_of table = little_endian (drop (length table - 8) table)

-- how many bytes the footer has
abbrev pub footer_len : List ℕ → ℕ
footer_len table = if magic_of table == newer_magic then 53 else 48

-- the place of the footer
abbrev pub footer_start : List ℕ → ℕ
footer_start table = length table - footer_len table

-- The metaindex's handle and the index's, within 40 bytes. What follows them isn't looked at.
abbrev pub footer_handles : List ℕ → Result (Handle × Handle) FooterFault
footer_handles bytes = with_fault (λ fault. BadHandle) (do
  metaindex ← handle_at (take 40 bytes)
  index ← handle_at metaindex.1
  Ok (metaindex.0, index.0))

-- a footer's parts, where its version and its checksum kind have passed
abbrev pub footer_with : ℕ → SumKind → ℕ → List ℕ → Result Footer FooterFault
footer_with version sum start bytes = do
  handles ← footer_handles bytes
  Ok (record { version = version; sum = sum; metaindex = handles.0; index = handles.1; start = start })

-- The bytes of a newer footer are the checksum kind, 40 bytes of handles, the version and the magic number.
abbrev pub newer_footer : ℕ → List ℕ → Result Footer FooterFault
newer_footer start bytes = let version = little_endian (take 4 (drop 41 bytes)) in
    if version == 0 || nat_lt 5 version then Err (UnsupportedVersion version)
    else do
      sum ← sum_kind (slice_index bytes 0)
      footer_with version sum start (drop 1 bytes)

-- the footer of a table
unfoldable pub footer_of : List ℕ → Result Footer FooterFault
footer_of table = let start = footer_start table in
    if nat_lt (length table) (footer_len table) then Err FooterShort
    else (if magic_of table == newer_magic then newer_footer start (drop start table)
    else (if magic_of table == legacy_magic then footer_with 0 Crc32c start (drop start table)
    else Err BadMagic))

-- The stored sum is that of the block and its type byte. Where blocks aren't summed it isn't looked at.
abbrev pub has_sum : SumKind → ℕ → List ℕ → ℕ → Bool
has_sum NoSum stored block type_byte = true
has_sum sum stored block type_byte = stored == block_sum sum block type_byte

-- The block of a handle, within the bytes that hold it. The type byte and four bytes of its sum follow it. No
-- file has bytes past 2 ^ 64 - 1.
unfoldable pub checked_block : List ℕ → Handle → SumKind → Result (List ℕ) TrailerFault
checked_block bytes handle sum =
    let end = handle.offset + handle.size + 5 in
    let block = take handle.size (drop handle.offset bytes) in
    let trailer = drop (handle.offset + handle.size) bytes in
    let type_byte = slice_index trailer 0 in
    if nat_le (2 ^ 64) end || nat_lt (length bytes) end then Err OutOfFile
    else (if not (has_sum sum (little_endian (take 4 (drop 1 trailer))) block type_byte) then Err Checksum
    else (if type_byte == 0 then Ok block else Err (Compressed type_byte)))

-- a newer footer of this checksum kind and version
newer : ℕ → ℕ → List ℕ
newer kind version = kind ∷ 26 ∷ 8 ∷ 39 ∷ 22 ∷ replicate 36 0 ++ version ∷ 0 ∷ 0 ∷ 0 ∷ 0xf7 ∷ 0xcf ∷ 0xf4 ∷ 0x85 ∷ 0xb7 ∷ 0x41 ∷ 0xe2 ∷ 0x88 ∷ []

legacy : List ℕ
legacy = 26 ∷ 8 ∷ 39 ∷ 22 ∷ replicate 36 0 ++ 0x57 ∷ 0xfb ∷ 0x80 ∷ 0x8b ∷ 0x24 ∷ 0x75 ∷ 0x47 ∷ 0xdb ∷ []

of_a_legacy_footer : footer_of legacy ≡ Ok (record { version = 0; sum = Crc32c; metaindex = record { offset = 26; size = 8 }; index = record { offset = 39; size = 22 }; start = 0 })
unfolding footer_of legacy
of_a_legacy_footer = refl

of_a_newer_footer : footer_of (newer 3 5) ≡ Ok (record { version = 5; sum = Xxh64; metaindex = record { offset = 26; size = 8 }; index = record { offset = 39; size = 22 }; start = 0 })
unfolding footer_of newer
of_a_newer_footer = refl

version_before_checksum : footer_of (newer 4 6) ≡ Err (UnsupportedVersion 6)
unfolding footer_of newer
version_before_checksum = refl

place_of_a_newer_footer : footer_start (0 ∷ 0 ∷ newer 3 5) ≡ 2
unfolding newer
place_of_a_newer_footer = refl

-- a block of one byte, with the type byte of Snappy
checksum_before_compression : checked_block (7 ∷ 1 ∷ 0 ∷ 0 ∷ 0 ∷ 0 ∷ []) (record { offset = 0; size = 1 }) Crc32c ≡ Err Checksum
unfolding checked_block crc32c crc_bytes crc_bits crc_bit
checksum_before_compression = refl

unsummed_and_compressed : checked_block (7 ∷ 1 ∷ 0 ∷ 0 ∷ 0 ∷ 0 ∷ []) (record { offset = 0; size = 1 }) NoSum ≡ Err (Compressed 1)
unfolding checked_block
unsummed_and_compressed = refl

of_bad_handles : map footer_of ((replicate 40 0xFF ++ drop 40 legacy) ∷ (26 ∷ 8 ∷ replicate 38 0xFF ++ drop 40 legacy) ∷ []) ≡ Err BadHandle ∷ Err BadHandle ∷ []
unfolding footer_of legacy
of_bad_handles = refl

-- with a byte less, without a magic number, with checksum kind 4, and with version 0
of_no_footer : map footer_of (drop 1 (newer 3 5) ∷ replicate 48 0 ∷ newer 4 5 ∷ newer 3 0 ∷ [])
    ≡ Err FooterShort ∷ Err BadMagic ∷ Err (UnsupportedChecksum 4) ∷ Err (UnsupportedVersion 0) ∷ []
unfolding footer_of newer
of_no_footer = refl

of_each_kind : map (λ kind. footer_of (newer kind 1) >>= λ footer. Ok footer.sum) (0 ∷ 1 ∷ 2 ∷ 3 ∷ []) ≡ Ok NoSum ∷ Ok Crc32c ∷ Ok Xxh32 ∷ Ok Xxh64 ∷ []
unfolding footer_of newer
of_each_kind = refl

-- the block of this type whose one byte stands at 1, with the four bytes of its sum
one_byte : ℕ → List ℕ → SumKind → Result (List ℕ) TrailerFault
unfolding checked_block crc32c crc_bytes crc_bits crc_bit xxh32 xxh32_mixed xxh32_with_rest xxh64 xxh64_mixed xxh64_with_rest pieces
one_byte type_byte stored sum = checked_block (9 ∷ 7 ∷ type_byte ∷ stored) (record { offset = 1; size = 1 }) sum

of_each_sum : one_byte 0 (0xf1 ∷ 0 ∷ 0xb2 ∷ 31 ∷ []) Crc32c ∷ one_byte 0 (0x79 ∷ 39 ∷ 0xef ∷ 78 ∷ []) Xxh32
    ∷ one_byte 0 (0xbc ∷ 87 ∷ 0xc0 ∷ 0x78 ∷ []) Xxh64 ∷ one_byte 0 (1 ∷ 2 ∷ 3 ∷ 4 ∷ []) NoSum ∷ []
    ≡ replicate 4 (Ok (7 ∷ []))
unfolding one_byte
of_each_sum = refl

summed_and_compressed : one_byte 1 (0xa6 ∷ 0xdd ∷ 0xab ∷ 29 ∷ []) Crc32c ≡ Err (Compressed 1)
unfolding one_byte
summed_and_compressed = refl

-- A block of two bytes ends with its trailer one byte beyond these. No file holds the last one.
out_of_the_file : map (λ handle. checked_block (9 ∷ 7 ∷ replicate 5 0) handle NoSum) (
    record { offset = 1; size = 1 } ∷ record { offset = 1; size = 2 } ∷ record { offset = 3; size = 0 } ∷ record { offset = 1; size = 18446744073709551615 } ∷ [])
    ≡ Ok (7 ∷ []) ∷ Err OutOfFile ∷ Err OutOfFile ∷ Err OutOfFile ∷ []
unfolding checked_block
out_of_the_file = refl
