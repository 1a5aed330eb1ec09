-- The blocks and the footer of a written table are found again.
use Rattle.std.proofs.Common.{◌≡◌, ℕ, ◌+◌, ◌-◌, ◌^◌, ◌<◌, ◌≤◌, true, List, [], ◌∷◌, ◌++◌, length, flat_map, take, drop, Ok, refl, sym, ◌∙◌, ap, arith, append_assoc}
use Rattle.std.specs.Prelude.{◌==◌, replicate, sum_by}
use Rattle.std.proofs.lemmas.Bool.{le-ltb, lt-leb, eq-eqb}
use Rattle.std.proofs.lemmas.List.{length-append, length-replicate}
use Rattle.std.proofs.lemmas.List.Sums.{sum_by-cons}
use Rattle.std.proofs.lemmas.Grind.{flat_map-append}
use Rattle.std.proofs.Math.Seq.{take-append_seam, drop-append_seam, drop-append-add}
use Rattle.rk_bytes.specs.declared.model.block.Handle.{Handle}
use Rattle.rk_bytes.specs.declared.model.table.FooterFault.TheVariants.{BadHandle}
use Rattle.rk_bytes.specs.declared.model.table.SumKind.TheVariants.{Crc32c}
use Rattle.rk_bytes.specs.Model.Numbers.{little_endian, fixed_of, varint_of}
use Rattle.rk_bytes.specs.Model.Checksums.{block_sum}
use Rattle.rk_bytes.specs.Model.BlockEntries.{with_fault, handle_at}
use Rattle.rk_bytes.specs.Model.TableFooter.{newer_magic, magic_of, footer_handles, newer_footer, footer_of, checked_block}
use Rattle.rk_bytes.specs.Model.Writers.{stored, handle_behind, handle_bytes, footer_bytes}
use Rattle.rk_bytes.proofs.Callers.FixedNumbers.{little_endian-fixed_of, length-fixed_of}
use Rattle.rk_bytes.proofs.Callers.Readings.{first_step}
use Rattle.rk_bytes.proofs.Callers.Varints.{IsVarint64-varint_of}
use Rattle.rk_laws.proofs.WrittenHandles.{FitsHandle, handle_read}

-- how much blocks fill, with their trailers
abbrev pub filled : List (List ℕ) → ℕ
filled blocks = sum_by (λ block. length block + 5) blocks

pub length-stored : (blocks : List (List ℕ)) → length (flat_map stored blocks) ≡ filled blocks
length-stored [] = refl
length-stored (block ∷ blocks) =
    let sum = block_sum Crc32c block 0 in
    omega (arith, sum_by-cons (λ (block : List ℕ). length block + 5) block blocks, length-append (stored block) (flat_map stored blocks), length-append block (0 ∷ fixed_of 4 sum), length-fixed_of 4 sum, length-stored blocks)

-- a block with its trailer, at a place
block_at : (front block rest : List ℕ) → length front + length block + 5 < 2 ^ 64 → checked_block (front ++ (stored block ++ rest)) (record { offset = length front; size = length block }) Crc32c ≡ Ok block
unfolding checked_block
block_at front block rest fits =
    let sum = block_sum Crc32c block 0 in
    let trailer : List ℕ = 0 ∷ fixed_of 4 sum in
    let whole : stored block ++ rest ≡ block ++ (trailer ++ rest) = append_assoc block trailer rest in
    let bytes = front ++ (stored block ++ rest) in
    let len : length front + length block + 5 ≤ length bytes = omega (arith, length-append front (stored block ++ rest), ap length whole, length-append block (trailer ++ rest), length-append trailer rest, length-fixed_of 4 sum) in
    let first : take (length block) (drop (length front) bytes) ≡ block = ap (take (length block)) (drop-append_seam front (stored block ++ rest) ∙ whole) ∙ take-append_seam block (trailer ++ rest) in
    let after : drop (length front + length block) bytes ≡ trailer ++ rest =
    drop-append-add front (stored block ++ rest) (length block) ∙ ap (drop (length block)) whole ∙ drop-append_seam block (trailer ++ rest) in
    let below : sum < 2 ^ 32 = omega arith in
    let sums : little_endian (fixed_of 4 sum) ≡ sum = little_endian-fixed_of 4 sum below in
    let same : (little_endian (fixed_of 4 sum) == block_sum Crc32c block 0) ≡ true = eq-eqb _ _ sums in
    rw (lt-leb (2 ^ 64) (length front + length block + 5) fits, le-ltb (length bytes) (length front + length block + 5) len, first, after, same)

-- the block that stands behind others
pub stored_read : (before : List (List ℕ)) (block : List ℕ) (after : List (List ℕ)) → filled before + length block + 5 < 2 ^ 64 → checked_block (flat_map stored (before ++ block ∷ after)) (handle_behind before block) Crc32c ≡ Ok block
stored_read before block after fits =
    let whole = flat_map-append stored before (block ∷ after) in
    let place = length-stored before in
    ap (λ bytes. checked_block bytes (handle_behind before block) Crc32c) whole
    ∙ ap (λ offset. checked_block (flat_map stored before ++ (stored block ++ flat_map stored after)) (record { offset = offset; size = length block }) Crc32c) (sym place)
    ∙ block_at (flat_map stored before) block (flat_map stored after) (omega arith)

-- two handles have 40 bytes at most
handle_length : (handle : Handle) → FitsHandle handle → length (handle_bytes handle) ≤ 20
handle_length handle fits =
    let offset = (IsVarint64-varint_of handle.offset fits.0).short in
    let size = (IsVarint64-varint_of handle.size fits.1).short in
    omega (arith, length-append (varint_of handle.offset) (varint_of handle.size))

-- the last bytes of a footer
abbrev version_bytes : List ℕ
version_bytes = fixed_of 4 2 ++ fixed_of 8 newer_magic

-- a footer's parts, where the handles' bytes are filled up to 40
newer_read : (start : ℕ) (zone : List ℕ) (handles : Handle × Handle) → length zone ≡ 40 → footer_handles (zone ++ version_bytes) ≡ Ok handles
    → newer_footer start (1 ∷ zone ++ version_bytes) ≡ Ok (record { version = 2; sum = Crc32c; metaindex = handles.0; index = handles.1; start = start })
newer_read start zone handles forty read =
    let bytes : List ℕ = 1 ∷ zone ++ version_bytes in
    let end : drop 40 (zone ++ version_bytes) ≡ version_bytes = ap (λ n. drop n (zone ++ version_bytes)) (sym forty) ∙ drop-append_seam zone version_bytes in
    let version : little_endian (take 4 (drop 41 bytes)) ≡ 2 = ap (λ end. little_endian (take 4 end)) end in
    rw (version, read)

handles_read : (metaindex index : Handle) (padding : List ℕ) → FitsHandle metaindex → FitsHandle index → length (handle_bytes metaindex ++ handle_bytes index ++ padding) ≡ 40
    → footer_handles (handle_bytes metaindex ++ handle_bytes index ++ padding ++ version_bytes) ≡ Ok (metaindex, index)
handles_read metaindex index padding fits fits' forty =
    let zone = handle_bytes metaindex ++ handle_bytes index ++ padding in
    let front : take 40 (zone ++ version_bytes) ≡ handle_bytes metaindex ++ (handle_bytes index ++ padding) =
    ap (λ n. take n (zone ++ version_bytes)) (sym forty) ∙ take-append_seam zone version_bytes ∙ append_assoc (handle_bytes metaindex) (handle_bytes index) padding in
    let first : handle_at (take 40 (zone ++ version_bytes)) ≡ Ok (metaindex, handle_bytes index ++ padding) = ap handle_at front ∙ handle_read metaindex (handle_bytes index ++ padding) fits in
    ap (with_fault (λ fault. BadHandle)) (first_step (handle_at (take 40 (zone ++ version_bytes))) _ _ first ∙ first_step (handle_at (handle_bytes index ++ padding)) _ _ (handle_read index padding fits'))

-- the footer behind a table's blocks
pub footer_read : (body : List ℕ) (metaindex index : Handle) → FitsHandle metaindex → FitsHandle index
    → footer_of (body ++ footer_bytes metaindex index) ≡ Ok (record { version = 2; sum = Crc32c; metaindex = metaindex; index = index; start = length body })
unfolding footer_of
footer_read body metaindex index fits fits' =
    let handles = handle_bytes metaindex ++ handle_bytes index in
    let padding : List ℕ = replicate (40 - length handles) 0 in
    let zone = handles ++ padding in
    let few = handle_length metaindex fits in
    let few' = handle_length index fits' in
    let both = length-append (handle_bytes metaindex) (handle_bytes index) in
    let forty : length zone ≡ 40 = omega (arith, length-append handles padding, length-replicate {A = ℕ} (40 - length handles) 0) in
    let footer = footer_bytes metaindex index in
    let parted : footer ≡ (1 ∷ zone) ++ version_bytes = append_assoc (1 ∷ zone) (fixed_of 4 2) (fixed_of 8 newer_magic) in
    let len : length footer ≡ 53 = omega (arith, ap length parted, length-append (1 ∷ zone) version_bytes) in
    let table = body ++ footer in
    let whole_len = length-append body footer in
    let ended : table ≡ (body ++ ((1 ∷ zone) ++ fixed_of 4 2)) ++ fixed_of 8 newer_magic = sym (append_assoc body ((1 ∷ zone) ++ fixed_of 4 2) (fixed_of 8 newer_magic)) in
    let before_magic : length table - 8 ≡ length (body ++ ((1 ∷ zone) ++ fixed_of 4 2)) = omega (arith, ap length ended, length-append (body ++ ((1 ∷ zone) ++ fixed_of 4 2)) (fixed_of 8 newer_magic)) in
    let magic : magic_of table ≡ newer_magic =
    ap (λ n. little_endian (drop n table)) before_magic ∙ ap (λ table. little_endian (drop (length (body ++ ((1 ∷ zone) ++ fixed_of 4 2))) table)) ended
    ∙ ap little_endian (drop-append_seam (body ++ ((1 ∷ zone) ++ fixed_of 4 2)) (fixed_of 8 newer_magic)) in
    let start : length table - 53 ≡ length body = omega arith in
    let same : (magic_of table == newer_magic) ≡ true = eq-eqb _ _ magic in
    let behind : drop (length body) table ≡ 1 ∷ zone ++ version_bytes = drop-append_seam body footer ∙ parted in
    let handles_are = handles_read metaindex index padding fits fits' forty in
    rw (same, le-ltb (length table) 53 (omega arith), start, behind) (newer_read (length body) zone (metaindex, index) forty handles_are)
