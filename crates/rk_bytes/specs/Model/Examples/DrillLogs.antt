-- Worked examples of what the drill's logs read as. The bytes were computed outside.
use Rattle.std.specs.Prelude.{◌≡◌, [], ◌∷◌, refl}
use Rattle.rk_bytes.specs.declared.model.log.EndKind.TheVariants.{Clean, Torn}
use Rattle.rk_bytes.specs.Model.Checksums.{crc_bit, crc_bits, crc_bytes, crc32c, pieces}
use Rattle.rk_bytes.specs.Model.Drill.{drill_log, drill_torn_log}
use Rattle.rk_bytes.specs.Model.LogItems.{rec, end, log_items}
use Rattle.rk_bytes.specs.Model.LogMarks.{found, fragment_found, marks_from, block_len, blocks_marks, log_marks}
use Rattle.rk_bytes.specs.Model.Writers.{batch_bytes}
use Rattle.rk_bytes.specs.Model.WrittenLogs.{fragment_bytes, record_fragments, record_pieces, written_record, written_log}

items_of_torn_log_of_one : log_items 5 (drill_torn_log 1)
    ≡ end Torn 0 ∷ []
unfolding drill_torn_log batch_bytes written_log written_record block_len record_pieces pieces record_fragments fragment_bytes log_marks blocks_marks marks_from found fragment_found crc32c crc_bytes crc_bits crc_bit
items_of_torn_log_of_one = refl

items_of_log_of_one : log_items 6 (drill_log 1)
    ≡ rec (3 ∷ 0 ∷ 0 ∷ 0 ∷ 0 ∷ 0 ∷ 0 ∷ 0 ∷ 1 ∷ 0 ∷ 0 ∷ 0 ∷ 1 ∷ 8 ∷ 0 ∷ 0 ∷ 0 ∷ 0 ∷ 0 ∷ 0 ∷ 0 ∷ 1 ∷ 8 ∷ 0 ∷ 0 ∷ 0 ∷ 1 ∷ 0xDA ∷ 0xA6 ∷ 0x6D ∷ 0x13 ∷ []) 0 ∷ end Clean 38 ∷ []
unfolding drill_log batch_bytes written_log written_record block_len record_pieces pieces record_fragments fragment_bytes log_marks blocks_marks marks_from found fragment_found crc32c crc_bytes crc_bits crc_bit
items_of_log_of_one = refl

items_of_torn_log_of_two : log_items 5 (drill_torn_log 2)
    ≡ rec (3 ∷ 0 ∷ 0 ∷ 0 ∷ 0 ∷ 0 ∷ 0 ∷ 0 ∷ 1 ∷ 0 ∷ 0 ∷ 0 ∷ 1 ∷ 8 ∷ 0 ∷ 0 ∷ 0 ∷ 0 ∷ 0 ∷ 0 ∷ 0 ∷ 3 ∷ 8 ∷ 0 ∷ 0 ∷ 0 ∷ 1 ∷ 0xDA ∷ 0xA6 ∷ 0x6D ∷ 0x13 ∷ []) 0 ∷ end Torn 38 ∷ []
unfolding drill_torn_log batch_bytes written_log written_record block_len record_pieces pieces record_fragments fragment_bytes log_marks blocks_marks marks_from found fragment_found crc32c crc_bytes crc_bits crc_bit
items_of_torn_log_of_two = refl

items_of_log_of_two : log_items 6 (drill_log 2)
    ≡ rec (5 ∷ 0 ∷ 0 ∷ 0 ∷ 0 ∷ 0 ∷ 0 ∷ 0 ∷ 1 ∷ 0 ∷ 0 ∷ 0 ∷ 1 ∷ 8 ∷ 0 ∷ 0 ∷ 0 ∷ 0 ∷ 0 ∷ 0 ∷ 0 ∷ 1 ∷ 8 ∷ 0 ∷ 0 ∷ 0 ∷ 3 ∷ 0x17 ∷ 0x15 ∷ 0x60 ∷ 0x75 ∷ []) 0 ∷ rec (6 ∷ 0 ∷ 0 ∷ 0 ∷ 0 ∷ 0 ∷ 0 ∷ 0 ∷ 1 ∷ 0 ∷ 0 ∷ 0 ∷ 1 ∷ 8 ∷ 0 ∷ 0 ∷ 0 ∷ 0 ∷ 0 ∷ 0 ∷ 0 ∷ 2 ∷ 8 ∷ 0 ∷ 0 ∷ 0 ∷ 3 ∷ 0xB5 ∷ 0x4C ∷ 0xDA ∷ 0x26 ∷ []) 38 ∷ end Clean 76 ∷ []
unfolding drill_log batch_bytes written_log written_record block_len record_pieces pieces record_fragments fragment_bytes log_marks blocks_marks marks_from found fragment_found crc32c crc_bytes crc_bits crc_bit
items_of_log_of_two = refl
