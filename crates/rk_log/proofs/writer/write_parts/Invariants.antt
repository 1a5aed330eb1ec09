use Rattle.std.proofs.Common.{◌+◌, length, cond}
use Rattle.rk_bytes.specs.Model.WrittenLogs.{record_fragments, record_pieces, left_in_block}
use Rattle.rk_log.proofs.WriteLemmas.{IsWriting}
use Rattle.rk_log.proofs.writer.write_parts.Given as goal

abbrev pub invariant-loop-rest : goal.invariant-loop-rest
invariant-loop-rest l =
    IsWriting l.number l.initial.out.items (record_fragments l.number (record_pieces l.number (left_in_block (length l.initial.out.items)) l.initial.rest)) l.out.items l.begins l.rest

abbrev pub decreases-loop-rest : goal.decreases-loop-rest
decreases-loop-rest l = cond l.begins 1 0 + length l.rest
