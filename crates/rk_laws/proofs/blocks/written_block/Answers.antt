use Rattle.rk_laws.proofs.WrittenBlocks.{block_read, block_is_bytes}
use Rattle.rk_laws.proofs.WrittenHandles.{handles_block_read, index_block_read}
use Rattle.rk_laws.proofs.blocks.written_block.Goals as goal

pub returns-clause-read : goal.returns-clause-read
returns-clause-read c = block_read

pub returns-clause-bytes : goal.returns-clause-bytes
returns-clause-bytes c = block_is_bytes

pub returns-clause-handles : goal.returns-clause-handles
returns-clause-handles c = handles_block_read

pub returns-clause-index : goal.returns-clause-index
returns-clause-index c = index_block_read
