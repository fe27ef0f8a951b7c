use Rattle.printed_blocks.proofs.ReadBlocks.{blocks_read}
use Rattle.printed_blocks.proofs.block.printed_blocks_are_read.Goals as goal

pub returns : goal.returns
returns c = record { blocks = blocks_read }
