use Rattle.printed_adjoint_blocks.proofs.ReadAdjointBlocks.{blocks_read}
use Rattle.printed_adjoint_blocks.proofs.block.printed_adjoint_blocks_are_read.Goals as goal

pub returns : goal.returns
returns c = record { blocks = blocks_read }
