use Rattle.sw_convert_heads_passing.proofs.Blocks.{ends_are_told, blocks_open, blocks_close, blocks_end}
use Rattle.sw_convert_heads_passing.proofs.law.blocks_are_told.Goals as goal

pub returns : goal.returns
returns c = record { ends = ends_are_told; opening = blocks_open; closing = blocks_close; last = blocks_end }
