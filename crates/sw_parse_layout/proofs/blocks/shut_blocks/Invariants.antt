use Rattle.std.proofs.Common.{◌≡◌, ◌-◌}
use Rattle.sw_parse_layout.specs.Blocks.{shut_from, shut_blocks}
use Rattle.sw_parse_layout.proofs.Shutting.{with_more}
use Rattle.sw_parse_layout.proofs.blocks.shut_blocks.Given as goal

abbrev pub invariant-shutting : goal.invariant-shutting
invariant-shutting l =
    with_more l.tokens (shut_from (l.count - l._block) l.end l.depth l.depths) ≡ shut_blocks l.end l.depth l.fn.depths
