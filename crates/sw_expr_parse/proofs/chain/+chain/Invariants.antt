use Rattle.std.proofs.Common.{◌≡◌, ◌+◌, ◌-◌, ◌*◌, length, map}
use Rattle.sw_parse_grammar.specs.Grammar.{many, prepend}
use Rattle.sw_parse_table.specs.Parts.{Links}
use Rattle.sw_parse_table.specs.Expressions.{link, side}
use Rattle.sw_parse_table.specs.Reads.{reader}
use Rattle.sw_expr_parse.specs.Binding.{rank}
use Rattle.sw_expr_parse.proofs.Climb.{Climbed, left}
use Rattle.sw_expr_parse.proofs.chain.+chain.Given as goal

abbrev pub decreases-side_at : goal.decreases-side_at
decreases-side_at g l = 4 * rank l.precedence

abbrev pub decreases-link_at : goal.decreases-link_at
decreases-link_at g l = 4 * rank l.precedence + 1

abbrev pub decreases-links_at : goal.decreases-links_at
decreases-links_at g l = 4 * rank l.precedence + 2

abbrev pub decreases-chain_at : goal.decreases-chain_at
decreases-chain_at g l = 4 * rank l.precedence + 3

abbrev pub invariant-chain_at-bindings : goal.invariant-chain_at-bindings
invariant-chain_at-bindings g l = Climbed l.source l.levels l.at l.precedence l.binding l.value l.place

abbrev pub decreases-chain_at-bindings : goal.decreases-chain_at-bindings
decreases-chain_at-bindings g l = left l.precedence l.binding

abbrev pub invariant-links_at-items : goal.invariant-links_at-items
invariant-links_at-items g l =
    prepend (map Links l.list.items) (reader l.source l.levels (many (link l.source l.precedence (side l.source l.precedence))) l.place)
    ≡ reader l.source l.levels (many (link l.source l.precedence (side l.source l.precedence))) l.at

abbrev pub decreases-links_at-items : goal.decreases-links_at-items
decreases-links_at-items g l = length l.source.lexemes.now - l.place
