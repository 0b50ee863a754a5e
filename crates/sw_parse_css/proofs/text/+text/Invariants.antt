use Rattle.std.proofs.Common.{◌≡◌, ◌+◌, ◌-◌, ◌*◌, [], length}
use Rattle.sw_parse_grammar.specs.Grammar.{prepend}
use Rattle.sw_parse_css.specs.Seen.{seen}
use Rattle.sw_parse_css.specs.Sheets.{text_items}
use Rattle.sw_parse_css.specs.Reads.{reader}
use Rattle.sw_parse_css.proofs.text.+text.Given as goal

abbrev pub decreases-brackets_at : goal.decreases-brackets_at
decreases-brackets_at l = 3 * l.levels

abbrev pub decreases-text_item_at : goal.decreases-text_item_at
decreases-text_item_at l = 3 * l.levels + 1

abbrev pub decreases-text_items_at : goal.decreases-text_items_at
decreases-text_items_at l = 3 * l.levels + 2

abbrev pub invariant-text_items_at-items : goal.invariant-text_items_at-items
invariant-text_items_at-items l =
    prepend [] (reader (seen l.source) l.levels text_items l.place) ≡ reader (seen l.source) l.levels text_items l.at

abbrev pub decreases-text_items_at-items : goal.decreases-text_items_at-items
decreases-text_items_at-items l = length l.source.lexemes.now - l.place
