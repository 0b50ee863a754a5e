use Rattle.std.proofs.Common.{◌≡◌, ◌∙◌, sym, ap, arith}
use Rattle.sw_text.specs.Places.{mark_length}
use Rattle.sw_parse_lexemes.proofs.Cursors.{walked}
use Rattle.sw_parse_lexemes.proofs.cursor.walk_to.Goals as goal

pub returns-then-from-at : goal.returns-then-from-at
returns-then-from-at c =
    let mark : c.args.text.now.skipped ≡ mark_length c.args.text.now.bytes.now = c.args.text.now.mark ∙ ap mark_length (sym c.args.text.now.whole) in
    walked _ _ _ _ _ c.requires.near (omega (arith, mark, c.if-text-from.true)) c.if-from-at.true c.requires.within
    c.walk_over.ensures.place c.walk_over.ensures.line c.walk_over.ensures.column
