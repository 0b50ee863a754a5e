use Rattle.std.proofs.Common.{◌≡◌, ◌∙◌, refl, sym, ap, arith}
use Rattle.sw_text.specs.Places.{mark_length}
use Rattle.sw_parse_lexemes.proofs.Cursors.{start_stands, walked}
use Rattle.sw_parse_lexemes.proofs.cursor.from_start.Goals as goal

pub returns-then-at-text : goal.returns-then-at-text
returns-then-at-text c =
    let mark : c.args.text.now.skipped ≡ mark_length c.args.text.now.bytes.now = c.args.text.now.mark ∙ ap mark_length (sym c.args.text.now.whole) in
    start_stands _ _ _ (omega (arith, mark, c.if-at-text.true)) c.requires refl

pub returns : goal.returns
returns c =
    let mark : c.args.text.now.skipped ≡ mark_length c.args.text.now.bytes.now = c.args.text.now.mark ∙ ap mark_length (sym c.args.text.now.whole) in
    walked _ _ _ _ _ (start_stands _ c.args.text.now.skipped _ (omega (arith, mark)) (omega (arith, c.if-at-text.false, c.requires)) refl)
    (omega (arith, mark)) c.if-at-text.false c.requires
    c.walk_over.ensures.place c.walk_over.ensures.line c.walk_over.ensures.column
