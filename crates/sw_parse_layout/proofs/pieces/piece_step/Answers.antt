use Rattle.std.proofs.Common.{sym, ap, ◌∙◌, arith}
use Rattle.sw_tokens.specs.declared.token.Syntax.TheVariants as syntaxes
use Rattle.sw_tokens.specs.declared.skips.Inside.{Inside}
use Rattle.sw_tokens.specs.Pieces.{piece}
use Rattle.sw_tokens.specs.Tokens.{top}
use Rattle.sw_tokens.proofs.Forward.{piece_onward}
use Rattle.sw_parse_layout.proofs.pieces.piece_step.Goals as goal

pub piece_found-requires-clause-to : goal.piece_found-requires-clause-to
piece_found-requires-clause-to c =
    let found = sym (c.in_ok-piece_at.ensures ∙ ap (λ (t : Inside). piece c.args.text.now t c.args.s.line.before
    c.args.s.at) (c.top_of-top.ensures ∙ ap (top syntaxes.Scss) c.as_slice.ensures)) ∙ c.in-Some.is in
    let on = piece_onward c.args.text.now _ c.args.s.line.before c.args.s.at c.in-Some.piece c.requires.within found in
    let within = on.within in
    let short = c.requires.short in omega arith
