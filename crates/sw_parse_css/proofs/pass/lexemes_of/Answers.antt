use Rattle.std.proofs.Common.{sym, ap, ◌∙◌, All}
use Rattle.std.proofs.lemmas.List.Elements.{All-append}
use Rattle.sw_text.specs.Places.{Text}
use Rattle.sw_parse_terminals.specs.Lies.{LexemeLies}
use Rattle.sw_parse_css.specs.Lexemes.{optional, read, lexemes_of}
use Rattle.sw_parse_css.proofs.Listed.{one_more, all_read}
use Rattle.sw_parse_css.proofs.pass.lexemes_of.Goals as goal

pub read-requires : goal.read-requires
read-requires c = rw c.sheet.ensures (c.in-Some.ensures.stands c.in-Some.token.now (sym c.in-Some.ensures.value))

pub tokens-preserved : goal.tokens-preserved
tokens-preserved c = record {
  lexemes =
      one_more c.args.tokens.now.sheet.bytes c.args.tokens.now.list c.tokens.state c.tokens.at c.in-Some.token.now c.in_ok-lexeme.field-0 c.tokens.lexemes.items
      c.added.new.lexemes.items _ c.in-Some.ensures.value
      (c.in_ok-lexeme.ensures.value ∙ ap (λ (t : Text). read t.bytes c.tokens.state c.tokens.at c.in-Some.token.now) c.sheet.ensures)
      c.in_ok-added.ensures c.tokens.invariant.lexemes;
  lie =
      rw c.in_ok-added.ensures (All-append (LexemeLies c.args.tokens.now.sheet.bytes) _ _ c.tokens.invariant.lie (rw c.sheet.ensures at c.in_ok-lexeme.ensures.lies));
}

pub returns-clause-lexemes : goal.returns-clause-lexemes
returns-clause-lexemes c =
    c.from_vec.ensures ∙ all_read c.args.tokens.now.sheet.bytes c.args.tokens.now.list c.tokens.state c.tokens.at c.tokens.lexemes.items
    (lexemes_of c.args.tokens.now.sheet.bytes c.args.tokens.now.list) c.in_default.ensures.value c.tokens.invariant.lexemes
