-- A `-` before a `#{` that begins a word is that sign, and stands directly before it.
use Rattle.std.proofs.Common.{◌≡◌, ℕ, suc, ◌+◌, true, not, ◌&&◌, sym, ◌∙◌, ap, subst}
use Rattle.std.specs.Prelude.{codes}
use Rattle.sw_text_scan.proofs.Bounds.{and_left, and_right, not_true}
use Rattle.sw_tokens.specs.declared.token.TokenKind.{TokenKind}
use Rattle.sw_tokens.specs.Ends.{opens}
use Rattle.sw_parse_terminals.specs.declared.terminal.Terminal.{Terminal}
use Rattle.sw_parse_terminals.specs.declared.terminal.Terminal.TheVariants as terminals
use Rattle.sw_parse_terminals.specs.Numbers.{just}
use Rattle.sw_parse_lexemes.specs.declared.sort.Sort.TheVariants as sorts
use Rattle.sw_parse_lexemes.specs.Ahead.{sort_at, spaced_at, is_direct}
use Rattle.sw_parse_table.specs.declared.source.Source.{Source}
use Rattle.sw_parse_table.specs.Sources.{bytes_at}
use Rattle.sw_convert_again.specs.Tokens.{Old}
use Rattle.sw_convert_tokens.specs.Values.{WasRead}
use Rattle.sw_convert_texts.specs.Adjoining.{Adjoins}
use Rattle.sw_convert_texts.proofs.TerminalChoices.{comes, is_minus}
use Rattle.sw_convert_texts.proofs.LexemePairs.{plains_in, comes_at, directly_there}
use Rattle.sw_convert_texts.proofs.OldPieces.{old_piece, Whole, whole_bytes}
use Rattle.sw_convert_texts.proofs.Parts.{dash_text}
use Rattle.sw_convert_texts.proofs.WordKinds.{only_minus, insert_seen, kind_of_minus}
use Rattle.sw_convert_texts.proofs.OldRows.{sticks_by}

module _ (source : Source) (was : WasRead source) where
  pub record MinusThere (i : ℕ) : Type 0 where
    pub dash : bytes_at source i ≡ codes "-"
    pub sticks : Adjoins source i

  pub minus_there : (i : ℕ) → Old source i (just terminals.WordMinus) → Old source (suc i) (just terminals.WordInsert) → MinusThere i
  minus_there i minus insert =
      let it = comes_at source was i minus.lexeme minus.there in
      let direct = is_direct (plains_in source) (minus.lexeme.token + 1) sorts.OpenInsert in
      let sort = sort_at (plains_in source) minus.lexeme.token in
      let fit : (direct && is_minus sort) ≡ true =
      ap (λ (t : Terminal). comes t sort it.goes direct it.touches) (sym (only_minus minus.lexeme.terminal minus.kind)) ∙ it.fit in
      let piece = old_piece source was i minus.lexeme minus.there in
      let kind = kind_of_minus piece.kind piece.text (ap is_minus (sym piece.sort) ∙ and_right direct _ fit) in
      let whole = piece.own (ap opens kind) in
      let behind = and_left direct (is_minus sort) fit in record {
        dash = whole_bytes source i minus.lexeme piece.kind piece.text minus.there whole
            ∙ dash_text source minus.lexeme piece.text (subst (λ (k : TokenKind). Whole source minus.lexeme k piece.text) kind whole);
        sticks = sticks_by source was i minus.lexeme insert.lexeme minus.there insert.there
            (directly_there source was i minus.lexeme insert.lexeme minus.there insert.there
            (not_true (spaced_at (plains_in source) (minus.lexeme.token + 1)) (and_left (not (spaced_at (plains_in source) (minus.lexeme.token + 1))) _ behind))
            (insert_seen (sort_at (plains_in source) (minus.lexeme.token + 1)) (and_right (not (spaced_at (plains_in source) (minus.lexeme.token + 1))) _ behind)));
      }
