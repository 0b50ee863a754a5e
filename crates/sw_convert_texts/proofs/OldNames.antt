-- A name that was read in the head of an at-rule: it is a name by itself, as it stood and with `-` for each `_`.
use Rattle.std.proofs.Common.{◌≡◌, ◌<◌, ℕ, ◌+◌, true, List, [], ◌++◌, length, Some, refl, sym, ◌∙◌, ap, subst}
use Rattle.sw_text.specs.Names.{dashed}
use Rattle.sw_text_scan.specs.Bytes.{byte}
use Rattle.sw_text_locality.proofs.Written.{byte_before}
use Rattle.sw_tokens.specs.declared.pieces.Change.TheVariants as changes
use Rattle.sw_tokens.specs.declared.token.TokenKind.{TokenKind}
use Rattle.sw_tokens.specs.Pieces.{made, name_piece}
use Rattle.sw_parse_grammar.specs.Grammar.{member}
use Rattle.sw_parse_terminals.specs.Numbers.{number_of, just}
use Rattle.sw_parse_terminals.specs.declared.lexeme.Lexeme.{Lexeme}
use Rattle.sw_parse_terminals.specs.declared.terminal.Terminal.{Terminal}
use Rattle.sw_parse_terminals.specs.declared.terminal.Terminal.TheVariants as terminals
use Rattle.sw_parse_lexemes.specs.declared.sort.Sort.TheVariants as sorts
use Rattle.sw_parse_lexemes.specs.Ahead.{sort_at, is_direct}
use Rattle.sw_parse_lexemes.specs.Classes.{is_name}
use Rattle.sw_parse_table.specs.declared.source.Source.{Source}
use Rattle.sw_parse_table.specs.Sources.{lexeme_at, bytes_at}
use Rattle.sw_convert_spelling.proofs.Choices as names
use Rattle.sw_convert_written.specs.Names.{name_text}
use Rattle.sw_convert_again.specs.Tokens.{Old}
use Rattle.sw_convert_tokens.specs.Values.{WasRead}
use Rattle.sw_convert_tokens.proofs.Dashes.{kept_name}
use Rattle.sw_convert_tokens.proofs.NamePieces.{name_in, name_run, name_keep}
use Rattle.sw_convert_tokens.proofs.Names.{Start, start_by, begun_by, run_by}
use Rattle.sw_convert_tokens.proofs.Stops.{nothing_parts}
use Rattle.sw_convert_tokens.proofs.Words.{kind_of_name, name_opens}
use Rattle.sw_convert_texts.proofs.TerminalChoices.{comes}
use Rattle.sw_convert_texts.proofs.LexemePairs.{plains_in, comes_at}
use Rattle.sw_convert_texts.proofs.OldPieces.{old_piece, whole_bytes}

-- a name begins a text, and ends before what was left of the old one
pub record NamedSo (text : List ℕ) : Type 0 where
  pub kind : TokenKind
  pub named : names.is_name kind ≡ true
  pub some : 0 < length text
  pub rest : List ℕ
  pub piece_is : name_piece (text ++ rest) 0 ≡ made kind (length text) changes.Keep

-- it makes no number of a `.` before it
pub name_start : (text : List ℕ) → NamedSo text → Start (byte text 0)
name_start text it =
    subst Start (byte_before text it.rest 0 it.some)
    (start_by (byte (text ++ it.rest) 0)
    (begun_by (text ++ it.rest) (name_run it.kind (length text) changes.Keep it.named (text ++ it.rest) it.piece_is).0))

-- as it stood, and as it is kept and written
pub record OldName (source : Source) (k : ℕ) : Type 0 where
  pub stood : NamedSo (bytes_at source k)
  pub kept : NamedSo (name_text (dashed (bytes_at source k)))

only_named : (terminal : Terminal) → member (number_of terminal) (just terminals.Named) ≡ true → terminal ≡ terminals.Named
only_named terminals.Named m = refl
only_named _ m = absurd (cc)

only_prefix : (terminal : Terminal) → member (number_of terminal) (just terminals.Prefix) ≡ true
    → terminal ≡ terminals.Prefix
only_prefix terminals.Prefix m = refl
only_prefix _ m = absurd (cc)

module _ (source : Source) (was : WasRead source) where
  named_by : (k : ℕ) (lexeme : Lexeme) → lexeme_at source k ≡ Some lexeme
      → is_name (sort_at (plains_in source) lexeme.token) ≡ true → OldName source k
  named_by k lexeme there n =
      let it = old_piece source was k lexeme there in
      let named = kind_of_name it.kind it.text (ap is_name (sym it.sort) ∙ n) in
      let own = it.own (name_opens it.kind named) in
      let bs = it.text ++ own.after in
      let is = name_in it.kind (length it.text) own.change named bs own.inside own.before own.is in
      let keep = name_keep it.kind (length it.text) own.change named bs is in
      let kept = kept_name it.text own.after own.some (name_run it.kind (length it.text) own.change named bs is).0
      (run_by it.text own.after [] it.kind own.change named own.some is (nothing_parts it.text) bs is) in
      let (stood, so_kept) = subst (λ (w : List ℕ). NamedSo w × NamedSo (name_text (dashed w)))
      (sym (whole_bytes source k lexeme it.kind it.text there own)) (
        record {
          kind = it.kind;
          named = named;
          some = own.some;
          rest = own.after;
          piece_is = is ∙ ap (made it.kind (length it.text)) keep;
        },
        record { kind = kept.kind; named = kept.is; some = kept.some; rest = dashed own.after; piece_is = kept.piece_is },
      ) in record { stood = stood; kept = so_kept }

  pub named_there : (k : ℕ) → Old source k (just terminals.Named) → OldName source k
  named_there k old =
      let it = comes_at source was k old.lexeme old.there in
      named_by k old.lexeme old.there
      (ap
      (λ (t : Terminal). comes t (sort_at (plains_in source) old.lexeme.token) it.goes (is_direct (plains_in source) (old.lexeme.token + 1) sorts.OpenInsert) it.touches)
      (sym (only_named old.lexeme.terminal old.kind)) ∙ it.fit)

  pub prefix_there : (k : ℕ) → Old source k (just terminals.Prefix) → OldName source k
  prefix_there k old =
      let it = comes_at source was k old.lexeme old.there in
      named_by k old.lexeme old.there
      (ap
      (λ (t : Terminal). comes t (sort_at (plains_in source) old.lexeme.token) it.goes (is_direct (plains_in source) (old.lexeme.token + 1) sorts.OpenInsert) it.touches)
      (sym (only_prefix old.lexeme.terminal old.kind)) ∙ it.fit)
