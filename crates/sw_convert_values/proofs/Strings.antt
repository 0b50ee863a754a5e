-- Strings with values in them: their texts, and the first `#{`.
use Rattle.std.proofs.Common.{◌≡◌, ℕ, suc, Bool, true, false, List, [], ◌∷◌, ◌++◌, map, refl, ◌∙◌, ap, append_assoc}
use Rattle.std.specs.Prelude.{codes}
use Rattle.sw_text_scan.specs.Bytes.{byte}
use Rattle.sw_tree.specs.declared.text.Piece.{Piece}
use Rattle.sw_tree.specs.declared.expr.Expr.{Expr}
use Rattle.sw_tree.specs.declared.text.Piece.TheVariants as pieces
use Rattle.sw_parse_terminals.specs.declared.terminal.Terminal.TheVariants as terminals
use Rattle.sw_parse_terminals.specs.Numbers.{just}
use Rattle.sw_parse_table.specs.declared.source.Source.{Source}
use Rattle.sw_parse_table.specs.Sources.{decoded_at}
use Rattle.sw_convert_written.specs.declared.manner.Manner.TheVariants as manners
use Rattle.sw_convert_written.specs.Pieces.{Written, piece_text, pieces_text}
use Rattle.sw_convert_spelling.specs.Strings.{escaped}
use Rattle.sw_convert_written.specs.Expressions.{expr_text, piece_written}
use Rattle.sw_convert_written.proofs.Unrolled as unrolled
use Rattle.sw_convert_again.specs.Tokens.{Tok, Old}
use Rattle.sw_convert_again.specs.Spells.{SpellsPieces}
use Rattle.sw_convert_again.specs.Spells as spells
use Rattle.sw_convert_tokens.specs.Values.{WasRead}
use Rattle.sw_convert_tokens.proofs.Templates.{Begun}
use Rattle.sw_convert_tokens.proofs.Decodings.{decoded_there}
use Rattle.sw_convert_texts.proofs.TextsApart.{texts_apart, begins_open, text_opens}
use Rattle.sw_convert_values.proofs.Shapes.{pieces_more, inserted_before}

-- text stood directly before
pub data TextBefore (source : Source) : ℕ → Type 0 where
  text_before : (k : ℕ) → Old source k (just terminals.TextPiece) → TextBefore source (suc k)

module _ (source : Source) (was : WasRead source) where
  -- no text stands behind another one
  apart_from : {i : ℕ} → TextBefore source i → Old source i (just terminals.TextPiece) → ⊥
  apart_from (text_before k one) two = texts_apart source was k one two

  pub text_alone : (i : ℕ) → Old source i (just terminals.TextPiece) → (behind : Bool)
      → (behind ≡ true → TextBefore source i) → behind ≡ false
  text_alone i old true before = absurd (apart_from (before refl) old)
  text_alone i old false before = refl

  -- a text before a `#{`
  begun_text : (k : ℕ) (value : Expr) (texts : List Piece) (after : List ℕ)
      → Begun (pieces_text manners.Quoted (map piece_written (pieces.Text (decoded_at source k) ∷ pieces.Inserted value ∷ texts)) ++ after)
  unfolding byte
  begun_text k value texts after = record {
    said = decoded_at source k;
    rest = (codes "#{" ++ (expr_text value ++ codes "}")) ++ (pieces_text manners.Quoted (map piece_written texts) ++ after);
    is =
        ap (λ (t : List ℕ). t ++ after)
        (pieces_more (pieces.Text (decoded_at source k)) (pieces.Inserted value ∷ texts)
        ∙ ap (λ (w : Written). piece_text manners.Quoted w ++ pieces_text manners.Quoted (map piece_written (pieces.Inserted value ∷ texts)))
        (unrolled.said_is (decoded_at source k)))
        ∙ append_assoc (escaped (decoded_at source k)) (pieces_text manners.Quoted (map piece_written (pieces.Inserted value ∷ texts))) after
        ∙ ap (λ (t : List ℕ). escaped (decoded_at source k) ++ t) (inserted_before value texts after);
    of_bytes = decoded_there source was k;
    opening = refl;
  }

  -- the first `#{` of a string
  pub begun_in : {i k : ℕ} {texts : List Piece} {tokens : List Tok} → Old source i (just terminals.Template)
      → (it : SpellsPieces source (suc i) k texts tokens) → Old source k (just terminals.TemplateEnd) → (after : List ℕ)
      → Begun (pieces_text manners.Quoted (map piece_written texts) ++ after)
  unfolding byte
  begun_in {i} opens spells.no_pieces close after = absurd (begins_open source was i opens close)
  begun_in {i} opens (spells.text_piece old some spells.no_pieces) close after =
      absurd (text_opens source was i opens old close)
  begun_in {i} opens (spells.text_piece old some (spells.text_piece other more_some more)) close after =
      absurd (texts_apart source was (suc i) old other)
  begun_in {i} opens (spells.text_piece old some (spells.empty_piece other none more)) close after =
      absurd (texts_apart source was (suc i) old other)
  begun_in {i} opens (spells.text_piece old some (spells.inserted_piece {value = value} {texts = texts} start inner end more)) close after =
      begun_text (suc i) value texts after
  begun_in {i} opens (spells.empty_piece old none spells.no_pieces) close after =
      absurd (text_opens source was i opens old close)
  begun_in {i} opens (spells.empty_piece old none (spells.text_piece other more_some more)) close after =
      absurd (texts_apart source was (suc i) old other)
  begun_in {i} opens (spells.empty_piece old none (spells.empty_piece other more_none more)) close after =
      absurd (texts_apart source was (suc i) old other)
  begun_in {i} opens (spells.empty_piece old none (spells.inserted_piece {value = value} {texts = texts} start inner end more)) close after =
      begun_text (suc i) value texts after
  begun_in opens (spells.inserted_piece {value = value} {texts = texts} start inner end more) close after = record {
    said = [];
    rest = (codes "#{" ++ (expr_text value ++ codes "}")) ++ (pieces_text manners.Quoted (map piece_written texts) ++ after);
    is = inserted_before value texts after;
    of_bytes = refl;
    opening = refl;
  }
