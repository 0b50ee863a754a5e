-- Raw text in one line: each run of white space outside strings is one space (this project's own rule). White space that
-- belongs to an escape is one space too, and no part of a run. A string may hold `#{}`, and what is open before one of
-- these is open behind it.
use Rattle.std.specs.Prelude.{ℕ, ◌+◌, ◌&&◌, ◌==◌, nat_lt, if◌then◌else◌, List, [], ◌∷◌, ◌++◌, codes}
use Rattle.sw_text_scan.specs.Bytes.{sign, is_white, is_hex_digit, is_quote}
use Rattle.sw_text_scan.specs.declared.signs.TheConstants.{LINE_FEED, CARRIAGE_RETURN}
use Rattle.sw_tree.specs.declared.expr.Argument.{Argument}
use Rattle.sw_tree.specs.declared.expr.Callee.{Callee}
use Rattle.sw_tree.specs.declared.expr.Expr.{Expr}
use Rattle.sw_tree.specs.declared.expr.ExprKind.{ExprKind}
use Rattle.sw_tree.specs.declared.expr.ExprKind.TheOpen.{Parts-F, Piece-F}
use Rattle.sw_tree.specs.declared.expr.Link.{Link}
use Rattle.sw_tree.specs.declared.expr.Pair.{Pair}
use Rattle.sw_tree.specs.declared.text.Parts.{Parts, out-Parts}
use Rattle.sw_tree.specs.declared.text.Piece.{Piece, out-Piece}
use Rattle.sw_tree.specs.declared.text.Piece.TheVariants as pieces
use Rattle.sw_tree.specs.declared.text.Text.{Text}

-- what is open at a place of raw text
pub data Open : Type 0 where
  Nothing : Open
  -- a run of white space
  Run : Open
  -- an escape outside strings, of which so many hexadecimal digits stand there
  Escape : ℕ → Open
  -- the same behind its carriage return
  Returned : Open
  -- a string in this quote, and an escape in it
  String : ℕ → Open
  StringEscape : ℕ → Open

abbrev pub backslash : ℕ
backslash = sign "\\"

-- behind a byte outside strings that ends what was open
abbrev pub opened : ℕ → Open
opened b = if is_white b then Run else (if b == backslash then Escape 0 else (if is_quote b then String b else Nothing))

-- behind a byte in an escape of so many digits
abbrev pub escape_open : ℕ → ℕ → Open
escape_open digits b =
    if is_hex_digit b && nat_lt digits 6 then Escape (digits + 1)
    else (if digits == 0 then Nothing
    else (if b == CARRIAGE_RETURN then Returned else (if is_white b then Nothing else opened b)))

-- what is open behind a byte
abbrev pub behind : Open → ℕ → Open
behind Nothing b = opened b
behind Run b = opened b
behind (Escape digits) b = escape_open digits b
behind Returned b = if b == LINE_FEED then Nothing else opened b
behind (String quote) b = if b == quote then Nothing else (if b == backslash then StringEscape quote else String quote)
behind (StringEscape quote) b = String quote

abbrev pub spaced : ℕ → List ℕ
spaced b = if is_white b then codes " " else b ∷ []

-- a byte as it stands in one line
abbrev pub shown : Open → ℕ → List ℕ
shown Nothing b = spaced b
shown Run b = if is_white b then [] else b ∷ []
shown (Escape digits) b = if digits == 0 then b ∷ [] else spaced b
shown Returned b = if b == LINE_FEED then [] else spaced b
shown (String quote) b = b ∷ []
shown (StringEscape quote) b = b ∷ []

-- a text in one line, and what is open behind it
abbrev pub in_line : Open → List ℕ → List ℕ
in_line within [] = []
in_line within (b ∷ bytes) = shown within b ++ in_line (behind within b) bytes

abbrev pub open_behind : Open → List ℕ → Open
open_behind within [] = within
open_behind within (b ∷ bytes) = open_behind (behind within b) bytes

-- behind `#{}`, strings alone are still open
abbrev pub behind_insert : Open → Open
behind_insert (String quote) = String quote
behind_insert (StringEscape quote) = String quote
behind_insert _ = Nothing

abbrev pub OpenPiece : Type 0
OpenPiece = Piece-F ExprKind Parts Piece Argument Callee Expr Link Pair Text

abbrev pub OpenParts : Type 0
OpenParts = Parts-F ExprKind Parts Piece Argument Callee Expr Link Pair Text

abbrev pub piece_in_line : Open → OpenPiece → Piece
piece_in_line within (Piece-F.Text text) = pieces.Text (in_line within text)
piece_in_line within (Piece-F.Inserted value) = pieces.Inserted value
piece_in_line within (Piece-F.Value value) = pieces.Value value

abbrev pub behind_piece : Open → OpenPiece → Open
behind_piece within (Piece-F.Text text) = open_behind within text
behind_piece within _ = behind_insert within

-- the pieces of a text in one line
abbrev pub pieces_in_line : Open → List Piece → List Piece
pieces_in_line within [] = []
pieces_in_line within (piece ∷ rest) =
    piece_in_line within (out-Piece piece) ∷ pieces_in_line (behind_piece within (out-Piece piece)) rest

abbrev pub pieces_by : OpenParts → List Piece
pieces_by (Parts-F.Plain text) = pieces.Text text ∷ []
pieces_by (Parts-F.Mixed pieces) = pieces

-- a whole text in one line
unfoldable pub one_line : Parts → List Piece
one_line parts = pieces_in_line Nothing (pieces_by (out-Parts parts))
