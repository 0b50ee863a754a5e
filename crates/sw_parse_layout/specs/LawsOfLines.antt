-- Over which line ends a statement of an indented text goes on, said of the text's tokens.
use Rattle.std.specs.Prelude.{◌≡◌, ◌⊎◌, ℕ, ◌+◌, Bool, true, false, not, ◌||◌, ◌==◌, if◌then◌else◌, List, [], ◌∷◌, length, Some}
use Rattle.sw_text_scan.specs.Bytes.{byte, is_break, is_white, begins_loud}
use Rattle.sw_tokens.specs.declared.token.TokenKind.TheVariants as kinds
use Rattle.sw_tokens.specs.declared.token.Token.{Token}
use Rattle.sw_tokens.specs.declared.token.Syntax.TheVariants as syntaxes
use Rattle.sw_tokens.specs.declared.pieces.Before.{Before}
use Rattle.sw_tokens.specs.declared.pieces.Piece.{Piece}
use Rattle.sw_tokens.specs.declared.scan.Opened.{Opened}
use Rattle.sw_tokens.specs.Pieces.{piece}
use Rattle.sw_tokens.specs.Tokens.{top, changed, is_spaced}
use Rattle.sw_parse_layout.specs.declared.lines.Reach.{Reach}
use Rattle.sw_parse_layout.specs.declared.sorts.Sort.{Sort}
use Rattle.sw_parse_layout.specs.declared.sorts.Sort.TheVariants as sorts
use Rattle.sw_parse_layout.specs.declared.state.Bracket.{Bracket}
use Rattle.sw_parse_layout.specs.Lines.{ends_at_sign, comment_end}
use Rattle.sw_parse_layout.specs.Pieces.{bracketed, sorted_by, renamed}
use Rattle.sw_parse_layout.specs.Steps.{is_comma}
use Rattle.sw_parse_layout.specs.Laws.{is_line_sign}
use Rattle.sw_parse_layout.specs.LawsOfText.{IsComment, IsKind, Gap}

-- statements

-- what the tokens of a statement leave open (strings, urls and `#{}`, and brackets), and what they tell of its form
pub record Seen : Type 0 where
  pub opened : List Opened
  pub brackets : List Bracket
  pub sort : Sort

abbrev pub unseen : Seen
unseen = record { opened = []; brackets = []; sort = sorts.Fresh }

-- with one token more: brackets and form are told by those that stand in no string, url or `#{}`
abbrev pub seen_with : Seen → Piece → ℕ → Bool → Seen
seen_with seen p at spaced = record {
  opened = changed seen.opened p.change at;
  brackets = if length seen.opened == 0 then bracketed seen.brackets (renamed seen.sort p.token) else seen.brackets;
  sort = if length seen.opened == 0 then sorted_by seen.sort (renamed seen.sort p.token) spaced else seen.sort;
}

-- it goes on over the end of a line: in what is open, and behind a comma of a selector
abbrev pub spans_lines : Seen → Bool
spans_lines seen = not (length seen.opened == 0) || (not (length seen.brackets == 0) || is_comma seen.sort)

-- white space and comments stand there, and a line ends in the white space only where lines may
pub data Space (bs : List ℕ) (lines : Bool) : ℕ → ℕ → Type 0 where
  empty : {at : ℕ} → Space bs lines at at
  blank : {at to : ℕ} → is_white (byte bs at) ≡ true → is_break (byte bs at) ≡ false → Space bs lines (at + 1) to
      → Space bs lines at to
  line_end : {at to : ℕ} → is_break (byte bs at) ≡ true → lines ≡ true → Space bs lines (at + 1) to → Space bs lines at to
  note : {at mid to : ℕ} → IsComment bs at mid → Space bs lines mid to → Space bs lines at to

-- texts

-- between statements; in one, of which this was seen up to a place; or in a comment that is one, where this is open
pub data Phase : Type 0 where
  between : Phase
  statement : Seen → ℕ → Phase
  comment : List Opened → Phase

-- what lines stand for comes between statements, or behind one that doesn't go on over the end of a line, or at the end
-- of the text
pub data Ends (bs : List ℕ) : Phase → Type 0 where
  idle : Ends bs between
  single : {seen : Seen} {at : ℕ} → spans_lines seen ≡ false → Ends bs (statement seen at)
  last : {seen : Seen} {at : ℕ} → Gap bs at (length bs) → Ends bs (statement seen at)

-- of a comment: its text, and where a line of it begins
abbrev pub InNote : Token → Type 0
InNote t = (t.kind ≡ kinds.Piece) ⊎ (t.kind ≡ kinds.CommentLine)

-- the tokens from some phase on
pub data Lines (bs : List ℕ) : Phase → List Token → Type 0 where
  ended : {phase : Phase} → Lines bs phase []
  -- a `;`, `{` or `}` that lines stand for
  sign : {phase : Phase} {t : Token} {ts : List Token} → is_line_sign t.kind ≡ true → t.from ≡ t.to → Ends bs phase
      → Lines bs between ts → Lines bs phase (t ∷ ts)
  -- a statement begins
  begins : {ts : List Token} (at : ℕ) → Lines bs (statement unseen at) ts → Lines bs between ts
  -- a token of it, behind no line's end but one over which it goes on
  token : {seen : Seen} {at : ℕ} {t : Token} {ts : List Token} (before : Before) (p : Piece)
      → Space bs (spans_lines seen) at t.from → piece bs (top syntaxes.Scss seen.opened) before t.from ≡ Some p
      → renamed seen.sort p.token ≡ Some t.kind
      → Lines bs (statement (seen_with seen p t.from (is_spaced before)) p.to) ts
      → Lines bs (statement seen at) (t ∷ ts)
  -- a comment in it
  inner : {seen : Seen} {at : ℕ} {t : Token} {ts : List Token} (reach : Reach) → Space bs (spans_lines seen) at t.from
      → t.kind ≡ kinds.Comment → ends_at_sign reach ≡ true → begins_loud bs t.from ≡ true
      → Lines bs (statement seen (comment_end bs reach (t.from + 2))) ts → Lines bs (statement seen at) (t ∷ ts)
  -- a comment that is a statement, with its `#{}`, up to its end
  opens : {t : Token} {ts : List Token} → t.kind ≡ kinds.CommentTemplate → begins_loud bs t.from ≡ true
      → Lines bs (comment []) ts → Lines bs between (t ∷ ts)
  text : {opened : List Opened} {t : Token} {ts : List Token} → InNote t → Lines bs (comment opened) ts
      → Lines bs (comment opened) (t ∷ ts)
  inserted : {opened : List Opened} {t : Token} {ts : List Token} (before : Before) (p : Piece)
      → piece bs (top syntaxes.Scss opened) before t.from ≡ Some p → IsKind t.kind p.token
      → Lines bs (comment (changed opened p.change t.from)) ts → Lines bs (comment opened) (t ∷ ts)
  closes : {t : Token} {ts : List Token} → t.kind ≡ kinds.CommentEnd → Lines bs between ts
      → Lines bs (comment []) (t ∷ ts)
