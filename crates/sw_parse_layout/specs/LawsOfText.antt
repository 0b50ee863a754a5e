-- What the tokens of an indented text have of its bytes: each that isn't made is what SCSS has at its place, and white
-- space and comments alone stand between them.
use Rattle.std.specs.Prelude.{◌≡◌, ℕ, ◌+◌, ◌≤◌, ◌<◌, Bool, true, false, List, [], ◌∷◌, Option, Some}
use Rattle.sw_text_scan.specs.Bytes.{byte, is_break, is_white, opens_at, begins_silent, begins_loud, ends_loud}
use Rattle.sw_text_scan.specs.Runs.{run_end}
use Rattle.sw_text_scan.specs.declared.runs.Class.TheVariants as classes
use Rattle.sw_tokens.specs.declared.token.TokenKind.{TokenKind}
use Rattle.sw_tokens.specs.declared.token.TokenKind.TheVariants as kinds
use Rattle.sw_tokens.specs.declared.token.Token.{Token}
use Rattle.sw_tokens.specs.declared.skips.Inside.{Inside}
use Rattle.sw_tokens.specs.declared.pieces.Before.{Before}
use Rattle.sw_tokens.specs.declared.pieces.Piece.{Piece}
use Rattle.sw_tokens.specs.Pieces.{piece}
use Rattle.sw_tokens.specs.Ends.{opens}
use Rattle.sw_parse_layout.specs.declared.lines.Reach.{Reach}
use Rattle.sw_parse_layout.specs.declared.lines.Reach.TheVariants as reaches
use Rattle.sw_parse_layout.specs.Lines.{ends_at_sign, comment_end}

-- between tokens

-- a comment stands from a place to another: a silent one to the end of its line or of the deeper lines under it, a loud
-- one to its `*/` or to the end of its lines
pub data IsComment (bs : List ℕ) (from : ℕ) : ℕ → Type 0 where
  silent : begins_silent bs from ≡ true → IsComment bs from (run_end classes.Line bs (from + 2))
  silent_lines : (depth : ℕ) → begins_silent bs from ≡ true → IsComment bs from (comment_end bs (reaches.Lines depth)
      from)
  loud : (reach : Reach) → ends_at_sign reach ≡ true → begins_loud bs from ≡ true
      → IsComment bs from (comment_end bs reach (from + 2))

-- white space and comments alone stand there
pub data Gap (bs : List ℕ) : ℕ → ℕ → Type 0 where
  nothing : {at : ℕ} → Gap bs at at
  white : {at to : ℕ} → is_white (byte bs at) ≡ true → Gap bs (at + 1) to → Gap bs at to
  comment : {at mid to : ℕ} → IsComment bs at mid → Gap bs mid to → Gap bs at to

-- tokens

-- a token's kind is that of SCSS, but for `=` and `+`, which may be `@mixin` and `@include`
pub data IsKind (kind : TokenKind) : Option TokenKind → Type 0 where
  same : IsKind kind (Some kind)
  mixin : kind ≡ kinds.AtName → IsKind kind (Some kinds.Equals)
  included : kind ≡ kinds.AtName → IsKind kind (Some kinds.Plus)

-- a byte of a comment's text: no line ends there, no `*/` stands there, and no `#{`
pub record InComment (bs : List ℕ) (i : ℕ) : Type 0 where
  pub line : is_break (byte bs i) ≡ false
  pub within : ends_loud bs i ≡ false
  pub plain : opens_at bs i ≡ false

-- a token stands from its place to another, where the next may begin: what a later token closes ends there too
pub data Covers (bs : List ℕ) (t : Token) : ℕ → Type 0 where
  -- what SCSS has there
  scss : (inside : Inside) (before : Before) (p : Piece) → piece bs inside before t.from ≡ Some p
      → IsKind t.kind p.token → Covers bs t p.to
  -- a loud comment in a statement
  inner : (reach : Reach) → t.kind ≡ kinds.Comment → ends_at_sign reach ≡ true → begins_loud bs t.from ≡ true
      → Covers bs t (comment_end bs reach (t.from + 2))
  -- of a loud comment that is a statement its `/*`, its text and its `*/`
  begins : t.kind ≡ kinds.CommentTemplate → begins_loud bs t.from ≡ true → Covers bs t (t.from + 2)
  text : {to : ℕ} → t.kind ≡ kinds.Piece → t.from < to → ((i : ℕ) → t.from ≤ i → i < to → InComment bs i)
      → Covers bs t to
  ends : t.kind ≡ kinds.CommentEnd → ends_loud bs t.from ≡ true → Covers bs t (t.from + 2)

-- what is made and no text: `{`, `}` and `;`, where a line of a comment begins, and the end of one without `*/`
abbrev pub is_makeable : TokenKind → Bool
is_makeable kinds.OpenBrace = true
is_makeable kinds.CloseBrace = true
is_makeable kinds.Semicolon = true
is_makeable kinds.CommentLine = true
is_makeable kinds.CommentEnd = true
is_makeable _ = false

-- the tokens from a place to another
pub data Fills (bs : List ℕ) : ℕ → ℕ → List Token → Type 0 where
  ended : {from to : ℕ} → Gap bs from to → Fills bs from to []
  made : {from to : ℕ} {t : Token} {ts : List Token} → is_makeable t.kind ≡ true → t.from ≡ t.to
      → Fills bs from to ts → Fills bs from to (t ∷ ts)
  token : {from end to : ℕ} {t : Token} {ts : List Token} → Gap bs from t.from → Covers bs t end
      → (opens t.kind ≡ false → t.to ≡ end) → Fills bs end to ts → Fills bs from to (t ∷ ts)
