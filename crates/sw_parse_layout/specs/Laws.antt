-- What the tokens of an indented text are: statements one below the other, each with a `;` or with the block of its
-- deeper lines.
use Rattle.std.specs.Prelude.{◌≡◌, ℕ, ◌+◌, ◌-◌, ◌≤◌, ◌<◌, Bool, true, false, ◌&&◌, ◌==◌, List, [], ◌∷◌, ◌++◌}
use Rattle.std.specs.List.{AllByRecursion}
use Rattle.sw_text.specs.Places.{mark_length}
use Rattle.sw_text_scan.specs.Bytes.{byte, is_break, is_white}
use Rattle.sw_tokens.specs.declared.token.TokenKind.{TokenKind}
use Rattle.sw_tokens.specs.declared.token.TokenKind.TheVariants as kinds
use Rattle.sw_tokens.specs.declared.token.Token.{Token}
use Rattle.sw_parse_layout.specs.Laid.{sign_at}
use Rattle.sw_parse_layout.specs.Lines.{is_blank}

-- lines

-- a line starts at the beginning of the text, and behind each line break
pub data StartsLine (bs : List ℕ) : ℕ → Type 0 where
  first : StartsLine bs (mark_length bs)
  later : (i : ℕ) → is_break (byte bs i) ≡ true → StartsLine bs (i + 1)

-- the text of a line begins at a place: before it stand as many blanks as the line is deep, and nothing else
pub record BeginsLine (bs : List ℕ) (depth at : ℕ) : Type 0 where
  pub within : depth ≤ at
  pub start : StartsLine bs (at - depth)
  pub blank : (i : ℕ) → at - depth ≤ i → i < at → is_blank (byte bs i) ≡ true
  pub text : is_white (byte bs at) ≡ false

-- tokens

-- what lines stand for: an empty `{`, `}` or `;`
abbrev pub is_line_sign : TokenKind → Bool
is_line_sign kinds.OpenBrace = true
is_line_sign kinds.CloseBrace = true
is_line_sign kinds.Semicolon = true
is_line_sign _ = false

abbrev pub is_made : Token → Bool
is_made t = is_line_sign t.kind && (t.from == t.to)

abbrev pub IsOwn : Token → Type 0
IsOwn t = is_made t ≡ false

-- the first token stands at a place, and isn't made
abbrev pub FirstAt : ℕ → List Token → Type 0
FirstAt at [] = ⊥
FirstAt at (t ∷ ts) = (t.from ≡ at) × IsOwn t

abbrev pub opens_comment : TokenKind → Bool
opens_comment kinds.CommentTemplate = true
opens_comment _ = false

-- a loud comment that is a statement
abbrev pub is_comment : List Token → Bool
is_comment [] = false
is_comment (t ∷ ts) = opens_comment t.kind

-- the tokens of a statement but for its block: none of them is made, and the first begins a line
pub record Own (bs : List ℕ) (depth : ℕ) (ts : List Token) : Type 0 where
  pub at : ℕ
  pub begins : BeginsLine bs depth at
  pub first : FirstAt at ts
  pub each : AllByRecursion IsOwn ts

-- statements

-- statements one below the other, whose lines have one depth
pub data Statements (bs : List ℕ) : ℕ → List Token → Type 0 where
  none : {depth : ℕ} → Statements bs depth []
  -- a statement without a block has a `;`
  plain : {depth : ℕ} {own after : List Token} (end : ℕ) → Own bs depth own → is_comment own ≡ false
      → Statements bs depth after → Statements bs depth (own ++ sign_at kinds.Semicolon end ∷ after)
  -- a comment has none
  comment : {depth : ℕ} {own after : List Token} → Own bs depth own → is_comment own ≡ true
      → Statements bs depth after → Statements bs depth (own ++ after)
  -- a block has a `{` where its first line begins, and a `}`; its lines are deeper
  block : {depth deeper : ℕ} {own inner after : List Token} (at end : ℕ) → Own bs depth own → depth < deeper
      → BeginsLine bs deeper at → FirstAt at inner → Statements bs deeper inner → Statements bs depth after
      → Statements bs depth (own ++ sign_at kinds.OpenBrace at ∷ (inner ++ sign_at kinds.CloseBrace end ∷ after))
