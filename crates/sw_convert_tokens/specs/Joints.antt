-- Tokens as they are written of a value: their bytes, and what the grammar is to see of each.
use Rattle.std.specs.Prelude.{◌≡◌, ◌<◌, ℕ, suc, ◌+◌, List, [], ◌∷◌, ◌++◌, length, Bool, true, false, Some}
use Rattle.sw_tokens.specs.declared.pieces.Before.{Before}
use Rattle.sw_tokens.specs.declared.pieces.Change.{Change}
use Rattle.sw_tokens.specs.declared.pieces.Change.TheVariants as changes
use Rattle.sw_tokens.specs.declared.skips.Inside.{Inside}
use Rattle.sw_tokens.specs.declared.token.TokenKind.{TokenKind}
use Rattle.sw_tokens.specs.declared.token.TokenKind.TheVariants as kinds
use Rattle.sw_tokens.specs.Ends.{opens}
use Rattle.sw_tokens.specs.Tokens.{before_of, is_spaced}
use Rattle.sw_parse_terminals.specs.declared.terminal.Terminal.{Terminal}
use Rattle.sw_parse_terminals.specs.declared.terminal.Terminal.TheVariants as terminals
use Rattle.sw_parse_terminals.specs.declared.lexeme.Lexeme.{Lexeme}
use Rattle.sw_parse_lexemes.specs.declared.sort.Sort.{Sort}
use Rattle.sw_parse_lexemes.specs.Classes.{is_comment}
use Rattle.sw_parse_lexemes.specs.Sorts.{sort_of}
use Rattle.sw_parse_table.specs.declared.source.Source.{Source}
use Rattle.sw_parse_table.specs.Sources.{bytes, lexeme_at, token_of, decoded_in, decoded_by}
use Rattle.sw_convert_spelling.specs.Spelt.{Spelt, text_of, behind_gap, innermost, opened, is_sheet_code, is_gap, IsToken}
use Rattle.sw_convert_written.specs.Escapes.{apart}
use Rattle.sw_convert_passing.specs.Written.{Written}
use Rattle.sw_convert_passing.specs.Values.{seam}
use Rattle.sw_convert_again.specs.Tokens.{Said, Tok, Says, Among}

-- a token that the grammar sees
pub record Seen : Type 0 where
  -- the white space before it
  pub gap : List ℕ
  pub kind : TokenKind
  pub bytes : List ℕ
  -- what it opens or closes
  pub change : Change
  -- white space or a comment stands before it
  pub spaced : Bool
  -- the terminals that it may be
  pub may_be : List Terminal
  -- what a tree keeps of the text that begins with it
  pub said : Said

-- the same, or an empty comment
pub data Joint : Type 0 where
  Token : Seen → Joint
  Apart : Joint

-- ---- as spelling sees them

abbrev pub spelt_of : Joint → Spelt
spelt_of (Token seen) = record { gap = seen.gap; kind = seen.kind; bytes = seen.bytes; change = seen.change }
spelt_of Apart = record { gap = []; kind = kinds.Comment; bytes = apart; change = changes.Keep }

abbrev pub spelts : List Joint → List Spelt
spelts [] = []
spelts (joint ∷ joints) = spelt_of joint ∷ spelts joints

abbrev pub text : List Joint → List ℕ
text joints = text_of (spelts joints)

-- what stands directly before the token that comes behind them
abbrev pub behind : Before → List Joint → Before
behind before [] = before
behind before (joint ∷ joints) = behind (before_of (Some (spelt_of joint).kind)) joints

-- a token that the grammar sees is no comment, or begins a loud one
abbrev pub IsSeen : Sort → List Terminal → Type 0
IsSeen sort (terminals.CommentWhole ∷ []) = Unit {0}
IsSeen sort (terminals.CommentTemplate ∷ []) = Unit {0}
IsSeen sort may_be = is_comment sort ≡ false

-- what is told of a token: white space as it stands, and that it is seen
abbrev pub IsToldSo : Before → Joint → Type 0
IsToldSo before (Token seen) =
    (seen.spaced ≡ is_spaced (behind_gap before seen.gap)) × IsSeen (sort_of seen.kind seen.bytes) seen.may_be
IsToldSo before Apart = is_spaced before ≡ false

-- a token stands directly behind
abbrev pub Direct : List Joint → Type 0
Direct [] = ⊥
Direct (joint ∷ joints) = (spelt_of joint).gap ≡ []

-- each is a token where it stands with this text behind all of them, and what is open behind them is this
abbrev pub Stand : List Inside → Before → List Joint → List Inside → List ℕ → Type 0
Stand stack before [] end after = stack ≡ end
Stand stack before (joint ∷ joints) end after =
    (is_gap (innermost stack) (spelt_of joint).gap (spelt_of joint).bytes ≡ true)
    × (0 < length (spelt_of joint).bytes)
    × IsToldSo before joint
    × (opens (spelt_of joint).kind ≡ true → Direct joints)
    × IsToken (innermost stack) (behind_gap before (spelt_of joint).gap) (spelt_of joint) (text joints ++ after)
    × Stand (opened stack (spelt_of joint).change) (before_of (Some (spelt_of joint).kind)) joints end after

-- ---- as the pass over tokens sees them

abbrev pub written_of : Joint → Written
written_of (Token seen) = record { sort = sort_of seen.kind seen.bytes; spaced = seen.spaced; may_be = seen.may_be }
written_of Apart = seam

abbrev pub writtens : List Joint → List Written
writtens [] = []
writtens (joint ∷ joints) = written_of joint ∷ writtens joints

-- ---- as the grammar sees them

abbrev pub toks : List Joint → List Tok
toks [] = []
toks (Token seen ∷ joints) = record { kinds = seen.may_be; said = seen.said } ∷ toks joints
toks (Apart ∷ joints) = toks joints

-- a token of a text that was read, with so much text before it and behind it, and a comment directly before it or not
pub record Sits (source : Source) (commented : Bool) (at : ℕ) (front : List ℕ) (seen : Seen) (rest : List ℕ) : Type 0 where
  pub lexeme : Lexeme
  pub there : lexeme_at source at ≡ Some lexeme
  pub from : lexeme.from ≡ length front
  pub to : lexeme.to ≡ length front + length seen.bytes
  pub commented_is : lexeme.commented ≡ commented
  pub text_is : bytes source ≡ front ++ (seen.bytes ++ rest)
  pub decoded_is : decoded_in (token_of source (Some lexeme)) ≡ decoded_by seen.kind
  pub kind : Among lexeme.terminal seen.may_be

-- these tokens stand in a text that was read, from a place on
abbrev pub Sit : Source → Bool → ℕ → List ℕ → List Joint → List ℕ → Type 0
Sit source commented at front [] after = Unit {0}
Sit source commented at front (Token seen ∷ joints) after =
    Sits source commented at (front ++ seen.gap) seen (text joints ++ after)
    × Sit source false (suc at) ((front ++ seen.gap) ++ seen.bytes) joints after
Sit source commented at front (Apart ∷ joints) after = Sit source true at (front ++ apart) joints after

-- wherever they stand, each says what is kept of the text that begins with it
abbrev pub Tell : List Joint → Type 0
Tell [] = Unit {0}
Tell (Token seen ∷ joints) =
    ((source : Source) (commented : Bool) (at : ℕ) (front after : List ℕ)
    → Sit source commented at front (Token seen ∷ joints) after → Says source at seen.said)
    × Tell joints
Tell (Apart ∷ joints) = Tell joints

-- tokens that are this text behind what stands directly before them, in code, with what may stand behind them; the
-- grammar and the pass over tokens see them so
pub record Segment (before : Before) (bytes : List ℕ) (tokens : List Tok) (passed : List Written) (end : Before)
    (Behind : List ℕ → Type 0) : Type 0 where
  pub joints : List Joint
  pub spelling : text joints ≡ bytes
  pub seen : toks joints ≡ tokens
  pub written : writtens joints ≡ passed
  pub last : behind before joints ≡ end
  pub tells : Tell joints
  pub stand : (stack : List Inside) (after : List ℕ) → is_sheet_code (innermost stack) ≡ true → Behind after
      → Stand stack before joints stack after
