-- Loud comments that were read: what is written of them is their tokens.
use Rattle.std.specs.Prelude.{◌≡◌, ℕ, suc, ◌-◌, Bool, true, false, not, ◌&&◌, ◌||◌, ◌==◌, List, [], ◌∷◌, bytes_eq, codes}
use Rattle.sw_text_scan.specs.declared.signs.TheConstants.{END}
use Rattle.sw_text_scan.specs.Bytes.{sign, byte}
use Rattle.sw_tree.specs.declared.text.Text.{Text}
use Rattle.sw_tokens.specs.declared.pieces.Before.{Before}
use Rattle.sw_parse_terminals.specs.declared.terminal.Terminal.{Terminal}
use Rattle.sw_parse_table.specs.declared.source.Source.{Source}
use Rattle.sw_parse_table.specs.Parts.{Part}
use Rattle.sw_parse_table.specs.Sources.{from_at, to_at, bytes_at, is_commented}
use Rattle.sw_convert_written.specs.Heads.{plain_text}
use Rattle.sw_convert_passing.specs.Written.{Written}
use Rattle.sw_convert_heads_passing.specs.Comments.{Comment}
use Rattle.sw_convert_again.specs.Tokens.{Tok}
use Rattle.sw_convert_again.specs.Spells.{SpellsRow}
use Rattle.sw_convert_again.specs.Spells as spells
use Rattle.sw_convert_again.specs.Comments.{SpellsComment, whole_comment, comment_template}
use Rattle.sw_convert_tokens.specs.Values.{WasRead}
use Rattle.sw_convert_tokens.specs.Written.{is_calm}
use Rattle.sw_convert_texts.specs.Inserted.{RowHasValues}
use Rattle.sw_convert_texts.specs.RawTexts.{SheetSegment}

-- tokens that are this text behind what stands before it, whatever stands behind them, and a comment to the pass over
-- tokens
pub record IsCommentWritten (text : List ℕ) (tokens : List Tok) (before : Before) : Type 0 where
  pub passed : List Written
  pub comment : Comment passed
  pub end : Before
  pub segment : SheetSegment before text tokens passed end (λ after. Unit {0})

abbrev pub CommentWritten : List ℕ → List Tok → Type 0
CommentWritten text tokens = (before : Before) → is_calm before ≡ true → IsCommentWritten text tokens before

-- ---- told by its bytes

-- a comment ends there, or a value begins in it
abbrev pub ends_at : ℕ → List ℕ → Bool
ends_at b text =
    ((b == sign "*") && (byte text 0 == sign "/")) || (((b == sign "#") && (byte text 0 == sign "{")) || (b == END))

-- nowhere in a text
abbrev pub is_comment_text : List ℕ → Bool
is_comment_text [] = true
is_comment_text (b ∷ text) = not (ends_at b text) && is_comment_text text

abbrev pub is_comment_piece : List ℕ → Bool
is_comment_piece [] = false
is_comment_piece (b ∷ text) = is_comment_text (b ∷ text)

-- a token begins where the one before it ends, and no comment stands between them
abbrev pub adjoins : Source → ℕ → Bool
adjoins source k = (from_at source (suc k) == to_at source k) && not (is_commented source (suc k))

-- a text comes first
abbrev pub row_texts : {source : Source} {part opening : Terminal} {extra i j count : ℕ} {inserts : List Part}
    {tokens : List Tok} → SpellsRow source part opening extra i j inserts count tokens → Bool
row_texts (spells.row_part old row) = true
row_texts _ = false

-- what the comment goes on with, and its end, each directly behind the token before
abbrev pub comment_row : (source : Source) {part opening : Terminal} {extra i j count : ℕ} {inserts : List Part}
    {tokens : List Tok} → SpellsRow source part opening extra i j inserts count tokens → Bool
comment_row source (spells.row_end {i = i}) = adjoins source (i - 1) && bytes_eq (bytes_at source i) (codes "*/")
comment_row source (spells.row_part {i = i} old row) =
    adjoins source (i - 1) && (is_comment_piece (bytes_at source i) && (not (row_texts row) && comment_row source row))
comment_row source (spells.row_insert {i = i} opens inner close row) = adjoins source (i - 1) && comment_row source row

-- there are values in it
abbrev pub has_inserts : List Part → Bool
has_inserts [] = false
has_inserts (part ∷ parts) = true

-- a comment of a sheet that isn't written in lines: as in every one that was read with values in it, its tokens stand
-- directly behind each other, and no text behind a text
abbrev pub comment_known : (source : Source) {i j : ℕ} {text : Text} {tokens : List Tok}
    → SpellsComment source i j text tokens → Bool
comment_known source (whole_comment old) = true
comment_known source (comment_template {i} {inserts = inserts} old made row end) =
    bytes_eq (bytes_at source i) (codes "/*") && (has_inserts inserts && comment_row source row)
comment_known source _ = false

-- what is written of each value in it is its tokens
abbrev pub CommentHasValues : {source : Source} {i j : ℕ} {text : Text} {tokens : List Tok}
    → SpellsComment source i j text tokens → Type 0
CommentHasValues (comment_template old made row end) = RowHasValues row
CommentHasValues _ = Unit {0}

abbrev pub CommentsAreWritten : Type 0
CommentsAreWritten =
    (source : Source) (i j : ℕ) (text : Text) (tokens : List Tok) → WasRead source → (spelt : SpellsComment source i j text tokens)
    → comment_known source spelt ≡ true → CommentHasValues spelt → CommentWritten (plain_text text) tokens
