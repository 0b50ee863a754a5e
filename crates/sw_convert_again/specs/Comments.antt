-- What is written of a loud comment that was read: its tokens as they stood. Of one in a sheet that was written in lines
-- it is a comment with the text of these lines, and the values in it.
use Rattle.std.specs.Prelude.{◌≡◌, ℕ, suc, ◌+◌, ◌-◌, true, false, List, [], ◌∷◌, ◌++◌, drop, take, length}
use Rattle.sw_tree.specs.declared.expr.Expr.{Expr}
use Rattle.sw_tree.specs.declared.text.Parts.TheVariants.{Plain as PlainParts}
use Rattle.sw_tree.specs.declared.text.Text.{Text}
use Rattle.sw_parse_terminals.specs.declared.terminal.Terminal.TheVariants as terminals
use Rattle.sw_parse_terminals.specs.Numbers.{just}
use Rattle.sw_parse_table.specs.declared.source.Source.{Source}
use Rattle.sw_parse_table.specs.Parts.{Part, Inserts}
use Rattle.sw_parse_table.specs.Sources.{Texts, parts_between, text_between}
use Rattle.sw_parse_table.specs.Lined.{is_made, lines, lined_text}
use Rattle.sw_convert_again.specs.Tokens.{Plain, Before, Between, Behind, Worded, Tok, tok, sign, Old, saying}
use Rattle.sw_convert_again.specs.Spells.{Spells, SpellsRow, from_start}

-- one text
abbrev pub lone : List ℕ → Texts
lone text = record { first = text; rest = [] }

-- text in a comment is one token
abbrev pub text_tokens : List ℕ → List Tok
text_tokens [] = []
text_tokens (b ∷ text) = sign terminals.Piece ∷ []

-- without the `/*` at its start, and without the `*/` at its end
abbrev pub behind_opening : List ℕ → List ℕ
behind_opening text = drop 2 text

abbrev pub before_closing : List ℕ → List ℕ
before_closing text = take (length text - 2) text

abbrev pub opened_text : List ℕ → List Tok
opened_text text = text_tokens (behind_opening text)

abbrev pub closed_text : List ℕ → List Tok
closed_text text = text_tokens (before_closing text)

-- a value in the comment that begins at a place and ends before another, and what stands behind it in the lines
pub data SpellsLines (source : Source) (at to : ℕ) : ℕ → List Part → List Tok → Type 0 where
  last_value : {i c : ℕ} {value : Expr} {tokens : List Tok} → Old source i (just terminals.Insert)
      → Spells source (suc i) c value tokens → Old source c (just terminals.InsertEnd)
      → SpellsLines source at to i (Inserts i (suc c) value ∷ [])
      (sign terminals.Insert ∷ (tokens
      ++ tok terminals.InsertEnd
      (Behind (suc (length (closed_text (lines source at (suc c) to)))) (lone (lines source at (suc c) to)))
      ∷ (closed_text (lines source at (suc c) to) ++ sign terminals.CommentEnd ∷ [])))
  next_value : {i c k : ℕ} {value : Expr} {inserts : List Part} {tokens others : List Tok}
      → Old source i (just terminals.Insert)
      → Spells source (suc i) c value tokens → Old source c (just terminals.InsertEnd)
      → SpellsLines source at to k inserts others
      → SpellsLines source at to i (Inserts i (suc c) value ∷ inserts)
      (sign terminals.Insert ∷ (tokens
      ++ tok terminals.InsertEnd
      (Between (length (text_tokens (lines source at (suc c) k))) (lone (lines source at (suc c) k)))
      ∷ (text_tokens (lines source at (suc c) k) ++ others)))

pub data SpellsComment (source : Source) : ℕ → ℕ → Text → List Tok → Type 0 where
  whole_comment : {i : ℕ} → Old source i (just terminals.CommentWhole)
      → SpellsComment source i (suc i) (text_between source i (suc i) [])
      (tok terminals.CommentWhole (Plain 1 (parts_between source i (suc i) [])) ∷ [])
  -- the token behind the first has a text, so that nobody takes the comment for one in lines
  comment_template : {i k count : ℕ} {inserts : List Part} {tokens : List Tok}
      → Old source i (just terminals.CommentTemplate) → is_made source (i + 1) ≡ false
      → SpellsRow source terminals.Piece terminals.Insert 1 (suc i) k inserts count tokens
      → Old source k (just terminals.CommentEnd)
      → SpellsComment source i (suc k) (text_between source i (suc k) inserts)
      (tok terminals.CommentTemplate (from_start source i inserts (suc count))
      ∷ saying Worded (tokens ++ sign terminals.CommentEnd ∷ []))
  whole_lines : {i j : ℕ} → Old source i (just terminals.CommentTemplate) → is_made source (i + 1) ≡ true
      → SpellsComment source i j (lined_text source i j [])
      (tok terminals.CommentWhole (Plain 1 (PlainParts (lines source i i j))) ∷ [])
  lines_template : {i k j : ℕ} {inserts : List Part} {tokens : List Tok}
      → Old source i (just terminals.CommentTemplate) → is_made source (i + 1) ≡ true
      → SpellsLines source i j k inserts tokens
      → SpellsComment source i j (lined_text source i j inserts)
      (tok terminals.CommentTemplate
      (Before (suc (length (opened_text (lines source i i k)))) (lone (lines source i i k)))
      ∷ saying Worded (opened_text (lines source i i k) ++ tokens))
