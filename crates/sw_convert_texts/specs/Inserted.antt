-- The values in a text that was read: each is written as its tokens.
use Rattle.std.specs.Prelude.{ℕ, List}
use Rattle.sw_tree.specs.declared.text.Parts.{Parts}
use Rattle.sw_parse_terminals.specs.declared.terminal.Terminal.{Terminal}
use Rattle.sw_parse_table.specs.declared.source.Source.{Source}
use Rattle.sw_parse_table.specs.Parts.{Part}
use Rattle.sw_convert_written.specs.Expressions.{expr_text}
use Rattle.sw_convert_again.specs.Tokens.{Tok, Extent}
use Rattle.sw_convert_again.specs.Spells.{SpellsWord, SpellsRow, SpellsItem, SpellsText}
use Rattle.sw_convert_again.specs.Spells as spells
use Rattle.sw_convert_again.specs.RawTexts.{SpellsRawItem, SpellsRawText, raw_token, raw_insert, raw_brackets, raw_end, raw_more}
use Rattle.sw_convert_again.specs.Statements.{SpellsName, SpellsAtName, name_row, at_word, at_insert, at_minus}
use Rattle.sw_convert_tokens.specs.Written.{AsRow, WrittenAs}
use Rattle.sw_convert_texts.specs.InText.{InText, is_digits, value_fits}

-- in what a word, a name or a url goes on with
abbrev pub RowHasValues : {source : Source} {part opening : Terminal} {extra i j count : ℕ} {inserts : List Part}
    {tokens : List Tok} → SpellsRow source part opening extra i j inserts count tokens → Type 0
RowHasValues spells.row_end = Unit {0}
RowHasValues (spells.row_part old row) = RowHasValues row
RowHasValues (spells.row_insert {value = value} {tokens = tokens} opens inner close row) =
    WrittenAs AsRow (expr_text value) tokens × RowHasValues row

abbrev pub WordHasValues : {source : Source} {i j : ℕ} {parts : Parts} {tokens : List Tok}
    → SpellsWord source i j parts tokens → Type 0
WordHasValues (spells.named old row) = RowHasValues row
WordHasValues (spells.begun {value = value} {tokens = tokens} opens inner close row) =
    WrittenAs AsRow (expr_text value) tokens × RowHasValues row
WordHasValues (spells.begun_minus {value = value} {tokens = tokens} minus opens inner close row) =
    WrittenAs AsRow (expr_text value) tokens × RowHasValues row

abbrev pub NameHasValues : {source : Source} {first : Terminal} {i j : ℕ} {parts : Parts} {tokens : List Tok}
    → SpellsName source first i j parts tokens → Type 0
NameHasValues (name_row old row) = RowHasValues row

abbrev pub AtNameHasValues : {source : Source} {i j : ℕ} {parts : Parts} {tokens : List Tok}
    → SpellsAtName source i j parts tokens → Type 0
AtNameHasValues (at_word name) = NameHasValues name
AtNameHasValues (at_insert {value = value} {tokens = tokens} old opens inner close row) =
    WrittenAs AsRow (expr_text value) tokens × RowHasValues row
AtNameHasValues (at_minus {value = value} {tokens = tokens} old minus opens inner close row) =
    WrittenAs AsRow (expr_text value) tokens × RowHasValues row

-- in raw text
abbrev mutual
  pub RawItemHasValues : {source : Source} {i j : ℕ} {parts : List Part} {tokens : List Tok}
      {extents : List Extent} → SpellsRawItem source i j parts tokens extents → Type 0
  RawItemHasValues (raw_token old) = Unit {0}
  RawItemHasValues (raw_insert {value = value} {tokens = tokens} opens inner close) =
      WrittenAs AsRow (expr_text value) tokens
  RawItemHasValues (raw_brackets kind opens text close) = RawTextHasValues text

  pub RawTextHasValues : {source : Source} {i j : ℕ} {parts : List Part} {tokens : List Tok}
      {extents : List Extent} → SpellsRawText source i j parts tokens extents → Type 0
  RawTextHasValues raw_end = Unit {0}
  RawTextHasValues (raw_more item text) = RawItemHasValues item × RawTextHasValues text

-- in the text of a special function
abbrev mutual
  pub ItemHasValues : {source : Source} {i j : ℕ} {parts : List Part} {tokens : List Tok}
      {extents : List Extent} → SpellsItem source i j parts tokens extents → Type 0
  ItemHasValues (spells.item_token old) = Unit {0}
  ItemHasValues (spells.item_insert {value = value} {tokens = tokens} opens inner close) =
      WrittenAs AsRow (expr_text value) tokens
  ItemHasValues (spells.item_value {value = value} {tokens = tokens} inner) =
      WrittenAs (InText (is_digits inner) (value_fits inner)) (expr_text value) tokens
  ItemHasValues (spells.item_parens opens text close) = TextHasValues text
  ItemHasValues (spells.item_brackets opens text close) = TextHasValues text

  pub TextHasValues : {source : Source} {i j : ℕ} {parts : List Part} {tokens : List Tok}
      {extents : List Extent} → SpellsText source i j parts tokens extents → Type 0
  TextHasValues spells.text_end = Unit {0}
  TextHasValues (spells.text_more item text) = ItemHasValues item × TextHasValues text
