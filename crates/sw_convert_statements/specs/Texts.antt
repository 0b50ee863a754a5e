-- What is written of at-rules with raw text, up to their end or their block, is their tokens, where what is written of the
-- text is.
use Rattle.std.specs.Prelude.{◌≡◌, ℕ, Bool, true, false, List}
use Rattle.sw_tree.specs.declared.statement.Statement.{Statement}
use Rattle.sw_parse_lexemes.specs.declared.state.Mode.{Mode}
use Rattle.sw_parse_lexemes.specs.declared.state.Mode.TheVariants as modes
use Rattle.sw_parse_table.specs.declared.source.Source.{Source}
use Rattle.sw_parse_table.specs.Parts.{Part}
use Rattle.sw_convert_again.specs.Tokens.{Tok, Extent}
use Rattle.sw_convert_again.specs.RawTexts.{SpellsRawText}
use Rattle.sw_convert_again.specs.Statements.{SpellsStatement}
use Rattle.sw_convert_again.specs.Statements as spells
use Rattle.sw_convert_texts.specs.RawKinds.{raw_known}
use Rattle.sw_convert_texts.specs.RawTexts.{IsText}
use Rattle.sw_convert_statements.specs.Statements.{FrontIs}

-- what is written of each raw text of a sheet is its tokens, where it is one without comments and what else `raw_known` leaves out
abbrev pub TextsAreKnown : Mode → Source → Type 0
TextsAreKnown mode source =
    (i j : ℕ) (values : List Part) (tokens : List Tok) (extents : List Extent)
    → (spelt : SpellsRawText source i j values tokens extents) → raw_known source mode spelt ≡ true
    → IsText source mode i j values extents tokens

-- `@import`, `@extend`, `@supports`, and `@at-root` with a selector, with such a raw text
abbrev pub has_text : {source : Source} {i j : ℕ} {statement : Statement} {tokens : List Tok}
    → SpellsStatement source i j statement tokens → Bool
has_text {source} (spells.import_line span old inner end) = raw_known source modes.Raw inner
has_text {source} (spells.extend_line span old inner end) = raw_known source modes.Raw inner
has_text {source} (spells.supports_block span old raw block) = raw_known source modes.Raw raw
has_text {source} (spells.at_root_text_block span old raw block) = raw_known source modes.Raw raw
has_text _ = false

abbrev pub TextFrontsAreWritten : Type 0
TextFrontsAreWritten =
    (source : Source) → TextsAreKnown modes.Raw source → (i j : ℕ) (statement : Statement) (tokens : List Tok)
    → (spelt : SpellsStatement source i j statement tokens) → has_text spelt ≡ true → FrontIs spelt
