-- The tokens of a statement up to its end or its block pass the test of lines, where lines can hold them one by one.
use Rattle.std.specs.Prelude.{◌≡◌, ℕ, Bool, true, false, List, [], ◌∷◌, ◌++◌}
use Rattle.sw_tokens.specs.declared.pieces.Before.TheVariants as befores
use Rattle.sw_parse_lexemes.specs.declared.state.Mode.{Mode}
use Rattle.sw_parse_lexemes.specs.declared.state.Mode.TheVariants as modes
use Rattle.sw_parse_lexemes.specs.Brackets.{is_custom}
use Rattle.sw_convert_spelling.specs.Spelt.{Spelt}
use Rattle.sw_convert_passing.specs.Written.{Written}
use Rattle.sw_convert_heads_passing.specs.RawTexts.{RawText, Outside}
use Rattle.sw_convert_heads_passing.specs.Blocks.{open_sign}
use Rattle.sw_convert_heads_passing.specs.Rules.{is_rule}
use Rattle.sw_convert_heads_passing.specs.Statements.{Front}
use Rattle.sw_convert_laid.specs.LineFeeds.{StandBefore}
use Rattle.sw_convert_laid.specs.Held.{is_line}
use Rattle.sw_convert_heads_laid.specs.Marks.{AreSame, is_member}
use Rattle.sw_convert_heads_laid.specs.Holds.{holds_line}

abbrev pub FrontsPass : Mode → List Written → Type 0
FrontsPass mode tokens =
    Front mode tokens → (list : List Spelt) (after : List ℕ) → AreSame list tokens
    → StandBefore [] befores.White list [] after → holds_line (is_custom mode) list ≡ true → is_line list ≡ true

-- a `+` or `=` at the beginning would be a member's name
abbrev pub begins_member : List Spelt → Bool
begins_member [] = false
begins_member (spelt ∷ list) = is_member spelt.kind

-- the text of a rule, which its block tells
abbrev pub RulesPass : List Written → Type 0
RulesPass tokens =
    RawText modes.Raw Outside tokens → is_rule (tokens ++ open_sign true ∷ []) ≡ true → (list : List Spelt)
    (after : List ℕ) → AreSame list tokens → begins_member list ≡ false
    → StandBefore [] befores.White list [] after → holds_line false list ≡ true → is_line list ≡ true
