-- What is written of a statement up to its end or its block is a line, whatever stands behind it.
use Rattle.std.specs.Prelude.{◌≡◌, ℕ, Bool, true, false, List}
use Rattle.sw_tokens.specs.declared.pieces.Before.TheVariants as befores
use Rattle.sw_parse_lexemes.specs.declared.state.Mode.{Mode}
use Rattle.sw_parse_lexemes.specs.Brackets.{is_custom}
use Rattle.sw_convert_written.specs.Escapes.{ends_unclosed}
use Rattle.sw_convert_laid.specs.LineFeeds.{ends_plainly, HasNoCall}
use Rattle.sw_convert_laid.specs.Blocks.{IsLine}
use Rattle.sw_convert_heads_laid.specs.Holds.{holds_line}
use Rattle.sw_convert_heads_laid.specs.Lines.{begins_member}
use Rattle.sw_convert_again.specs.Tokens.{Tok}
use Rattle.sw_convert_tokens.specs.Joints.{Joint, spelts}
use Rattle.sw_convert_statements.specs.Segments.{IsFrontWritten, IsRuleWritten}

-- what is asked of a text and of its tokens: no escape is open at its end, and its last byte goes on over no line; no
-- `url(` stands among them but in a url without `#{}`; and lines can hold them one by one
pub record FitsLine (custom : Bool) (text : List ℕ) (joints : List Joint) : Type 0 where
  pub closed : ends_unclosed text ≡ false
  pub plain : ends_plainly text ≡ true
  pub no_call : HasNoCall (spelts joints)
  pub holds : holds_line custom (spelts joints) ≡ true

-- tokens that stand at the beginning of a line
abbrev pub FrontsAreLines : Mode → Bool → List ℕ → List Tok → Type 0
FrontsAreLines mode else_first text tokens =
    (front : IsFrontWritten mode else_first text tokens befores.White)
    → FitsLine (is_custom mode) text front.segment.joints → IsLine (spelts front.segment.joints)

-- a rule that begins with `=` or `+` would be a member
abbrev pub RulesAreLines : List ℕ → List Tok → Type 0
RulesAreLines text tokens =
    (rule : IsRuleWritten text tokens befores.White) → FitsLine false text rule.segment.joints
    → begins_member (spelts rule.segment.joints) ≡ false → IsLine (spelts rule.segment.joints)
