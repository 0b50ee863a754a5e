-- A value by itself in the text of a special function.
use Rattle.std.specs.Prelude.{◌≡◌, ℕ, Bool, true, false, not, ◌&&◌, ◌||◌, if◌then◌else◌, List, [], ◌∷◌, ◌++◌, codes, bytes_eq}
use Rattle.sw_tree.specs.declared.expr.Expr.{Expr}
use Rattle.sw_parse_terminals.specs.declared.terminal.Terminal.{Terminal}
use Rattle.sw_parse_lexemes.specs.declared.state.Mode.{Mode}
use Rattle.sw_parse_lexemes.specs.Classes.{is_number}
use Rattle.sw_parse_table.specs.declared.source.Source.{Source}
use Rattle.sw_parse_table.specs.Sources.{bytes_at}
use Rattle.sw_convert_passing.specs.Kinds.{is_dot, is_paren}
use Rattle.sw_convert_passing.specs.Written.{Written}
use Rattle.sw_convert_passing.specs.Values.{Special}
use Rattle.sw_convert_again.specs.Tokens.{Tok}
use Rattle.sw_convert_again.specs.Spells.{Spells}
use Rattle.sw_convert_again.specs.Spells as spells

abbrev pub is_seen : List Terminal → Bool
is_seen [] = false
is_seen (terminal ∷ terminals) = true

-- it is neither a comment, nor a `.` or a `(`; and no number, or one
abbrev pub begins_plainly : Bool → Written → Bool
begins_plainly digits first =
    is_seen first.may_be
    && ((not (is_dot first.sort) && not (is_paren first.sort)) && (digits || not (is_number first.sort)))

-- what such a value is to the pass over tokens, behind another value or not: where a sign that it begins with may be one
pub record InText (digits : Bool) (fits : Bool → Bool → Bool) (mode : Mode) (spaced : Bool) (passed : List Written) :
    Type 0 where
  pub first : Written
  pub others : List Written
  pub is : passed ≡ first ∷ others
  pub spaced_is : first.spaced ≡ spaced
  pub plainly : begins_plainly digits first ≡ true
  pub goes : (inner ended : Bool) (rest : List Written) → fits spaced ended ≡ true → Special inner true rest
      → Special inner ended (passed ++ rest)

-- it begins with a number
abbrev pub is_digits : {source : Source} {i j : ℕ} {value : Expr} {tokens : List Tok} → Spells source i j value tokens → Bool
is_digits (spells.stays_number span old) = true
is_digits _ = false

-- a sign is one of a number: a `-` behind white space or behind no value, a `+` behind no value
abbrev pub sign_goes : List ℕ → Bool → Bool → Bool
sign_goes text spaced ended = if bytes_eq text (codes "-") then spaced || not ended else not ended

abbrev pub value_fits : {source : Source} {i j : ℕ} {value : Expr} {tokens : List Tok} → Spells source i j value tokens
    → Bool → Bool → Bool
value_fits {source} (spells.stays_signed {i = i} span one two) spaced ended = sign_goes (bytes_at source i) spaced ended
value_fits _ spaced ended = true
