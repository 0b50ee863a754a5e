-- Rules by the tokens of their text and the `{` behind it: what tells them from declarations and other statements.
use Rattle.std.specs.Prelude.{ℕ, Bool, true, false, not, ◌&&◌, ◌||◌, if◌then◌else◌, List, [], ◌∷◌, Some, None}
use Rattle.sw_parse_lexemes.specs.declared.sort.Sort.{Sort}
use Rattle.sw_parse_lexemes.specs.declared.sort.Sort.TheVariants as sorts
use Rattle.sw_parse_lexemes.specs.declared.state.Walk.{Walk}
use Rattle.sw_parse_lexemes.specs.declared.state.Walk.TheVariants as walks
use Rattle.sw_parse_lexemes.specs.Classes.{is_name, is_reserved, starts_name, same}
use Rattle.sw_parse_lexemes.specs.Ahead.{in_insert, walk_step}
use Rattle.sw_convert_passing.specs.Written.{Written}
use Rattle.sw_convert_passing.specs.Kinds.{is_dot, is_dollar}
use Rattle.sw_convert_heads_passing.specs.Media.{is_insert}

-- the tokens from where a walk over them ends
abbrev pub walked : Walk → ℕ → List Written → List Written
walked walk count [] = []
walked walk count (token ∷ tokens) =
    elim (walk_step walk token.sort token.spaced count) as (λ _. List Written) [
      | None ↦ token ∷ tokens
      | Some more ↦ walked walk more tokens
    ]

-- such a token, with nothing between it and the one before
abbrev pub is_direct : (Sort → Bool) → Written → Bool
is_direct test token = not token.spaced && test token.sort

-- the tokens behind a first one that goes on as a word, and behind comments there
abbrev pub behind_word : Sort → List Written → List Written
behind_word sort tokens = walked walks.Comments 0 (walked walks.Word (in_insert sort 0) tokens)

-- a first token and the one behind it begin a word
abbrev pub begins_word : Written → Written → Bool
begins_word first next =
    if is_name first.sort then not (is_reserved first.sort) || is_direct is_insert next
    else (is_insert first.sort || (same first.sort sorts.Minus && is_direct is_insert next))

abbrev pub begins_block : List Written → Bool
begins_block [] = false
begins_block (token ∷ tokens) = same token.sort sorts.OpenBrace

-- behind a `:` stands the name of a pseudo, or a second `:`
abbrev pub begins_pseudo : List Written → Bool
begins_pseudo [] = false
begins_pseudo (token ∷ tokens) =
    not token.spaced && (starts_name token.sort || (is_insert token.sort || same token.sort sorts.Colon))

-- a pseudo behind a `:`, and outside brackets a `{` before any `;`
abbrev pub is_pseudo : List Written → Bool
is_pseudo tokens = begins_pseudo tokens && begins_block (walked walks.Sign 0 tokens)

-- what stands behind a word makes no declaration of it
abbrev pub goes_on : List Written → Bool
goes_on [] = false
goes_on (token ∷ tokens) = not (same token.sort sorts.Colon) || is_pseudo tokens

abbrev pub no_colon : List Written → Bool
no_colon [] = false
no_colon (token ∷ tokens) = not (same token.sort sorts.Colon)

-- behind a name and a `.` stands no variable of another module
abbrev pub no_variable : List Written → Bool
no_variable [] = false
no_variable (token ∷ tokens) = not (is_direct is_dollar token)

abbrev pub begins_selector : Written → Written → List Written → Bool
begins_selector first next rest =
    if is_name first.sort && is_direct is_dot next then no_variable rest
    else (if begins_word first next then goes_on (behind_word first.sort (next ∷ rest)) else true)

-- the first token of an at-rule, of an assignment or of a comment
abbrev pub begins_other : Sort → Bool
begins_other sorts.Dollar = true
begins_other sorts.Comment = true
begins_other sorts.CommentTemplate = true
begins_other sorts.CommentEnd = true
begins_other sorts.At = true
begins_other sorts.AtUse = true
begins_other sorts.AtForward = true
begins_other sorts.AtFunction = true
begins_other sorts.AtMixin = true
begins_other sorts.AtInclude = true
begins_other sorts.AtContent = true
begins_other sorts.AtReturn = true
begins_other sorts.AtWarn = true
begins_other sorts.AtDebug = true
begins_other sorts.AtError = true
begins_other sorts.AtIf = true
begins_other sorts.AtElse = true
begins_other sorts.AtElseIf = true
begins_other sorts.AtEach = true
begins_other sorts.AtFor = true
begins_other sorts.AtWhile = true
begins_other sorts.AtMedia = true
begins_other sorts.AtSupports = true
begins_other sorts.AtRoot = true
begins_other sorts.AtCharset = true
begins_other sorts.AtImport = true
begins_other sorts.AtExtend = true
begins_other sorts.AtName = true
begins_other _ = false

-- by the first token: behind a name that begins with `--` a `:` makes a custom property
abbrev pub is_rule_by : Sort → Written → Written → List Written → Bool
is_rule_by sorts.DashedName first next rest = no_colon (behind_word first.sort (next ∷ rest))
is_rule_by sort first next rest = not (begins_other sort) && begins_selector first next rest

-- the text before the block of a rule, and the `{`
abbrev pub is_rule : List Written → Bool
is_rule (first ∷ next ∷ rest) = is_rule_by first.sort first next rest
is_rule _ = false
