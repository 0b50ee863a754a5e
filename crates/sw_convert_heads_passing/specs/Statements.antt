-- Statements one after another, with blocks of further ones in them.
use Rattle.std.specs.Prelude.{◌≡◌, ℕ, Bool, true, false, List, [], ◌∷◌, ◌++◌}
use Rattle.sw_parse_lexemes.specs.declared.sort.Sort.{Sort}
use Rattle.sw_parse_lexemes.specs.declared.sort.Sort.TheVariants as sorts
use Rattle.sw_parse_lexemes.specs.declared.plain.Plain.{Plain}
use Rattle.sw_parse_lexemes.specs.declared.state.Mode.{Mode}
use Rattle.sw_parse_lexemes.specs.declared.state.Mode.TheVariants as modes
use Rattle.sw_parse_lexemes.specs.declared.state.Frame.{Frame}
use Rattle.sw_parse_lexemes.specs.declared.state.State.{State}
use Rattle.sw_parse_lexemes.specs.Classes.{is_else}
use Rattle.sw_parse_lexemes.specs.Brackets.{innermost, is_outer, is_custom}
use Rattle.sw_convert_passing.specs.Written.{Written, apart, Stand}
use Rattle.sw_convert_passing.specs.Values.{Row, Flags, seam}
use Rattle.sw_convert_passing.specs.Heads.{Starts, Head}
use Rattle.sw_convert_heads_passing.specs.Rules.{is_rule}
use Rattle.sw_convert_heads_passing.specs.Comments.{Comment, AreLoud, RunTold}
use Rattle.sw_convert_heads_passing.specs.RawTexts.{RawText, Outside, AreBraces}
use Rattle.sw_convert_heads_passing.specs.Heads.{TextHead, AreKeywords}
use Rattle.sw_convert_heads_passing.specs.Properties.{PropertyHead, CustomHead}
use Rattle.sw_convert_heads_passing.specs.Loads.{LoadHead}
use Rattle.sw_convert_heads_passing.specs.Media.{Queries, media_tokens}
use Rattle.sw_convert_heads_passing.specs.Members.{MemberHead}
use Rattle.sw_convert_heads_passing.specs.Flow.{parted, FlowHead, is_bound, bound, LoneHead}
use Rattle.sw_convert_heads_passing.specs.Blocks.{end_sign, open_sign, close_sign}

-- the signs with which a rule's selector may begin, and no other statement
abbrev pub begins_rule : Sort → Bool
begins_rule sorts.Dot = true
begins_rule sorts.Hash = true
begins_rule sorts.Hex = true
begins_rule sorts.Ampersand = true
begins_rule sorts.Star = true
begins_rule sorts.Percent = true
begins_rule sorts.Greater = true
begins_rule sorts.Colon = true
begins_rule sorts.OpenBracket = true
begins_rule _ = false

-- flags behind a value, with an empty comment before them or without
pub data FlagsBehind : List Written → Type 0 where
  directly : {flags : List Written} → Flags flags → FlagsBehind flags
  behind_seam : {flags : List Written} → Flags flags → FlagsBehind (seam ∷ flags)

-- a statement up to its end or its block, and how it is read there
pub data Front : Mode → List Written → Type 0 where
  valued : {mode : Mode} {head row : List Written} {ended : Bool} → Head mode head → Row mode true ended row
      → Front mode (head ++ row)
  flagged : {head row flags : List Written} {ended : Bool} → Head modes.Ends head → Row modes.Ends true ended row
      → FlagsBehind flags → Front modes.Ends (head ++ (row ++ flags))
  assigned : {head row flags : List Written} {ended : Bool} → FlowHead modes.Ends head → Row modes.Ends true ended row
      → FlagsBehind flags → Front modes.Ends (head ++ (row ++ flags))
  declared : {head row : List Written} {ended : Bool} → PropertyHead head → Row modes.Expression true ended row
      → Front modes.Expression (head ++ row)
  -- a property of which a block gives the values
  unvalued : {head : List Written} → PropertyHead head → Front modes.Expression head
  flowing : {mode : Mode} {head row : List Written} {ended : Bool} → FlowHead mode head → Row mode true ended row
      → Front mode (head ++ row)
  bounded : {head from to : List Written} {from_ended to_ended : Bool} → FlowHead modes.Bounds head
      → Row modes.Bounds true from_ended from → (gap : Bool) (sort : Sort) → is_bound sort ≡ true
      → Row modes.Bounds true to_ended to
      → Front modes.Bounds (head ++ (from ++ parted gap (apart sort (bound sort) ∷ to)))
  -- the name of an at-rule, with text behind it or not
  named : {head : List Written} → TextHead head → Front modes.Raw head
  texted : {head rest : List Written} → TextHead head → (one : Written) → one.spaced ≡ true
      → RawText modes.Raw Outside (one ∷ rest) → Front modes.Raw (head ++ one ∷ rest)
  -- with an empty comment before the text
  texted_apart : {head rest : List Written} → TextHead head → (one : Written) → one.spaced ≡ true
      → RawText modes.Raw Outside (one ∷ rest) → Front modes.Raw (head ++ seam ∷ one ∷ rest)
  -- a rule that begins with a sign; others are told by their block
  ruled : {rest : List Written} → (one : Written) → begins_rule one.sort ≡ true → RawText modes.Raw Outside (one ∷ rest)
      → Front modes.Raw (one ∷ rest)
  customised : {head text : List Written} → CustomHead head → RawText modes.Custom Outside text
      → Front modes.Custom (head ++ text)
  loading : {mode : Mode} {tokens : List Written} → LoadHead mode tokens → Front mode tokens
  querying : {spaced : Bool} {queries : List Written} → Queries queries → Front modes.Media (media_tokens spaced queries)
  belonging : {mode : Mode} {tokens : List Written} → MemberHead mode tokens → Front mode tokens
  alone : {mode : Mode} {tokens : List Written} → LoneHead mode tokens → Front mode tokens

-- the same before a block, with an empty comment behind it or without
pub data Headed (mode : Mode) : List Written → Type 0 where
  plainly : {front : List Written} → Front mode front → Headed mode front
  seamed : {front : List Written} → Front mode front → Headed mode (front ++ seam ∷ [])

-- an `@else` begins these tokens
abbrev pub begins_else : List Written → Bool
begins_else [] = false
begins_else (token ∷ tokens) = is_else token.sort

-- statements one after another, and whether the first that is no comment begins with `@else`
pub data Statements : Bool → List Written → Type 0 where
  no_statement : Statements false []
  statement_ended : {mode : Mode} {front rest : List Written} {else_next : Bool} → (spaced : Bool) → Front mode front
      → Statements else_next rest → Statements (begins_else front) (front ++ end_sign spaced ∷ rest)
  statement_block : {mode : Mode} {front inner rest : List Written} {else_in else_next : Bool} → (spaced blank : Bool)
      → Headed mode front → is_custom mode ≡ false → Statements else_in inner → Statements else_next rest
      → Statements (begins_else front) (front ++ open_sign spaced ∷ (inner ++ close_sign blank ∷ rest))
  -- a rule, whatever its text begins with
  statement_rule : {text inner rest : List Written} {else_in else_next : Bool} → (spaced blank : Bool)
      → RawText modes.Raw Outside text → is_rule (text ++ open_sign spaced ∷ []) ≡ true → Statements else_in inner
      → Statements else_next rest
      → Statements false (text ++ open_sign spaced ∷ (inner ++ close_sign blank ∷ rest))
  statement_comment : {comment rest : List Written} → Comment comment → Statements false rest
      → Statements false (comment ++ rest)

-- where statements may begin, tokens of them are what they are written as, and further ones may begin behind them
abbrev pub StatementsAreTold : Type 0
StatementsAreTold =
    (else_first : Bool) (tokens : List Written) → Statements else_first tokens → (plains : List Plain)
    (frames : List Frame) (state : State) (at to : ℕ) → AreBraces plains → AreKeywords plains
    → is_outer (innermost frames) ≡ true → Starts frames state → AreLoud plains state at tokens to
    → Stand plains at tokens to → RunTold plains frames state at tokens to
