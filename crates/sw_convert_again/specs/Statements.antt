-- What is written of a statement that was read, and of which tokens it was read.
use Rattle.std.specs.Prelude.{◌≡◌, ℕ, suc, ◌+◌, List, [], ◌∷◌, ◌++◌, Bool, true, false, Option, Some, None}
use Rattle.sw_text.specs.declared.place.Span.{Span}
use Rattle.sw_tree.specs.declared.callable.Kind.TheVariants as kinds
use Rattle.sw_tree.specs.declared.callable.Params.{Params}
use Rattle.sw_tree.specs.declared.expr.Argument.{Argument}
use Rattle.sw_tree.specs.declared.expr.Expr.{Expr}
use Rattle.sw_tree.specs.declared.expr.Namespaced.{Namespaced}
use Rattle.sw_tree.specs.declared.load.Filter.{Filter}
use Rattle.sw_tree.specs.declared.load.Given.{Given}
use Rattle.sw_tree.specs.declared.load.Namespace.{Namespace}
use Rattle.sw_tree.specs.declared.text.Parts.{Parts}
use Rattle.sw_tree.specs.declared.text.Parts.TheVariants.{Mixed}
use Rattle.sw_tree.specs.declared.text.Piece.{Piece}
use Rattle.sw_tree.specs.declared.text.Text.{Text}
use Rattle.sw_tree.specs.declared.statement.Branch.{Branch}
use Rattle.sw_tree.specs.declared.statement.Flags.{Flags}
use Rattle.sw_tree.specs.declared.statement.Level.{Level}
use Rattle.sw_tree.specs.declared.statement.Level.TheVariants as levels
use Rattle.sw_tree.specs.declared.statement.Statement.{Statement}
use Rattle.sw_tree.specs.declared.statement.Statement.TheVariants as statements
use Rattle.sw_parse_terminals.specs.declared.terminal.Terminal.{Terminal}
use Rattle.sw_parse_terminals.specs.declared.terminal.Terminal.TheVariants as terminals
use Rattle.sw_parse_grammar.specs.Grammar.{member}
use Rattle.sw_parse_terminals.specs.Numbers.{number_of, just, these}
use Rattle.sw_parse_table.specs.declared.source.Source.{Source}
use Rattle.sw_parse_table.specs.Parts.{Part, Inserts}
use Rattle.sw_parse_table.specs.Sources.{bytes_at, decoded_at, from_at, terminal_at, parts_between, text_between}
use Rattle.sw_parse_table.specs.Sets.{dollars, endings}
use Rattle.sw_parse_table.specs.Values.{qualified_of}
use Rattle.sw_parse_table.specs.Actions.{branch_of, mixin_of, name_at, names_at, stands_at, flags_at, url_at}
use Rattle.sw_convert_again.specs.Tokens.{Dashed, Decoded, Bytes, Before, Extent, text_up_to, Tok, tok, sign, Old}
use Rattle.sw_convert_again.specs.Spells.{Spells, SpellsWord, SpellsRow, SpellsArguments, behind_insert, from_start, call_tokens, within}
use Rattle.sw_convert_again.specs.Params.{dollar_tokens, SpellsHeadParams, SpellsOptionalParams, SpellsMixinName, SpellsUsing}
use Rattle.sw_convert_again.specs.RawTexts.{SpellsRawText, raw_tokens}
use Rattle.sw_convert_again.specs.Comments.{SpellsComment}
use Rattle.sw_convert_again.specs.Loads.{SpellsNamespace, SpellsPrefix, SpellsFilter, SpellsConfiguration}
use Rattle.sw_convert_again.specs.Queries.{SpellsQueries}

-- a `}` stands at a place, or the text ends there
abbrev pub is_last : Source → ℕ → Bool
is_last source k = member (terminal_at source k) (number_of terminals.Close ∷ 0 ∷ [])

-- a statement ends with a `;`, or with nothing before what closes its block or the text
pub data Ended (source : Source) : ℕ → ℕ → Type 0 where
  marked : {k : ℕ} → Old source k (just terminals.Semicolon) → Ended source k (suc k)
  unmarked : {k : ℕ} → is_last source k ≡ true → Ended source k k

-- a `;` is written behind each
abbrev pub ended : List Tok → List Tok
ended tokens = tokens ++ sign terminals.Semicolon ∷ []

-- a name that begins with a token of its own, and goes on as a word does
pub data SpellsName (source : Source) (first : Terminal) : ℕ → ℕ → Parts → List Tok → Type 0 where
  name_row : {i j count : ℕ} {inserts : List Part} {tokens : List Tok} → Old source i (just first)
      → SpellsRow source terminals.Part terminals.PartInsert 0 (suc i) j inserts count tokens
      → SpellsName source first i j (parts_between source i j inserts)
      (tok first (from_start source i inserts (suc count)) ∷ tokens)

-- the name of an at-rule: with its `@`, or an `@` before a `#{}`, with a `-` between them or not
pub data SpellsAtName (source : Source) : ℕ → ℕ → Parts → List Tok → Type 0 where
  at_word : {i j : ℕ} {parts : Parts} {tokens : List Tok} → SpellsName source terminals.AtOther i j parts tokens
      → SpellsAtName source i j parts tokens
  at_insert : {i c j count : ℕ} {value : Expr} {inserts : List Part} {tokens others : List Tok}
      → Old source i (just terminals.AtInsert) → Old source (suc i) (just terminals.WordInsert)
      → Spells source (suc (suc i)) c value tokens → Old source c (just terminals.InsertEnd)
      → SpellsRow source terminals.Part terminals.PartInsert 0 (suc c) j inserts count others
      → SpellsAtName source i j (parts_between source i j (Inserts (suc i) (suc c) value ∷ inserts))
      (tok terminals.AtInsert (Before 1 (text_up_to source (from_at source i) i (i + 1))) ∷ sign terminals.WordInsert
      ∷ (tokens ++ tok terminals.InsertEnd (behind_insert source c inserts count) ∷ others))
  at_minus : {i c j count : ℕ} {value : Expr} {inserts : List Part} {tokens others : List Tok}
      → Old source i (just terminals.AtInsert) → Old source (suc i) (just terminals.WordMinus)
      → Old source (suc (suc i)) (just terminals.WordInsert)
      → Spells source (suc (suc (suc i))) c value tokens → Old source c (just terminals.InsertEnd)
      → SpellsRow source terminals.Part terminals.PartInsert 0 (suc c) j inserts count others
      → SpellsAtName source i j (parts_between source i j (Inserts (suc (suc i)) (suc c) value ∷ inserts))
      (tok terminals.AtInsert (Before 2 (text_up_to source (from_at source i) i (i + 2))) ∷ sign terminals.WordMinus
      ∷ sign terminals.WordInsert
      ∷ (tokens ++ tok terminals.InsertEnd (behind_insert source c inserts count) ∷ others))

-- raw text, where there is any
pub data SpellsOptionalRaw (source : Source) : ℕ → ℕ → Option Text → List Tok → Type 0 where
  no_raw : {i : ℕ} → SpellsOptionalRaw source i i None []
  some_raw : {i j : ℕ} {values : List Part} {tokens : List Tok} {extents : List Extent}
      → SpellsRawText source i j values tokens extents
      → SpellsOptionalRaw source i j (Some (text_between source i j values))
      (raw_tokens source i j values extents tokens)

-- arguments in parentheses, where there are any
pub data SpellsGiven (source : Source) : ℕ → ℕ → List Argument → List Tok → Type 0 where
  no_parens : {i : ℕ} → SpellsGiven source i i [] []
  empty_parens : {i : ℕ} → Old source i (just terminals.CallParen) → Old source (suc i) (just terminals.ParenEnd)
      → SpellsGiven source i (suc (suc i)) [] []
  some_given : {i c : ℕ} {argument : Argument} {arguments : List Argument} {tokens : List Tok}
      → Old source i (just terminals.CallParen)
      → SpellsArguments source (suc i) c (argument ∷ arguments) tokens → Old source c (just terminals.ParenEnd)
      → SpellsGiven source i (suc c) (argument ∷ arguments) (call_tokens tokens)

-- names of variables with a comma before each, by their places
pub data SpellsNames (source : Source) : ℕ → ℕ → List ℕ → List Tok → Type 0 where
  no_names : {i : ℕ} → SpellsNames source i i [] []
  more_names : {i j : ℕ} {places : List ℕ} {tokens : List Tok} → Old source i (just terminals.Comma)
      → Old source (suc i) dollars → Old source (suc (suc i)) (just terminals.VariableName)
      → SpellsNames source (suc (suc (suc i))) j places tokens
      → SpellsNames source i j (suc (suc i) ∷ places)
      (sign terminals.Comma ∷ (dollar_tokens (name_at source (suc (suc i))) ++ tokens))

-- flags behind a value, by the places of their names, which are of a set
pub data OldFlags (source : Source) (names : List ℕ) : ℕ → ℕ → List ℕ → Type 0 where
  no_flags : {i : ℕ} → OldFlags source names i i []
  more_flags : {i j : ℕ} {places : List ℕ} → Old source i endings → Old source (suc i) names
      → OldFlags source names (suc (suc i)) j places → OldFlags source names i j (suc i ∷ places)

abbrev pub any_flag : List ℕ
any_flag = these (terminals.Default ∷ terminals.Global ∷ [])

-- each is written once
abbrev pub flag_if : Bool → Terminal → List Tok
flag_if true terminal = sign terminals.Ending ∷ sign terminal ∷ []
flag_if false terminal = []

abbrev pub flag_tokens : Flags → List Tok
flag_tokens flags = flag_if flags.default terminals.Default ++ flag_if flags.global terminals.Global

pub data OldElseIf (source : Source) : ℕ → ℕ → Type 0 where
  one_word : {i : ℕ} → Old source i (just terminals.AtElseIfWhole) → OldElseIf source i (suc i)
  two_words : {i : ℕ} → Old source i (just terminals.AtElseIf) → Old source (suc i) (just terminals.If)
      → OldElseIf source i (suc (suc i))

abbrev pub say_name : Level → Terminal
say_name levels.Warn = terminals.AtWarn
say_name levels.Debug = terminals.AtDebug
say_name levels.Error = terminals.AtError

mutual
  pub data SpellsStatement (source : Source) : ℕ → ℕ → Statement → List Tok → Type 0 where
    return_line : {i k j : ℕ} {value : Expr} {tokens : List Tok} → (span : Span)
        → Old source i (just terminals.AtReturn) → Spells source (suc i) k value tokens → Ended source k j
        → SpellsStatement source i j (statements.Return (record { value = value; span = span }))
        (ended (sign terminals.AtReturn ∷ tokens))
    say_line : {i k j : ℕ} {value : Expr} {tokens : List Tok} → (level : Level) (span : Span)
        → Old source i (just (say_name level)) → Spells source (suc i) k value tokens → Ended source k j
        → SpellsStatement source i j (statements.Say (record { level = level; value = value; span = span }))
        (ended (sign (say_name level) ∷ tokens))
    variable_line : {i k f j : ℕ} {value : Expr} {tokens : List Tok} {places : List ℕ} → (span : Span)
        → Old source i dollars → Old source (suc i) (just terminals.VariableName)
        → Old source (suc (suc i)) (just terminals.Colon) → Spells source (suc (suc (suc i))) k value tokens
        → OldFlags source any_flag k f places → Ended source f j
        → SpellsStatement source i j
        (statements.Variable (record {
          name = name_at source (suc i);
          value = value;
          flags = flags_at source places;
          span = span;
        }))
        (ended (sign terminals.DollarNamed ∷ tok terminals.VariableName (Dashed (name_at source (suc i)))
        ∷ sign terminals.Colon ∷ (tokens ++ flag_tokens (flags_at source places))))
    assignment_line : {i k f j : ℕ} {value : Expr} {tokens : List Tok} {places : List ℕ} → (span target_span : Span)
        → Old source i (just terminals.Owner) → Old source (suc i) (just terminals.OwnerDot)
        → Old source (suc (suc i)) (just terminals.OwnerDollar)
        → Old source (suc (suc (suc i))) (just terminals.VariableName)
        → Old source (suc (suc (suc (suc i)))) (just terminals.Colon)
        → Spells source (suc (suc (suc (suc (suc i))))) k value tokens
        → OldFlags source (just terminals.Default) k f places → Ended source f j
        → SpellsStatement source i j
        (statements.Assignment (record {
          target = qualified_of source i (suc (suc (suc i)));
          target_span = target_span;
          value = value;
          flags = flags_at source places;
          span = span;
        }))
        (ended (tok terminals.Owner (Bytes 1 (bytes_at source i)) ∷ sign terminals.OwnerDot ∷ sign terminals.OwnerDollar
        ∷ tok terminals.VariableName (Dashed (name_at source (suc (suc (suc i))))) ∷ sign terminals.Colon
        ∷ (tokens ++ flag_if (flags_at source places).default terminals.Default)))
    import_line : {i k j : ℕ} {values : List Part} {tokens : List Tok} {extents : List Extent} → (span : Span)
        → Old source i (just terminals.AtImport) → SpellsRawText source (suc i) k values tokens extents
        → Ended source k j
        → SpellsStatement source i j
        (statements.Import (record { text = text_between source (suc i) k values; span = span }))
        (ended (sign terminals.AtImport ∷ raw_tokens source (suc i) k values extents tokens))
    extend_line : {i k j : ℕ} {values : List Part} {tokens : List Tok} {extents : List Extent} → (span : Span)
        → Old source i (just terminals.AtExtend) → SpellsRawText source (suc i) k values tokens extents
        → Ended source k j
        → SpellsStatement source i j
        (statements.Extend (record { text = text_between source (suc i) k values; span = span }))
        (ended (sign terminals.AtExtend ∷ raw_tokens source (suc i) k values extents tokens))
    content_line : {i k j : ℕ} {arguments : List Argument} {tokens : List Tok} → (span : Span)
        → Old source i (just terminals.AtContent) → SpellsGiven source (suc i) k arguments tokens → Ended source k j
        → SpellsStatement source i j
        (statements.Content (record { arguments = arguments; span = span }))
        (ended (sign terminals.AtContent ∷ tokens))
    charset_line : {i j : ℕ} → (span : Span) → Old source i (just terminals.AtCharset)
        → Old source (suc i) (just terminals.Plain) → Ended source (suc (suc i)) j
        → SpellsStatement source i j (statements.Charset span)
        (ended (sign terminals.AtCharset ∷ sign terminals.Plain ∷ []))
    declaration_line : {i c k j : ℕ} {parts : Parts} {value : Expr} {tokens others : List Tok} → (span text_span : Span)
        → SpellsWord source i c parts tokens → Old source c (just terminals.Colon)
        → Spells source (suc c) k value others → Ended source k j
        → SpellsStatement source i j
        (statements.Declaration
        (record { property = record { parts = parts; span = text_span }; value = value; span = span }))
        (ended (tokens ++ sign terminals.Colon ∷ others))
    custom_line : {i c k j : ℕ} {parts : Parts} {value : Option Text} {tokens others : List Tok}
        → (span text_span : Span) → SpellsName source terminals.Custom i c parts tokens
        → Old source c (just terminals.Colon) → SpellsOptionalRaw source (suc c) k value others → Ended source k j
        → SpellsStatement source i j
        (statements.Custom (record { property = record { parts = parts; span = text_span }; value = value; span = span }))
        (ended (tokens ++ sign terminals.Colon ∷ others))
    function_block : {i k j : ℕ} {params : Params} {block : List Statement} {tokens others : List Tok} → (span : Span)
        → Old source i (just terminals.AtFunction) → Old source (suc i) (just terminals.Named)
        → SpellsHeadParams source (suc (suc i)) k params tokens → SpellsBlock source k j block others
        → SpellsStatement source i j
        (statements.Callable (record {
          kind = kinds.Function;
          name = name_at source (suc i);
          params = params;
          block = block;
          span = span;
        }))
        (sign terminals.AtFunction ∷ tok terminals.Named (Dashed (name_at source (suc i))) ∷ (tokens ++ others))
    mixin_block : {i k j : ℕ} {params : Params} {block : List Statement} {tokens others : List Tok} → (span : Span)
        → Old source i (just terminals.AtMixin) → Old source (suc i) (just terminals.Named)
        → SpellsOptionalParams source (suc (suc i)) k params tokens → SpellsBlock source k j block others
        → SpellsStatement source i j
        (statements.Callable (record {
          kind = kinds.Mixin;
          name = name_at source (suc i);
          params = params;
          block = block;
          span = span;
        }))
        (sign terminals.AtMixin ∷ tok terminals.Named (Dashed (name_at source (suc i))) ∷ (tokens ++ others))
    include_line : {i c m k j : ℕ} {namespace : Option Namespaced} {name : ℕ} {arguments : List Argument} {params : Params}
        {tokens others more : List Tok} → (span name_span : Span) → Old source i (just terminals.AtInclude)
        → SpellsMixinName source (suc i) c namespace name tokens → SpellsGiven source c m arguments others
        → SpellsUsing source m k params more → Ended source k j
        → SpellsStatement source i j
        (statements.Include (mixin_of source namespace name name_span arguments) None span)
        (ended (sign terminals.AtInclude ∷ (tokens ++ others)))
    include_block : {i c m k j : ℕ} {namespace : Option Namespaced} {name : ℕ} {arguments : List Argument} {params : Params}
        {block : List Statement} {tokens others more last : List Tok} → (span name_span : Span)
        → Old source i (just terminals.AtInclude)
        → SpellsMixinName source (suc i) c namespace name tokens → SpellsGiven source c m arguments others
        → SpellsUsing source m k params more → SpellsBlock source k j block last
        → SpellsStatement source i j
        (statements.Include (mixin_of source namespace name name_span arguments)
        (Some (record { params = params; block = block })) span)
        (sign terminals.AtInclude ∷ (tokens ++ (others ++ (more ++ last))))
    at_rule_line : {i c k j : ℕ} {parts : Parts} {prelude : Option Text} {tokens others : List Tok}
        → (span text_span : Span) → SpellsAtName source i c parts tokens
        → SpellsOptionalRaw source c k prelude others → Ended source k j
        → SpellsStatement source i j
        (statements.AtRule
        (record { name = record { parts = parts; span = text_span }; prelude = prelude; block = None; span = span }))
        (ended (tokens ++ others))
    at_rule_block : {i c k j : ℕ} {parts : Parts} {prelude : Option Text} {block : List Statement}
        {tokens others more : List Tok} → (span text_span : Span) → SpellsAtName source i c parts tokens
        → SpellsOptionalRaw source c k prelude others → SpellsBlock source k j block more
        → SpellsStatement source i j
        (statements.AtRule (record
        { name = record { parts = parts; span = text_span }; prelude = prelude; block = Some block; span = span }))
        (tokens ++ (others ++ more))
    properties_block : {i c j : ℕ} {parts : Parts} {block : List Statement} {tokens others : List Tok}
        → (span text_span : Span) → SpellsWord source i c parts tokens → Old source c (just terminals.Colon)
        → SpellsBlock source (suc c) j block others
        → SpellsStatement source i j
        (statements.Properties
        (record { property = record { parts = parts; span = text_span }; value = None; block = block; span = span }))
        (tokens ++ sign terminals.Colon ∷ others)
    properties_value_block : {i c k j : ℕ} {parts : Parts} {value : Expr} {block : List Statement}
        {tokens others more : List Tok} → (span text_span : Span)
        → SpellsWord source i c parts tokens → Old source c (just terminals.Colon)
        → Spells source (suc c) k value others → SpellsBlock source k j block more
        → SpellsStatement source i j
        (statements.Properties (record
        { property = record { parts = parts; span = text_span }; value = Some value; block = block; span = span }))
        (tokens ++ sign terminals.Colon ∷ (others ++ more))
    at_root_block : {i j : ℕ} {block : List Statement} {tokens : List Tok} → (span : Span)
        → Old source i (just terminals.AtRoot) → SpellsBlock source (suc i) j block tokens
        → SpellsStatement source i j
        (statements.AtRoot (record { selector = None; block = block; span = span }))
        (sign terminals.AtRoot ∷ tokens)
    at_root_text_block : {i k j : ℕ} {values : List Part} {block : List Statement} {tokens others : List Tok}
        {extents : List Extent} → (span : Span) → Old source i (just terminals.AtRoot)
        → SpellsRawText source (suc i) k values tokens extents → SpellsBlock source k j block others
        → SpellsStatement source i j
        (statements.AtRoot
        (record { selector = Some (text_between source (suc i) k values); block = block; span = span }))
        (sign terminals.AtRoot ∷ (raw_tokens source (suc i) k values extents tokens ++ others))
    each_block : {i c k j : ℕ} {places : List ℕ} {value : Expr} {block : List Statement}
        {tokens others more : List Tok} → (span : Span)
        → Old source i (just terminals.AtEach) → Old source (suc i) dollars
        → Old source (suc (suc i)) (just terminals.VariableName)
        → SpellsNames source (suc (suc (suc i))) c places tokens → Old source c (just terminals.In)
        → Spells source (suc c) k value others → SpellsBlock source k j block more
        → SpellsStatement source i j
        (statements.Each (record {
          names = names_at source (suc (suc i) ∷ places);
          value = value;
          block = block;
          span = span;
        }))
        (sign terminals.AtEach ∷ (dollar_tokens (name_at source (suc (suc i)))
        ++ (tokens ++ sign terminals.In ∷ (others ++ more))))
    for_block : {i c k j : ℕ} {from to : Expr} {block : List Statement} {tokens others more : List Tok} → (span : Span)
        → Old source i (just terminals.AtFor) → Old source (suc i) dollars
        → Old source (suc (suc i)) (just terminals.VariableName)
        → Old source (suc (suc (suc i))) (just terminals.From)
        → Spells source (suc (suc (suc (suc i)))) c from tokens
        → (old : Old source c (these (terminals.Through ∷ terminals.To ∷ [])))
        → Spells source (suc c) k to others → SpellsBlock source k j block more
        → SpellsStatement source i j
        (statements.For (record {
          name = name_at source (suc (suc i));
          bounds = record { from = from; to = to; through = stands_at source c terminals.Through };
          block = block;
          span = span;
        }))
        (sign terminals.AtFor ∷ (dollar_tokens (name_at source (suc (suc i)))
        ++ sign terminals.From ∷ (tokens ++ sign old.lexeme.terminal ∷ (others ++ more))))
    while_block : {i k j : ℕ} {value : Expr} {block : List Statement} {tokens others : List Tok} → (span : Span)
        → Old source i (just terminals.AtWhile) → Spells source (suc i) k value tokens
        → SpellsBlock source k j block others
        → SpellsStatement source i j (statements.While (record { condition = value; block = block; span = span }))
        (sign terminals.AtWhile ∷ (tokens ++ others))
    if_block : {i k m e j : ℕ} {value : Expr} {block : List Statement} {branches : List Branch}
        {otherwise : Option (List Statement)} {tokens others more last : List Tok} → (span : Span)
        → Old source i (just terminals.AtIf) → Spells source (suc i) k value tokens
        → SpellsBlock source k m block others → SpellsBranches source m e branches more
        → SpellsElse source e j otherwise last
        → SpellsStatement source i j (statements.If (branch_of value block ∷ branches) otherwise span)
        (sign terminals.AtIf ∷ (tokens ++ (others ++ (more ++ last))))
    supports_block : {i k j : ℕ} {values : List Part} {block : List Statement} {tokens others : List Tok}
        {extents : List Extent} → (span : Span) → Old source i (just terminals.AtSupports)
        → SpellsRawText source (suc i) k values tokens extents → SpellsBlock source k j block others
        → SpellsStatement source i j
        (statements.Supports (record { condition = text_between source (suc i) k values; block = block; span = span }))
        (sign terminals.AtSupports ∷ (raw_tokens source (suc i) k values extents tokens ++ others))
    rule_block : {i k j : ℕ} {values : List Part} {block : List Statement} {tokens others : List Tok}
        {extents : List Extent} → (span : Span) → SpellsRawText source i k values tokens extents
        → SpellsBlock source k j block others
        → SpellsStatement source i j
        (statements.Rule (record { selector = text_between source i k values; block = block; span = span }))
        (raw_tokens source i k values extents tokens ++ others)
    comment_line : {i j : ℕ} {text : Text} {tokens : List Tok} → SpellsComment source i j text tokens
        → SpellsStatement source i j (statements.Comment text) tokens
    use_line : {i k m j : ℕ} {namespace : Namespace} {givens : List Given} {tokens others : List Tok} → (span : Span)
        → Old source i (just terminals.AtUse) → Old source (suc i) (just terminals.LoadUrl)
        → SpellsNamespace source (suc i) (suc (suc i)) k namespace tokens
        → SpellsConfiguration source false k m givens others → Ended source m j
        → SpellsStatement source i j
        (statements.Use (record {
          url = url_at source (suc i);
          namespace = namespace;
          configuration = givens;
          span = span;
        }))
        (ended (sign terminals.AtUse ∷ tok terminals.LoadUrl (Decoded (decoded_at source (suc i))) ∷ (tokens ++ others)))
    forward_line : {i k m l j : ℕ} {prefix : Option (List ℕ)} {filter : Filter} {givens : List Given}
        {tokens others more : List Tok} → (span : Span)
        → Old source i (just terminals.AtForward) → Old source (suc i) (just terminals.LoadUrl)
        → SpellsPrefix source (suc (suc i)) k prefix tokens → SpellsFilter source k m filter others
        → SpellsConfiguration source true m l givens more → Ended source l j
        → SpellsStatement source i j
        (statements.Forward (record {
          url = url_at source (suc i);
          prefix = prefix;
          filter = filter;
          configuration = givens;
          span = span;
        }))
        (ended (sign terminals.AtForward ∷ tok terminals.LoadUrl (Decoded (decoded_at source (suc i)))
        ∷ (tokens ++ (others ++ more))))
    media_block : {i k j : ℕ} {list : List Piece} {block : List Statement} {tokens others : List Tok}
        → (span text_span : Span) → Old source i (just terminals.AtMedia)
        → SpellsQueries source (suc i) k list tokens → SpellsBlock source k j block others
        → SpellsStatement source i j
        (statements.Media (record
        { queries = record { parts = Mixed list; span = text_span }; block = block; span = span }))
        (sign terminals.AtMedia ∷ (tokens ++ others))

  -- statements in braces
  pub data SpellsBlock (source : Source) : ℕ → ℕ → List Statement → List Tok → Type 0 where
    braces : {i k : ℕ} {list : List Statement} {tokens : List Tok} → Old source i (just terminals.Open)
        → SpellsStatements source (suc i) k list tokens → Old source k (just terminals.Close)
        → SpellsBlock source i (suc k) list (within (sign terminals.Open) tokens terminals.Close)

  -- `@else if`, in one word or two
  pub data SpellsBranches (source : Source) : ℕ → ℕ → List Branch → List Tok → Type 0 where
    no_branches : {i : ℕ} → SpellsBranches source i i [] []
    more_branches : {i h k m j : ℕ} {value : Expr} {block : List Statement} {branches : List Branch}
        {tokens others more : List Tok} → OldElseIf source i h → Spells source h k value tokens
        → SpellsBlock source k m block others → SpellsBranches source m j branches more
        → SpellsBranches source i j (branch_of value block ∷ branches)
        (sign terminals.AtElseIf ∷ sign terminals.If ∷ (tokens ++ (others ++ more)))

  pub data SpellsElse (source : Source) : ℕ → ℕ → Option (List Statement) → List Tok → Type 0 where
    no_else : {i : ℕ} → SpellsElse source i i None []
    else_block : {i j : ℕ} {block : List Statement} {tokens : List Tok} → Old source i (just terminals.AtElse)
        → SpellsBlock source (suc i) j block tokens
        → SpellsElse source i j (Some block) (sign terminals.AtElse ∷ tokens)

  -- statements one behind the other; a `;` alone is none
  pub data SpellsStatements (source : Source) : ℕ → ℕ → List Statement → List Tok → Type 0 where
    no_statements : {i : ℕ} → SpellsStatements source i i [] []
    lone_semicolon : {i j : ℕ} {list : List Statement} {tokens : List Tok} → Old source i (just terminals.Semicolon)
        → SpellsStatements source (suc i) j list tokens → SpellsStatements source i j list tokens
    more_statements : {i k j : ℕ} {one : Statement} {list : List Statement} {tokens others : List Tok}
        → SpellsStatement source i k one tokens → SpellsStatements source k j list others
        → SpellsStatements source i j (one ∷ list) (tokens ++ others)
