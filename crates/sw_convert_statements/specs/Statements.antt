-- What is asked of statements that were read, and of the blocks in them: that what is written of each up to its end or its
-- block is the tokens that are read again.
use Rattle.std.specs.Prelude.{ℕ, suc, List, [], ◌∷◌, ◌++◌, Option, Some, None, codes}
use Rattle.sw_tree.specs.declared.callable.Kind.TheVariants as kinds
use Rattle.sw_tree.specs.declared.text.Parts.TheVariants.{Mixed}
use Rattle.sw_tree.specs.declared.statement.Branch.{Branch}
use Rattle.sw_tree.specs.declared.statement.Statement.{Statement}
use Rattle.sw_parse_terminals.specs.declared.terminal.Terminal.TheVariants as terminals
use Rattle.sw_parse_lexemes.specs.declared.state.Mode.TheVariants as modes
use Rattle.sw_parse_table.specs.declared.source.Source.{Source}
use Rattle.sw_parse_table.specs.Sources.{bytes_at, decoded_at, text_between}
use Rattle.sw_parse_table.specs.Values.{qualified_of}
use Rattle.sw_parse_table.specs.Actions.{mixin_of, name_at, names_at, stands_at, flags_at, url_at}
use Rattle.sw_convert_written.specs.Expressions.{expr_text}
use Rattle.sw_convert_written.specs.Heads.{plain_text, raw_text, selector_text, queries_text, variable_text, assignment_text, declaration_text, custom_text, properties_head, use_text, forward_text, callable_head, include_text, using_params, content_text, say_word, each_head, for_head, at_root_head, at_rule_head}
use Rattle.sw_convert_again.specs.Tokens.{Tok, tok, sign, Bytes, Dashed, Decoded}
use Rattle.sw_convert_again.specs.Params.{dollar_tokens}
use Rattle.sw_convert_again.specs.RawTexts.{raw_tokens}
use Rattle.sw_convert_again.specs.Statements.{SpellsStatement, SpellsBlock, SpellsBranches, SpellsElse, SpellsStatements, flag_if, flag_tokens, say_name}
use Rattle.sw_convert_again.specs.Statements as spells
use Rattle.sw_convert_texts.specs.Comments.{CommentWritten}
use Rattle.sw_convert_statements.specs.Segments.{FrontWritten, ElseWritten, RuleWritten}

-- what is asked of a statement itself
abbrev pub FrontIs : {source : Source} {i j : ℕ} {statement : Statement} {tokens : List Tok}
    → SpellsStatement source i j statement tokens → Type 0
FrontIs {source} (spells.return_line {value = value} {tokens = tokens} span old inner end) =
    FrontWritten modes.Expression (codes "@return " ++ expr_text value) (sign terminals.AtReturn ∷ tokens)
FrontIs {source} (spells.say_line {value = value} {tokens = tokens} level span old inner end) =
    FrontWritten modes.Expression (say_word level ++ expr_text value) (sign (say_name level) ∷ tokens)
FrontIs {source} (spells.variable_line {i} {value = value} {tokens = tokens} {places = places} span one two three inner flags end) =
    FrontWritten modes.Ends
    (variable_text (record { name = name_at source (suc i); value = value; flags = flags_at source places; span = span }))
    (sign terminals.DollarNamed ∷ tok terminals.VariableName (Dashed (name_at source (suc i)))
    ∷ sign terminals.Colon ∷ (tokens ++ flag_tokens (flags_at source places)))
FrontIs {source} (spells.assignment_line {i} {value = value} {tokens = tokens} {places = places} span target_span one two three four five inner flags end) =
    FrontWritten modes.Ends
    (assignment_text (record {
      target = qualified_of source i (suc (suc (suc i)));
      target_span = target_span;
      value = value;
      flags = flags_at source places;
      span = span;
    }))
    (tok terminals.Owner (Bytes 1 (bytes_at source i)) ∷ sign terminals.OwnerDot ∷ sign terminals.OwnerDollar
    ∷ tok terminals.VariableName (Dashed (name_at source (suc (suc (suc i))))) ∷ sign terminals.Colon
    ∷ (tokens ++ flag_if (flags_at source places).default terminals.Default))
FrontIs {source} (spells.import_line {i} {k} {values = values} {tokens = tokens} {extents = extents} span old inner end) =
    FrontWritten modes.Raw (codes "@import " ++ raw_text (text_between source (suc i) k values))
    (sign terminals.AtImport ∷ raw_tokens source (suc i) k values extents tokens)
FrontIs {source} (spells.extend_line {i} {k} {values = values} {tokens = tokens} {extents = extents} span old inner end) =
    FrontWritten modes.Raw (codes "@extend " ++ raw_text (text_between source (suc i) k values))
    (sign terminals.AtExtend ∷ raw_tokens source (suc i) k values extents tokens)
FrontIs {source} (spells.content_line {arguments = arguments} {tokens = tokens} span old given end) =
    FrontWritten modes.Content (content_text (record { arguments = arguments; span = span })) (sign terminals.AtContent ∷ tokens)
FrontIs {source} (spells.charset_line span one two end) =
    FrontWritten modes.Expression (codes "@charset \"UTF-8\"") (sign terminals.AtCharset ∷ sign terminals.Plain ∷ [])
FrontIs {source} (spells.declaration_line {parts = parts} {value = value} {tokens = tokens} {others = others} span text_span word mark inner end) =
    FrontWritten modes.Expression
    (declaration_text
    (record { property = record { parts = parts; span = text_span }; value = value; span = span }))
    (tokens ++ sign terminals.Colon ∷ others)
FrontIs {source} (spells.custom_line {parts = parts} {value = value} {tokens = tokens} {others = others} span text_span name mark inner end) =
    FrontWritten modes.Custom
    (custom_text (record { property = record { parts = parts; span = text_span }; value = value; span = span }))
    (tokens ++ sign terminals.Colon ∷ others)
FrontIs {source} (spells.function_block {i} {params = params} {tokens = tokens} span one two head block) =
    FrontWritten modes.Head (callable_head kinds.Function (name_at source (suc i)) params)
    (sign terminals.AtFunction ∷ tok terminals.Named (Dashed (name_at source (suc i))) ∷ tokens)
FrontIs {source} (spells.mixin_block {i} {params = params} {tokens = tokens} span one two head block) =
    FrontWritten modes.Head (callable_head kinds.Mixin (name_at source (suc i)) params)
    (sign terminals.AtMixin ∷ tok terminals.Named (Dashed (name_at source (suc i))) ∷ tokens)
FrontIs {source} (spells.include_line {namespace = namespace} {name = name} {arguments = arguments} {tokens = tokens} {others = others} span name_span old mixin given using end) =
    FrontWritten modes.Include (include_text (mixin_of source namespace name name_span arguments))
    (sign terminals.AtInclude ∷ (tokens ++ others))
FrontIs {source} (spells.include_block {namespace = namespace} {name = name} {arguments = arguments} {params = params} {tokens = tokens} {others = others} {more = more} span name_span old mixin given using block) =
    FrontWritten modes.Include (using_params params (include_text (mixin_of source namespace name name_span arguments)))
    (sign terminals.AtInclude ∷ (tokens ++ (others ++ more)))
FrontIs {source} (spells.at_rule_line {parts = parts} {prelude = prelude} {tokens = tokens} {others = others} span text_span name raw end) =
    FrontWritten modes.Raw (at_rule_head (record { parts = parts; span = text_span }) prelude) (tokens ++ others)
FrontIs {source} (spells.at_rule_block {parts = parts} {prelude = prelude} {tokens = tokens} {others = others} span text_span name raw block) =
    FrontWritten modes.Raw (at_rule_head (record { parts = parts; span = text_span }) prelude) (tokens ++ others)
FrontIs {source} (spells.properties_block {parts = parts} {tokens = tokens} span text_span word mark block) =
    FrontWritten modes.Expression (properties_head (record { parts = parts; span = text_span }) None)
    (tokens ++ sign terminals.Colon ∷ [])
FrontIs {source} (spells.properties_value_block {parts = parts} {value = value} {tokens = tokens} {others = others} span text_span word mark inner block) =
    FrontWritten modes.Expression (properties_head (record { parts = parts; span = text_span }) (Some value))
    (tokens ++ sign terminals.Colon ∷ others)
FrontIs {source} (spells.at_root_block span old block) =
    FrontWritten modes.Raw (at_root_head None) (sign terminals.AtRoot ∷ [])
FrontIs {source} (spells.at_root_text_block {i} {k} {values = values} {tokens = tokens} {extents = extents} span old raw block) =
    FrontWritten modes.Raw (at_root_head (Some (text_between source (suc i) k values)))
    (sign terminals.AtRoot ∷ raw_tokens source (suc i) k values extents tokens)
FrontIs {source} (spells.each_block {i} {places = places} {value = value} {tokens = tokens} {others = others} span one two three names in_word inner block) =
    FrontWritten modes.Expression (each_head (names_at source (suc (suc i) ∷ places)) value)
    (sign terminals.AtEach ∷ (dollar_tokens (name_at source (suc (suc i)))
    ++ (tokens ++ sign terminals.In ∷ others)))
FrontIs {source} (spells.for_block {i} {c} {from = from} {to = to} {tokens = tokens} {others = others} span one two three four low old high block) =
    FrontWritten modes.Bounds
    (for_head (name_at source (suc (suc i)))
    (record { from = from; to = to; through = stands_at source c terminals.Through }))
    (sign terminals.AtFor ∷ (dollar_tokens (name_at source (suc (suc i)))
    ++ sign terminals.From ∷ (tokens ++ sign old.lexeme.terminal ∷ others)))
FrontIs {source} (spells.while_block {value = value} {tokens = tokens} span old inner block) =
    FrontWritten modes.Expression (codes "@while " ++ expr_text value) (sign terminals.AtWhile ∷ tokens)
FrontIs {source} (spells.if_block {value = value} {tokens = tokens} span old inner block further otherwise) =
    FrontWritten modes.Expression (codes "@if " ++ expr_text value) (sign terminals.AtIf ∷ tokens)
FrontIs {source} (spells.supports_block {i} {k} {values = values} {tokens = tokens} {extents = extents} span old raw block) =
    FrontWritten modes.Raw (codes "@supports " ++ raw_text (text_between source (suc i) k values))
    (sign terminals.AtSupports ∷ raw_tokens source (suc i) k values extents tokens)
FrontIs {source} (spells.rule_block {i} {k} {values = values} {tokens = tokens} {extents = extents} span raw block) =
    RuleWritten (selector_text (text_between source i k values)) (raw_tokens source i k values extents tokens)
FrontIs (spells.comment_line {text = text} {tokens = tokens} comment) = CommentWritten (plain_text text) tokens
FrontIs {source} (spells.use_line {i} {namespace = namespace} {givens = givens} {tokens = tokens} {others = others} span one two name settings end) =
    FrontWritten modes.Use
    (use_text
    (record { url = url_at source (suc i); namespace = namespace; configuration = givens; span = span }))
    (sign terminals.AtUse ∷ tok terminals.LoadUrl (Decoded (decoded_at source (suc i))) ∷ (tokens ++ others))
FrontIs {source} (spells.forward_line {i} {prefix = prefix} {filter = filter} {givens = givens} {tokens = tokens} {others = others} {more = more} span one two renamed members settings end) =
    FrontWritten modes.Forward
    (forward_text (record {
      url = url_at source (suc i);
      prefix = prefix;
      filter = filter;
      configuration = givens;
      span = span;
    }))
    (sign terminals.AtForward ∷ tok terminals.LoadUrl (Decoded (decoded_at source (suc i)))
    ∷ (tokens ++ (others ++ more)))
FrontIs {source} (spells.media_block {list = list} {tokens = tokens} span text_span old queries block) =
    FrontWritten modes.Media (codes "@media " ++ queries_text (record { parts = Mixed list; span = text_span }))
    (sign terminals.AtMedia ∷ tokens)

-- of it and of the blocks in it
abbrev mutual
  pub HasFronts : {source : Source} {i j : ℕ} {statement : Statement} {tokens : List Tok}
      → SpellsStatement source i j statement tokens → Type 0
  HasFronts (spells.function_block span one two head block) =
      FrontIs (spells.function_block span one two head block) × BlockHasFronts block
  HasFronts (spells.mixin_block span one two head block) =
      FrontIs (spells.mixin_block span one two head block) × BlockHasFronts block
  HasFronts (spells.include_block span name_span old mixin given using block) =
      FrontIs (spells.include_block span name_span old mixin given using block) × BlockHasFronts block
  HasFronts (spells.at_rule_block span text_span name raw block) =
      FrontIs (spells.at_rule_block span text_span name raw block) × BlockHasFronts block
  HasFronts (spells.properties_block span text_span word mark block) =
      FrontIs (spells.properties_block span text_span word mark block) × BlockHasFronts block
  HasFronts (spells.properties_value_block span text_span word mark inner block) =
      FrontIs (spells.properties_value_block span text_span word mark inner block) × BlockHasFronts block
  HasFronts (spells.at_root_block span old block) =
      FrontIs (spells.at_root_block span old block) × BlockHasFronts block
  HasFronts (spells.at_root_text_block span old raw block) =
      FrontIs (spells.at_root_text_block span old raw block) × BlockHasFronts block
  HasFronts (spells.each_block span one two three names in_word inner block) =
      FrontIs (spells.each_block span one two three names in_word inner block) × BlockHasFronts block
  HasFronts (spells.for_block span one two three four low old high block) =
      FrontIs (spells.for_block span one two three four low old high block) × BlockHasFronts block
  HasFronts (spells.while_block span old inner block) =
      FrontIs (spells.while_block span old inner block) × BlockHasFronts block
  HasFronts (spells.if_block span old inner block further otherwise) =
      FrontIs (spells.if_block span old inner block further otherwise) × BlockHasFronts block × BranchesHaveFronts further × ElseHasFronts otherwise
  HasFronts (spells.supports_block span old raw block) =
      FrontIs (spells.supports_block span old raw block) × BlockHasFronts block
  HasFronts (spells.rule_block span raw block) =
      FrontIs (spells.rule_block span raw block) × BlockHasFronts block
  HasFronts (spells.media_block span text_span old queries block) =
      FrontIs (spells.media_block span text_span old queries block) × BlockHasFronts block
  HasFronts spelt = FrontIs spelt

  pub BlockHasFronts : {source : Source} {i j : ℕ} {list : List Statement} {tokens : List Tok}
      → SpellsBlock source i j list tokens → Type 0
  BlockHasFronts (spells.braces opens inner closes) = ListHasFronts inner

  pub BranchesHaveFronts : {source : Source} {i j : ℕ} {branches : List Branch} {tokens : List Tok}
      → SpellsBranches source i j branches tokens → Type 0
  BranchesHaveFronts spells.no_branches = Unit {0}
  BranchesHaveFronts (spells.more_branches {value = value} {tokens = tokens} old inner block more) =
      ElseWritten modes.Expression (codes "@else if " ++ expr_text value)
      (sign terminals.AtElseIf ∷ sign terminals.If ∷ tokens)
      × BlockHasFronts block × BranchesHaveFronts more

  pub ElseHasFronts : {source : Source} {i j : ℕ} {otherwise : Option (List Statement)} {tokens : List Tok}
      → SpellsElse source i j otherwise tokens → Type 0
  ElseHasFronts spells.no_else = Unit {0}
  ElseHasFronts (spells.else_block old block) = BlockHasFronts block

  pub ListHasFronts : {source : Source} {i j : ℕ} {list : List Statement} {tokens : List Tok}
      → SpellsStatements source i j list tokens → Type 0
  ListHasFronts spells.no_statements = Unit {0}
  ListHasFronts (spells.lone_semicolon old more) = ListHasFronts more
  ListHasFronts (spells.more_statements one more) = HasFronts one × ListHasFronts more
