-- The grammar of statements, as a table of productions (Sass specification, the syntax of statements).
use Rattle.std.specs.Prelude.{[], ◌∷◌}
use Rattle.sw_parse_grammar.specs.Grammar.{Grammar, keep, skip, empty, ahead, seq, alt, many, sep, group, build, anywhere}
use Rattle.sw_tree.specs.declared.callable.Kind.TheVariants as kinds
use Rattle.sw_tree.specs.declared.statement.Level.TheVariants as levels
use Rattle.sw_parse_terminals.specs.declared.terminal.Terminal.TheVariants as terminals
use Rattle.sw_parse_terminals.specs.Numbers.{number_of, these, just}
use Rattle.sw_parse_table.specs.declared.source.Source.{Source}
use Rattle.sw_parse_table.specs.Parts.{Part, Form, Block, RawInside, Taking, Giving, Passing}
use Rattle.sw_parse_table.specs.Sets.{dollars, endings}
use Rattle.sw_parse_table.specs.Values.{to_text}
use Rattle.sw_parse_table.specs.Actions.{to_behind, to_block, to_parameters, to_branch, to_set, to_owner, to_assigned, to_declaration, to_custom, to_rule, to_supports, to_media, to_at_root, to_at_rule, to_import, to_extend, to_charset, to_comment, to_use, to_given, to_member, to_forward, to_param, to_callable, to_include_name, to_include, to_content, to_return, to_say, to_if, to_each, to_for, to_while}
use Rattle.sw_parse_table.specs.Expressions.{insert, signed_insert, word_part, word, arguments_in, space, expr, colon_space}
use Rattle.sw_parse_table.specs.Queries.{queries}

module _ (source : Source) where
  -- end = ";" | before "}" | end of text
  unfoldable pub finish : Grammar Part Form
  finish = alt (skip (just terminals.Semicolon)) (ahead (number_of terminals.Close ∷ 0 ∷ []))

  -- block = "{" {statement} "}"
  unfoldable pub block : Grammar Part Form
  block = build (anywhere to_block) (group (just terminals.Open) Block (just terminals.Close))

  -- raw text
  unfoldable pub raw_item : Grammar Part Form
  raw_item =
      alt (skip (just terminals.Raw)) (alt (group (just terminals.RawParen) RawInside (just terminals.RawParenEnd)) (alt
      (group (just terminals.RawBracket) RawInside (just terminals.RawBracketEnd))
      (alt (group (just terminals.RawBrace) RawInside (just terminals.RawBraceEnd)) (insert source))))

  unfoldable pub raw : Grammar Part Form
  raw = build (to_text source) (seq raw_item (many raw_item))

  unfoldable pub raw_inside : Grammar Part Form
  raw_inside = many raw_item

  unfoldable pub optional_raw : Grammar Part Form
  optional_raw = alt raw empty

  -- dollar_name = "$"·name
  unfoldable pub dollar_name : Grammar Part Form
  dollar_name = seq (skip dollars) (keep (just terminals.VariableName))

  -- set = "$"·name ":" expr {"!default" | "!global"} end
  unfoldable pub flag : Grammar Part Form
  flag = seq (skip endings) (keep (these (terminals.Default ∷ terminals.Global ∷ [])))

  unfoldable pub default_flag : Grammar Part Form
  default_flag = seq (skip endings) (keep (just terminals.Default))

  unfoldable pub colon_expr : Grammar Part Form
  colon_expr = seq (skip (just terminals.Colon)) (expr source)

  unfoldable pub set : Grammar Part Form
  set = seq (build (to_set source) (seq dollar_name (seq colon_expr (many flag)))) finish

  -- assigned = name·"."·"$"·name ":" expr {"!default"} end
  unfoldable pub owner : Grammar Part Form
  owner =
      build (to_owner source) (seq (keep (just terminals.Owner)) (seq (skip (just terminals.OwnerDot)) (seq (skip
      (just terminals.OwnerDollar)) (keep (just terminals.VariableName)))))

  unfoldable pub assigned : Grammar Part Form
  assigned = seq (build (to_assigned source) (seq owner (seq colon_expr (many default_flag)))) finish

  -- declaration = word ":" expr end | word ":" [expr] block
  unfoldable pub block_or_end : Grammar Part Form
  block_or_end = alt block finish

  unfoldable pub property : Grammar Part Form
  property = build to_behind (seq (word source) (skip (just terminals.Colon)))

  unfoldable pub property_value : Grammar Part Form
  property_value = seq (build to_behind (expr source)) block_or_end

  unfoldable pub declaration : Grammar Part Form
  declaration = build (to_declaration source) (seq property (alt block property_value))

  -- custom = "--"word ":" [raw] end
  unfoldable pub custom_name : Grammar Part Form
  custom_name = build (to_text source) (seq (skip (just terminals.Custom)) (many (word_part source)))

  unfoldable pub custom : Grammar Part Form
  custom = seq (build (to_custom source) (seq custom_name (seq (skip (just terminals.Colon)) optional_raw))) finish

  -- rule = raw block
  unfoldable pub rule : Grammar Part Form
  rule = build (to_rule source) (seq (build to_behind raw) block)

  unfoldable pub supports : Grammar Part Form
  supports = build (to_supports source) (seq (build to_behind (seq (skip (just terminals.AtSupports)) raw)) block)

  unfoldable pub at_root : Grammar Part Form
  at_root = build (to_at_root source) (seq (build to_behind (seq (skip (just terminals.AtRoot)) optional_raw)) block)

  -- at = "@"word [raw] (block | end)
  unfoldable pub at_name : Grammar Part Form
  at_name =
      build (to_text source) (alt (seq (skip (just terminals.AtOther)) (many (word_part source))) (seq (skip
      (just terminals.AtInsert)) (seq (signed_insert source) (many (word_part source)))))

  unfoldable pub at : Grammar Part Form
  at = build (to_at_rule source) (seq (build to_behind (seq at_name optional_raw)) block_or_end)

  unfoldable pub import : Grammar Part Form
  import = seq (build (to_import source) (seq (skip (just terminals.AtImport)) raw)) finish

  unfoldable pub extend : Grammar Part Form
  extend = seq (build (to_extend source) (seq (skip (just terminals.AtExtend)) raw)) finish

  unfoldable pub charset : Grammar Part Form
  charset = seq (build (to_charset source) (seq (skip (just terminals.AtCharset)) (skip (just terminals.Plain)))) finish

  unfoldable pub comment : Grammar Part Form
  comment =
      build (to_comment source) (alt (skip (just terminals.CommentWhole)) (seq (skip (just terminals.CommentTemplate))
      (seq (many (alt (skip (just terminals.Piece)) (insert source))) (skip (just terminals.CommentEnd)))))

  -- use = "@use" string ["as" (name | "*")] [with] end
  unfoldable pub given_name : Grammar Part Form
  given_name = build to_behind dollar_name

  -- given = "$"·name ":" space
  unfoldable pub given : Grammar Part Form
  given = build (to_given source) (seq given_name (colon_space source))

  unfoldable pub giving : Grammar Part Form
  giving = seq given (sep (just terminals.Comma) given)

  unfoldable pub with_given : Grammar Part Form
  with_given =
      alt (seq (skip (just terminals.With)) (group (just terminals.HeadParen) Giving (just terminals.ParenEnd))) empty

  unfoldable pub as_name : Grammar Part Form
  as_name = alt (seq (skip (just terminals.As)) (keep (these (terminals.Named ∷ terminals.Star ∷ [])))) empty

  unfoldable pub use_ : Grammar Part Form
  use_ =
      seq (build (to_use source) (seq (skip (just terminals.AtUse)) (seq (keep (just terminals.LoadUrl))
      (seq as_name with_given)))) finish

  -- forward = "@forward" string ["as" name·"*"] [("show" | "hide") member {"," member}] [with] end
  unfoldable pub as_prefix : Grammar Part Form
  as_prefix =
      alt (seq (skip (just terminals.As)) (seq (keep (just terminals.Prefix)) (skip (just terminals.PrefixStar)))) empty

  unfoldable pub member_ : Grammar Part Form
  member_ = build (to_member source) (alt (keep (just terminals.Named)) dollar_name)

  unfoldable pub filter : Grammar Part Form
  filter =
      alt (seq (keep (these (terminals.Show ∷ terminals.Hide ∷ []))) (seq member_ (many (seq (skip
      (just terminals.Comma)) member_)))) empty

  unfoldable pub passed : Grammar Part Form
  passed = build (to_given source) (seq given_name (seq (colon_space source) (alt default_flag empty)))

  unfoldable pub passing : Grammar Part Form
  passing = seq passed (sep (just terminals.Comma) passed)

  unfoldable pub with_passed : Grammar Part Form
  with_passed =
      alt (seq (skip (just terminals.With)) (group (just terminals.HeadParen) Passing (just terminals.ParenEnd))) empty

  unfoldable pub forward : Grammar Part Form
  forward =
      seq (build (to_forward source) (seq (build to_behind (seq (skip (just terminals.AtForward)) (seq (keep
      (just terminals.LoadUrl)) as_prefix))) (seq filter with_passed))) finish

  -- param = "$"·name [":" space | "..."]
  unfoldable pub param : Grammar Part Form
  param =
      build (to_param source) (seq dollar_name (alt (colon_space source) (alt (keep (just terminals.Ellipsis)) empty)))

  -- params = [param {"," param} [","]]
  unfoldable pub taking : Grammar Part Form
  taking = build (anywhere to_parameters) (alt (seq param (sep (just terminals.Comma) param)) empty)

  unfoldable pub params : Grammar Part Form
  params = group (just terminals.HeadParen) Taking (just terminals.ParenEnd)

  unfoldable pub function : Grammar Part Form
  function =
      build (to_callable source kinds.Function) (seq (build to_behind (seq (skip (just terminals.AtFunction)) (seq (keep
      (just terminals.Named)) params))) block)

  unfoldable pub mixin : Grammar Part Form
  mixin =
      build (to_callable source kinds.Mixin) (seq (build to_behind (seq (skip (just terminals.AtMixin)) (seq (keep
      (just terminals.Named)) (alt params empty)))) block)

  -- include = "@include" [name·"."·] name [·"(" args ")"] ["using" "(" params ")"] (block | end)
  unfoldable pub include_name : Grammar Part Form
  include_name =
      build (to_include_name source) (alt (keep (just terminals.Named)) (seq (keep (just terminals.Owner)) (seq (skip
      (just terminals.OwnerDot)) (keep (just terminals.Named)))))

  unfoldable pub using : Grammar Part Form
  using = alt (seq (skip (just terminals.Using)) params) empty

  unfoldable pub include : Grammar Part Form
  include =
      build (to_include source) (seq (build to_behind (seq (skip (just terminals.AtInclude)) (seq include_name (seq (alt
      (arguments_in source) empty) using)))) block_or_end)

  -- content = "@content" ["(" args ")"] end
  unfoldable pub content : Grammar Part Form
  content =
      seq (build (to_content source) (seq (skip (just terminals.AtContent)) (alt (arguments_in source) empty))) finish

  unfoldable pub return : Grammar Part Form
  return = seq (build (to_return source) (seq (skip (just terminals.AtReturn)) (expr source))) finish

  unfoldable pub warn : Grammar Part Form
  warn = seq (build (to_say source levels.Warn) (seq (skip (just terminals.AtWarn)) (expr source))) finish

  unfoldable pub debug : Grammar Part Form
  debug = seq (build (to_say source levels.Debug) (seq (skip (just terminals.AtDebug)) (expr source))) finish

  unfoldable pub error : Grammar Part Form
  error = seq (build (to_say source levels.Error) (seq (skip (just terminals.AtError)) (expr source))) finish

  -- if = "@if" expr block {"@else" "if" expr block} ["@else" block]
  unfoldable pub else_if : Grammar Part Form
  else_if =
      build (anywhere to_branch) (seq (alt (skip (just terminals.AtElseIfWhole)) (seq (skip (just terminals.AtElseIf))
      (skip (just terminals.If)))) (seq (expr source) block))

  unfoldable pub else_ : Grammar Part Form
  else_ = alt (seq (skip (just terminals.AtElse)) block) empty

  unfoldable pub if_ : Grammar Part Form
  if_ =
      build (to_if source) (seq (build to_behind (seq (skip (just terminals.AtIf)) (expr source))) (seq block (seq
      (many else_if) else_)))

  -- each = "@each" "$"·name {"," "$"·name} "in" expr block
  unfoldable pub each : Grammar Part Form
  each =
      build (to_each source) (seq (build to_behind (seq (skip (just terminals.AtEach)) (seq dollar_name (seq (many (seq
      (skip (just terminals.Comma)) dollar_name)) (seq (skip (just terminals.In)) (expr source)))))) block)

  -- for = "@for" "$"·name "from" space ("through" | "to") space block
  unfoldable pub for_ : Grammar Part Form
  for_ =
      build (to_for source) (seq (build to_behind (seq (skip (just terminals.AtFor)) (seq dollar_name (seq (skip
      (just terminals.From)) (seq (space source) (seq (keep (these (terminals.Through ∷ terminals.To ∷ [])))
      (space source))))))) block)

  unfoldable pub while_ : Grammar Part Form
  while_ = build (to_while source) (seq (build to_behind (seq (skip (just terminals.AtWhile)) (expr source))) block)

  unfoldable pub media : Grammar Part Form
  media = build (to_media source) (seq (build to_behind (seq (skip (just terminals.AtMedia)) (queries source))) block)

  -- statement: one with an expression first, one that begins with `@`, or another
  unfoldable pub plain_statement : Grammar Part Form
  plain_statement =
      alt (skip (just terminals.Semicolon)) (alt set (alt assigned (alt declaration (alt custom (alt comment rule)))))

  unfoldable pub load_statement : Grammar Part Form
  load_statement = alt use_ forward

  unfoldable pub member_statement : Grammar Part Form
  member_statement = alt function (alt mixin (alt include content))

  unfoldable pub flow_statement : Grammar Part Form
  flow_statement = alt return (alt warn (alt debug (alt error (alt if_ (alt each (alt for_ while_))))))

  unfoldable pub css_statement : Grammar Part Form
  css_statement = alt media (alt supports (alt at_root (alt charset (alt import (alt extend at)))))

  unfoldable pub statement : Grammar Part Form
  statement = alt plain_statement (alt load_statement (alt member_statement (alt flow_statement css_statement)))
