-- The grammar of expressions, as a table of productions (Sass specification, the syntax of expressions).
use Rattle.sw_parse_grammar.specs.Grammar.{Grammar, keep, skip, empty, seq, alt, many, sep, group, unless, build, anywhere}
use Rattle.sw_parse_terminals.specs.declared.terminal.Terminal.TheVariants.{Comma, Colon, RawParen, RawBracket, RawParenEnd, RawBracketEnd, Insert, InsertEnd, TextPiece, TemplateEnd, Piece, UrlEnd, Number, Sign, Quoted, Template, Hash, Url, UrlTemplate, Special, DollarNamed, Owner, Word, WordMinus, WordInsert, Range, Ampersand, Bracket, HashName, VariableName, OwnerDot, OwnerDollar, Part as WordPart, PartInsert, CallParen, ParenEnd, BracketEnd, Important, Ellipsis}
use Rattle.sw_parse_terminals.specs.Numbers.{just}
use Rattle.sw_parse_table.specs.declared.source.Source.{Source}
use Rattle.sw_parse_table.specs.declared.operator.Precedence.{Precedence}
use Rattle.sw_parse_table.specs.declared.operator.Precedence.TheVariants as precedences
use Rattle.sw_parse_table.specs.Parts.{Part, Form, Value, Inside, Items, Arguing, SpecialInside, SpecialItems}
use Rattle.sw_parse_table.specs.Sets.{constants, dollars, bangs, parens_opening, prefixes, operators, special_texts, endings}
use Rattle.sw_parse_table.specs.Values.{to_insert, inserted_piece, to_text, to_number, to_quoted, to_decoded, to_template, to_hash, to_constant, to_url, to_special, to_written, to_variable, to_owned, to_called, to_range, to_parent, to_important, to_parens, to_brackets, to_sign, to_unary, to_link, to_chain, to_space, to_list, to_pair, marked, sorted, to_named, to_spread, to_arguments, to_stands}

module _ (source : Source) where
  -- number = [sign·] digits
  unfoldable pub number : Grammar Part Form
  number = build (to_number source) (alt (seq (skip (just Sign)) (skip (just Number))) (skip (just Number)))

  -- insert = "#{" expr "}", in raw text, strings and urls
  unfoldable pub insert : Grammar Part Form
  insert = build (to_insert source) (group (just Insert) Value (just InsertEnd))

  -- quoted = string
  unfoldable pub quoted : Grammar Part Form
  quoted = build (to_quoted source) (skip (just Quoted))

  unfoldable pub text_item : Grammar Part Form
  text_item = alt (build (to_decoded source) (skip (just TextPiece))) (build (anywhere inserted_piece) insert)

  unfoldable pub url_item : Grammar Part Form
  url_item = alt (skip (just Piece)) insert

  -- template = string with "#{" expr "}"
  unfoldable pub template : Grammar Part Form
  template = build (to_template source) (seq (skip (just Template)) (seq (many text_item) (skip (just TemplateEnd))))

  unfoldable pub hash : Grammar Part Form
  hash = build (to_hash source) (seq (skip (just Hash)) (skip (just HashName)))

  unfoldable pub constant : Grammar Part Form
  constant = build (to_constant source) (skip constants)

  unfoldable pub url : Grammar Part Form
  url = build (to_url source) (skip (just Url))

  unfoldable pub url_template : Grammar Part Form
  url_template = build (to_url source) (seq (skip (just UrlTemplate)) (seq (many url_item) (skip (just UrlEnd))))

  -- special = name·"(" special_inside ")"
  unfoldable pub special : Grammar Part Form
  special =
      build (to_special source) (seq (skip (just Special)) (group (just RawParen) SpecialInside (just RawParenEnd)))

  -- variable = "$"·name
  unfoldable pub variable : Grammar Part Form
  variable = build (to_variable source) (seq (skip dollars) (keep (just VariableName)))

  -- word_insert = "#{" expr "}" at the start of a word, part_insert in it
  unfoldable pub word_insert : Grammar Part Form
  word_insert = build (to_insert source) (group (just WordInsert) Value (just InsertEnd))

  unfoldable pub part_insert : Grammar Part Form
  part_insert = build (to_insert source) (group (just PartInsert) Value (just InsertEnd))

  -- word_part = ·(name | digits | "-" | "#{" expr "}")
  unfoldable pub word_part : Grammar Part Form
  word_part = alt (skip (just WordPart)) part_insert

  -- signed_insert = ["-"·] "#{" expr "}"
  abbrev pub signed_insert : Grammar Part Form
  signed_insert = alt (seq (skip (just WordMinus)) word_insert) word_insert

  -- word_start = name | signed_insert
  unfoldable pub word_start : Grammar Part Form
  word_start = alt (skip (just Word)) signed_insert

  -- word = word_start {word_part}
  unfoldable pub word : Grammar Part Form
  word = build (to_text source) (seq word_start (many word_part))

  -- arguments_in = ·"(" args ")"
  unfoldable pub arguments_in : Grammar Part Form
  arguments_in = group (just CallParen) Arguing (just ParenEnd)

  -- called = word [·"(" args ")"]
  unfoldable pub called : Grammar Part Form
  called = build (to_called source) (seq word (alt arguments_in empty))

  -- owned = name·"."·("$"·name | word·"(" args ")")
  unfoldable pub owned_variable : Grammar Part Form
  owned_variable = seq (skip (just OwnerDollar)) (keep (just VariableName))

  unfoldable pub owned_call : Grammar Part Form
  owned_call = seq word arguments_in

  unfoldable pub owned : Grammar Part Form
  owned = build (to_owned source) (seq (keep (just Owner)) (seq (skip (just OwnerDot)) (alt owned_variable owned_call)))

  unfoldable pub range : Grammar Part Form
  range = build (to_range source) (skip (just Range))

  unfoldable pub parent : Grammar Part Form
  parent = build (to_parent source) (skip (just Ampersand))

  -- important = "!" "important"
  unfoldable pub important : Grammar Part Form
  important = build (to_important source) (seq (skip bangs) (skip (just Important)))

  unfoldable pub parens : Grammar Part Form
  parens = build (to_parens source) (group parens_opening Inside (just ParenEnd))

  unfoldable pub brackets : Grammar Part Form
  brackets = build (to_brackets source) (group (just Bracket) Items (just BracketEnd))

  -- literal: what is one token or a few, without an expression but in "#{ }"
  unfoldable pub literal : Grammar Part Form
  literal = alt number (alt quoted (alt template (alt hash (alt constant (alt url url_template)))))

  unfoldable pub other : Grammar Part Form
  other = alt called (alt range (alt parent (alt important (alt parens brackets))))

  unfoldable pub primary : Grammar Part Form
  primary = alt literal (alt special (alt variable (alt owned other)))

  unfoldable pub prefix : Grammar Part Form
  prefix = build (to_sign source) (skip prefixes)

  -- unary = {"not" | "+" | "-" | "/"} primary
  unfoldable pub unary : Grammar Part Form
  unary = build (to_unary source) (seq (many prefix) primary)

  -- an operator that binds so, and what stands behind it
  unfoldable pub link : Precedence → Grammar Part Form → Grammar Part Form
  link precedence side = build (to_link source) (seq (skip (operators precedence)) side)

  -- linked = side {operator side}
  abbrev pub linked : Precedence → Grammar Part Form → Grammar Part Form
  linked precedence side = build (to_chain source) (seq side (many (link precedence side)))

  -- product = unary {("*" | "/" | "%") unary}
  unfoldable pub product : Grammar Part Form
  product = linked precedences.Product unary

  -- sum = product {("+" | "-") product}
  unfoldable pub sum : Grammar Part Form
  sum = linked precedences.Sum product

  -- relation = sum {("<" | "<=" | ">" | ">=") sum}
  unfoldable pub relation : Grammar Part Form
  relation = linked precedences.Relation sum

  -- equality = relation {("==" | "!=") relation}
  unfoldable pub equality : Grammar Part Form
  equality = linked precedences.Equality relation

  -- conjunction = equality {"and" equality}
  unfoldable pub conjunction : Grammar Part Form
  conjunction = linked precedences.And equality

  -- disjunction = conjunction {"or" conjunction}
  unfoldable pub disjunction : Grammar Part Form
  disjunction = linked precedences.Or conjunction

  -- what stands on the sides of operators that bind so
  abbrev pub side : Precedence → Grammar Part Form
  side precedences.Product = unary
  side precedences.Sum = product
  side precedences.Relation = sum
  side precedences.Equality = relation
  side precedences.And = equality
  side precedences.Or = conjunction

  -- the same with these operators
  abbrev pub chain : Precedence → Grammar Part Form
  chain precedences.Product = product
  chain precedences.Sum = sum
  chain precedences.Relation = relation
  chain precedences.Equality = equality
  chain precedences.And = conjunction
  chain precedences.Or = disjunction

  -- space = disjunction {disjunction}
  unfoldable pub space_item : Grammar Part Form
  space_item = unless endings disjunction

  unfoldable pub space : Grammar Part Form
  space = build (to_space source) (seq disjunction (many space_item))

  -- expr = space {"," space} [","]
  unfoldable pub list_item : Grammar Part Form
  list_item = unless endings space

  unfoldable pub expr : Grammar Part Form
  expr = build (to_list source) (seq space (sep (just Comma) list_item))

  -- pair = space ":" space
  unfoldable pub colon_space : Grammar Part Form
  colon_space = seq (skip (just Colon)) space

  unfoldable pub pair : Grammar Part Form
  pair = build (anywhere to_pair) (seq space colon_space)

  -- inside = [pair {"," pair} [","] | expr], with the front that the rows share
  unfoldable pub pairs_rest : Grammar Part Form
  pairs_rest = build (anywhere (marked 0)) (seq colon_space (sep (just Comma) pair))

  unfoldable pub items_rest : Grammar Part Form
  items_rest = build (anywhere (marked 1)) (sep (just Comma) list_item)

  unfoldable pub inside : Grammar Part Form
  inside = alt (build (sorted source) (seq space (alt pairs_rest items_rest))) empty

  unfoldable pub items : Grammar Part Form
  items = alt expr empty

  -- arg = "$"·name ":" space | space ["..."]
  unfoldable pub named_argument : Grammar Part Form
  named_argument = build (to_named source) (seq (seq (skip (just DollarNamed)) (keep (just VariableName))) colon_space)

  unfoldable pub plain_argument : Grammar Part Form
  plain_argument = build (anywhere to_spread) (seq (unless (just DollarNamed) space) (alt (keep (just Ellipsis)) empty))

  unfoldable pub argument : Grammar Part Form
  argument = alt named_argument plain_argument

  -- args = [arg {"," arg} [","]]
  unfoldable pub arguing : Grammar Part Form
  arguing = build (anywhere to_arguments) (alt (seq argument (sep (just Comma) argument)) empty)

  -- special_inside = special_item {special_item}, where numbers stay as they are written
  unfoldable pub special_number : Grammar Part Form
  special_number = build (to_written source) (alt (seq (skip (just Sign)) (skip (just Number))) (skip (just Number)))

  unfoldable pub special_expr : Grammar Part Form
  special_expr = alt special_number (alt variable (alt owned called))

  unfoldable pub special_value : Grammar Part Form
  special_value = build (to_stands source) special_expr

  unfoldable pub special_parens : Grammar Part Form
  special_parens = group (just RawParen) SpecialItems (just RawParenEnd)

  unfoldable pub special_brackets : Grammar Part Form
  special_brackets = group (just RawBracket) SpecialItems (just RawBracketEnd)

  unfoldable pub special_item : Grammar Part Form
  special_item = alt (skip special_texts) (alt insert (alt special_value (alt special_parens special_brackets)))

  abbrev pub special_items : Grammar Part Form
  special_items = many special_item

  unfoldable pub special_inside : Grammar Part Form
  special_inside = seq special_item special_items
