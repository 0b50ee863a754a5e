-- The parts of expressions that are built of what was read.
use Rattle.std.specs.Prelude.{ℕ, zero, suc, ◌-◌, if◌then◌else◌, List, [], ◌∷◌, Option, Some, None, Bool, true, false}
use Rattle.sw_parse_grammar.specs.Grammar.{member}
use Rattle.sw_text.specs.Names.{dashed}
use Rattle.sw_text.specs.declared.place.Span.{Span}
use Rattle.sw_tree.specs.declared.text.Text.{Text as TreeText}
use Rattle.sw_tree.specs.declared.text.Parts.{Parts}
use Rattle.sw_tree.specs.declared.text.Parts.TheVariants.{Plain, Mixed}
use Rattle.sw_tree.specs.declared.text.Piece.TheVariants as pieces
use Rattle.sw_tree.specs.declared.expr.Qualified.{Qualified}
use Rattle.sw_tree.specs.declared.expr.Namespaced.{Namespaced}
use Rattle.sw_tree.specs.declared.expr.Sign.{Sign}
use Rattle.sw_tree.specs.declared.expr.Separator.TheVariants as separators
use Rattle.sw_tree.specs.declared.expr.Around.TheVariants as arounds
use Rattle.sw_tree.specs.declared.expr.Link.{Link}
use Rattle.sw_tree.specs.declared.expr.Argument.{Argument}
use Rattle.sw_tree.specs.declared.expr.Expr.{Expr}
use Rattle.sw_tree.specs.declared.expr.ExprKind.{ExprKind, out-ExprKind}
use Rattle.sw_tree.specs.declared.expr.ExprKind.TheOpen.{ExprKind-F}
use Rattle.sw_tree.specs.declared.expr.Pair.{Pair}
use Rattle.sw_tree.specs.declared.expr.Callee.{Callee}
use Rattle.sw_tree.specs.declared.text.Piece.{Piece}
use Rattle.sw_tree.specs.declared.expr.ExprKind.TheVariants as exprs
use Rattle.sw_parse_terminals.specs.declared.terminal.Terminal.TheVariants.{Comma}
use Rattle.sw_parse_terminals.specs.Numbers.{just}
use Rattle.sw_parse_table.specs.declared.source.Source.{Source}
use Rattle.sw_parse_table.specs.Parts.{Part, Place, Marks, Inserts, Stands, Texts, Pieces, Signs, Links, Pairs, Argues, Arguments, Values, values_of, signs_of, links_of, pairs_of, arguments_of, pieces_of}
use Rattle.sw_parse_table.specs.Sources.{terminal_at, decoded_at, text_between, parts_between, span_between, span_at, bytes_at, bytes_between}
use Rattle.sw_parse_table.specs.Numerals.{numeral}
use Rattle.sw_parse_table.specs.Operators.{operator_at, sign_at, constant_at}

abbrev pub expression : ExprKind → Span → Expr
expression kind span = record { kind = kind; span = span }

-- an expression that was read
abbrev pub value_of : ExprKind → Span → List Part
value_of kind span = Values (expression kind span) ∷ []

-- one operand stands for itself
abbrev pub chained : Span → List Expr → List Link → List Part
chained span (first ∷ []) [] = Values first ∷ []
chained span (first ∷ []) (link ∷ links) = value_of (exprs.Chain first (link ∷ links)) span
chained span _ _ = []

abbrev pub prefixed : Span → List Sign → List Expr → List Part
prefixed span [] (operand ∷ []) = Values operand ∷ []
prefixed span (sign ∷ signs) (operand ∷ []) = value_of (exprs.Prefixed (sign ∷ signs) operand) span
prefixed span _ _ = []

-- one item stands for itself
abbrev pub spaced : Span → List Expr → List Part
spaced span [] = []
spaced span (item ∷ []) = Values item ∷ []
spaced span (item ∷ next ∷ items) = value_of (exprs.List (item ∷ next ∷ items) separators.Space arounds.Nothing) span

abbrev pub comma_list : Span → List Expr → Expr
comma_list span items = expression (exprs.List items separators.Comma arounds.Nothing) span

-- one item without a comma behind it stands for itself
abbrev pub listed : Span → Bool → List Expr → List Part
listed span comma [] = []
listed span comma (item ∷ []) = Values (if comma then comma_list span (item ∷ []) else item) ∷ []
listed span comma (item ∷ next ∷ items) = Values (comma_list span (item ∷ next ∷ items)) ∷ []

-- a value in parentheses: a list has their span, any other value is a level of its own
abbrev pub in_parens_by : Span → Expr → ExprKind-F ExprKind Parts Piece Argument Callee Expr Link Pair TreeText → Expr
in_parens_by span value (ExprKind-F.List items separator arounds.Nothing) =
    expression (exprs.List items separator arounds.Parens) span
in_parens_by span value _ = expression (exprs.Paren value) span

unfoldable pub in_parens : Span → Expr → Expr
in_parens span value = in_parens_by span value (out-ExprKind value.kind)

-- a value in brackets: a list has their span, any other value is the one item of a list
abbrev pub in_brackets_by : Span → Expr → ExprKind-F ExprKind Parts Piece Argument Callee Expr Link Pair TreeText → Expr
in_brackets_by span value (ExprKind-F.List items separator arounds.Nothing) =
    expression (exprs.List items separator arounds.Brackets) span
in_brackets_by span value _ = expression (exprs.List (value ∷ []) separators.Undecided arounds.Brackets) span

unfoldable pub in_brackets : Span → Expr → Expr
in_brackets span value = in_brackets_by span value (out-ExprKind value.kind)

-- what stands in parentheses: nothing, a value, or pairs
abbrev pub enclosed : Span → List Part → List Part
enclosed span [] = value_of (exprs.List [] separators.Undecided arounds.Parens) span
enclosed span (Values value ∷ []) = Values (in_parens span value) ∷ []
enclosed span parts = value_of (exprs.Map (pairs_of parts)) span

-- what stands in brackets: nothing, or a value
abbrev pub bracketed : Span → List Part → List Part
bracketed span [] = value_of (exprs.List [] separators.Undecided arounds.Brackets) span
bracketed span (Values value ∷ []) = Values (in_brackets span value) ∷ []
bracketed span parts = []

abbrev pub to_pair : List Part → List Part
to_pair (Values key ∷ Values value ∷ []) = Pairs (record { key = key; value = value }) ∷ []
to_pair _ = []

abbrev pub marked : ℕ → List Part → List Part
marked mark parts = Marks mark ∷ parts

abbrev pub to_arguments : List Part → List Part
to_arguments parts = Arguments (arguments_of parts) ∷ []

abbrev pub argument_of : Option (List ℕ) → Expr → Bool → Argument
argument_of name value spread = record { name = name; value = value; spread = spread }

-- an argument by its place, which `...` may follow
abbrev pub to_spread : List Part → List Part
to_spread (Values value ∷ []) = Argues (argument_of None value false) ∷ []
to_spread (Values value ∷ Place dots ∷ []) = Argues (argument_of None value true) ∷ []
to_spread _ = []

abbrev pub inserted_piece : List Part → List Part
inserted_piece (Inserts from behind value ∷ []) = Pieces (pieces.Inserted value) ∷ []
inserted_piece _ = []

abbrev pub callee_of : Option Namespaced → TreeText → Callee
callee_of namespace name = record { namespace = namespace; name = name }

module _ (source : Source) where
  -- the last token before a place is a comma
  unfoldable pub ends_with_comma : ℕ → Bool
  ends_with_comma behind = member (terminal_at source (behind - 1)) (just Comma)

  abbrev pub to_insert : ℕ → ℕ → List Part → List Part
  to_insert at behind (Values value ∷ []) = Inserts at behind value ∷ []
  to_insert at behind _ = []

  abbrev pub to_text : ℕ → ℕ → List Part → List Part
  to_text at behind inserts = Texts (text_between source at behind inserts) ∷ []

  abbrev pub to_number : ℕ → ℕ → List Part → List Part
  to_number at behind parts =
      value_of (exprs.Number (numeral (bytes_between source at behind))) (span_between source at behind)

  -- a string, and a piece of one with `#{}`, as its token has it
  abbrev pub to_quoted : ℕ → ℕ → List Part → List Part
  to_quoted at behind parts = value_of (exprs.Quoted (Plain (decoded_at source at))) (span_between source at behind)

  abbrev pub to_decoded : ℕ → ℕ → List Part → List Part
  to_decoded at behind parts = Pieces (pieces.Text (decoded_at source at)) ∷ []

  abbrev pub to_template : ℕ → ℕ → List Part → List Part
  to_template at behind parts = value_of (exprs.Quoted (Mixed (pieces_of parts))) (span_between source at behind)

  abbrev pub to_hash : ℕ → ℕ → List Part → List Part
  to_hash at behind parts = value_of (exprs.Hash (bytes_between source at behind)) (span_between source at behind)

  abbrev pub to_constant : ℕ → ℕ → List Part → List Part
  to_constant at behind parts = value_of (exprs.Constant (constant_at source at)) (span_between source at behind)

  abbrev pub to_url : ℕ → ℕ → List Part → List Part
  to_url at behind inserts =
      value_of (exprs.Url (parts_between source at behind inserts)) (span_between source at behind)

  abbrev pub to_special : ℕ → ℕ → List Part → List Part
  to_special at behind inserts =
      value_of (exprs.Special (parts_between source at behind inserts)) (span_between source at behind)

  -- a number that stays as it is written
  abbrev pub to_written : ℕ → ℕ → List Part → List Part
  to_written at behind parts =
      value_of (exprs.Special (Plain (bytes_between source at behind))) (span_between source at behind)

  abbrev pub to_variable : ℕ → ℕ → List Part → List Part
  to_variable at behind (Place name ∷ []) =
      value_of (exprs.Variable (dashed (bytes_at source name))) (span_between source at behind)
  to_variable at behind _ = []

  abbrev pub namespaced : ℕ → Namespaced
  namespaced at = record { name = bytes_at source at; span = span_at source at }

  abbrev pub qualified_of : ℕ → ℕ → Qualified
  qualified_of namespace name = record { namespace = namespaced namespace; name = dashed (bytes_at source name) }

  -- a variable or a call behind a namespace
  abbrev pub to_owned : ℕ → ℕ → List Part → List Part
  to_owned at behind (Place namespace ∷ Place name ∷ []) =
      value_of (exprs.Qualified (qualified_of namespace name)) (span_between source at behind)
  to_owned at behind (Place namespace ∷ Texts name ∷ Arguments arguments ∷ []) =
      value_of (exprs.Call (callee_of (Some (namespaced namespace)) name) arguments) (span_between source at behind)
  to_owned at behind _ = []

  abbrev pub to_called : ℕ → ℕ → List Part → List Part
  to_called at behind (Texts name ∷ []) = value_of (exprs.Word name.parts) name.span
  to_called at behind (Texts name ∷ Arguments arguments ∷ []) =
      value_of (exprs.Call (callee_of None name) arguments) (span_between source at behind)
  to_called at behind _ = []

  abbrev pub to_range : ℕ → ℕ → List Part → List Part
  to_range at behind parts =
      value_of (exprs.Word (Plain (bytes_between source at behind))) (span_between source at behind)

  abbrev pub to_parent : ℕ → ℕ → List Part → List Part
  to_parent at behind parts = value_of exprs.Parent (span_between source at behind)

  abbrev pub to_important : ℕ → ℕ → List Part → List Part
  to_important at behind parts = value_of exprs.Important (span_between source at behind)

  abbrev pub to_parens : ℕ → ℕ → List Part → List Part
  to_parens at behind parts = enclosed (span_between source at behind) parts

  abbrev pub to_brackets : ℕ → ℕ → List Part → List Part
  to_brackets at behind parts = bracketed (span_between source at behind) parts

  abbrev pub to_sign : ℕ → ℕ → List Part → List Part
  to_sign at behind parts = Signs (sign_at source at) ∷ []

  abbrev pub to_unary : ℕ → ℕ → List Part → List Part
  to_unary at behind parts = prefixed (span_between source at behind) (signs_of parts) (values_of parts)

  abbrev pub to_link : ℕ → ℕ → List Part → List Part
  to_link at behind (Values value ∷ []) = Links (record { operator = operator_at source at; operand = value }) ∷ []
  to_link at behind _ = []

  abbrev pub to_chain : ℕ → ℕ → List Part → List Part
  to_chain at behind parts = chained (span_between source at behind) (values_of parts) (links_of parts)

  abbrev pub to_space : ℕ → ℕ → List Part → List Part
  to_space at behind parts = spaced (span_between source at behind) (values_of parts)

  abbrev pub to_list : ℕ → ℕ → List Part → List Part
  to_list at behind parts = listed (span_between source at behind) (ends_with_comma behind) (values_of parts)

  -- a first pair and further pairs behind the mark 0, or further items behind another
  abbrev pub sorted : ℕ → ℕ → List Part → List Part
  sorted at behind (Values key ∷ Marks zero ∷ Values value ∷ parts) =
      Pairs (record { key = key; value = value }) ∷ parts
  sorted at behind (Values item ∷ Marks (suc mark) ∷ parts) =
      listed (span_between source at behind) (ends_with_comma behind) (item ∷ values_of parts)
  sorted at behind _ = []

  -- an argument by its name
  abbrev pub to_named : ℕ → ℕ → List Part → List Part
  to_named at behind (Place name ∷ Values value ∷ []) =
      Argues (argument_of (Some (dashed (bytes_at source name))) value false) ∷ []
  to_named at behind _ = []

  -- a value by itself in the text of a special function
  abbrev pub to_stands : ℕ → ℕ → List Part → List Part
  to_stands at behind (Values value ∷ []) = Stands at behind value ∷ []
  to_stands at behind _ = []
