-- What is read as an item of a list without commas is no list with commas itself.
use Rattle.std.proofs.Common.{◌≡◌, ℕ, false, List, [], ◌∷◌, ◌++◌, inl, inr, refl, sym, ◌∙◌, ap, subst}
use Rattle.sw_parse_grammar.specs.Grammar.{Grammar, Row, done, then}
use Rattle.sw_text.specs.declared.place.Span.{Span}
use Rattle.sw_tree.specs.declared.text.Parts.{Parts}
use Rattle.sw_tree.specs.declared.text.Piece.{Piece}
use Rattle.sw_tree.specs.declared.text.Text.{Text}
use Rattle.sw_tree.specs.declared.expr.Argument.{Argument}
use Rattle.sw_tree.specs.declared.expr.Around.TheVariants as arounds
use Rattle.sw_tree.specs.declared.expr.Callee.{Callee}
use Rattle.sw_tree.specs.declared.expr.Expr.{Expr}
use Rattle.sw_tree.specs.declared.expr.ExprKind.{ExprKind, out-ExprKind}
use Rattle.sw_tree.specs.declared.expr.ExprKind.TheOpen.{ExprKind-F}
use Rattle.sw_tree.specs.declared.expr.ExprKind.TheVariants as exprs
use Rattle.sw_tree.specs.declared.expr.Link.{Link}
use Rattle.sw_tree.specs.declared.expr.Pair.{Pair}
use Rattle.sw_tree.specs.declared.expr.Separator.{Separator}
use Rattle.sw_tree.specs.declared.expr.Separator.TheVariants as separators
use Rattle.sw_tree.specs.declared.expr.Sign.{Sign}
use Rattle.sw_parse_table.specs.declared.source.Source.{Source}
use Rattle.sw_parse_table.specs.declared.operator.Precedence.{Precedence}
use Rattle.sw_parse_table.specs.declared.operator.Precedence.TheVariants as precedences
use Rattle.sw_parse_table.specs.Parts.{Part, Form, Place, Texts, Arguments, Values, values_of, signs_of, links_of, pairs_of}
use Rattle.sw_parse_table.specs.Values.{expression, value_of, chained, prefixed, spaced, in_parens_by, in_parens, in_brackets_by, in_brackets, enclosed, bracketed, to_owned, to_called, to_variable, to_link}
use Rattle.sw_parse_table.specs.Sources.{span_between}
use Rattle.sw_parse_table.specs.Expressions.{number, quoted, template, hash, constant, url, url_template, special, variable, owned, called, range, parent, important, parens, brackets, literal, other, primary, prefix, unary, link, linked, product, sum, relation, equality, conjunction, disjunction, side, space_item, space}
use Rattle.sw_convert_again.specs.Again.{Reads}
use Rattle.sw_convert_again.specs.Bare.{is_bare_by, is_bare}

-- none of the values among these parts is such a list
abbrev Unlisted : List Part → Type 0
Unlisted [] = Unit {0}
Unlisted (Values value ∷ parts) = (is_bare value ≡ false) × Unlisted parts
Unlisted (_ ∷ parts) = Unlisted parts

abbrev AllPlain : List Expr → Type 0
AllPlain [] = Unit {0}
AllPlain (value ∷ values) = (is_bare value ≡ false) × AllPlain values

unlisted_append : (u v : List Part) → Unlisted u → Unlisted v → Unlisted (u ++ v)
unlisted_append [] v a b = b
unlisted_append (Values value ∷ u) v a b = (a.0, unlisted_append u v a.1 b)
unlisted_append (_ ∷ u) v a b = unlisted_append u v a b

values_plain : (w : List Part) → Unlisted w → AllPlain (values_of w)
values_plain [] a = tt
values_plain (Values value ∷ w) a = (a.0, values_plain w a.1)
values_plain (_ ∷ w) a = values_plain w a

-- ---- what is built

abbrev Open : Type 0
Open = ExprKind-F ExprKind Parts Piece Argument Callee Expr Link Pair Text

kind_plain : (kind : ExprKind) (out : Open) (span : Span) → out-ExprKind kind ≡ out → is_bare_by out ≡ false
    → is_bare (expression kind span) ≡ false
unfolding is_bare
kind_plain kind out span e f = ap is_bare_by e ∙ f

in_round : (items : List Expr) (separator : Separator) → is_bare_by (ExprKind-F.List items separator arounds.Parens) ≡ false
in_round items separators.Undecided = refl
in_round items separators.Space = refl
in_round items separators.Comma = refl

in_square : (items : List Expr) (separator : Separator)
    → is_bare_by (ExprKind-F.List items separator arounds.Brackets) ≡ false
in_square items separators.Undecided = refl
in_square items separators.Space = refl
in_square items separators.Comma = refl

module _ (span : Span) where
  parens_by : (value : Expr) (out : Open) → is_bare (in_parens_by span value out) ≡ false
  parens_by value (ExprKind-F.List items separator arounds.Nothing) =
      kind_plain (exprs.List items separator arounds.Parens) (ExprKind-F.List items separator arounds.Parens) span
      (exprs.outs-List items separator arounds.Parens) (in_round items separator)
  parens_by value _ = kind_plain (exprs.Paren value) (ExprKind-F.Paren value) span (exprs.outs-Paren value) refl

  brackets_by : (value : Expr) (out : Open) → is_bare (in_brackets_by span value out) ≡ false
  brackets_by value (ExprKind-F.List items separator arounds.Nothing) =
      kind_plain (exprs.List items separator arounds.Brackets) (ExprKind-F.List items separator arounds.Brackets) span
      (exprs.outs-List items separator arounds.Brackets) (in_square items separator)
  brackets_by value _ =
      kind_plain (exprs.List (value ∷ []) separators.Undecided arounds.Brackets)
      (ExprKind-F.List (value ∷ []) separators.Undecided arounds.Brackets) span
      (exprs.outs-List (value ∷ []) separators.Undecided arounds.Brackets) refl

  parens_plain : (value : Expr) → is_bare (in_parens span value) ≡ false
  unfolding in_parens
  parens_plain value = parens_by value (out-ExprKind value.kind)

  brackets_plain : (value : Expr) → is_bare (in_brackets span value) ≡ false
  unfolding in_brackets
  brackets_plain value = brackets_by value (out-ExprKind value.kind)

  map_plain : (parts : List Part) → is_bare (expression (exprs.Map (pairs_of parts)) span) ≡ false
  map_plain parts =
      kind_plain (exprs.Map (pairs_of parts)) (ExprKind-F.Map (pairs_of parts)) span (exprs.outs-Map (pairs_of parts)) refl

  enclosed_unlisted : (parts : List Part) → Unlisted (enclosed span parts)
  enclosed_unlisted [] = (
    kind_plain (exprs.List [] separators.Undecided arounds.Parens) (ExprKind-F.List [] separators.Undecided arounds.Parens)
        span (exprs.outs-List [] separators.Undecided arounds.Parens) refl,
    tt,
  )
  enclosed_unlisted (Values value ∷ []) = (parens_plain value, tt)
  enclosed_unlisted (Values value ∷ part ∷ parts) = (map_plain (Values value ∷ part ∷ parts), tt)
  enclosed_unlisted (part ∷ parts) = (map_plain (part ∷ parts), tt)

  bracketed_unlisted : (parts : List Part) → Unlisted (bracketed span parts)
  bracketed_unlisted [] = (
    kind_plain (exprs.List [] separators.Undecided arounds.Brackets)
        (ExprKind-F.List [] separators.Undecided arounds.Brackets) span
        (exprs.outs-List [] separators.Undecided arounds.Brackets) refl,
    tt,
  )
  bracketed_unlisted (Values value ∷ []) = (brackets_plain value, tt)
  bracketed_unlisted _ = tt

  chained_unlisted : (values : List Expr) (links : List Link) → AllPlain values → Unlisted (chained span values links)
  chained_unlisted (first ∷ []) [] a = (a.0, tt)
  chained_unlisted (first ∷ []) (link ∷ links) a = (
    kind_plain (exprs.Chain first (link ∷ links)) (ExprKind-F.Chain first (link ∷ links)) span
        (exprs.outs-Chain first (link ∷ links)) refl,
    tt,
  )
  chained_unlisted [] links a = tt
  chained_unlisted (first ∷ next ∷ values) links a = tt

  prefixed_unlisted : (signs : List Sign) (values : List Expr) → AllPlain values → Unlisted (prefixed span signs values)
  prefixed_unlisted [] (operand ∷ []) a = (a.0, tt)
  prefixed_unlisted (sign ∷ signs) (operand ∷ []) a = (
    kind_plain (exprs.Prefixed (sign ∷ signs) operand) (ExprKind-F.Prefixed (sign ∷ signs) operand) span
        (exprs.outs-Prefixed (sign ∷ signs) operand) refl,
    tt,
  )
  prefixed_unlisted [] [] a = tt
  prefixed_unlisted [] (operand ∷ next ∷ values) a = tt
  prefixed_unlisted (sign ∷ signs) [] a = tt
  prefixed_unlisted (sign ∷ signs) (operand ∷ next ∷ values) a = tt

  spaced_unlisted : (values : List Expr) → AllPlain values → Unlisted (spaced span values)
  spaced_unlisted [] a = tt
  spaced_unlisted (item ∷ []) a = (a.0, tt)
  spaced_unlisted (item ∷ next ∷ items) a = (
    kind_plain (exprs.List (item ∷ next ∷ items) separators.Space arounds.Nothing)
        (ExprKind-F.List (item ∷ next ∷ items) separators.Space arounds.Nothing) span
        (exprs.outs-List (item ∷ next ∷ items) separators.Space arounds.Nothing) refl,
    tt,
  )

module _ (source : Source) (i j : ℕ) where
  owned_unlisted : (parts : List Part) → Unlisted (to_owned source i j parts)
  owned_unlisted (Place namespace ∷ Place name ∷ []) =
      (kind_plain (exprs.Qualified _) (ExprKind-F.Qualified _) (span_between source i j) (exprs.outs-Qualified _) refl, tt)
  owned_unlisted (Place namespace ∷ Texts name ∷ Arguments arguments ∷ []) = (
    kind_plain (exprs.Call _ arguments) (ExprKind-F.Call _ arguments) (span_between source i j)
        (exprs.outs-Call _ arguments) refl,
    tt,
  )
  owned_unlisted _ = tt

  variable_unlisted : (parts : List Part) → Unlisted (to_variable source i j parts)
  variable_unlisted (Place name ∷ []) =
      (kind_plain (exprs.Variable _) (ExprKind-F.Variable _) (span_between source i j) (exprs.outs-Variable _) refl, tt)
  variable_unlisted _ = tt

  called_unlisted : (parts : List Part) → Unlisted (to_called source i j parts)
  called_unlisted (Texts name ∷ []) =
      (kind_plain (exprs.Word name.parts) (ExprKind-F.Word name.parts) name.span (exprs.outs-Word name.parts) refl, tt)
  called_unlisted (Texts name ∷ Arguments arguments ∷ []) = (
    kind_plain (exprs.Call _ arguments) (ExprKind-F.Call _ arguments) (span_between source i j)
        (exprs.outs-Call _ arguments) refl,
    tt,
  )
  called_unlisted _ = tt

-- ---- what is read

unlisted_is : {u w : List Part} → w ≡ u → Unlisted u → Unlisted w
unlisted_is e a = subst (λ (x : List Part). Unlisted x) (sym e) a

abbrev Items : (ℕ → ℕ → List Part → Type 0) → Type 0
Items P = (i j : ℕ) (w : List Part) → P i j w → Unlisted w

row_unlisted : (P : ℕ → ℕ → List Part → Type 0) → Items P → {i j : ℕ} {w : List Part} → Row P i j w → Unlisted w
row_unlisted P each done = tt
row_unlisted P each (then {i} {k} {j} {u} {v} p row) = unlisted_append u v (each i k u p) (row_unlisted P each row)

module _ (source : Source) (n : ℕ) where
  abbrev Was : Grammar Part Form → ℕ → ℕ → List Part → Type 0
  Was g = Reads source n g

  abbrev Plainly : Grammar Part Form → Type 0
  Plainly g = Items (Was g)

  -- a value whose kind is no list
  kind_unlisted : (kind : ExprKind) (out : Open) (span : Span) (w : List Part) → w ≡ value_of kind span
      → out-ExprKind kind ≡ out → is_bare_by out ≡ false → Unlisted w
  kind_unlisted kind out span w e o f = unlisted_is e (kind_plain kind out span o f, tt)

  primary_unlisted : Plainly (primary source)
  unfolding primary literal other number quoted template hash constant url url_template special variable owned called range parent important parens brackets
  primary_unlisted i j w (inl (inl (u, d, e))) = kind_unlisted _ _ _ w e (exprs.outs-Number _) refl
  primary_unlisted i j w (inl (inr (inl (u, d, e)))) = kind_unlisted _ _ _ w e (exprs.outs-Quoted _) refl
  primary_unlisted i j w (inl (inr (inr (inl (u, d, e))))) = kind_unlisted _ _ _ w e (exprs.outs-Quoted _) refl
  primary_unlisted i j w (inl (inr (inr (inr (inl (u, d, e)))))) = kind_unlisted _ _ _ w e (exprs.outs-Hash _) refl
  primary_unlisted i j w (inl (inr (inr (inr (inr (inl (u, d, e))))))) = kind_unlisted _ _ _ w e (exprs.outs-Constant _) refl
  primary_unlisted i j w (inl (inr (inr (inr (inr (inr (inl (u, d, e)))))))) = kind_unlisted _ _ _ w e (exprs.outs-Url _) refl
  primary_unlisted i j w (inl (inr (inr (inr (inr (inr (inr (u, d, e)))))))) = kind_unlisted _ _ _ w e (exprs.outs-Url _) refl
  primary_unlisted i j w (inr (inl (u, d, e))) = kind_unlisted _ _ _ w e (exprs.outs-Special _) refl
  primary_unlisted i j w (inr (inr (inl (u, d, e)))) = unlisted_is e (variable_unlisted source i j u)
  primary_unlisted i j w (inr (inr (inr (inl (u, d, e))))) = unlisted_is e (owned_unlisted source i j u)
  primary_unlisted i j w (inr (inr (inr (inr (inl (u, d, e)))))) = unlisted_is e (called_unlisted source i j u)
  primary_unlisted i j w (inr (inr (inr (inr (inr (inl (u, d, e))))))) = kind_unlisted _ _ _ w e (exprs.outs-Word _) refl
  primary_unlisted i j w (inr (inr (inr (inr (inr (inr (inl (u, d, e)))))))) = kind_unlisted _ _ _ w e exprs.outs-Parent refl
  primary_unlisted i j w (inr (inr (inr (inr (inr (inr (inr (inl (u, d, e))))))))) = kind_unlisted _ _ _ w e exprs.outs-Important refl
  primary_unlisted i j w (inr (inr (inr (inr (inr (inr (inr (inr (inl (u, d, e)))))))))) =
      unlisted_is e (enclosed_unlisted (span_between source i j) u)
  primary_unlisted i j w (inr (inr (inr (inr (inr (inr (inr (inr (inr (u, d, e)))))))))) =
      unlisted_is e (bracketed_unlisted (span_between source i j) u)

  -- signs and operators hold no values
  sign_unlisted : Plainly (prefix source)
  unfolding prefix
  sign_unlisted i j w (u, d, e) = unlisted_is e tt

  links_unlisted : (i j : ℕ) (parts : List Part) → Unlisted (to_link source i j parts)
  links_unlisted i j (Values value ∷ []) = tt
  links_unlisted i j _ = tt

  link_unlisted : (precedence : Precedence) (side : Grammar Part Form) → Plainly (link source precedence side)
  unfolding link
  link_unlisted precedence side i j w (u, d, e) = unlisted_is e (links_unlisted i j u)

  unary_unlisted : Plainly (unary source)
  unfolding unary
  unary_unlisted i j w (u, (k, u1, u2, row, d, e5), e6) =
      let parts = unlisted_is e5 (unlisted_append u1 u2 (row_unlisted (Was (prefix source)) sign_unlisted row) (primary_unlisted k j u2 d)) in
      unlisted_is e6 (prefixed_unlisted (span_between source i j) (signs_of u) (values_of u) (values_plain u parts))

  linked_unlisted : (precedence : Precedence) (side : Grammar Part Form) → Plainly side
      → Plainly (linked source precedence side)
  linked_unlisted precedence side operand i j w (u, (k, u1, u2, d, row, e5), e6) =
      let parts = unlisted_is e5 (unlisted_append u1 u2 (operand i k u1 d)
      (row_unlisted (Was (link source precedence side)) (link_unlisted precedence side) row)) in
      unlisted_is e6 (chained_unlisted (span_between source i j) (values_of u) (links_of u) (values_plain u parts))

  product_unlisted : Plainly (product source)
  unfolding product
  product_unlisted = linked_unlisted precedences.Product (unary source) unary_unlisted

  sum_unlisted : Plainly (sum source)
  unfolding sum
  sum_unlisted = linked_unlisted precedences.Sum (product source) product_unlisted

  relation_unlisted : Plainly (relation source)
  unfolding relation
  relation_unlisted = linked_unlisted precedences.Relation (sum source) sum_unlisted

  equality_unlisted : Plainly (equality source)
  unfolding equality
  equality_unlisted = linked_unlisted precedences.Equality (relation source) relation_unlisted

  conjunction_unlisted : Plainly (conjunction source)
  unfolding conjunction
  conjunction_unlisted = linked_unlisted precedences.And (equality source) equality_unlisted

  disjunction_unlisted : Plainly (disjunction source)
  unfolding disjunction
  disjunction_unlisted = linked_unlisted precedences.Or (conjunction source) conjunction_unlisted

  item_unlisted : Plainly (space_item source)
  unfolding space_item
  item_unlisted i j w (calm, d) = disjunction_unlisted i j w d

  space_unlisted : Plainly (space source)
  unfolding space
  space_unlisted i j w (u, (k, u1, u2, d, row, e5), e6) =
      let parts = unlisted_is e5 (unlisted_append u1 u2 (disjunction_unlisted i k u1 d)
      (row_unlisted (Was (space_item source)) item_unlisted row)) in
      unlisted_is e6 (spaced_unlisted (span_between source i j) (values_of u) (values_plain u parts))

-- a value that a grammar reads is no such list
abbrev pub Plain : Source → ℕ → Grammar Part Form → Type 0
Plain source n g = (i j : ℕ) (w : List Part) (value : Expr) → Reads source n g i j w → w ≡ Values value ∷ []
    → is_bare value ≡ false

plain_by : (source : Source) (n : ℕ) (g : Grammar Part Form) → Plainly source n g → Plain source n g
plain_by source n g unlisted i j w value d e =
    (subst (λ (x : List Part). Unlisted x) e (unlisted i j w d)).0

pub primaries_plain : (source : Source) (n : ℕ) → Plain source n (primary source)
primaries_plain source n = plain_by source n (primary source) (primary_unlisted source n)

-- the sides of operators that bind so
pub sides_plain : (source : Source) (n : ℕ) (precedence : Precedence) → Plain source n (side source precedence)
sides_plain source n precedences.Product = plain_by source n (unary source) (unary_unlisted source n)
sides_plain source n precedences.Sum = plain_by source n (product source) (product_unlisted source n)
sides_plain source n precedences.Relation = plain_by source n (sum source) (sum_unlisted source n)
sides_plain source n precedences.Equality = plain_by source n (relation source) (relation_unlisted source n)
sides_plain source n precedences.And = plain_by source n (equality source) (equality_unlisted source n)
sides_plain source n precedences.Or = plain_by source n (conjunction source) (conjunction_unlisted source n)

pub disjunctions_plain : (source : Source) (n : ℕ) → Plain source n (disjunction source)
disjunctions_plain source n = plain_by source n (disjunction source) (disjunction_unlisted source n)

pub spaces_plain : (source : Source) (n : ℕ) → Plain source n (space source)
spaces_plain source n = plain_by source n (space source) (space_unlisted source n)
