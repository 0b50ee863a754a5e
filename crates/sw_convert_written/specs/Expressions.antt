-- The text of an expression (the layout is this project's own): one space around operators and between the items of a
-- list, `, ` behind each item of a comma list, and no space around the `/` of a quotient of numbers. No parentheses are
-- added.
use Rattle.std.specs.Prelude.{ℕ, Bool, true, false, ◌&&◌, ◌||◌, ◌==◌, if◌then◌else◌, List, [], ◌∷◌, ◌++◌, map, Option, Some, None, is_some, codes}
use Rattle.std.specs.List.{list_all}
use Rattle.sw_text_scan.specs.Bytes.{sign as byte_of}
use Rattle.sw_text_scan.specs.Words.{is_u, is_r, is_l}
use Rattle.sw_tree.specs.declared.expr.Argument.{Argument}
use Rattle.sw_tree.specs.declared.expr.Around.{Around}
use Rattle.sw_tree.specs.declared.expr.Callee.{Callee}
use Rattle.sw_tree.specs.declared.expr.Expr.{Expr}
use Rattle.sw_tree.specs.declared.expr.ExprKind.{ExprKind, fold-ExprKind}
use Rattle.sw_tree.specs.declared.expr.ExprKind.TheOpen.{ExprKind-F, Parts-F, Piece-F, Argument-F, Callee-F, Expr-F, Link-F, Pair-F, Text-F}
use Rattle.sw_tree.specs.declared.expr.Link.{Link}
use Rattle.sw_tree.specs.declared.expr.Namespaced.{Namespaced}
use Rattle.sw_tree.specs.declared.expr.Operator.{Operator}
use Rattle.sw_tree.specs.declared.expr.Operator.TheVariants as operators
use Rattle.sw_tree.specs.declared.expr.Pair.{Pair}
use Rattle.sw_tree.specs.declared.expr.Qualified.{Qualified}
use Rattle.sw_tree.specs.declared.expr.Separator.{Separator}
use Rattle.sw_tree.specs.declared.expr.Separator.TheVariants as separators
use Rattle.sw_tree.specs.declared.expr.Sign.{Sign}
use Rattle.sw_tree.specs.declared.text.Parts.{Parts, fold-Parts}
use Rattle.sw_tree.specs.declared.text.Piece.{Piece, fold-Piece}
use Rattle.sw_convert_written.specs.declared.manner.Manner.TheVariants as manners
use Rattle.sw_convert_written.specs.declared.sort.Sort.{Sort}
use Rattle.sw_convert_written.specs.declared.sort.Sort.TheVariants.{Number, Opaque, Other}
use Rattle.sw_convert_written.specs.Escapes.{space_behind}
use Rattle.sw_convert_written.specs.Names.{name_text, dollar_name, number_text}
use Rattle.sw_convert_written.specs.Pieces.{Written, Said, Inserted, Value, pieces_text}
use Rattle.sw_convert_written.specs.Signs.{sign_text, operator_text, constant_text, opening, closing}

-- the text of an expression, and what it is
pub record Shown : Type 0 where
  pub text : List ℕ
  pub sort : Sort

abbrev pub other : List ℕ → Shown
other text = record { text = text; sort = Other }

abbrev pub is_number : Sort → Bool
is_number Number = true
is_number _ = false

abbrev pub is_opaque : Sort → Bool
is_opaque Opaque = true
is_opaque _ = false

pub record ShownArgument : Type 0 where
  pub text : List ℕ
  -- no raw text of a url begins so
  pub opaque : Bool

pub record ShownCallee : Type 0 where
  pub text : List ℕ
  -- with a `(` behind it a url may begin
  pub url : Bool

pub record ShownLink : Type 0 where
  pub operator : Operator
  pub operand : Shown

-- a comma before each text but the first
abbrev pub comma_before : Bool → List ℕ
comma_before true = []
comma_before false = codes ", "

-- texts with commas between them, of which the next is the first or not
abbrev pub with_commas : Bool → List (List ℕ) → List ℕ
with_commas first [] = []
with_commas first (text ∷ texts) = comma_before first ++ (text ++ with_commas false texts)

-- ---- operators

abbrev pub is_divide : Operator → Bool
is_divide operators.Divide = true
is_divide _ = false

-- a quotient of numbers keeps its sides
abbrev pub is_quotient : Shown → List ShownLink → Bool
is_quotient first links =
    is_number first.sort && list_all (λ link. is_divide link.operator && is_number link.operand.sort) links

-- an operator behind an operand, and all behind it
abbrev pub infix_text : Bool → Operator → List ℕ → List ℕ
infix_text true operator before = codes "/"
infix_text false operator before = space_behind before ++ operator_text operator

abbrev pub links_text : Bool → List ℕ → List ShownLink → List ℕ
links_text quotient before [] = []
links_text quotient before (link ∷ links) =
    infix_text quotient link.operator before ++ (link.operand.text ++ links_text quotient link.operand.text links)

abbrev pub chain_text : Shown → List ShownLink → List ℕ
chain_text first links = first.text ++ links_text (is_quotient first links) first.text links

-- ---- lists

-- between an item and the next; before the first there is nothing
abbrev pub gap : Separator → Bool → List ℕ → List ℕ
gap separator true before = []
gap separators.Comma false before = codes ", "
gap _ false before = space_behind before

abbrev pub items_behind : Separator → Bool → List ℕ → List (List ℕ) → List ℕ
items_behind separator first before [] = []
items_behind separator first before (item ∷ items) =
    gap separator first before ++ (item ++ items_behind separator false item items)

-- one item keeps the comma behind it
abbrev pub trailing : Separator → List (List ℕ) → List ℕ
trailing separators.Comma (item ∷ []) = codes ","
trailing _ _ = []

abbrev pub items_text : Separator → List (List ℕ) → List ℕ
items_text separator items = items_behind separator true [] items ++ trailing separator items

abbrev pub list_text : List (List ℕ) → Separator → Around → List ℕ
list_text items separator around = opening around ++ (items_text separator items ++ closing around)

-- ---- calls

abbrev pub space_text : Option Namespaced → List ℕ
space_text None = []
space_text (Some namespace) = namespace.name ++ codes "."

abbrev pub qualified_text : Qualified → List ℕ
qualified_text qualified = qualified.namespace.name ++ (codes ".$" ++ name_text qualified.name)

-- `url` in any case
abbrev pub is_url : List ℕ → Bool
is_url (u ∷ r ∷ l ∷ []) = is_u u && (is_r r && is_l l)
is_url _ = false

-- a name ends with this, where it stands by itself or directly behind a `#{}`; a name may begin there or not
abbrev pub ends_in_url_from : Bool → List ℕ → Bool
ends_in_url_from begins [] = false
ends_in_url_from begins (b ∷ name) = (begins && is_url (b ∷ name)) || ends_in_url_from (b == byte_of "}") name

abbrev pub ends_in_url : List ℕ → Bool
ends_in_url = ends_in_url_from true

-- a comment, so that these arguments are no raw text of a url
abbrev pub guard : List ShownArgument → List ℕ
guard [] = codes "/**/ /**/"
guard (argument ∷ arguments) = if argument.opaque then [] else codes "/**/ "

abbrev pub arguments_text : List ShownArgument → List ℕ
arguments_text arguments = with_commas true (map (λ argument. argument.text) arguments)

-- what stands behind the name of a call
abbrev pub call_opening : Bool → List ShownArgument → List ℕ
call_opening url arguments = codes "(" ++ (if url then guard arguments else [])

abbrev pub call_text : ShownCallee → List ShownArgument → List ℕ
call_text callee arguments =
    callee.text ++ (call_opening callee.url arguments ++ (arguments_text arguments ++ codes ")"))

abbrev pub label : Option (List ℕ) → List ℕ
label None = []
label (Some name) = dollar_name name ++ codes ": "

abbrev pub signs_text : List Sign → List ℕ
signs_text [] = []
signs_text (sign ∷ signs) = sign_text sign ++ signs_text signs

abbrev pub dots : Bool → List ℕ
dots true = codes "..."
dots false = []

-- ---- one layer of each, over what its parts show

abbrev pub quoted_text : List Written → List ℕ
quoted_text parts = codes "\"" ++ (pieces_text manners.Quoted parts ++ codes "\"")

abbrev pub kind_step :
    ExprKind-F Shown (List Written) Written ShownArgument ShownCallee Shown ShownLink (List ℕ) (List Written) → Shown
kind_step (ExprKind-F.Number number) = record { text = number_text number; sort = Number }
kind_step (ExprKind-F.Quoted parts) = record { text = quoted_text parts; sort = Opaque }
kind_step (ExprKind-F.Word parts) = other (pieces_text manners.Joined parts)
kind_step (ExprKind-F.Hash name) = other name
kind_step (ExprKind-F.Constant constant) = other (constant_text constant)
kind_step (ExprKind-F.Url parts) = other (pieces_text manners.Joined parts)
kind_step (ExprKind-F.Special parts) = other (pieces_text manners.Seamed parts)
kind_step (ExprKind-F.Variable name) = record { text = dollar_name name; sort = Opaque }
kind_step (ExprKind-F.Qualified qualified) = other (qualified_text qualified)
kind_step (ExprKind-F.Call callee arguments) = other (call_text callee arguments)
kind_step ExprKind-F.Parent = other (codes "&")
kind_step ExprKind-F.Important = other (codes "!important")
kind_step (ExprKind-F.Prefixed signs operand) = other (signs_text signs ++ operand.text)
kind_step (ExprKind-F.Chain first links) = other (chain_text first links)
kind_step (ExprKind-F.List items separator around) =
    other (list_text (map (λ item. item.text) items) separator around)
kind_step (ExprKind-F.Paren value) = other (codes "(" ++ (value.text ++ codes ")"))
kind_step (ExprKind-F.Map pairs) = other (codes "(" ++ (with_commas true pairs ++ codes ")"))

abbrev pub parts_step :
    Parts-F Shown (List Written) Written ShownArgument ShownCallee Shown ShownLink (List ℕ) (List Written) → List Written
parts_step (Parts-F.Plain text) = Said text ∷ []
parts_step (Parts-F.Mixed pieces) = pieces

abbrev pub piece_step :
    Piece-F Shown (List Written) Written ShownArgument ShownCallee Shown ShownLink (List ℕ) (List Written) → Written
piece_step (Piece-F.Text text) = Said text
piece_step (Piece-F.Inserted value) = Inserted value.text
piece_step (Piece-F.Value value) = Value value.text

abbrev pub argument_shown : Option (List ℕ) → Shown → Bool → ShownArgument
argument_shown name value spread =
    record { text = label name ++ (value.text ++ dots spread); opaque = is_some name || is_opaque value.sort }

abbrev pub callee_shown : Option Namespaced → List Written → ShownCallee
callee_shown namespace name =
    record { text = space_text namespace ++ pieces_text manners.Joined name; url = ends_in_url (pieces_text manners.Joined name) }

abbrev pub pair_shown : Shown → Shown → List ℕ
pair_shown key value = key.text ++ (codes ": " ++ value.text)

abbrev pub argument_step :
    Argument-F Shown (List Written) Written ShownArgument ShownCallee Shown ShownLink (List ℕ) (List Written)
    → ShownArgument
argument_step argument = argument_shown argument.name argument.value argument.spread

abbrev pub callee_step :
    Callee-F Shown (List Written) Written ShownArgument ShownCallee Shown ShownLink (List ℕ) (List Written) → ShownCallee
callee_step callee = callee_shown callee.namespace callee.name

abbrev pub expr_step :
    Expr-F Shown (List Written) Written ShownArgument ShownCallee Shown ShownLink (List ℕ) (List Written) → Shown
expr_step value = value.kind

abbrev pub link_step :
    Link-F Shown (List Written) Written ShownArgument ShownCallee Shown ShownLink (List ℕ) (List Written) → ShownLink
link_step link = record { operator = link.operator; operand = link.operand }

abbrev pub pair_step :
    Pair-F Shown (List Written) Written ShownArgument ShownCallee Shown ShownLink (List ℕ) (List Written) → List ℕ
pair_step pair = pair_shown pair.key pair.value

abbrev pub text_step :
    Text-F Shown (List Written) Written ShownArgument ShownCallee Shown ShownLink (List ℕ) (List Written) → List Written
text_step text = text.parts

-- ---- whole expressions and texts

unfoldable pub kind_shown : ExprKind → Shown
kind_shown =
    fold-ExprKind Shown (List Written) Written ShownArgument ShownCallee Shown ShownLink (List ℕ) (List Written)
    kind_step parts_step piece_step argument_step callee_step expr_step link_step pair_step text_step

unfoldable pub parts_written : Parts → List Written
parts_written =
    fold-Parts Shown (List Written) Written ShownArgument ShownCallee Shown ShownLink (List ℕ) (List Written) kind_step
    parts_step piece_step argument_step callee_step expr_step link_step pair_step text_step

unfoldable pub piece_written : Piece → Written
piece_written =
    fold-Piece Shown (List Written) Written ShownArgument ShownCallee Shown ShownLink (List ℕ) (List Written) kind_step
    parts_step piece_step argument_step callee_step expr_step link_step pair_step text_step

abbrev pub expr_shown : Expr → Shown
expr_shown value = kind_shown value.kind

-- the text of an expression
abbrev pub expr_text : Expr → List ℕ
expr_text value = (kind_shown value.kind).text

abbrev pub link_shown : Link → ShownLink
link_shown link = record { operator = link.operator; operand = expr_shown link.operand }

abbrev pub of_argument : Argument → ShownArgument
of_argument argument = argument_shown argument.name (expr_shown argument.value) argument.spread

abbrev pub argument_text : Argument → List ℕ
argument_text argument = (of_argument argument).text

abbrev pub of_callee : Callee → ShownCallee
of_callee callee = callee_shown callee.namespace (parts_written callee.name.parts)

abbrev pub pair_text : Pair → List ℕ
pair_text pair = pair_shown (expr_shown pair.key) (expr_shown pair.value)
