-- What is read of a sheet: a token by its place, or a part of the tree; and the forms that stand in brackets.
use Rattle.std.specs.Prelude.{ℕ, List, [], ◌∷◌, Option, Some, None}
use Rattle.sw_text.specs.declared.place.Span.{Span}
use Rattle.sw_tree.specs.declared.text.Text.{Text as TreeText}
use Rattle.sw_tree.specs.declared.text.Piece.{Piece}
use Rattle.sw_tree.specs.declared.expr.Qualified.{Qualified}
use Rattle.sw_tree.specs.declared.expr.Sign.{Sign}
use Rattle.sw_tree.specs.declared.expr.Link.{Link}
use Rattle.sw_tree.specs.declared.expr.Pair.{Pair}
use Rattle.sw_tree.specs.declared.expr.Argument.{Argument}
use Rattle.sw_tree.specs.declared.expr.Expr.{Expr}
use Rattle.sw_tree.specs.declared.callable.Param.{Param}
use Rattle.sw_tree.specs.declared.callable.Params.{Params}
use Rattle.sw_tree.specs.declared.load.Given.{Given}
use Rattle.sw_tree.specs.declared.load.Member.{Member}
use Rattle.sw_tree.specs.declared.statement.Branch.{Branch}
use Rattle.sw_tree.specs.declared.callable.Mixin.{Mixin}
use Rattle.sw_tree.specs.declared.statement.Statement.{Statement}

pub data Part : Type 0 where
  -- a token by its place
  Place : ℕ → Part
  -- the place behind a part
  Behind : ℕ → Part
  -- tells what follows it in a list
  Marks : ℕ → Part
  -- `#{value}`, from the token at a place up to the one at another
  Inserts : ℕ → ℕ → Expr → Part
  -- a value in the text of a special function, from the token at a place up to the one at another
  Stands : ℕ → ℕ → Expr → Part
  Texts : TreeText → Part
  Pieces : Piece → Part
  -- a variable behind a namespace
  Owns : Qualified → Span → Part
  Signs : Sign → Part
  Links : Link → Part
  Pairs : Pair → Part
  Argues : Argument → Part
  Arguments : List Argument → Part
  Values : Expr → Part
  -- a parameter
  Takes : Param → Part
  -- the parameter that takes the rest
  Rests : List ℕ → Part
  Parameters : Params → Part
  -- a variable that a load configures
  Gives : Given → Part
  Members : Member → Part
  Branches : Branch → Part
  Includes : Mixin → Part
  Blocks : List Statement → Part
  States : Statement → Part

-- what stands in brackets, and a whole sheet
pub data Form : Type 0 where
  Whole : Form
  Block : Form
  -- an expression, as in `#{ }`
  Value : Form
  -- in parentheses: a map, a list, a value or nothing
  Inside : Form
  -- in brackets: a list, a value or nothing
  Items : Form
  -- the arguments of a call
  Arguing : Form
  RawInside : Form
  -- in the parentheses of a special function, and in brackets in its text
  SpecialInside : Form
  SpecialItems : Form
  -- parameters
  Taking : Form
  -- in the parentheses of a media query: a condition, or a feature
  Condition : Form
  Feature : Form
  -- the configuration of `@use`, and that of `@forward`
  Giving : Form
  Passing : Form
  -- a list without commas, as a bound of `@for` is, and a sum, as in a media query: each is read by itself
  SpaceList : Form
  Sum : Form

abbrev pub values_of : List Part → List Expr
values_of [] = []
values_of (Values e ∷ parts) = e ∷ values_of parts
values_of (_ ∷ parts) = values_of parts

abbrev pub signs_of : List Part → List Sign
signs_of [] = []
signs_of (Signs s ∷ parts) = s ∷ signs_of parts
signs_of (_ ∷ parts) = signs_of parts

abbrev pub links_of : List Part → List Link
links_of [] = []
links_of (Links l ∷ parts) = l ∷ links_of parts
links_of (_ ∷ parts) = links_of parts

abbrev pub pairs_of : List Part → List Pair
pairs_of [] = []
pairs_of (Pairs p ∷ parts) = p ∷ pairs_of parts
pairs_of (_ ∷ parts) = pairs_of parts

abbrev pub arguments_of : List Part → List Argument
arguments_of [] = []
arguments_of (Argues a ∷ parts) = a ∷ arguments_of parts
arguments_of (_ ∷ parts) = arguments_of parts

abbrev pub pieces_of : List Part → List Piece
pieces_of [] = []
pieces_of (Pieces p ∷ parts) = p ∷ pieces_of parts
pieces_of (_ ∷ parts) = pieces_of parts

abbrev pub params_of : List Part → List Param
params_of [] = []
params_of (Takes p ∷ parts) = p ∷ params_of parts
params_of (_ ∷ parts) = params_of parts

abbrev pub rest_of : List Part → Option (List ℕ)
rest_of [] = None
rest_of (Rests name ∷ parts) = Some name
rest_of (_ ∷ parts) = rest_of parts

abbrev pub givens_of : List Part → List Given
givens_of [] = []
givens_of (Gives g ∷ parts) = g ∷ givens_of parts
givens_of (_ ∷ parts) = givens_of parts

abbrev pub members_of : List Part → List Member
members_of [] = []
members_of (Members m ∷ parts) = m ∷ members_of parts
members_of (_ ∷ parts) = members_of parts

abbrev pub branches_of : List Part → List Branch
branches_of [] = []
branches_of (Branches b ∷ parts) = b ∷ branches_of parts
branches_of (_ ∷ parts) = branches_of parts

-- the block that stands last
abbrev pub block_of : List Part → Option (List Statement)
block_of [] = None
block_of (Blocks b ∷ parts) = Some b
block_of (_ ∷ parts) = block_of parts

abbrev pub places_of : List Part → List ℕ
places_of [] = []
places_of (Place p ∷ parts) = p ∷ places_of parts
places_of (_ ∷ parts) = places_of parts

abbrev pub statements_of : List Part → List Statement
statements_of [] = []
statements_of (States s ∷ parts) = s ∷ statements_of parts
statements_of (_ ∷ parts) = statements_of parts
