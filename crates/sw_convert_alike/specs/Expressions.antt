-- When two expressions are alike (this project's own): they are equal but for where they stand, which no rule below
-- speaks of.
use Rattle.std.specs.Prelude.{◌≡◌, ℕ, List, [], ◌∷◌, Option, Some, None}
use Rattle.sw_tree.specs.declared.expr.Argument.{Argument}
use Rattle.sw_tree.specs.declared.expr.Around.{Around}
use Rattle.sw_tree.specs.declared.expr.Callee.{Callee}
use Rattle.sw_tree.specs.declared.expr.Constant.{Constant}
use Rattle.sw_tree.specs.declared.expr.Expr.{Expr}
use Rattle.sw_tree.specs.declared.expr.ExprKind.{ExprKind}
use Rattle.sw_tree.specs.declared.expr.ExprKind.TheVariants as exprs
use Rattle.sw_tree.specs.declared.expr.Link.{Link}
use Rattle.sw_tree.specs.declared.expr.Namespaced.{Namespaced}
use Rattle.sw_tree.specs.declared.expr.Number.{Number}
use Rattle.sw_tree.specs.declared.expr.Pair.{Pair}
use Rattle.sw_tree.specs.declared.expr.Qualified.{Qualified}
use Rattle.sw_tree.specs.declared.expr.Separator.{Separator}
use Rattle.sw_tree.specs.declared.expr.Sign.{Sign}
use Rattle.sw_tree.specs.declared.text.Parts.{Parts}
use Rattle.sw_tree.specs.declared.text.Parts.TheVariants.{Plain, Mixed}
use Rattle.sw_tree.specs.declared.text.Piece.{Piece}
use Rattle.sw_tree.specs.declared.text.Piece.TheVariants as pieces
use Rattle.sw_tree.specs.declared.text.Text.{Text}

-- the name of a namespace
abbrev pub space_of : Option Namespaced → Option (List ℕ)
space_of None = None
space_of (Some namespace) = Some namespace.name

mutual
  pub data Like : Expr → Expr → Type 0 where
    like : {a b : Expr} → LikeKind a.kind b.kind → Like a b

  pub data LikeKind : ExprKind → ExprKind → Type 0 where
    number : {number : Number} → LikeKind (exprs.Number number) (exprs.Number number)
    quoted : {a b : Parts} → LikeParts a b → LikeKind (exprs.Quoted a) (exprs.Quoted b)
    word : {a b : Parts} → LikeParts a b → LikeKind (exprs.Word a) (exprs.Word b)
    hash : {name : List ℕ} → LikeKind (exprs.Hash name) (exprs.Hash name)
    constant : {constant : Constant} → LikeKind (exprs.Constant constant) (exprs.Constant constant)
    url : {a b : Parts} → LikeParts a b → LikeKind (exprs.Url a) (exprs.Url b)
    special : {a b : Parts} → LikeParts a b → LikeKind (exprs.Special a) (exprs.Special b)
    variable : {name : List ℕ} → LikeKind (exprs.Variable name) (exprs.Variable name)
    qualified : {a b : Qualified} → a.namespace.name ≡ b.namespace.name → a.name ≡ b.name
        → LikeKind (exprs.Qualified a) (exprs.Qualified b)
    call : (a b : Callee) {xs ys : List Argument} → space_of a.namespace ≡ space_of b.namespace
        → LikeParts a.name.parts b.name.parts → LikeArguments xs ys → LikeKind (exprs.Call a xs) (exprs.Call b ys)
    parent : LikeKind exprs.Parent exprs.Parent
    important : LikeKind exprs.Important exprs.Important
    prefixed : {signs : List Sign} {a b : Expr} → Like a b
        → LikeKind (exprs.Prefixed signs a) (exprs.Prefixed signs b)
    chain : {a b : Expr} {xs ys : List Link} → Like a b → LikeLinks xs ys
        → LikeKind (exprs.Chain a xs) (exprs.Chain b ys)
    list : {xs ys : List Expr} {separator : Separator} {around : Around} → LikeItems xs ys
        → LikeKind (exprs.List xs separator around) (exprs.List ys separator around)
    paren : {a b : Expr} → Like a b → LikeKind (exprs.Paren a) (exprs.Paren b)
    map : {xs ys : List Pair} → LikePairs xs ys → LikeKind (exprs.Map xs) (exprs.Map ys)

  -- texts are alike xs they stand: where a comment was dropped from one, two texts stand in the other too
  pub data LikeParts : Parts → Parts → Type 0 where
    plain : {text : List ℕ} → LikeParts (Plain text) (Plain text)
    mixed : {xs ys : List Piece} → LikePieces xs ys → LikeParts (Mixed xs) (Mixed ys)

  pub data LikePieces : List Piece → List Piece → Type 0 where
    no_pieces : LikePieces [] []
    text : {text : List ℕ} {xs ys : List Piece} → LikePieces xs ys
        → LikePieces (pieces.Text text ∷ xs) (pieces.Text text ∷ ys)
    inserted : {a b : Expr} {xs ys : List Piece} → Like a b → LikePieces xs ys
        → LikePieces (pieces.Inserted a ∷ xs) (pieces.Inserted b ∷ ys)
    value : {a b : Expr} {xs ys : List Piece} → Like a b → LikePieces xs ys
        → LikePieces (pieces.Value a ∷ xs) (pieces.Value b ∷ ys)
    -- a text that is empty, as that of an escaped line break alone, counts as none
    empty_left : {xs ys : List Piece} → LikePieces xs ys → LikePieces (pieces.Text [] ∷ xs) ys
    empty_right : {xs ys : List Piece} → LikePieces xs ys → LikePieces xs (pieces.Text [] ∷ ys)

  pub data LikeArguments : List Argument → List Argument → Type 0 where
    no_arguments : LikeArguments [] []
    argument : {a b : Argument} {xs ys : List Argument} → a.name ≡ b.name → Like a.value b.value → a.spread ≡ b.spread
        → LikeArguments xs ys → LikeArguments (a ∷ xs) (b ∷ ys)

  pub data LikeItems : List Expr → List Expr → Type 0 where
    no_items : LikeItems [] []
    item : {a b : Expr} {xs ys : List Expr} → Like a b → LikeItems xs ys → LikeItems (a ∷ xs) (b ∷ ys)

  pub data LikeLinks : List Link → List Link → Type 0 where
    no_links : LikeLinks [] []
    link : {a b : Link} {xs ys : List Link} → a.operator ≡ b.operator → Like a.operand b.operand → LikeLinks xs ys
        → LikeLinks (a ∷ xs) (b ∷ ys)

  pub data LikePairs : List Pair → List Pair → Type 0 where
    no_pairs : LikePairs [] []
    pair : {a b : Pair} {xs ys : List Pair} → Like a.key b.key → Like a.value b.value → LikePairs xs ys
        → LikePairs (a ∷ xs) (b ∷ ys)

abbrev pub LikeText : Text → Text → Type 0
LikeText a b = LikeParts a.parts b.parts
