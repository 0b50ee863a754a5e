-- What is alike is alike the other way round.
use Rattle.std.proofs.Common.{List, [], ◌∷◌, Option, Some, None, sym}
use Rattle.sw_tree.specs.declared.callable.Content.{Content}
use Rattle.sw_tree.specs.declared.callable.Mixin.{Mixin}
use Rattle.sw_tree.specs.declared.callable.Param.{Param}
use Rattle.sw_tree.specs.declared.callable.Params.{Params}
use Rattle.sw_tree.specs.declared.expr.Argument.{Argument}
use Rattle.sw_tree.specs.declared.expr.Expr.{Expr}
use Rattle.sw_tree.specs.declared.expr.ExprKind.{ExprKind}
use Rattle.sw_tree.specs.declared.expr.Link.{Link}
use Rattle.sw_tree.specs.declared.expr.Pair.{Pair}
use Rattle.sw_tree.specs.declared.load.Forward.{Forward}
use Rattle.sw_tree.specs.declared.load.Given.{Given}
use Rattle.sw_tree.specs.declared.load.Use.{Use}
use Rattle.sw_tree.specs.declared.statement.Bounds.{Bounds}
use Rattle.sw_tree.specs.declared.statement.Branch.{Branch}
use Rattle.sw_tree.specs.declared.statement.Statement.{Statement}
use Rattle.sw_tree.specs.declared.text.Parts.{Parts}
use Rattle.sw_tree.specs.declared.text.Piece.{Piece}
use Rattle.sw_tree.specs.declared.text.Text.{Text}
use Rattle.sw_convert_alike.specs.Expressions.{Like, LikeKind, LikeParts, LikePieces, LikeArguments, LikeItems, LikeLinks, LikePairs, LikeText, like, number, quoted, word, hash, constant, url, special, variable as variable_value, qualified, call, parent, important, prefixed, chain, list, paren, map, plain, mixed, no_pieces, text, inserted, value, empty_left, empty_right, no_arguments, argument, no_items, item, no_links, link, no_pairs, pair}
use Rattle.sw_convert_alike.specs.Statements.{LikeOption, LikeEach, LikeRaw, LikeParam, LikeParams, LikeGiven, LikeUse, LikeForward, LikeMixin, LikeBounds, LikeStatement, LikeBlock, LikeOptionalBlock, LikeBranches, LikeContent, variable, assignment, declaration, properties, custom, rule, use_, forward, callable, include, content, return, say, if_, each, for_, while_, media, supports, at_root, charset, import, extend, at_rule, comment, no_statements, statement, no_block, block, no_branches, branch, no_content, passed}

mutual
  pub like_back : {a b : Expr} → Like a b → Like b a
  like_back (like l) = like (kind_back l)

  pub kind_back : {a b : ExprKind} → LikeKind a b → LikeKind b a
  kind_back number = number
  kind_back (quoted l) = quoted (parts_back l)
  kind_back (word l) = word (parts_back l)
  kind_back hash = hash
  kind_back constant = constant
  kind_back (url l) = url (parts_back l)
  kind_back (special l) = special (parts_back l)
  kind_back variable_value = variable_value
  kind_back (qualified space name) = qualified (sym space) (sym name)
  kind_back (call a b space name l) = call b a (sym space) (parts_back name) (arguments_back l)
  kind_back parent = parent
  kind_back important = important
  kind_back (prefixed l) = prefixed (like_back l)
  kind_back (chain l ls) = chain (like_back l) (links_back ls)
  kind_back (list ls) = list (items_back ls)
  kind_back (paren l) = paren (like_back l)
  kind_back (map ls) = map (pairs_back ls)

  pub parts_back : {a b : Parts} → LikeParts a b → LikeParts b a
  parts_back plain = plain
  parts_back (mixed ls) = mixed (pieces_back ls)

  pub pieces_back : {xs ys : List Piece} → LikePieces xs ys → LikePieces ys xs
  pieces_back no_pieces = no_pieces
  pieces_back (text ls) = text (pieces_back ls)
  pieces_back (inserted l ls) = inserted (like_back l) (pieces_back ls)
  pieces_back (value l ls) = value (like_back l) (pieces_back ls)
  pieces_back (empty_left ls) = empty_right (pieces_back ls)
  pieces_back (empty_right ls) = empty_left (pieces_back ls)

  pub arguments_back : {xs ys : List Argument} → LikeArguments xs ys → LikeArguments ys xs
  arguments_back no_arguments = no_arguments
  arguments_back (argument name l spread ls) = argument (sym name) (like_back l) (sym spread) (arguments_back ls)

  pub items_back : {xs ys : List Expr} → LikeItems xs ys → LikeItems ys xs
  items_back no_items = no_items
  items_back (item l ls) = item (like_back l) (items_back ls)

  pub links_back : {xs ys : List Link} → LikeLinks xs ys → LikeLinks ys xs
  links_back no_links = no_links
  links_back (link operator l ls) = link (sym operator) (like_back l) (links_back ls)

  pub pairs_back : {xs ys : List Pair} → LikePairs xs ys → LikePairs ys xs
  pairs_back no_pairs = no_pairs
  pairs_back (pair key l ls) = pair (like_back key) (like_back l) (pairs_back ls)

-- ---- what stands in statements

option_back : {A : Type 0} (R : A → A → Type 0) → ((a b : A) → R a b → R b a) → (a b : Option A) → LikeOption R a b
    → LikeOption R b a
option_back R back None None l = tt
option_back R back (Some a) (Some b) l = back a b l
option_back R back None (Some b) l = l
option_back R back (Some a) None l = l

each_back : {A : Type 0} (R : A → A → Type 0) → ((a b : A) → R a b → R b a) → (xs ys : List A) → LikeEach R xs ys
    → LikeEach R ys xs
each_back R back [] [] l = tt
each_back R back (x ∷ xs) (y ∷ ys) l = (back x y l.0, each_back R back xs ys l.1)
each_back R back [] (y ∷ ys) l = l
each_back R back (x ∷ xs) [] l = l

text_back : (a b : Text) → LikeText a b → LikeText b a
text_back a b l = parts_back l

raw_back : (a b : Text) → LikeRaw a b → LikeRaw b a
raw_back a b l = pieces_back l

param_back : (a b : Param) → LikeParam a b → LikeParam b a
param_back a b l = (sym l.0, option_back Like (λ x y m. like_back m) a.default b.default l.1)

params_back : (a b : Params) → LikeParams a b → LikeParams b a
params_back a b l = (each_back LikeParam param_back a.items b.items l.0, sym l.1)

given_back : (a b : Given) → LikeGiven a b → LikeGiven b a
given_back a b l = (sym l.0, like_back l.1, sym l.2)

use_back : (a b : Use) → LikeUse a b → LikeUse b a
use_back a b l = (sym l.0, sym l.1, each_back LikeGiven given_back a.configuration b.configuration l.2)

forward_back : (a b : Forward) → LikeForward a b → LikeForward b a
forward_back a b l = (sym l.0, sym l.1, sym l.2, each_back LikeGiven given_back a.configuration b.configuration l.3)

mixin_back : (a b : Mixin) → LikeMixin a b → LikeMixin b a
mixin_back a b l = (sym l.0, sym l.1, arguments_back l.2)

bounds_back : (a b : Bounds) → LikeBounds a b → LikeBounds b a
bounds_back a b l = (like_back l.0, like_back l.1, sym l.2)

-- ---- statements

mutual
  pub statement_back : {a b : Statement} → LikeStatement a b → LikeStatement b a
  statement_back (variable name l flags) = variable (sym name) (like_back l) (sym flags)
  statement_back (assignment target l flags) = assignment (sym target.0, sym target.1) (like_back l) (sym flags)
  statement_back (declaration property l) = declaration (parts_back property) (like_back l)
  statement_back (properties a b property l ls) =
      properties b a (parts_back property) (option_back Like (λ x y m. like_back m) a.value b.value l) (block_back ls)
  statement_back (custom {a} {b} property l) =
      custom (parts_back property) (option_back LikeText text_back a.value b.value l)
  statement_back (rule a b selector ls) = rule b a (pieces_back selector) (block_back ls)
  statement_back (use_ {a} {b} l) = use_ (use_back a b l)
  statement_back (forward {a} {b} l) = forward (forward_back a b l)
  statement_back (callable a b kind name params ls) =
      callable b a (sym kind) (sym name) (params_back a.params b.params params) (block_back ls)
  statement_back (include {a} {b} l m) = include (mixin_back a b l) (content_back m)
  statement_back (content l) = content (arguments_back l)
  statement_back (return l) = return (like_back l)
  statement_back (say level l) = say (sym level) (like_back l)
  statement_back (if_ ls l) = if_ (branches_back ls) (optional_back l)
  statement_back (each a b names l ls) = each b a (sym names) (like_back l) (block_back ls)
  statement_back (for_ a b name bounds ls) = for_ b a (sym name) (bounds_back a.bounds b.bounds bounds) (block_back ls)
  statement_back (while_ a b l ls) = while_ b a (like_back l) (block_back ls)
  statement_back (media a b queries ls) = media b a (parts_back queries) (block_back ls)
  statement_back (supports a b condition ls) = supports b a (pieces_back condition) (block_back ls)
  statement_back (at_root a b selector ls) =
      at_root b a (option_back LikeRaw raw_back a.selector b.selector selector) (block_back ls)
  statement_back charset = charset
  statement_back (import l) = import (pieces_back l)
  statement_back (extend l) = extend (pieces_back l)
  statement_back (at_rule a b name prelude l) =
      at_rule b a (parts_back name) (option_back LikeRaw raw_back a.prelude b.prelude prelude) (optional_back l)
  statement_back (comment l) = comment (parts_back l)

  pub block_back : {xs ys : List Statement} → LikeBlock xs ys → LikeBlock ys xs
  block_back no_statements = no_statements
  block_back (statement l ls) = statement (statement_back l) (block_back ls)

  optional_back : {a b : Option (List Statement)} → LikeOptionalBlock a b → LikeOptionalBlock b a
  optional_back no_block = no_block
  optional_back (block ls) = block (block_back ls)

  branches_back : {xs ys : List Branch} → LikeBranches xs ys → LikeBranches ys xs
  branches_back no_branches = no_branches
  branches_back (branch condition ls rest) = branch (like_back condition) (block_back ls) (branches_back rest)

  content_back : {a b : Option Content} → LikeContent a b → LikeContent b a
  content_back no_content = no_content
  content_back (passed {a} {b} params ls) = passed (params_back a.params b.params params) (block_back ls)
