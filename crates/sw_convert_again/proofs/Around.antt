-- Like values are alike in brackets and in parentheses.
use Rattle.std.proofs.Common.{◌≡◌, List, [], ◌∷◌, sym, ap, subst}
use Rattle.sw_text.specs.declared.place.Span.{Span}
use Rattle.sw_tree.specs.declared.expr.Expr.{Expr}
use Rattle.sw_tree.specs.declared.expr.ExprKind.{ExprKind}
use Rattle.sw_tree.specs.declared.expr.ExprKind.TheVariants as exprs
use Rattle.sw_tree.specs.declared.expr.Separator.{Separator}
use Rattle.sw_tree.specs.declared.expr.Separator.TheVariants as separators
use Rattle.sw_tree.specs.declared.expr.Around.{Around}
use Rattle.sw_tree.specs.declared.expr.Around.TheVariants as arounds
use Rattle.sw_parse_table.specs.Values.{expression, in_brackets_by, in_brackets, in_parens_by, in_parens}
use Rattle.sw_convert_alike.specs.Expressions.{Like, LikeKind, LikeItems, like}
use Rattle.sw_convert_alike.specs.Expressions as alike

-- by what each stands for
both : (a b : Expr) {x y : Expr} → a ≡ x → b ≡ y → Like x y → Like a b
both a b {x} {y} p q l = subst (λ (z : Expr). Like z b) (sym p) (subst (λ (z : Expr). Like x z) (sym q) l)

module _ (outer outer' : Span) where
  bracketed : (x y : ExprKind) (s s' : Span) → LikeKind x y
      → Like (expression (exprs.List (expression x s ∷ []) separators.Undecided arounds.Brackets) outer)
      (expression (exprs.List (expression y s' ∷ []) separators.Undecided arounds.Brackets) outer')
  bracketed x y s s' l = like (alike.list (alike.item (like l) alike.no_items))

  enclosed : (x y : ExprKind) (s s' : Span) → LikeKind x y
      → Like (expression (exprs.Paren (expression x s)) outer) (expression (exprs.Paren (expression y s')) outer')
  enclosed x y s s' l = like (alike.paren (like l))

  list_brackets : (xs ys : List Expr) (separator : Separator) (around : Around) (s s' : Span) → LikeItems xs ys
      → Like (in_brackets outer (expression (exprs.List xs separator around) s))
      (in_brackets outer' (expression (exprs.List ys separator around) s'))
  unfolding in_brackets
  list_brackets xs ys separator arounds.Nothing s s' ls =
      both (in_brackets outer (expression (exprs.List xs separator arounds.Nothing) s))
      (in_brackets outer' (expression (exprs.List ys separator arounds.Nothing) s'))
      (ap (in_brackets_by outer (expression (exprs.List xs separator arounds.Nothing) s))
      (exprs.outs-List xs separator arounds.Nothing))
      (ap (in_brackets_by outer' (expression (exprs.List ys separator arounds.Nothing) s'))
      (exprs.outs-List ys separator arounds.Nothing))
      (like (alike.list ls))
  list_brackets xs ys separator arounds.Parens s s' ls =
      both (in_brackets outer (expression (exprs.List xs separator arounds.Parens) s))
      (in_brackets outer' (expression (exprs.List ys separator arounds.Parens) s'))
      (ap (in_brackets_by outer (expression (exprs.List xs separator arounds.Parens) s))
      (exprs.outs-List xs separator arounds.Parens))
      (ap (in_brackets_by outer' (expression (exprs.List ys separator arounds.Parens) s'))
      (exprs.outs-List ys separator arounds.Parens))
      (bracketed (exprs.List xs separator arounds.Parens) (exprs.List ys separator arounds.Parens) s s' (alike.list ls))
  list_brackets xs ys separator arounds.Brackets s s' ls =
      both (in_brackets outer (expression (exprs.List xs separator arounds.Brackets) s))
      (in_brackets outer' (expression (exprs.List ys separator arounds.Brackets) s'))
      (ap (in_brackets_by outer (expression (exprs.List xs separator arounds.Brackets) s))
      (exprs.outs-List xs separator arounds.Brackets))
      (ap (in_brackets_by outer' (expression (exprs.List ys separator arounds.Brackets) s'))
      (exprs.outs-List ys separator arounds.Brackets))
      (bracketed (exprs.List xs separator arounds.Brackets) (exprs.List ys separator arounds.Brackets) s s'
      (alike.list ls))

  brackets_of : {x y : ExprKind} → LikeKind x y → (s s' : Span)
      → Like (in_brackets outer (expression x s)) (in_brackets outer' (expression y s'))
  unfolding in_brackets
  brackets_of (alike.number {number}) s s' =
      both (in_brackets outer (expression (exprs.Number number) s))
      (in_brackets outer' (expression (exprs.Number number) s'))
      (ap (in_brackets_by outer (expression (exprs.Number number) s)) (exprs.outs-Number number))
      (ap (in_brackets_by outer' (expression (exprs.Number number) s')) (exprs.outs-Number number))
      (bracketed (exprs.Number number) (exprs.Number number) s s' alike.number)
  brackets_of (alike.quoted {a} {b} l) s s' =
      both (in_brackets outer (expression (exprs.Quoted a) s)) (in_brackets outer' (expression (exprs.Quoted b) s'))
      (ap (in_brackets_by outer (expression (exprs.Quoted a) s)) (exprs.outs-Quoted a))
      (ap (in_brackets_by outer' (expression (exprs.Quoted b) s')) (exprs.outs-Quoted b))
      (bracketed (exprs.Quoted a) (exprs.Quoted b) s s' (alike.quoted l))
  brackets_of (alike.word {a} {b} l) s s' =
      both (in_brackets outer (expression (exprs.Word a) s)) (in_brackets outer' (expression (exprs.Word b) s'))
      (ap (in_brackets_by outer (expression (exprs.Word a) s)) (exprs.outs-Word a))
      (ap (in_brackets_by outer' (expression (exprs.Word b) s')) (exprs.outs-Word b))
      (bracketed (exprs.Word a) (exprs.Word b) s s' (alike.word l))
  brackets_of (alike.hash {name}) s s' =
      both (in_brackets outer (expression (exprs.Hash name) s)) (in_brackets outer' (expression (exprs.Hash name) s'))
      (ap (in_brackets_by outer (expression (exprs.Hash name) s)) (exprs.outs-Hash name))
      (ap (in_brackets_by outer' (expression (exprs.Hash name) s')) (exprs.outs-Hash name))
      (bracketed (exprs.Hash name) (exprs.Hash name) s s' alike.hash)
  brackets_of (alike.constant {constant}) s s' =
      both (in_brackets outer (expression (exprs.Constant constant) s))
      (in_brackets outer' (expression (exprs.Constant constant) s'))
      (ap (in_brackets_by outer (expression (exprs.Constant constant) s)) (exprs.outs-Constant constant))
      (ap (in_brackets_by outer' (expression (exprs.Constant constant) s')) (exprs.outs-Constant constant))
      (bracketed (exprs.Constant constant) (exprs.Constant constant) s s' alike.constant)
  brackets_of (alike.url {a} {b} l) s s' =
      both (in_brackets outer (expression (exprs.Url a) s)) (in_brackets outer' (expression (exprs.Url b) s'))
      (ap (in_brackets_by outer (expression (exprs.Url a) s)) (exprs.outs-Url a))
      (ap (in_brackets_by outer' (expression (exprs.Url b) s')) (exprs.outs-Url b))
      (bracketed (exprs.Url a) (exprs.Url b) s s' (alike.url l))
  brackets_of (alike.special {a} {b} l) s s' =
      both (in_brackets outer (expression (exprs.Special a) s)) (in_brackets outer' (expression (exprs.Special b) s'))
      (ap (in_brackets_by outer (expression (exprs.Special a) s)) (exprs.outs-Special a))
      (ap (in_brackets_by outer' (expression (exprs.Special b) s')) (exprs.outs-Special b))
      (bracketed (exprs.Special a) (exprs.Special b) s s' (alike.special l))
  brackets_of (alike.variable {name}) s s' =
      both (in_brackets outer (expression (exprs.Variable name) s))
      (in_brackets outer' (expression (exprs.Variable name) s'))
      (ap (in_brackets_by outer (expression (exprs.Variable name) s)) (exprs.outs-Variable name))
      (ap (in_brackets_by outer' (expression (exprs.Variable name) s')) (exprs.outs-Variable name))
      (bracketed (exprs.Variable name) (exprs.Variable name) s s' alike.variable)
  brackets_of (alike.qualified {a} {b} d e) s s' =
      both (in_brackets outer (expression (exprs.Qualified a) s))
      (in_brackets outer' (expression (exprs.Qualified b) s'))
      (ap (in_brackets_by outer (expression (exprs.Qualified a) s)) (exprs.outs-Qualified a))
      (ap (in_brackets_by outer' (expression (exprs.Qualified b) s')) (exprs.outs-Qualified b))
      (bracketed (exprs.Qualified a) (exprs.Qualified b) s s' (alike.qualified d e))
  brackets_of (alike.call a b {xs} {ys} d l ls) s s' =
      both (in_brackets outer (expression (exprs.Call a xs) s)) (in_brackets outer' (expression (exprs.Call b ys) s'))
      (ap (in_brackets_by outer (expression (exprs.Call a xs) s)) (exprs.outs-Call a xs))
      (ap (in_brackets_by outer' (expression (exprs.Call b ys) s')) (exprs.outs-Call b ys))
      (bracketed (exprs.Call a xs) (exprs.Call b ys) s s' (alike.call a b d l ls))
  brackets_of alike.parent s s' =
      both (in_brackets outer (expression exprs.Parent s)) (in_brackets outer' (expression exprs.Parent s'))
      (ap (in_brackets_by outer (expression exprs.Parent s)) (exprs.outs-Parent))
      (ap (in_brackets_by outer' (expression exprs.Parent s')) (exprs.outs-Parent))
      (bracketed exprs.Parent exprs.Parent s s' alike.parent)
  brackets_of alike.important s s' =
      both (in_brackets outer (expression exprs.Important s)) (in_brackets outer' (expression exprs.Important s'))
      (ap (in_brackets_by outer (expression exprs.Important s)) (exprs.outs-Important))
      (ap (in_brackets_by outer' (expression exprs.Important s')) (exprs.outs-Important))
      (bracketed exprs.Important exprs.Important s s' alike.important)
  brackets_of (alike.prefixed {signs} {a} {b} l) s s' =
      both (in_brackets outer (expression (exprs.Prefixed signs a) s))
      (in_brackets outer' (expression (exprs.Prefixed signs b) s'))
      (ap (in_brackets_by outer (expression (exprs.Prefixed signs a) s)) (exprs.outs-Prefixed signs a))
      (ap (in_brackets_by outer' (expression (exprs.Prefixed signs b) s')) (exprs.outs-Prefixed signs b))
      (bracketed (exprs.Prefixed signs a) (exprs.Prefixed signs b) s s' (alike.prefixed l))
  brackets_of (alike.chain {a} {b} {xs} {ys} l ls) s s' =
      both (in_brackets outer (expression (exprs.Chain a xs) s)) (in_brackets outer' (expression (exprs.Chain b ys) s'))
      (ap (in_brackets_by outer (expression (exprs.Chain a xs) s)) (exprs.outs-Chain a xs))
      (ap (in_brackets_by outer' (expression (exprs.Chain b ys) s')) (exprs.outs-Chain b ys))
      (bracketed (exprs.Chain a xs) (exprs.Chain b ys) s s' (alike.chain l ls))
  brackets_of (alike.paren {a} {b} l) s s' =
      both (in_brackets outer (expression (exprs.Paren a) s)) (in_brackets outer' (expression (exprs.Paren b) s'))
      (ap (in_brackets_by outer (expression (exprs.Paren a) s)) (exprs.outs-Paren a))
      (ap (in_brackets_by outer' (expression (exprs.Paren b) s')) (exprs.outs-Paren b))
      (bracketed (exprs.Paren a) (exprs.Paren b) s s' (alike.paren l))
  brackets_of (alike.map {xs} {ys} ls) s s' =
      both (in_brackets outer (expression (exprs.Map xs) s)) (in_brackets outer' (expression (exprs.Map ys) s'))
      (ap (in_brackets_by outer (expression (exprs.Map xs) s)) (exprs.outs-Map xs))
      (ap (in_brackets_by outer' (expression (exprs.Map ys) s')) (exprs.outs-Map ys))
      (bracketed (exprs.Map xs) (exprs.Map ys) s s' (alike.map ls))
  brackets_of (alike.list {xs} {ys} {separator} {around} ls) s s' = list_brackets xs ys separator around s s' ls

  pub like_in_brackets : {a b : Expr} → Like a b → Like (in_brackets outer a) (in_brackets outer' b)
  like_in_brackets (like {a} {b} k) = brackets_of k a.span b.span

  list_parens : (xs ys : List Expr) (separator : Separator) (around : Around) (s s' : Span) → LikeItems xs ys
      → Like (in_parens outer (expression (exprs.List xs separator around) s))
      (in_parens outer' (expression (exprs.List ys separator around) s'))
  unfolding in_parens
  list_parens xs ys separator arounds.Nothing s s' ls =
      both (in_parens outer (expression (exprs.List xs separator arounds.Nothing) s))
      (in_parens outer' (expression (exprs.List ys separator arounds.Nothing) s'))
      (ap (in_parens_by outer (expression (exprs.List xs separator arounds.Nothing) s))
      (exprs.outs-List xs separator arounds.Nothing))
      (ap (in_parens_by outer' (expression (exprs.List ys separator arounds.Nothing) s'))
      (exprs.outs-List ys separator arounds.Nothing))
      (like (alike.list ls))
  list_parens xs ys separator arounds.Parens s s' ls =
      both (in_parens outer (expression (exprs.List xs separator arounds.Parens) s))
      (in_parens outer' (expression (exprs.List ys separator arounds.Parens) s'))
      (ap (in_parens_by outer (expression (exprs.List xs separator arounds.Parens) s))
      (exprs.outs-List xs separator arounds.Parens))
      (ap (in_parens_by outer' (expression (exprs.List ys separator arounds.Parens) s'))
      (exprs.outs-List ys separator arounds.Parens))
      (enclosed (exprs.List xs separator arounds.Parens) (exprs.List ys separator arounds.Parens) s s' (alike.list ls))
  list_parens xs ys separator arounds.Brackets s s' ls =
      both (in_parens outer (expression (exprs.List xs separator arounds.Brackets) s))
      (in_parens outer' (expression (exprs.List ys separator arounds.Brackets) s'))
      (ap (in_parens_by outer (expression (exprs.List xs separator arounds.Brackets) s))
      (exprs.outs-List xs separator arounds.Brackets))
      (ap (in_parens_by outer' (expression (exprs.List ys separator arounds.Brackets) s'))
      (exprs.outs-List ys separator arounds.Brackets))
      (enclosed (exprs.List xs separator arounds.Brackets) (exprs.List ys separator arounds.Brackets) s s'
      (alike.list ls))

  parens_of : {x y : ExprKind} → LikeKind x y → (s s' : Span)
      → Like (in_parens outer (expression x s)) (in_parens outer' (expression y s'))
  unfolding in_parens
  parens_of (alike.number {number}) s s' =
      both (in_parens outer (expression (exprs.Number number) s))
      (in_parens outer' (expression (exprs.Number number) s'))
      (ap (in_parens_by outer (expression (exprs.Number number) s)) (exprs.outs-Number number))
      (ap (in_parens_by outer' (expression (exprs.Number number) s')) (exprs.outs-Number number))
      (enclosed (exprs.Number number) (exprs.Number number) s s' alike.number)
  parens_of (alike.quoted {a} {b} l) s s' =
      both (in_parens outer (expression (exprs.Quoted a) s)) (in_parens outer' (expression (exprs.Quoted b) s'))
      (ap (in_parens_by outer (expression (exprs.Quoted a) s)) (exprs.outs-Quoted a))
      (ap (in_parens_by outer' (expression (exprs.Quoted b) s')) (exprs.outs-Quoted b))
      (enclosed (exprs.Quoted a) (exprs.Quoted b) s s' (alike.quoted l))
  parens_of (alike.word {a} {b} l) s s' =
      both (in_parens outer (expression (exprs.Word a) s)) (in_parens outer' (expression (exprs.Word b) s'))
      (ap (in_parens_by outer (expression (exprs.Word a) s)) (exprs.outs-Word a))
      (ap (in_parens_by outer' (expression (exprs.Word b) s')) (exprs.outs-Word b))
      (enclosed (exprs.Word a) (exprs.Word b) s s' (alike.word l))
  parens_of (alike.hash {name}) s s' =
      both (in_parens outer (expression (exprs.Hash name) s)) (in_parens outer' (expression (exprs.Hash name) s'))
      (ap (in_parens_by outer (expression (exprs.Hash name) s)) (exprs.outs-Hash name))
      (ap (in_parens_by outer' (expression (exprs.Hash name) s')) (exprs.outs-Hash name))
      (enclosed (exprs.Hash name) (exprs.Hash name) s s' alike.hash)
  parens_of (alike.constant {constant}) s s' =
      both (in_parens outer (expression (exprs.Constant constant) s))
      (in_parens outer' (expression (exprs.Constant constant) s'))
      (ap (in_parens_by outer (expression (exprs.Constant constant) s)) (exprs.outs-Constant constant))
      (ap (in_parens_by outer' (expression (exprs.Constant constant) s')) (exprs.outs-Constant constant))
      (enclosed (exprs.Constant constant) (exprs.Constant constant) s s' alike.constant)
  parens_of (alike.url {a} {b} l) s s' =
      both (in_parens outer (expression (exprs.Url a) s)) (in_parens outer' (expression (exprs.Url b) s'))
      (ap (in_parens_by outer (expression (exprs.Url a) s)) (exprs.outs-Url a))
      (ap (in_parens_by outer' (expression (exprs.Url b) s')) (exprs.outs-Url b))
      (enclosed (exprs.Url a) (exprs.Url b) s s' (alike.url l))
  parens_of (alike.special {a} {b} l) s s' =
      both (in_parens outer (expression (exprs.Special a) s)) (in_parens outer' (expression (exprs.Special b) s'))
      (ap (in_parens_by outer (expression (exprs.Special a) s)) (exprs.outs-Special a))
      (ap (in_parens_by outer' (expression (exprs.Special b) s')) (exprs.outs-Special b))
      (enclosed (exprs.Special a) (exprs.Special b) s s' (alike.special l))
  parens_of (alike.variable {name}) s s' =
      both (in_parens outer (expression (exprs.Variable name) s))
      (in_parens outer' (expression (exprs.Variable name) s'))
      (ap (in_parens_by outer (expression (exprs.Variable name) s)) (exprs.outs-Variable name))
      (ap (in_parens_by outer' (expression (exprs.Variable name) s')) (exprs.outs-Variable name))
      (enclosed (exprs.Variable name) (exprs.Variable name) s s' alike.variable)
  parens_of (alike.qualified {a} {b} d e) s s' =
      both (in_parens outer (expression (exprs.Qualified a) s)) (in_parens outer' (expression (exprs.Qualified b) s'))
      (ap (in_parens_by outer (expression (exprs.Qualified a) s)) (exprs.outs-Qualified a))
      (ap (in_parens_by outer' (expression (exprs.Qualified b) s')) (exprs.outs-Qualified b))
      (enclosed (exprs.Qualified a) (exprs.Qualified b) s s' (alike.qualified d e))
  parens_of (alike.call a b {xs} {ys} d l ls) s s' =
      both (in_parens outer (expression (exprs.Call a xs) s)) (in_parens outer' (expression (exprs.Call b ys) s'))
      (ap (in_parens_by outer (expression (exprs.Call a xs) s)) (exprs.outs-Call a xs))
      (ap (in_parens_by outer' (expression (exprs.Call b ys) s')) (exprs.outs-Call b ys))
      (enclosed (exprs.Call a xs) (exprs.Call b ys) s s' (alike.call a b d l ls))
  parens_of alike.parent s s' =
      both (in_parens outer (expression exprs.Parent s)) (in_parens outer' (expression exprs.Parent s'))
      (ap (in_parens_by outer (expression exprs.Parent s)) (exprs.outs-Parent))
      (ap (in_parens_by outer' (expression exprs.Parent s')) (exprs.outs-Parent))
      (enclosed exprs.Parent exprs.Parent s s' alike.parent)
  parens_of alike.important s s' =
      both (in_parens outer (expression exprs.Important s)) (in_parens outer' (expression exprs.Important s'))
      (ap (in_parens_by outer (expression exprs.Important s)) (exprs.outs-Important))
      (ap (in_parens_by outer' (expression exprs.Important s')) (exprs.outs-Important))
      (enclosed exprs.Important exprs.Important s s' alike.important)
  parens_of (alike.prefixed {signs} {a} {b} l) s s' =
      both (in_parens outer (expression (exprs.Prefixed signs a) s))
      (in_parens outer' (expression (exprs.Prefixed signs b) s'))
      (ap (in_parens_by outer (expression (exprs.Prefixed signs a) s)) (exprs.outs-Prefixed signs a))
      (ap (in_parens_by outer' (expression (exprs.Prefixed signs b) s')) (exprs.outs-Prefixed signs b))
      (enclosed (exprs.Prefixed signs a) (exprs.Prefixed signs b) s s' (alike.prefixed l))
  parens_of (alike.chain {a} {b} {xs} {ys} l ls) s s' =
      both (in_parens outer (expression (exprs.Chain a xs) s)) (in_parens outer' (expression (exprs.Chain b ys) s'))
      (ap (in_parens_by outer (expression (exprs.Chain a xs) s)) (exprs.outs-Chain a xs))
      (ap (in_parens_by outer' (expression (exprs.Chain b ys) s')) (exprs.outs-Chain b ys))
      (enclosed (exprs.Chain a xs) (exprs.Chain b ys) s s' (alike.chain l ls))
  parens_of (alike.paren {a} {b} l) s s' =
      both (in_parens outer (expression (exprs.Paren a) s)) (in_parens outer' (expression (exprs.Paren b) s'))
      (ap (in_parens_by outer (expression (exprs.Paren a) s)) (exprs.outs-Paren a))
      (ap (in_parens_by outer' (expression (exprs.Paren b) s')) (exprs.outs-Paren b))
      (enclosed (exprs.Paren a) (exprs.Paren b) s s' (alike.paren l))
  parens_of (alike.map {xs} {ys} ls) s s' =
      both (in_parens outer (expression (exprs.Map xs) s)) (in_parens outer' (expression (exprs.Map ys) s'))
      (ap (in_parens_by outer (expression (exprs.Map xs) s)) (exprs.outs-Map xs))
      (ap (in_parens_by outer' (expression (exprs.Map ys) s')) (exprs.outs-Map ys))
      (enclosed (exprs.Map xs) (exprs.Map ys) s s' (alike.map ls))
  parens_of (alike.list {xs} {ys} {separator} {around} ls) s s' = list_parens xs ys separator around s s' ls

  pub like_in_parens : {a b : Expr} → Like a b → Like (in_parens outer a) (in_parens outer' b)
  like_in_parens (like {a} {b} k) = parens_of k a.span b.span
