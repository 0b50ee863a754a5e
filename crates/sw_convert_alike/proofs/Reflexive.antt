-- Everything is alike itself.
use Rattle.std.proofs.Common.{List, [], ◌∷◌, sym, subst, refl}
use Rattle.std.specs.Prelude as prelude
use Rattle.sw_tree.specs.declared.expr.Argument.{Argument, roll-Argument}
use Rattle.sw_tree.specs.declared.expr.Callee.{Callee, roll-Callee}
use Rattle.sw_tree.specs.declared.expr.Expr.{Expr, roll-Expr}
use Rattle.sw_tree.specs.declared.expr.ExprKind.{ExprKind, roll-ExprKind, map-ExprKind, ind-ExprKind}
use Rattle.sw_tree.specs.declared.expr.ExprKind.TheOpen.{ExprKind-F, Parts-F, Piece-F}
use Rattle.sw_tree.specs.declared.expr.ExprKind.TheVariants as exprs
use Rattle.sw_tree.specs.declared.expr.Link.{Link, roll-Link}
use Rattle.sw_tree.specs.declared.expr.Pair.{Pair, roll-Pair}
use Rattle.sw_tree.specs.declared.text.Parts.{Parts, roll-Parts, map-Parts}
use Rattle.sw_tree.specs.declared.text.Parts.TheVariants as parts_
use Rattle.sw_tree.specs.declared.text.Piece.{Piece, out-Piece, roll-Piece, roll-out-Piece, map-Piece}
use Rattle.sw_tree.specs.declared.text.Piece.TheVariants as pieces
use Rattle.sw_tree.specs.declared.text.Text.{Text, roll-Text}
use Rattle.sw_convert_alike.specs.RawText.{OpenPiece}
use Rattle.sw_convert_alike.specs.Expressions.{Like, LikeKind, LikeParts, LikePieces, LikeArguments, LikeItems, LikeLinks, LikePairs, like, number, quoted, word, hash, constant, url, special, variable, qualified, call, parent, important, prefixed, chain, list, paren, map, plain, mixed, no_pieces, text, inserted, value, no_arguments, argument, no_items, item, no_links, link, no_pairs, pair}

-- something with what is known of it
abbrev pub With : (A : Type 0) → (A → Type 0) → Type 0
With A P = (a : A) × P a

abbrev KindSelf : ExprKind → Type 0
KindSelf kind = LikeKind kind kind

abbrev PartsSelf : Parts → Type 0
PartsSelf parts = LikeParts parts parts

abbrev PieceSelf : Piece → Type 0
PieceSelf piece = (rest : List Piece) → LikePieces rest rest → LikePieces (piece ∷ rest) (piece ∷ rest)

abbrev ArgumentSelf : Argument → Type 0
ArgumentSelf a = Like a.value a.value

abbrev CalleeSelf : Callee → Type 0
CalleeSelf a = LikeParts a.name.parts a.name.parts

abbrev ExprSelf : Expr → Type 0
ExprSelf a = Like a a

abbrev LinkSelf : Link → Type 0
LinkSelf a = Like a.operand a.operand

abbrev PairSelf : Pair → Type 0
PairSelf a = Like a.key a.key × Like a.value a.value

abbrev TextSelf : Text → Type 0
TextSelf a = LikeParts a.parts a.parts

arguments_of : (xs : List (With Argument ArgumentSelf)) → LikeArguments (prelude.map (λ x. x.0) xs) (prelude.map (λ x. x.0) xs)
arguments_of [] = no_arguments
arguments_of (x ∷ xs) = argument refl x.1 refl (arguments_of xs)

items_of : (xs : List (With Expr ExprSelf)) → LikeItems (prelude.map (λ x. x.0) xs) (prelude.map (λ x. x.0) xs)
items_of [] = no_items
items_of (x ∷ xs) = item x.1 (items_of xs)

links_of : (xs : List (With Link LinkSelf)) → LikeLinks (prelude.map (λ x. x.0) xs) (prelude.map (λ x. x.0) xs)
links_of [] = no_links
links_of (x ∷ xs) = link refl x.1 (links_of xs)

pairs_of : (xs : List (With Pair PairSelf)) → LikePairs (prelude.map (λ x. x.0) xs) (prelude.map (λ x. x.0) xs)
pairs_of [] = no_pairs
pairs_of (x ∷ xs) = pair x.1.0 x.1.1 (pairs_of xs)

pieces_of : (xs : List (With Piece PieceSelf)) → LikePieces (prelude.map (λ x. x.0) xs) (prelude.map (λ x. x.0) xs)
pieces_of [] = no_pieces
pieces_of (x ∷ xs) = x.1 (prelude.map (λ x. x.0) xs) (pieces_of xs)

-- one layer of each, over what is known of its parts
abbrev Over : (Type 0 → Type 0 → Type 0 → Type 0 → Type 0 → Type 0 → Type 0 → Type 0 → Type 0 → Type 0) → Type 0
Over F = F (With ExprKind KindSelf) (With Parts PartsSelf) (With Piece PieceSelf) (With Argument ArgumentSelf) (With Callee CalleeSelf) (With Expr ExprSelf) (With Link LinkSelf) (With Pair PairSelf) (With Text TextSelf)

abbrev bare_kind : Over ExprKind-F → ExprKind-F ExprKind Parts Piece Argument Callee Expr Link Pair Text
bare_kind = map-ExprKind (With ExprKind KindSelf) (With Parts PartsSelf) (With Piece PieceSelf) (With Argument ArgumentSelf) (With Callee CalleeSelf) (With Expr ExprSelf) (With Link LinkSelf) (With Pair PairSelf) (With Text TextSelf) ExprKind Parts Piece Argument Callee Expr Link Pair Text (λ e. e.0) (λ e. e.0) (λ e. e.0) (λ e. e.0) (λ e. e.0) (λ e. e.0) (λ e. e.0) (λ e. e.0) (λ e. e.0)

kind_step : (y : Over ExprKind-F) → KindSelf (roll-ExprKind (bare_kind y))
kind_step (ExprKind-F.Number n) = subst KindSelf (sym (exprs.rolls-Number n)) number
kind_step (ExprKind-F.Quoted p) = subst KindSelf (sym (exprs.rolls-Quoted p.0)) (quoted p.1)
kind_step (ExprKind-F.Word p) = subst KindSelf (sym (exprs.rolls-Word p.0)) (word p.1)
kind_step (ExprKind-F.Hash name) = subst KindSelf (sym (exprs.rolls-Hash name)) hash
kind_step (ExprKind-F.Constant c) = subst KindSelf (sym (exprs.rolls-Constant c)) constant
kind_step (ExprKind-F.Url p) = subst KindSelf (sym (exprs.rolls-Url p.0)) (url p.1)
kind_step (ExprKind-F.Special p) = subst KindSelf (sym (exprs.rolls-Special p.0)) (special p.1)
kind_step (ExprKind-F.Variable name) = subst KindSelf (sym (exprs.rolls-Variable name)) variable
kind_step (ExprKind-F.Qualified q) = subst KindSelf (sym (exprs.rolls-Qualified q)) (qualified refl refl)
kind_step (ExprKind-F.Call c xs) = subst KindSelf (sym (exprs.rolls-Call c.0 (prelude.map (λ x. x.0) xs))) (call c.0 c.0 refl c.1 (arguments_of xs))
kind_step ExprKind-F.Parent = subst KindSelf (sym exprs.rolls-Parent) parent
kind_step ExprKind-F.Important = subst KindSelf (sym exprs.rolls-Important) important
kind_step (ExprKind-F.Prefixed signs e) = subst KindSelf (sym (exprs.rolls-Prefixed signs e.0)) (prefixed e.1)
kind_step (ExprKind-F.Chain e xs) = subst KindSelf (sym (exprs.rolls-Chain e.0 (prelude.map (λ x. x.0) xs))) (chain e.1 (links_of xs))
kind_step (ExprKind-F.List xs separator around) = subst KindSelf (sym (exprs.rolls-List (prelude.map (λ x. x.0) xs) separator around)) (list (items_of xs))
kind_step (ExprKind-F.Paren e) = subst KindSelf (sym (exprs.rolls-Paren e.0)) (paren e.1)
kind_step (ExprKind-F.Map xs) = subst KindSelf (sym (exprs.rolls-Map (prelude.map (λ x. x.0) xs))) (map (pairs_of xs))

abbrev bare_parts : Over Parts-F → Parts-F ExprKind Parts Piece Argument Callee Expr Link Pair Text
bare_parts = map-Parts (With ExprKind KindSelf) (With Parts PartsSelf) (With Piece PieceSelf) (With Argument ArgumentSelf) (With Callee CalleeSelf) (With Expr ExprSelf) (With Link LinkSelf) (With Pair PairSelf) (With Text TextSelf) ExprKind Parts Piece Argument Callee Expr Link Pair Text (λ e. e.0) (λ e. e.0) (λ e. e.0) (λ e. e.0) (λ e. e.0) (λ e. e.0) (λ e. e.0) (λ e. e.0) (λ e. e.0)

parts_step : (y : Over Parts-F) → PartsSelf (roll-Parts (bare_parts y))
parts_step (Parts-F.Plain name) = subst PartsSelf (sym (parts_.rolls-Plain name)) plain
parts_step (Parts-F.Mixed xs) = subst PartsSelf (sym (parts_.rolls-Mixed (prelude.map (λ x. x.0) xs))) (mixed (pieces_of xs))

abbrev bare_piece : Over Piece-F → Piece-F ExprKind Parts Piece Argument Callee Expr Link Pair Text
bare_piece = map-Piece (With ExprKind KindSelf) (With Parts PartsSelf) (With Piece PieceSelf) (With Argument ArgumentSelf) (With Callee CalleeSelf) (With Expr ExprSelf) (With Link LinkSelf) (With Pair PairSelf) (With Text TextSelf) ExprKind Parts Piece Argument Callee Expr Link Pair Text (λ e. e.0) (λ e. e.0) (λ e. e.0) (λ e. e.0) (λ e. e.0) (λ e. e.0) (λ e. e.0) (λ e. e.0) (λ e. e.0)

piece_step : (y : Over Piece-F) → PieceSelf (roll-Piece (bare_piece y))
piece_step (Piece-F.Text name) = subst PieceSelf (sym (pieces.rolls-Text name)) (λ rest l. text l)
piece_step (Piece-F.Inserted e) = subst PieceSelf (sym (pieces.rolls-Inserted e.0)) (λ rest l. inserted e.1 l)
piece_step (Piece-F.Value e) = subst PieceSelf (sym (pieces.rolls-Value e.0)) (λ rest l. value e.1 l)

pub kind_self : (a : ExprKind) → LikeKind a a
kind_self =
    ind-ExprKind KindSelf PartsSelf PieceSelf ArgumentSelf CalleeSelf ExprSelf LinkSelf PairSelf TextSelf
    (λ x y is. subst (λ k. KindSelf (roll-ExprKind k)) is (kind_step y))
    (λ x y is. subst (λ k. PartsSelf (roll-Parts k)) is (parts_step y))
    (λ x y is. subst (λ k. PieceSelf (roll-Piece k)) is (piece_step y))
    (λ x y is. subst (λ k. ArgumentSelf (roll-Argument k)) is y.value.1)
    (λ x y is. subst (λ k. CalleeSelf (roll-Callee k)) is y.name.1)
    (λ x y is. subst (λ k. ExprSelf (roll-Expr k)) is (like y.kind.1))
    (λ x y is. subst (λ k. LinkSelf (roll-Link k)) is y.operand.1)
    (λ x y is. subst (λ k. PairSelf (roll-Pair k)) is (y.key.1, y.value.1))
    (λ x y is. subst (λ k. TextSelf (roll-Text k)) is y.parts.1)

pub like_self : (a : Expr) → Like a a
like_self a = like (kind_self a.kind)

in_quotes : {a b : Parts} → LikeKind (exprs.Quoted a) (exprs.Quoted b) → LikeParts a b
in_quotes (quoted l) = l

pub parts_self : (a : Parts) → LikeParts a a
parts_self a = in_quotes (kind_self (exprs.Quoted a))

opened : (y : OpenPiece) → PieceSelf (roll-Piece y)
opened (Piece-F.Text name) = subst PieceSelf (sym (pieces.rolls-Text name)) (λ rest l. text l)
opened (Piece-F.Inserted e) = subst PieceSelf (sym (pieces.rolls-Inserted e)) (λ rest l. inserted (like_self e) l)
opened (Piece-F.Value e) = subst PieceSelf (sym (pieces.rolls-Value e)) (λ rest l. value (like_self e) l)

piece_self : (piece : Piece) → PieceSelf piece
piece_self piece = subst PieceSelf (roll-out-Piece piece) (opened (out-Piece piece))

pub pieces_self : (xs : List Piece) → LikePieces xs xs
pieces_self [] = no_pieces
pieces_self (x ∷ xs) = piece_self x xs (pieces_self xs)

pub arguments_self : (xs : List Argument) → LikeArguments xs xs
arguments_self [] = no_arguments
arguments_self (x ∷ xs) = argument refl (like_self x.value) refl (arguments_self xs)
