-- Texts in which values stand: where they stand, and when two such texts are alike.
use Rattle.std.proofs.Common.{◌≡◌, ℕ, suc, ◌+◌, List, [], ◌∷◌, ◌++◌, length, refl, sym, ◌∙◌, ap, subst, arith}
use Rattle.sw_tree.specs.declared.expr.Expr.{Expr}
use Rattle.sw_tree.specs.declared.text.Parts.{Parts}
use Rattle.sw_tree.specs.declared.text.Piece.{Piece}
use Rattle.sw_parse_table.specs.declared.source.Source.{Source}
use Rattle.sw_parse_table.specs.declared.gap.Stretch.{Stretch}
use Rattle.sw_parse_table.specs.Parts.{Part, SpecialItems, Inserts, Values}
use Rattle.sw_parse_table.specs.Parts as parts
use Rattle.sw_parse_table.specs.Sources.{Texts, texts, text_pieces, plain_parts, stretch_between, up_to, behind, pieces_from, parts_between}
use Rattle.sw_convert_alike.specs.Expressions.{Like, LikeParts, LikePieces, like, plain}
use Rattle.sw_convert_alike.specs.Expressions as alike
use Rattle.sw_convert_again.specs.Tokens.{Extent, extent, shifted, around, Tok, Says, Stands}
use Rattle.sw_convert_again.specs.Spells.{extents_of, text_said}
use Rattle.sw_convert_again.proofs.Leaves.{pieces_self, plain_self}
use Rattle.sw_convert_again.proofs.Rows.{texts_then}

-- the same values stand in both texts, in that which is written at these extents from a place on
pub data LikeValues (p : ℕ) : List Part → List Part → List Extent → Type 0 where
  none : LikeValues p [] [] []
  inserted : {i j a b : ℕ} {e f : Expr} {w v : List Part} {one : Extent} {extents : List Extent} → a ≡ p + one.first
      → b ≡ p + one.behind → Like e f → LikeValues p w v extents
      → LikeValues p (Inserts i j e ∷ w) (Inserts a b f ∷ v) (one ∷ extents)
  stands : {i j a b : ℕ} {e f : Expr} {w v : List Part} {one : Extent} {extents : List Extent} → a ≡ p + one.first
      → b ≡ p + one.behind → Like e f → LikeValues p w v extents
      → LikeValues p (parts.Stands i j e ∷ w) (parts.Stands a b f ∷ v) (one ∷ extents)

from_before : (p d a x : ℕ) → a ≡ (p + d) + x → a ≡ p + (d + x)
from_before p d a x e = omega (arith, e)

pub shift : (p d : ℕ) {w v : List Part} {extents : List Extent} → LikeValues (p + d) w v extents
    → LikeValues p w v (shifted d extents)
shift p d none = none
shift p d (inserted {i} {j} {a} {b} {e} {f} {w} {v} {one} x y l more) =
    inserted (from_before p d a one.first x) (from_before p d b one.behind y) l (shift p d more)
shift p d (stands {i} {j} {a} {b} {e} {f} {w} {v} {one} x y l more) =
    stands (from_before p d a one.first x) (from_before p d b one.behind y) l (shift p d more)

pub both : {p : ℕ} {w v w' v' : List Part} {extents further : List Extent} → LikeValues p w v extents
    → LikeValues p w' v' further → LikeValues p (w ++ w') (v ++ v') (extents ++ further)
both none more = more
both (inserted x y l rest) more = inserted x y l (both rest more)
both (stands x y l rest) more = stands x y l (both rest more)

extent_is : (a b x y : ℕ) (rest : List Extent) → a ≡ x → b ≡ y → extent a b ∷ rest ≡ extent x y ∷ rest
extent_is a b x y rest e f =
    ap (λ (z : ℕ). extent z b ∷ rest) e ∙ ap (λ (z : ℕ). extent x z ∷ rest) f

-- they stand there
placed : {p : ℕ} {w v : List Part} {extents : List Extent} → LikeValues p w v extents → extents_of v ≡ shifted p extents
placed none = refl
placed {p} (inserted {i} {j} {a} {b} {e} {f} {w} {v} {one} x y l more) =
    extent_is a b (p + one.first) (p + one.behind) (extents_of v) x y
    ∙ ap (λ (z : List Extent). extent (p + one.first) (p + one.behind) ∷ z) (placed more)
placed {p} (stands {i} {j} {a} {b} {e} {f} {w} {v} {one} x y l more) =
    extent_is a b (p + one.first) (p + one.behind) (extents_of v) x y
    ∙ ap (λ (z : List Extent). extent (p + one.first) (p + one.behind) ∷ z) (placed more)

abbrev first_of : List (List Piece) → List Piece
first_of [] = []
first_of (x ∷ xs) = x

abbrev rest_of : List (List Piece) → List (List Piece)
rest_of [] = []
rest_of (x ∷ xs) = xs

text_then : (a b : Texts) (xs ys : List Piece) → text_pieces b ≡ text_pieces a → LikePieces xs ys
    → LikePieces (text_pieces a ++ xs) (text_pieces b ++ ys)
text_then a b xs ys e l =
    subst (λ (z : List Piece). LikePieces (text_pieces a ++ xs) (z ++ ys)) (sym e) (texts_then (a.first ∷ a.rest) xs ys l)

text_alone : (a b : Texts) → text_pieces b ≡ text_pieces a → LikePieces (text_pieces a) (text_pieces b)
text_alone a b e = subst (LikePieces (text_pieces a)) (sym e) (pieces_self (a.first ∷ a.rest))

module _ (source written : Source) where
  -- texts with the same pieces around such values are alike
  same_around : {p : ℕ} {w v : List Part} {extents : List Extent} → LikeValues p w v extents → (s t : Stretch)
      → around written t (extents_of v) ≡ around source s (extents_of w)
      → LikePieces (pieces_from source s w) (pieces_from written t v)
  same_around none s t e = text_alone (texts source s) (texts written t) (ap first_of e)
  same_around (inserted {i} {j} {a} {b} x y l more) s t e =
      text_then (texts source (up_to source s i)) (texts written (up_to written t a)) _ _ (ap first_of e)
      (alike.inserted l (same_around more (behind source s j) (behind written t b) (ap rest_of e)))
  same_around (stands {i} {j} {a} {b} x y l more) s t e =
      text_then (texts source (up_to source s i)) (texts written (up_to written t a)) _ _ (ap first_of e)
      (alike.value l (same_around more (behind source s j) (behind written t b) (ap rest_of e)))

  same_plain : (a : Texts) (b : Parts) → b ≡ plain_parts a → LikeParts (plain_parts a) b
  same_plain a b e = subst (LikeParts (plain_parts a)) (sym e) (plain_self a.first a.rest)

  -- what the first token says makes the texts alike
  pub like_text : (at place p q count : ℕ) {w v : List Part} {extents : List Extent} → LikeValues p w v extents
      → Says written p (text_said source at place w extents count) → p + count ≡ q
      → LikeParts (parts_between source at place w) (parts_between written p q v)
  like_text at place p q count none said e =
      same_plain (texts source (stretch_between source at place)) (parts_between written p q [])
      (ap (λ (x : ℕ). parts_between written p x []) (sym e) ∙ said)
  like_text at place p q count {w} {v} {extents} (inserted {i} {j} x y l more) said e =
      alike.mixed (same_around (inserted {i = i} {j = j} x y l more) (stretch_between source at place) (stretch_between written p q)
      (ap (around written (stretch_between written p q)) (placed (inserted {i = i} {j = j} x y l more))
      ∙ ap (λ (z : ℕ). around written (stretch_between written p z) (shifted p extents)) (sym e) ∙ said))
  like_text at place p q count {w} {v} {extents} (stands {i} {j} x y l more) said e =
      alike.mixed (same_around (stands {i = i} {j = j} x y l more) (stretch_between source at place) (stretch_between written p q)
      (ap (around written (stretch_between written p q)) (placed (stands {i = i} {j = j} x y l more))
      ∙ ap (λ (z : ℕ). around written (stretch_between written p z) (shifted p extents)) (sym e) ∙ said))

-- how many tokens stand between two places
pub tokens_long : (source : Source) (tokens : List Tok) (at to : ℕ) → Stands source at tokens to → to ≡ at + length tokens
tokens_long source [] at to e = omega (arith, e)
tokens_long source (token ∷ tokens) at to s = let more = tokens_long source tokens (suc at) to s.1 in omega (arith, more)
