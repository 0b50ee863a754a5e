-- Pieces of a text, the last one first.
use Rattle.std.proofs.Common.{◌≡◌, ℕ, suc, ◌+◌, ◌-◌, ◌<◌, Bool, true, false, List, [], ◌∷◌, ◌++◌, map, reverse, refl, sym, ◌∙◌, ap, arith, append_assoc}
use Rattle.std.proofs.lemmas.List.{append-nil, reverse-append}
use Rattle.sw_tree.specs.declared.expr.Expr.{Expr}
use Rattle.sw_tree.specs.declared.text.Piece.{Piece}
use Rattle.sw_tree.specs.declared.text.Piece.TheVariants as pieces
use Rattle.sw_parse_table.specs.declared.source.Source.{Source}
use Rattle.sw_parse_table.specs.declared.gap.Stretch.{Stretch}
use Rattle.sw_parse_table.specs.Parts.{Part, Inserts, Stands}
use Rattle.sw_parse_table.specs.Sources.{texts, up_to, behind, text_piece, text_pieces, pieces_in, pieces_from}
use Rattle.sw_parse_table.specs.Lined.{line_part, lines_from, lines, lined_pieces}
use Rattle.sw_parse_expr_nodes.specs.declared.build.Inserted.{Inserted}
use Rattle.sw_parse_expr_nodes.specs.Views.{insert_of, inserted_piece}

pub reverse_more : {A : Type 0} (xs : List A) (x : A) → reverse (xs ++ x ∷ []) ≡ x ∷ reverse xs
reverse_more xs x = reverse-append xs (x ∷ [])

-- the pieces of one more text
pub pieces_in_more : (xs : List (List ℕ)) (x : List ℕ) → pieces_in (xs ++ x ∷ []) ≡ pieces_in xs ++ text_piece x
pieces_in_more [] x = append-nil (text_piece x)
pieces_in_more (y ∷ ys) x =
    ap (λ (z : List Piece). text_piece y ++ z) (pieces_in_more ys x)
    ∙ sym (append_assoc (text_piece y) (pieces_in ys) (text_piece x))

module _ (source : Source) where
  abbrev part : Bool → ℕ → ℕ → Expr → Part
  part b i j value = elim b as (λ _. Part) [ true ↦ Stands i j value | false ↦ Inserts i j value ]

  abbrev piece : Bool → Expr → Piece
  piece b value = elim b as (λ _. Piece) [ true ↦ pieces.Value value | false ↦ pieces.Inserted value ]

  one_more : (b : Bool) (stretch : Stretch) (i j : ℕ) (value : Expr) (rest : List Part)
      → pieces_from source stretch (part b i j value ∷ rest)
      ≡ text_pieces (texts source (up_to source stretch i)) ++ piece b value ∷ pieces_from source (behind source stretch
      j) rest
  one_more true stretch i j value rest = refl
  one_more false stretch i j value rest = refl

  -- the last value, with the text behind it
  abbrev pub tail : Stretch → Inserted → List Piece
  tail stretch x = inserted_piece x ∷ text_pieces (texts source (behind source stretch x.to))

  pub pieces_more : (xs : List Inserted) (x : Inserted) (stretch : Stretch)
      → pieces_from source stretch (map insert_of (xs ++ x ∷ [])) ≡ pieces_from source (up_to source stretch x.from)
      (map insert_of xs) ++ tail stretch x
  pieces_more [] x stretch = one_more x.stands stretch x.from x.to x.value []
  pieces_more (y ∷ ys) x stretch =
      let start = text_pieces (texts source (up_to source stretch y.from)) in
      one_more y.stands stretch y.from y.to y.value (map insert_of (ys ++ x ∷ []))
      ∙ ap (λ (z : List Piece). start ++ inserted_piece y ∷ z) (pieces_more ys x (behind source stretch y.to))
      ∙ sym (append_assoc start (inserted_piece y ∷ pieces_from source (up_to source (behind source stretch y.to)
      x.from) (map insert_of ys)) (tail stretch x))
      ∙ ap (λ (z : List Piece). z ++ tail stretch x) (sym (one_more y.stands (up_to source stretch x.from) y.from y.to
      y.value (map insert_of ys)))

  lined_more : (b : Bool) (at from to i j : ℕ) (value : Expr) (rest : List Part)
      → lined_pieces source at from to (part b i j value ∷ rest)
      ≡ text_piece (lines source at from i) ++ piece b value ∷ lined_pieces source at j to rest
  lined_more true at from to i j value rest = refl
  lined_more false at from to i j value rest = refl

  -- the last value in a comment's text, with the text behind it
  abbrev pub lined_tail : ℕ → ℕ → Inserted → List Piece
  lined_tail at to x = inserted_piece x ∷ text_piece (lines source at x.to to)

  pub lined_pieces_more : (xs : List Inserted) (x : Inserted) (at from to : ℕ)
      → lined_pieces source at from to (map insert_of (xs ++ x ∷ []))
      ≡ lined_pieces source at from x.from (map insert_of xs) ++ lined_tail at to x
  lined_pieces_more [] x at from to = lined_more x.stands at from to x.from x.to x.value []
  lined_pieces_more (y ∷ ys) x at from to =
      let start = text_piece (lines source at from y.from) in
      lined_more y.stands at from to y.from y.to y.value (map insert_of (ys ++ x ∷ []))
      ∙ ap (λ (z : List Piece). start ++ inserted_piece y ∷ z) (lined_pieces_more ys x at y.to to)
      ∙ sym (append_assoc start (inserted_piece y ∷ lined_pieces source at y.to x.from (map insert_of ys)) (lined_tail
      at to x))
      ∙ ap (λ (z : List Piece). z ++ lined_tail at to x) (sym (lined_more y.stands at from x.from y.from y.to y.value
      (map insert_of ys)))

  less_one : (i n : ℕ) → i < n → n - i ≡ suc (n - (i + 1))
  less_one i n l = omega arith

  -- one more token of a comment
  pub lines_more : (text whole : List ℕ) (at from to : ℕ) → from < to
      → text ++ lines_from source at from (to - from) ≡ whole
      → (text ++ line_part source at from) ++ lines_from source at (from + 1) (to - (from + 1)) ≡ whole
  lines_more text whole at from to l e =
      append_assoc text (line_part source at from) (lines_from source at (from + 1) (to - (from + 1)))
      ∙ ap (λ (n : ℕ). text ++ lines_from source at from n) (sym (less_one from to l)) ∙ e
