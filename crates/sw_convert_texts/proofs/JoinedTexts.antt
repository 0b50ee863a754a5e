-- The texts of tokens without comments between them, and what is written of them and of the values in `#{}`.
use Rattle.std.proofs.Common.{◌≡◌, ◌≤◌, ◌<◌, ℕ, zero, suc, ◌+◌, ◌-◌, false, List, [], ◌∷◌, ◌++◌, map, length, take, drop, refl, sym, ◌∙◌, ap, arith, append_assoc, append-nil, take-add, drop-drop, length-take, min}
use Rattle.std.specs.Prelude.{slice_range, codes}
use Rattle.sw_text_scan.proofs.Bounds.{if_false}
use Rattle.sw_tree.specs.declared.expr.Expr.{Expr}
use Rattle.sw_tree.specs.declared.text.Parts.TheVariants as parts
use Rattle.sw_tree.specs.declared.text.Piece.{Piece}
use Rattle.sw_tree.specs.declared.text.Piece.TheVariants as pieces
use Rattle.sw_parse_table.specs.declared.source.Source.{Source}
use Rattle.sw_parse_table.specs.Sources.{Texts, bytes, is_commented, text_pieces, plain_parts, texts_from}
use Rattle.sw_convert_written.specs.declared.manner.Manner.TheVariants as manners
use Rattle.sw_convert_written.specs.Pieces.{Written, piece_text, pieces_text}
use Rattle.sw_convert_written.specs.Expressions.{piece_written, expr_text}
use Rattle.sw_convert_written.proofs.Unrolled as unrolled
use Rattle.sw_convert_texts.specs.Names.{joined}

-- ---- a text in two

pub slice_more : (bs : List ℕ) (i k j : ℕ) → i ≤ k → k ≤ j → slice_range bs i j ≡ slice_range bs i k ++ slice_range bs k j
slice_more bs i k j low high =
    ap (λ (n : ℕ). take n (drop i bs)) (let e : j - i ≡ (k - i) + (j - k) = omega (arith, low, high) in e)
    ∙ take-add (k - i) (j - k) (drop i bs)
    ∙ ap (λ (xs : List ℕ). take (k - i) (drop i bs) ++ take (j - k) xs) (drop-drop (k - i) i bs)
    ∙ ap (λ (n : ℕ). take (k - i) (drop i bs) ++ take (j - k) (drop n bs)) (let e : i + (k - i) ≡ k = omega (arith, low) in e)

pub slice_none : (bs : List ℕ) (i : ℕ) → slice_range bs i i ≡ []
slice_none bs i = ap (λ (n : ℕ). take n (drop i bs)) (let e : i - i ≡ 0 = omega arith in e)

-- what isn't empty ends behind its begin
pub slice_some : (bs : List ℕ) (i j : ℕ) → 0 < length (slice_range bs i j) → i < j
slice_some bs i j some =
    let long : length (take (j - i) (drop i bs)) ≡ min (j - i) (length (drop i bs)) = length-take (j - i) (drop i bs) in
    let least : min (j - i) (length (drop i bs)) ≤ j - i = min_left (j - i) (length (drop i bs)) in
    omega (arith, some, long, least)
  where
    min_left : (a b : ℕ) → min a b ≤ a
    min_left a b = omega arith

-- ---- texts without comments

abbrev pub lone : List ℕ → Texts
lone text = record { first = text; rest = [] }

module _ (source : Source) where
  -- no comment stands directly before so many tokens behind a place
  abbrev pub Flat : ℕ → ℕ → Type 0
  Flat at zero = Unit {0}
  Flat at (suc n) = (is_commented source (at + 1) ≡ false) × Flat (at + 1) n

  pub flat_text : (to from at n : ℕ) → Flat at n → texts_from source to from at n ≡ lone (slice_range (bytes source) from to)
  flat_text to from at zero f = refl
  flat_text to from at (suc n) (c, f) =
      if_false (is_commented source (at + 1)) _ _ c
      ∙ ap (λ (k : ℕ). texts_from source to k (at + 1) n) (if_false (is_commented source (at + 1)) _ _ c)
      ∙ flat_text to from (at + 1) n f

  pub flat_more : (at n place : ℕ) → Flat at n → place ≡ suc (at + n) → is_commented source place ≡ false → Flat at (suc n)
  flat_more at zero place f e c =
      (ap (is_commented source) (let p : at + 1 ≡ place = omega (arith, e) in p) ∙ c, tt)
  flat_more at (suc n) place (d, f) e c = (d, flat_more (at + 1) n place f (omega (arith, e)) c)

-- ---- pieces

abbrev pub joined_pieces : List Piece → List ℕ
joined_pieces list = pieces_text manners.Joined (map piece_written list)

written_more : (piece : Written) (others : List Written)
    → pieces_text manners.Joined (piece ∷ others) ≡ piece_text manners.Joined piece ++ pieces_text manners.Joined others
written_more piece [] = sym (append-nil (piece_text manners.Joined piece))
written_more piece (next ∷ others) = refl

said_more : (text : List ℕ) (others : List Piece) → joined_pieces (pieces.Text text ∷ others) ≡ text ++ joined_pieces others
said_more text others =
    written_more (piece_written (pieces.Text text)) (map piece_written others)
    ∙ ap (λ (piece : Written). piece_text manners.Joined piece ++ joined_pieces others) (unrolled.said_is text)

pub value_more : (value : Expr) (others : List Piece)
    → joined_pieces (pieces.Inserted value ∷ others) ≡ codes "#{" ++ (expr_text value ++ (codes "}" ++ joined_pieces others))
value_more value others =
    written_more (piece_written (pieces.Inserted value)) (map piece_written others)
    ∙ ap (λ (piece : Written). piece_text manners.Joined piece ++ joined_pieces others) (unrolled.inserted_is value)
    ∙ ap (λ (text : List ℕ). codes "#{" ++ text) (append_assoc (expr_text value) (codes "}") (joined_pieces others))

pub text_more : (text : List ℕ) (others : List Piece) → joined_pieces (text_pieces (lone text) ++ others) ≡ text ++ joined_pieces others
text_more [] others = refl
text_more (b ∷ text) others = said_more (b ∷ text) others

pub text_last : (text : List ℕ) → joined_pieces (text_pieces (lone text)) ≡ text
text_last [] = refl
text_last (b ∷ text) = said_more (b ∷ text) [] ∙ append-nil (b ∷ text)

pub plain_text : (text : List ℕ) → joined (plain_parts (lone text)) ≡ text
plain_text text = ap (pieces_text manners.Joined) (unrolled.plain_is text)

pub mixed_text : (list : List Piece) → joined (parts.Mixed list) ≡ joined_pieces list
mixed_text list = ap (pieces_text manners.Joined) (unrolled.mixed_is list)
