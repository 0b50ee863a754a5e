-- How pieces of raw text follow one another in a line.
use Rattle.std.proofs.Common.{◌≡◌, ℕ, ◌+◌, ◌<◌, List, ◌∷◌, ◌++◌, map, drop, length, get_or, [], append-nil, ap}
use Rattle.sw_convert_alike.specs.RawText.{Open, Nothing, in_line}
use Rattle.sw_convert_written.specs.Pieces.{Written, Said}
use Rattle.sw_convert_written.proofs.Joins.{next}
use Rattle.sw_convert_lines.specs.RawTexts.{piece_in, behind_piece, is_said, seam_before, pieces_in, selector_pieces}

pub pieces_next : {A : Type 0} (within : Open) (f : A → Written) (xs : List A) (i : ℕ) (x : A) → i < length xs → x ≡ get_or xs i x
    → pieces_in within (map f (drop i xs))
    ≡ piece_in within (f x) ++ (seam_before (is_said (f x)) (map f (drop (i + 1) xs)) ++ pieces_in (behind_piece within (f x)) (map f (drop (i + 1) xs)))
pieces_next {A} within f xs i x lt is = ap (λ (ys : List A). pieces_in within (map f ys)) (next xs i x lt is)

pub text_alone : (within : Open) (text : List ℕ) → pieces_in within (Said text ∷ []) ≡ in_line within text
text_alone within text = append-nil (in_line within text)

pub selector_alone : (text : List ℕ) → selector_pieces (Said text ∷ []) ≡ in_line Nothing text
selector_alone text = append-nil (in_line Nothing text)
