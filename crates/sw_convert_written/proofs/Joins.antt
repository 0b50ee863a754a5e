-- How texts join, one after another.
use Rattle.std.proofs.Common.{◌≡◌, ℕ, ◌+◌, ◌<◌, ◌≤◌, List, [], ◌∷◌, ◌++◌, map, drop, length, get_or, refl, sym, ◌∙◌, ap, arith}
use Rattle.std.proofs.Math.Seq.{drop-append_seam}
use Rattle.std.proofs.lemmas.List.{append_assoc, drop_more, drop_all}
use Rattle.sw_convert_written.specs.declared.manner.Manner.{Manner}
use Rattle.sw_convert_written.specs.Pieces.{Written, piece_text, between, pieces_text}

-- the rest of a list from a place on
pub next : {A : Type 0} (xs : List A) (i : ℕ) (x : A) → i < length xs → x ≡ get_or xs i x → drop i xs ≡ x ∷ drop (i + 1) xs
next {A} xs i x lt is = drop_more xs i x lt ∙ ap (λ (y : A). y ∷ drop (i + 1) xs) (sym is)

-- what was written behind a text
pub behind_written : (n : ℕ) (xs ys : List ℕ) → n ≡ length xs → drop n (xs ++ ys) ≡ ys
behind_written n xs ys is = ap (λ (m : ℕ). drop m (xs ++ ys)) is ∙ drop-append_seam xs ys

-- what is written, call by call
pub ruleset appends = (append_assoc, behind_written)

pub pieces_last : {A : Type 0} (manner : Manner) (f : A → Written) (xs : List A) (i : ℕ) (x : A) → i < length xs → x ≡ get_or xs i x
    → length xs ≤ i + 1 → pieces_text manner (map f (drop i xs)) ≡ piece_text manner (f x)
pieces_last {A} manner f xs i x lt is last =
    ap (λ (ys : List A). pieces_text manner (map f ys)) (next xs i x lt is ∙ ap (λ (ys : List A). x ∷ ys) (drop_all (i + 1) xs last))

pub pieces_more : {A : Type 0} (manner : Manner) (f : A → Written) (xs : List A) (i : ℕ) (x y : A) → i < length xs → x ≡ get_or xs i x
    → i + 1 < length xs → y ≡ get_or xs (i + 1) y
    → pieces_text manner (map f (drop i xs)) ≡ piece_text manner (f x) ++ (between manner (f x) (f y) ++ pieces_text manner (map f (drop (i + 1) xs)))
pieces_more {A} manner f xs i x y lt is more is' =
    ap (λ (ys : List A). pieces_text manner (map f ys)) (next xs i x lt is ∙ ap (λ (ys : List A). x ∷ ys) two)
    ∙ ap (λ (ys : List A). piece_text manner (f x) ++ (between manner (f x) (f y) ++ pieces_text manner (map f ys))) (sym two)
  where
    two : drop (i + 1) xs ≡ y ∷ drop ((i + 1) + 1) xs
    two = next xs (i + 1) y more is'
