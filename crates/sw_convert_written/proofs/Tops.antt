-- How the statements of the top level follow one another, and indents.
use Rattle.std.proofs.Common.{◌≡◌, ℕ, zero, suc, ◌+◌, ◌<◌, ◌≤◌, List, ◌∷◌, ◌++◌, map, drop, length, get_or, refl, sym, ◌∙◌, ap, arith}
use Rattle.std.specs.Prelude.{codes}
use Rattle.std.proofs.lemmas.List.{drop_all}
use Rattle.sw_convert_written.proofs.Joins.{next}
use Rattle.sw_convert_written.specs.Statements.{ShownStatement, indent, blank, top_text}

indent-suc : (level : ℕ) → indent (suc level) ≡ indent level ++ codes "  "
indent-suc zero = refl
indent-suc (suc level) = ap (λ (l : List ℕ). codes "  " ++ l) (indent-suc level)

pub indent_more : (level : ℕ) → indent (level + 1) ≡ indent level ++ codes "  "
indent_more level = let e : level + 1 ≡ suc level = omega arith in rw e (indent-suc level)

pub top_last : {A : Type 0} (f : A → ShownStatement) (xs : List A) (i : ℕ) (x : A) → i < length xs → x ≡ get_or xs i x
    → length xs ≤ i + 1 → top_text (map f (drop i xs)) ≡ (f x).text 0
top_last {A} f xs i x lt is last =
    ap (λ (ys : List A). top_text (map f ys)) (next xs i x lt is ∙ ap (λ (ys : List A). x ∷ ys) (drop_all (i + 1) xs last))

pub top_more : {A : Type 0} (f : A → ShownStatement) (xs : List A) (i : ℕ) (x y : A) → i < length xs → x ≡ get_or xs i x
    → i + 1 < length xs → y ≡ get_or xs (i + 1) y
    → top_text (map f (drop i xs)) ≡ (f x).text 0 ++ (blank (f x) (f y) ++ top_text (map f (drop (i + 1) xs)))
top_more {A} f xs i x y lt is more is' =
    ap (λ (ys : List A). top_text (map f ys)) (next xs i x lt is ∙ ap (λ (ys : List A). x ∷ ys) two)
    ∙ ap (λ (ys : List A). (f x).text 0 ++ (blank (f x) (f y) ++ top_text (map f ys))) (sym two)
  where
    two : drop (i + 1) xs ≡ y ∷ drop ((i + 1) + 1) xs
    two = next xs (i + 1) y more is'
