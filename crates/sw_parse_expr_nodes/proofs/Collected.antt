-- What parts of one kind hold.
use Rattle.std.proofs.Common.{◌≡◌, List, [], ◌∷◌, ◌++◌, map, refl, ap}
use Rattle.sw_tree.specs.declared.expr.Expr.{Expr}
use Rattle.sw_tree.specs.declared.expr.Sign.{Sign}
use Rattle.sw_tree.specs.declared.expr.Link.{Link}
use Rattle.sw_tree.specs.declared.expr.Pair.{Pair}
use Rattle.sw_tree.specs.declared.expr.Argument.{Argument}
use Rattle.sw_parse_table.specs.Parts.{Values, Signs, Links, Pairs, Argues, values_of, signs_of, links_of, pairs_of, arguments_of}

pub values_of_values : (xs : List Expr) → values_of (map Values xs) ≡ xs
values_of_values [] = refl
values_of_values (x ∷ xs) = ap (λ (y : List Expr). x ∷ y) (values_of_values xs)

pub links_of_links : (xs : List Link) → links_of (map Links xs) ≡ xs
links_of_links [] = refl
links_of_links (x ∷ xs) = ap (λ (y : List Link). x ∷ y) (links_of_links xs)

pub values_of_links : (xs : List Link) → values_of (map Links xs) ≡ []
values_of_links [] = refl
values_of_links (x ∷ xs) = values_of_links xs

pub signs_before : (xs : List Sign) (e : Expr) → signs_of (map Signs xs ++ Values e ∷ []) ≡ xs
signs_before [] e = refl
signs_before (x ∷ xs) e = ap (λ (y : List Sign). x ∷ y) (signs_before xs e)

pub value_behind : (xs : List Sign) (e : Expr) → values_of (map Signs xs ++ Values e ∷ []) ≡ e ∷ []
value_behind [] e = refl
value_behind (x ∷ xs) e = value_behind xs e

pub pairs_of_pairs : (xs : List Pair) → pairs_of (map Pairs xs) ≡ xs
pairs_of_pairs [] = refl
pairs_of_pairs (x ∷ xs) = ap (λ (y : List Pair). x ∷ y) (pairs_of_pairs xs)

pub arguments_of_arguments : (xs : List Argument) → arguments_of (map Argues xs) ≡ xs
arguments_of_arguments [] = refl
arguments_of_arguments (x ∷ xs) = ap (λ (y : List Argument). x ∷ y) (arguments_of_arguments xs)

pub ruleset collected =
    (values_of_values, links_of_links, values_of_links, signs_before, value_behind, pairs_of_pairs, arguments_of_arguments)
