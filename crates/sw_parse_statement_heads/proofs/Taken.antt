-- Parameters that are taken in from the last one to the first.
use Rattle.std.proofs.Common.{◌≡◌, ℕ, List, [], ◌∷◌, ◌++◌, map, reverse, Option, None, refl, sym, ◌∙◌, ap, append_assoc}
use Rattle.std.proofs.lemmas.List.{reverse-append}
use Rattle.sw_tree.specs.declared.callable.Param.{Param}
use Rattle.sw_parse_table.specs.Parts.{params_of, rest_of}
use Rattle.sw_parse_statement_heads.specs.declared.param.Parameter.{Parameter}
use Rattle.sw_parse_statement_heads.specs.declared.param.Parameter.TheVariants as parameters
use Rattle.sw_parse_statement_heads.specs.CallableRows.{parameter_part, taken, rest_else}

params_more : (xs : List Parameter) (x : Parameter)
    → params_of (map parameter_part (xs ++ x ∷ [])) ≡ params_of (map parameter_part xs) ++ taken x
params_more [] (parameters.Taken param) = refl
params_more [] (parameters.Rest name) = refl
params_more (parameters.Taken param ∷ xs) x = ap (λ (ys : List Param). param ∷ ys) (params_more xs x)
params_more (parameters.Rest name ∷ xs) x = params_more xs x

alone : (x : Parameter) → reverse (taken x) ≡ taken x
alone (parameters.Taken param) = refl
alone (parameters.Rest name) = refl

rest_more : (other : Option (List ℕ)) (xs : List Parameter) (x : Parameter)
    → rest_else other (xs ++ x ∷ []) ≡ rest_else (rest_else other (x ∷ [])) xs
rest_more other [] x = refl
rest_more other (parameters.Taken param ∷ xs) x = rest_more other xs x
rest_more other (parameters.Rest name ∷ xs) x = refl

pub rest_is : (xs : List Parameter) → rest_else None xs ≡ rest_of (map parameter_part xs)
rest_is [] = refl
rest_is (parameters.Taken param ∷ xs) = rest_is xs
rest_is (parameters.Rest name ∷ xs) = refl

module _ (old left : List Parameter) (last : Parameter) (split : old ≡ left ++ last ∷ []) where
  -- the parameters before the last one, and those from it on
  pub items_step : (items more all : List Param) → more ≡ items ++ taken last
      → params_of (map parameter_part old) ++ reverse items ≡ all
      → params_of (map parameter_part left) ++ reverse more ≡ all
  items_step items more all grown whole =
      let front = params_of (map parameter_part left) in
      ap (λ (ys : List Param). front ++ reverse ys) grown
      ∙ ap (λ (ys : List Param). front ++ ys) (reverse-append items (taken last))
      ∙ ap (λ (ys : List Param). front ++ (ys ++ reverse items)) (alone last)
      ∙ sym (append_assoc front (taken last) (reverse items))
      ∙ ap (λ (ys : List Param). ys ++ reverse items) (sym (params_more left last))
      ∙ ap (λ (ys : List Parameter). params_of (map parameter_part ys) ++ reverse items) (sym split)
      ∙ whole

  pub rest_step : (rest next all : Option (List ℕ)) → next ≡ rest_else rest (last ∷ []) → rest_else rest old ≡ all
      → rest_else next left ≡ all
  rest_step rest next all said whole =
      ap (λ (other : Option (List ℕ)). rest_else other left) said
      ∙ sym (rest_more rest left last)
      ∙ ap (λ (ys : List Parameter). rest_else rest ys) (sym split)
      ∙ whole
